use Rattle.std.proofs.Common.{◌≡◌, [], ◌∷◌, ◌++◌, Some, true, false, refl, sym, ap, subst, ◌∙◌, List}
use Rattle.std.specs.List.{slice_get}
use Rattle.ix_walk.specs.JobMeaning.{JobMeaning}
use Rattle.ix_jobs.specs.Named.{HasNames}
use Rattle.ix_jobs.specs.Jobs.{is_taken}
use Rattle.ix_jobs.proofs.Named.{taken-by_name, names-push}
use Rattle.ix_job_errors.proofs.Turns.{behind-taken, behind-free}
use Rattle.ix_job_errors.proofs.faults.fault_after.Goals as goal

pub returns-then-contains : goal.returns-then-contains
returns-then-contains c = λ before named.
    let first : Some c.in-Some.job.now ≡ slice_get c.in-Ok.jobs.items 0 = c.in-Some.ensures.value ∙ ap (λ (l : List JobMeaning). slice_get l 0) c.deref.ensures.value in
    let taken : is_taken before c.in-Some.job.now.name ≡ true =
    ap (is_taken before) (sym c.name.ensures) ∙ sym (taken-by_name c.args.names.now before before c.name.result.now c.contains.result named refl c.contains.ensures) ∙ c.if-contains.true in
    let behind = behind-taken c.args.greatest before c.in-Ok.jobs.items c.args.line.now c.in-Some.job.now c.in-Ok.ensures.jobs first taken in
    record { is = behind.0; named = subst (λ (l : List JobMeaning). HasNames c.args.names.now l) behind.1 named }

pub returns : goal.returns
returns c = λ before named.
    let first : Some c.in-Some.job.now ≡ slice_get c.in-Ok.jobs.items 0 = c.in-Some.ensures.value ∙ ap (λ (l : List JobMeaning). slice_get l 0) c.deref.ensures.value in
    let free : is_taken before c.in-Some.job.now.name ≡ false =
    ap (is_taken before) (sym c.name.ensures) ∙ sym (taken-by_name c.args.names.now before before c.name.result.now c.contains.result named refl c.contains.ensures) ∙ c.if-contains.false in
    let behind = behind-free c.args.greatest before c.in-Ok.jobs.items c.args.line.now c.in-Some.job.now c.in-Ok.ensures.jobs first free in
    let more : HasNames c.insert.new.self (before ++ c.in-Some.job.now ∷ []) =
    names-push c.args.names.now c.insert.new.self before (before ++ c.in-Some.job.now ∷ []) c.in-Some.job.now c.in_ok-name.name named (c.in_ok-name.ensures.ok ∙ c.name-2.ensures) c.in_ok-insert.ensures.updates refl in
    record { is = behind.0; named = subst (λ (l : List JobMeaning). HasNames c.insert.new.self l) behind.1 more }
