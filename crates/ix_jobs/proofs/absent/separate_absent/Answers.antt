use Rattle.std.proofs.Common.{◌≡◌, ◌⊎◌, [], length, sym, ◌∙◌, ap, inl, inr, arith}
use Rattle.std.specs.Slice.Iter.{iter_rest}
use Rattle.std.specs.Vec.Iter.{into_iter_items}
use Rattle.std.proofs.lemmas.List.{nil_from_length}
use Rattle.ix_jobs.proofs.AbsentSkips.{one_more, all_taken}
use Rattle.ix_jobs.proofs.absent.separate_absent.Goals as goal

pub loop-job-preserved : goal.loop-job-preserved
loop-job-preserved c =
    let was = c.loop-job.invariant in
    let steps = c.in-Some.ensures.steps in
    let told = c.without_absent-outcome in record {
      can_next = (tt, tt);
      finite = tt;
      sized = let fewer = ap length steps.1.0 in let size = was.sized in omega (arith, steps.1.1);
      told = one_more c.args.which c.args.jobs.now c.args.results.items _ _ _ _ _ _ _ _ c.in-Some.job.now c.in-Some.outcome told.result.0 told.result.1 steps.0 steps.1.0 c.in_ok-push.ensures.items c.in_ok-push-2.ensures.items told.ensures.left told.ensures.count was.told;
    }

pub returns : goal.returns
returns c =
    let was = c.loop-job.invariant in
    let left = iter_rest c.loop-job.job-iterator.a in
    let rest = into_iter_items c.loop-job.job-iterator.b in
    let over : (left ≡ []) ⊎ (rest ≡ []) = elim c.in-None.ensures.steps as (λ _. (left ≡ []) ⊎ (rest ≡ [])) [ inl h ↦ inl (nil_from_length left h.1.0) | inr h ↦ inr (nil_from_length rest (sym was.sized ∙ h.1.0)) ] in
    all_taken c.args.which c.args.jobs.now c.args.results.items left rest _ _ over was.told
