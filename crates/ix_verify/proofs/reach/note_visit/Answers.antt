use Rattle.std.proofs.Common.{List, true, false, refl, sym, ◌∙◌, subst, arith}
use Rattle.ix_car.specs.declared.archive.Skip.{Skip}
use Rattle.ix_verify.specs.Outcome.{link_finding}
use Rattle.ix_verify.specs.Noting.{NotesMore}
use Rattle.ix_verify.specs.Walked.{lack_of}
use Rattle.ix_verify.proofs.Notes.{none-more}
use Rattle.ix_verify.proofs.Walking.{passing-absent, lacking-skip, counts-absent, other-skip}
use Rattle.ix_verify.proofs.reach.note_visit.Goals as goal

pub returns-then-passes-clause-counted : goal.returns-then-passes-clause-counted
returns-then-passes-clause-counted c =
    omega (arith, passing-absent (lack_of c.args.watch) c.args.watch.store.now c.args.visit c.in_ok-verdict.verdict c.in_ok-verdict.ensures (sym c.passes.ensures ∙ c.if-passes.true))

pub returns-then-lacks-clause-noted : goal.returns-then-lacks-clause-noted
returns-then-lacks-clause-noted c =
    subst (λ (l : List Skip). NotesMore link_finding c.args.watch.most l c.args.skips.now c.args.skips.now)
    (sym (lacking-skip (lack_of c.args.watch) c.args.watch.store.now c.args.visit c.in_ok-verdict.verdict c.in_ok-verdict.ensures (sym c.lacks.ensures ∙ c.if-lacks.true)))
    (none-more link_finding c.args.watch.most c.args.skips.now)

pub returns-then-lacks-clause-counted : goal.returns-then-lacks-clause-counted
returns-then-lacks-clause-counted c =
    omega (arith, counts-absent (lack_of c.args.watch) c.args.watch.store.now c.args.visit c.in_ok-verdict.verdict c.in_ok-verdict.ensures true (sym c.lacks.ensures ∙ c.if-lacks.true))

pub returns-clause-noted : goal.returns-clause-noted
returns-clause-noted c =
    subst (λ (l : List Skip). NotesMore link_finding c.args.watch.most l c.args.skips.now c.note.new.self)
    (other-skip (lack_of c.args.watch) c.args.watch.store.now c.args.visit c.in_ok-verdict.verdict c.in_ok-verdict.ensures (sym c.passes.ensures ∙ c.if-passes.false) (sym c.lacks.ensures ∙ c.if-lacks.false))
    (c.in_ok-note.ensures link_finding refl)

pub returns-clause-counted : goal.returns-clause-counted
returns-clause-counted c =
    omega (arith, counts-absent (lack_of c.args.watch) c.args.watch.store.now c.args.visit c.in_ok-verdict.verdict c.in_ok-verdict.ensures false (sym c.lacks.ensures ∙ c.if-lacks.false))
