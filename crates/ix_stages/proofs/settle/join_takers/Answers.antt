use Rattle.std.proofs.Common.{rules, ◌≡◌, ◌∷◌, [], ◌++◌, ap, sym, ◌∙◌, append_assoc}
use Rattle.std.proofs.lemmas.List.Elements.{All-push}
use Rattle.ix_stages.proofs.Joins.{merges}
use Rattle.ix_stages.proofs.Settling.{absorbs_more, settled_live}
use Rattle.ix_stages.proofs.settle.join_takers.Goals as goal

pub absorb-requires-clause-rule : goal.absorb-requires-clause-rule
absorb-requires-clause-rule c =
    let live = settled_live _ _ _ c.loop-seat.invariant.0.1 c.requires.pass.1 c.requires.pass.2 in
    let seat = c.seat.invariant.1 in
    merges _ _ _ _ live.0 live.1 (record { live = seat.alone.live; lists = seat.alone.lists })

pub loop-seat-preserved : goal.loop-seat-preserved
loop-seat-preserved c = (
  absorbs_more (λ s. s.pass) c.args.pass.now c.loop-seat.pass c.absorb.new.pass c.loop-seat.yielded c.in-Some.seat (search rules) c.loop-seat.invariant.0 (c.absorb.ensures.queue, search rules),
  c.loop-seat.invariant.1 ∙ (ap (λ l. c.loop-seat.yielded ++ l) c.in-Some.ensures.steps.0 ∙ sym (append_assoc c.loop-seat.yielded (c.in-Some.seat ∷ []) _)),
  All-push (λ s. s.pass.put ≡ []) _ _ c.loop-seat.invariant.2 (search rules),
)
