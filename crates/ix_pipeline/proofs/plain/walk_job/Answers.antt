use Rattle.std.proofs.Common.{rules, Ok, Err, refl, sym, ◌∙◌, ap}
use Rattle.std.proofs.lemmas.Result.{err_from_is_err_and}
use Rattle.ix_walk.specs.declared.fault.WalkStop.TheVariants as reasons
use Rattle.ix_car.specs.declared.sink.End.TheVariants.{Limit, Memory}
use Rattle.ix_stages.proofs.Puts.{given_is}
use Rattle.ix_pipeline.specs.Progress.{end_on, end_of}
use Rattle.ix_pipeline.proofs.UnderWay.{starts, can_hand, next_of_store, hands, hands_none, walked_as, limits, stops, walk-ends}
use Rattle.ix_pipeline.proofs.plain.walk_job.Goals as goal

pub loop-item-init : goal.loop-item-init
loop-item-init g c = record {
  under =
      starts c.args.store.now c.args.number c.args.job.now c.into_iter-item-iterator.result (g.C.Check.checked c.args.check.now)
      (record { calls = g.S.Sink.calls c.args.sink.now; pairs = g.C.Check.checked c.args.check.now })
      (c.into_iter-item-iterator.ensures.into_iter_gives ∙ c.in_ok-item-items.ensures) c.requires.events c.requires.failed refl;
  kept = λ about blocks meant first p. p;
}

pub hand_on-requires-clause-visit : goal.hand_on-requires-clause-visit
hand_on-requires-clause-visit g c =
    next_of_store c.args.store.now c.args.number c.args.job.now c.loop-item.item-iterator c.next.new.self c.loop-item.state (g.C.Check.checked c.args.check.now)
    (record { calls = g.S.Sink.calls c.loop-item.sink; pairs = g.C.Check.checked c.loop-item.check })
    c.in-Ok.visit c.loop-item.invariant.under (given_is c.loop-item.item-iterator c.next.new.self c.in-Some.item (Ok c.in-Ok.visit) c.in-Some.ensures.steps c.in-Ok.is)

pub hand_on-requires-clause-can : goal.hand_on-requires-clause-can
hand_on-requires-clause-can g c =
    can_hand c.args.store.now c.args.number c.args.job.now c.loop-item.item-iterator c.loop-item.state (g.C.Check.checked c.args.check.now)
    (record { calls = g.S.Sink.calls c.loop-item.sink; pairs = g.C.Check.checked c.loop-item.check })
    c.loop-item.invariant.under

pub returns-in_err-state-in-Ok-clause-walked : goal.returns-in_err-state-in-Ok-clause-walked
returns-in_err-state-in-Ok-clause-walked g c =
    let failed = err_from_is_err_and c.from_residual-in_err-state-in-Ok.result c.from_residual-in_err-state-in-Ok.ensures.1 in
    walked_as c.args.store.now c.args.number c.args.job.now (g.C.Check.checked c.args.check.now)
    (record { calls = g.S.Sink.calls c.hand_on.new.sink; pairs = g.C.Check.checked c.hand_on.new.check })
    Memory (end_of c.from_residual-in_err-state-in-Ok.result) (sym (ap end_of failed.1))
    (hands_none c.args.store.now c.args.number c.args.job.now c.loop-item.item-iterator c.next.new.self c.loop-item.state (g.C.Check.checked c.args.check.now)
    (record { calls = g.S.Sink.calls c.loop-item.sink; pairs = g.C.Check.checked c.loop-item.check })
    (record { calls = g.S.Sink.calls c.hand_on.new.sink; pairs = g.C.Check.checked c.hand_on.new.check })
    c.in-Ok.visit c.in_err-state-in-Ok.field-0.0 c.loop-item.invariant.under (given_is c.loop-item.item-iterator c.next.new.self c.in-Some.item (Ok c.in-Ok.visit) c.in-Some.ensures.steps c.in-Ok.is) c.in_err-state-in-Ok.ensures.handed)

pub returns-in_err-state-in-Ok-clause-kept : goal.returns-in_err-state-in-Ok-clause-kept
returns-in_err-state-in-Ok-clause-kept g c = λ about blocks meant first p. c.hand_on.ensures.kept about blocks meant first (c.loop-item.invariant.kept about blocks meant first p)

pub loop-item-preserved : goal.loop-item-preserved
loop-item-preserved g c = record {
  under =
      hands c.args.store.now c.args.number c.args.job.now c.loop-item.item-iterator c.next.new.self c.loop-item.state c.in_ok-state-in-Ok.state (g.C.Check.checked c.args.check.now)
      (record { calls = g.S.Sink.calls c.loop-item.sink; pairs = g.C.Check.checked c.loop-item.check })
      (record { calls = g.S.Sink.calls c.hand_on.new.sink; pairs = g.C.Check.checked c.hand_on.new.check })
      c.in-Ok.visit c.loop-item.invariant.under (given_is c.loop-item.item-iterator c.next.new.self c.in-Some.item (Ok c.in-Ok.visit) c.in-Some.ensures.steps c.in-Ok.is) c.in_ok-state-in-Ok.ensures.handed;
  kept = λ about blocks meant first p. c.hand_on.ensures.kept about blocks meant first (c.loop-item.invariant.kept about blocks meant first p);
}

pub returns-in-Err-Limit-clause-walked : goal.returns-in-Err-Limit-clause-walked
returns-in-Err-Limit-clause-walked g c =
    walked_as c.args.store.now c.args.number c.args.job.now (g.C.Check.checked c.args.check.now)
    (record { calls = g.S.Sink.calls c.loop-item.sink; pairs = g.C.Check.checked c.loop-item.check })
    (end_on c.loop-item.state Limit) c.end.result (sym c.end.ensures)
    (limits c.args.store.now c.args.number c.args.job.now c.loop-item.item-iterator c.next.new.self c.loop-item.state (g.C.Check.checked c.args.check.now)
    (record { calls = g.S.Sink.calls c.loop-item.sink; pairs = g.C.Check.checked c.loop-item.check })
    c.loop-item.invariant.under (given_is c.loop-item.item-iterator c.next.new.self c.in-Some.item (Err reasons.Limit) c.in-Some.ensures.steps (search rules)))

pub returns-in-Err-Limit-clause-kept : goal.returns-in-Err-Limit-clause-kept
returns-in-Err-Limit-clause-kept g c = c.loop-item.invariant.kept

pub returns-in-Err-Memory-clause-walked : goal.returns-in-Err-Memory-clause-walked
returns-in-Err-Memory-clause-walked g c =
    stops c.args.store.now c.args.number c.args.job.now c.loop-item.item-iterator c.loop-item.state (g.C.Check.checked c.args.check.now)
    (record { calls = g.S.Sink.calls c.loop-item.sink; pairs = g.C.Check.checked c.loop-item.check })
    c.loop-item.invariant.under

pub returns-in-Err-Memory-clause-kept : goal.returns-in-Err-Memory-clause-kept
returns-in-Err-Memory-clause-kept g c = c.loop-item.invariant.kept

pub returns-clause-walked : goal.returns-clause-walked
returns-clause-walked g c =
    walked_as c.args.store.now c.args.number c.args.job.now (g.C.Check.checked c.args.check.now)
    (record { calls = g.S.Sink.calls c.loop-item.sink; pairs = g.C.Check.checked c.loop-item.check })
    _ _ (sym c.end-2.ensures)
    (walk-ends c.args.store.now c.args.number c.args.job.now c.loop-item.item-iterator c.next.new.self c.loop-item.state (g.C.Check.checked c.args.check.now)
    (record { calls = g.S.Sink.calls c.loop-item.sink; pairs = g.C.Check.checked c.loop-item.check })
    c.loop-item.invariant.under c.in-None.ensures.steps)

pub returns-clause-kept : goal.returns-clause-kept
returns-clause-kept g c = c.loop-item.invariant.kept
