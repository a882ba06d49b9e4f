use Rattle.std.proofs.Common.{true, false, rules, ◌∙◌}
use Rattle.ix_verify.specs.Outcome.{link_finding}
use Rattle.ix_verify.specs.Walked.{lack_of}
use Rattle.ix_verify.proofs.Walking.{walk-starts, next-visit, walk-on, walk-through, gives-visit, gives-limit}
use Rattle.ix_verify.proofs.reach.walk_job.Goals as goal

pub loop-item-init : goal.loop-item-init
loop-item-init g c =
    walk-starts (lack_of c.args.watch) c.args.watch.store.now c.args.job.now c.args.watch.most c.new-skips.result c.into_iter-item-iterator.result
    (c.into_iter-item-iterator.ensures.into_iter_gives ∙ c.in_ok-item-items.ensures) (c.new-skips.ensures link_finding c.args.watch.most).count

pub note_visit-requires-clause-visit : goal.note_visit-requires-clause-visit
note_visit-requires-clause-visit g c =
    (next-visit (lack_of c.args.watch) c.args.watch.store.now c.args.job.now c.args.watch.most c.new-skips.result c.loop-item.item-iterator c.next.new.self c.loop-item.skips c.loop-item.absent c.in-Ok.visit c.loop-item.invariant
    (gives-visit c.loop-item.item-iterator c.next.new.self c.in-Some.item c.in-Ok.visit c.in-Some.ensures.steps c.in-Ok.is)).0

pub note_visit-requires-clause-count : goal.note_visit-requires-clause-count
note_visit-requires-clause-count g c =
    (next-visit (lack_of c.args.watch) c.args.watch.store.now c.args.job.now c.args.watch.most c.new-skips.result c.loop-item.item-iterator c.next.new.self c.loop-item.skips c.loop-item.absent c.in-Ok.visit c.loop-item.invariant
    (gives-visit c.loop-item.item-iterator c.next.new.self c.in-Some.item c.in-Ok.visit c.in-Some.ensures.steps c.in-Ok.is)).1.0

pub note_visit-requires-clause-lacking : goal.note_visit-requires-clause-lacking
note_visit-requires-clause-lacking g c =
    (next-visit (lack_of c.args.watch) c.args.watch.store.now c.args.job.now c.args.watch.most c.new-skips.result c.loop-item.item-iterator c.next.new.self c.loop-item.skips c.loop-item.absent c.in-Ok.visit c.loop-item.invariant
    (gives-visit c.loop-item.item-iterator c.next.new.self c.in-Some.item c.in-Ok.visit c.in-Some.ensures.steps c.in-Ok.is)).1.1

pub loop-item-preserved : goal.loop-item-preserved
loop-item-preserved g c =
    walk-on (lack_of c.args.watch) c.args.watch.store.now c.args.job.now c.args.watch.most c.new-skips.result c.loop-item.item-iterator c.next.new.self c.loop-item.skips c.note_visit.new.skips c.loop-item.absent c.note_visit.new.absent c.in-Ok.visit c.loop-item.invariant
    (gives-visit c.loop-item.item-iterator c.next.new.self c.in-Some.item c.in-Ok.visit c.in-Some.ensures.steps c.in-Ok.is) c.in_ok-note_visit-in-Ok.ensures.noted c.in_ok-note_visit-in-Ok.ensures.counted

pub returns-in-Err-Limit : goal.returns-in-Err-Limit
returns-in-Err-Limit g c =
    let gives = gives-limit c.loop-item.item-iterator c.next.new.self c.in-Some.item c.in-Some.ensures.steps (search rules) in
    walk-through (lack_of c.args.watch) c.args.watch.store.now c.args.job.now c.args.watch.most c.new-skips.result c.loop-item.item-iterator c.loop-item.skips c.loop-item.absent true (c.new-skips.ensures link_finding c.args.watch.most) c.loop-item.invariant gives.1 gives.2

pub returns : goal.returns
returns g c =
    walk-through (lack_of c.args.watch) c.args.watch.store.now c.args.job.now c.args.watch.most c.new-skips.result c.loop-item.item-iterator c.loop-item.skips c.loop-item.absent false (c.new-skips.ensures link_finding c.args.watch.most) c.loop-item.invariant
    c.in-None.ensures.steps.0 c.in-None.ensures.steps.1
