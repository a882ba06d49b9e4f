use Rattle.std.proofs.Common.{◌+◌, subst, refl, arith}
use Rattle.ix_receive.specs.Base.{store_of}
use Rattle.ix_receive.specs.declared.traversal.Traversal.{Traversal}
use Rattle.ix_receive.specs.Traversal.{as_pending, expanded_by}
use Rattle.ix_receive.specs.Passing.{IsNoted}
use Rattle.ix_receive.proofs.Passings.{few-absent, few-unread, passes, stops}
use Rattle.ix_receive.proofs.passing.pass_link.Goals as goal

pub note_visit-requires : goal.note_visit-requires
note_visit-requires c =
    let job = c.args.asked.now.job.now in
    let allowed = c.args.asked.now.allowed in
    let s = store_of c.args.sections.now in
    let t = c.args.t.now in
    let few = c.requires.few in
    let before = c.requires.before in
    let absent = few-absent t.visits job allowed s t.skips _ (expanded_by t.expanded) before.traversed before.skips in
    let unread = few-unread t.visits job allowed s t.skips _ (expanded_by t.expanded) before.traversed before.skips in
    record { sound = before.sound; absent = omega (arith, few, absent); unread = omega (arith, few, unread) }

pub returns-then-not-passes : goal.returns-then-not-passes
returns-then-not-passes c =
    let job = c.args.asked.now.job.now in
    let allowed = c.args.asked.now.allowed in
    let t = c.args.t.now in
    stops job allowed (store_of c.args.sections.now) (as_pending c.args.link) t c.requires.before
    (subst (IsNoted allowed job.roots (store_of c.args.sections.now) c.args.link.cid t.skips c.note_visit.new.skips) c.if-not-passes.true c.in_ok-passes.ensures)

pub expand_link-requires-clause-depth : goal.expand_link-requires-clause-depth
expand_link-requires-clause-depth c =
    let few = c.requires.few in
    let low = c.requires.before.traversed.deep.0 in
    omega (arith, few, low)

pub returns : goal.returns
returns c =
    let job = c.args.asked.now.job.now in
    let allowed = c.args.asked.now.allowed in
    let t : Traversal = c.args.t.now in
    let u : Traversal = record { expanded = c.expand_link.new.expanded; links = c.expand_link.new.waiting; roots = t.roots; visits = t.visits + 1; skips = c.note_visit.new.skips } in
    passes job allowed (store_of c.args.sections.now) (as_pending c.args.link) t u c.requires.before
    (subst (IsNoted allowed job.roots (store_of c.args.sections.now) c.args.link.cid t.skips c.note_visit.new.skips) c.if-not-passes.false c.in_ok-passes.ensures)
    c.in_ok-expand_link.ensures refl refl
