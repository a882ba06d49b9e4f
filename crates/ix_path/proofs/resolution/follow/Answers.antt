use Rattle.std.proofs.Common.{◌≡◌, ◌+◌, List, [], ℕ, drop, sym, ap, subst, arith}
use Rattle.std.specs.Prelude.{Result, Ok, Err}
use Rattle.ix_cbor.specs.Data.{Data}
use Rattle.ix_path.specs.declared.obstacle.Obstacle.{Obstacle}
use Rattle.std.proofs.lemmas.List.{drop_all}
use Rattle.ix_path.specs.Resolution.{◌and_then◌, entered, crossed, stepped, followed, segments_in, Goes, GoesBy}
use Rattle.ix_path.proofs.Routes.{begun-steps, goes_by_blocks, goes_by_on, goes_by_no_further, goes_by_here, segments_more}
use Rattle.ix_path.proofs.resolution.follow.Goals as goal

pub returns-in-Err : goal.returns-in-Err
returns-in-Err c =
    let store = c.args.store.now in
    let root = c.args.root.now in
    let begun = entered store root and_then crossed store 128 in
    goes_by_no_further begun (followed store 128 (segments_in c.args.segments.now)) c.args.blocks.now.items c.begin.new.blocks.items c.begin.new.blocks.items c.args.steps.now.items c.args.steps.now.items c.args.steps.now.items c.in-Err.obstacle
    (goes_by_blocks begun c.args.blocks.now.items c.begin.new.blocks.items c.args.steps.now.items (Err c.in-Err.obstacle) (begun-steps store root 128)
    (subst (λ (r : Result Data Obstacle). Goes c.args.blocks.now.items c.begin.new.blocks.items r begun) c.in-Err.is c.in_ok-node.ensures))

pub loop-segment-init : goal.loop-segment-init
loop-segment-init c = λ new after end h.
    let store = c.args.store.now in
    let root = c.args.root.now in
    let begun = entered store root and_then crossed store 128 in
    goes_by_on begun (followed store 128 (segments_in c.args.segments.now)) c.args.blocks.now.items c.begin.new.blocks.items new c.args.steps.now.items c.args.steps.now.items after c.in-Ok.node end
    (goes_by_blocks begun c.args.blocks.now.items c.begin.new.blocks.items c.args.steps.now.items (Ok c.in-Ok.node) (begun-steps store root 128)
    (subst (λ (r : Result Data Obstacle). Goes c.args.blocks.now.items c.begin.new.blocks.items r begun) c.in-Ok.is c.in_ok-node.ensures)) h

pub returns-in-Err-2 : goal.returns-in-Err-2
returns-in-Err-2 c =
    let store = c.args.store.now in
    let segments = c.args.segments.now in
    let i = c.loop-segment.segment-index in
    let segment = c.segment-item.result in
    let node = c.loop-segment.node in
    let more = segments_in (drop (i + 1) segments) in
    let split = segments_more segments i segment c.loop-segment-test.true c.segment-item.is in
    let step = stepped segment.items node and_then crossed store 128 in
    let old = c.loop-segment.blocks.items in
    let new = c.advance.new.blocks.items in
    let before = c.loop-segment.steps.items in
    let after = c.advance.new.steps.items in
    let ended = subst (λ (r : Result Data Obstacle). GoesBy old new before after r (stepped c.as_slice.result.now node and_then crossed store 128)) c.in-Err-2.is c.in_ok-next.ensures in
    let gone = subst (λ (l : List ℕ). GoesBy old new before after (Err c.in-Err-2.obstacle) (stepped l node and_then crossed store 128)) c.as_slice.ensures.value ended in
    c.loop-segment.invariant new after (Err c.in-Err-2.obstacle)
    (subst (λ (ss : List (List ℕ)). GoesBy old new before after (Err c.in-Err-2.obstacle) (followed store 128 ss node)) (sym split)
    (goes_by_no_further step (followed store 128 more) old new new before after after c.in-Err-2.obstacle gone))

pub loop-segment-preserved : goal.loop-segment-preserved
loop-segment-preserved c = λ new after end h.
    let store = c.args.store.now in
    let segments = c.args.segments.now in
    let i = c.loop-segment.segment-index in
    let segment = c.segment-item.result in
    let node = c.loop-segment.node in
    let more = segments_in (drop (i + 1) segments) in
    let split = segments_more segments i segment c.loop-segment-test.true c.segment-item.is in
    let step = stepped segment.items node and_then crossed store 128 in
    let old = c.loop-segment.blocks.items in
    let middle = c.advance.new.blocks.items in
    let before = c.loop-segment.steps.items in
    let between = c.advance.new.steps.items in
    let ended = subst (λ (r : Result Data Obstacle). GoesBy old middle before between r (stepped c.as_slice.result.now node and_then crossed store 128)) c.in-Ok-2.is c.in_ok-next.ensures in
    let gone = subst (λ (l : List ℕ). GoesBy old middle before between (Ok c.in-Ok-2.next) (stepped l node and_then crossed store 128)) c.as_slice.ensures.value ended in
    c.loop-segment.invariant new after end
    (subst (λ (ss : List (List ℕ)). GoesBy old new before after end (followed store 128 ss node)) (sym split)
    (goes_by_on step (followed store 128 more) old middle new before between after c.in-Ok-2.next end gone h))

pub returns : goal.returns
returns c =
    let store = c.args.store.now in
    let segments = c.args.segments.now in
    let i = c.loop-segment.segment-index in
    let node = c.loop-segment.node in
    let old = c.loop-segment.blocks.items in
    let steps = c.loop-segment.steps.items in
    let none : segments_in (drop i segments) ≡ [] = ap segments_in (drop_all i segments (omega arith)) in
    c.loop-segment.invariant old steps (Ok node)
    (subst (λ (ss : List (List ℕ)). GoesBy old old steps steps (Ok node) (followed store 128 ss node)) (sym none) (goes_by_here old steps node))
