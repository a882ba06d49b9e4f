use Rattle.std.proofs.Common.{◌≡◌, Some, arith, take, get_or, refl, sym, subst}
use Rattle.std.proofs.lemmas.Result.{on_ok_weaker}
use Rattle.std.proofs.lemmas.List.{take_all}
use Rattle.ix_selector.specs.declared.state.State.{State}
use Rattle.ix_selector.specs.declared.reached.Reached.{Reached}
use Rattle.ix_selector.specs.States.{IsState, HasNoEdge, EntersAt, SomeEnter, seen_states, place_of}
use Rattle.ix_selector.specs.Reaching.{members_at, AreReached}
use Rattle.ix_selector.specs.Reentering.{CanReenterEach, Reenters}
use Rattle.ix_selector.specs.Behind.{leads_from, all_lead}
use Rattle.ix_selector.proofs.Inside.{sequence-before, sequence-state, sequence-enters, sequence-no_edge, members-before, members-states, members-enter, members-no_edge, standing-reached, standing-enters, default-stands, members-more, member-below, member-such, members-first}
use Rattle.ix_selector.proofs.Adding.{recursive-leads, union-leads}
use Rattle.ix_selector.proofs.EnteredOnce.{standing-once, joined-reached, joined-length, joined-joins, joined-once, reenters-as, edge-never, one-so_far, ReentersSoFar}
use Rattle.ix_selector.proofs.reentry.+reenter.Goals as goal

pub reenter-returns-then-join_start : goal.reenter-returns-then-join_start
reenter-returns-then-join_start t c =
    let nodes = c.args.nodes.now in
    let table = c.requires.reached.table in
    let is = subst (λ y. y ≡ get_or nodes c.args.state.place y) c.in-Recursive.is c.index-nodes-state.is in
    let d = c.in-Recursive.depth in
    let k = c.in-Recursive.sequence in
    let start : State = record { place = k; recursion = Some (record { sequence = k; depth = d }) } in
    let old = c.args.reached.now in
    let new : Reached = record { explore = old.explore; reentries = c.join_start.new.reentries } in
    let state = sequence-state nodes table.placed c.args.state c.requires.state d k is in
    let joined = c.if-join_start.ensures.joined in
    reenters-as nodes old new (EntersAt nodes start) (EntersAt nodes c.args.state) (leads_from (place_of nodes start)) (leads_from (place_of nodes c.args.state))
    (sequence-enters nodes table.placed c.args.state c.requires.state d k is)
    (recursive-leads nodes table.placed table.laid c.args.state c.requires.state.within d k is)
    (record {
      reached = joined-reached nodes start state old new c.requires.reached refl joined;
      enters = joined-joins nodes start state old new c.requires.reached refl joined;
      exact = joined-once nodes start state old new c.requires.reached refl joined;
      as_many = joined-length nodes start state old new c.requires.reached refl joined;
    })

pub reenter-reenter-requires : goal.reenter-reenter-requires
reenter-reenter-requires t c =
    let nodes = c.args.nodes.now in
    let table = c.requires.reached.table in
    let is = subst (λ y. y ≡ get_or nodes c.args.state.place y) c.in-Recursive.is c.index-nodes-state.is in
    let d = c.in-Recursive.depth in
    let k = c.in-Recursive.sequence in
    let below = sequence-before nodes table.placed c.args.state c.requires.state d k is in
    let old = c.args.reached.now in
    let same : old ≡ record { explore = old.explore; reentries = c.join_start.new.reentries } = λ i. record { explore = old.explore; reentries = sym c.if-join_start.ensures.other i } in (
      omega arith,
      record {
        state = sequence-state nodes table.placed c.args.state c.requires.state d k is;
        no_edge = sequence-no_edge nodes table.placed c.args.state c.requires.state d k is;
        reached = subst (AreReached nodes) same c.requires.reached;
      },
    )

pub reenter-reenter_each-requires : goal.reenter-reenter_each-requires
reenter-reenter_each-requires t c =
    let nodes = c.args.nodes.now in
    let table = c.requires.reached.table in
    let is = subst (λ y. y ≡ get_or nodes c.args.state.place y) c.in-Union.is c.index-nodes-state.is in (
      omega arith,
      subst (λ l. CanReenterEach nodes c.args.state l c.args.reached.now) (sym c.deref.ensures.value) (record {
        below = members-before nodes table.placed c.args.state c.requires.state c.in-Union.members is;
        states = members-states nodes table.placed c.args.state c.requires.state c.in-Union.members is;
        no_edges = members-no_edge nodes table.placed c.args.state c.requires.state c.in-Union.members is c.requires.no_edge;
        reached = c.requires.reached;
      }),
    )

pub reenter-unreachable-requires : goal.reenter-unreachable-requires
reenter-unreachable-requires t c =
    let nodes = c.args.nodes.now in
    let is = subst (λ y. y ≡ get_or nodes c.args.state.place y) c.in-Edge.is c.index-nodes-state.is in
    edge-never nodes c.args.state c.requires.reached.table.placed c.requires.state.within is c.requires.no_edge

pub reenter-returns-else-join_start : goal.reenter-returns-else-join_start
reenter-returns-else-join_start t c =
    let nodes = c.args.nodes.now in
    let table = c.requires.reached.table in
    let is = subst (λ y. y ≡ get_or nodes c.args.state.place y) c.in-Recursive.is c.index-nodes-state.is in
    let d = c.in-Recursive.depth in
    let k = c.in-Recursive.sequence in
    let start : State = record { place = k; recursion = Some (record { sequence = k; depth = d }) } in
    let old = c.args.reached.now in
    let new = c.reenter.new.reached in
    let same : record { explore = old.explore; reentries = c.join_start.new.reentries } ≡ old = λ i. record { explore = old.explore; reentries = c.if-join_start.ensures.other i } in
    on_ok_weaker c.reenter.result
    (λ h.
    reenters-as nodes old new (EntersAt nodes start) (EntersAt nodes c.args.state) (leads_from (place_of nodes start)) (leads_from (place_of nodes c.args.state))
    (sequence-enters nodes table.placed c.args.state c.requires.state d k is)
    (recursive-leads nodes table.placed table.laid c.args.state c.requires.state.within d k is)
    (subst (λ r. Reenters nodes r new (EntersAt nodes start) (leads_from (place_of nodes start))) same h))
    c.reenter.ensures

pub reenter-returns-in-Union : goal.reenter-returns-in-Union
reenter-returns-in-Union t c =
    let nodes = c.args.nodes.now in
    let table = c.requires.reached.table in
    let x = c.args.state in
    let is = subst (λ y. y ≡ get_or nodes x.place y) c.in-Union.is c.index-nodes-state.is in
    let old = c.args.reached.now in
    let new = c.reenter_each.new.reached in
    on_ok_weaker c.reenter_each.result
    (λ h.
    let each : Reenters nodes old new (SomeEnter nodes (members_at x c.in-Union.members.items)) (all_lead (seen_states nodes (members_at x c.in-Union.members.items))) =
    subst (λ l. Reenters nodes old new (SomeEnter nodes (members_at x l)) (all_lead (seen_states nodes (members_at x l)))) c.deref.ensures.value h in
    reenters-as nodes old new (SomeEnter nodes (members_at x c.in-Union.members.items)) (EntersAt nodes x) (all_lead (seen_states nodes (members_at x c.in-Union.members.items))) (leads_from (place_of nodes x))
    (members-enter nodes table.placed x c.requires.state c.in-Union.members is)
    (union-leads nodes table.placed table.laid x c.requires.state.within c.in-Union.members is)
    each)
    c.reenter_each.ensures

pub reenter-returns-in_ok-push-in_default : goal.reenter-returns-in_ok-push-in_default
reenter-returns-in_ok-push-in_default t c =
    let nodes = c.args.nodes.now in
    let table = c.requires.reached.table in
    let x = c.args.state in
    let y = c.index-nodes-state.result in
    let old = c.args.reached.now in
    let new : Reached = record { explore = c.push.new.self; reentries = old.reentries } in
    let stands = default-stands nodes x y table.placed c.requires.state c.index-nodes-state.is c.in_default.not-Recursive c.in_default.not-Union c.in_default.not-Edge in
    let pushed = c.in_ok-push-in_default.ensures.ok in
    record {
      reached = standing-reached nodes x c.requires.state stands old new c.requires.reached pushed refl;
      enters = standing-enters nodes x c.requires.state stands old new c.requires.reached pushed refl;
      exact = standing-once nodes x c.requires.state old new c.requires.reached y c.index-nodes-state.is stands pushed refl;
      as_many = refl;
    }

pub reenter_each-reenter-requires : goal.reenter_each-reenter-requires
reenter_each-reenter-requires t c =
    let n = c.loop-member.member-index in
    let below = member-below c.args.state.place c.args.members.now n c.requires.below c.loop-member-test.true in (
      omega arith,
      record {
        state = member-such (IsState c.args.nodes.now) c.args.state c.args.members.now n c.requires.states c.loop-member-test.true;
        no_edge = member-such (HasNoEdge c.args.nodes.now) c.args.state c.args.members.now n c.requires.no_edges c.loop-member-test.true;
        reached = c.loop-member.invariant.reached;
      },
    )

pub reenter_each-loop-member-preserved : goal.reenter_each-loop-member-preserved
reenter_each-loop-member-preserved t c =
    let n = c.loop-member.member-index in
    let nodes = c.args.nodes.now in
    let xs = members_at c.args.state (take n c.args.members.now) in
    let x : State = record { place = get_or c.args.members.now n 0; recursion = c.args.state.recursion } in
    subst (ReentersSoFar nodes c.args.reached.now c.reenter.new.reached) (sym (members-more c.args.state c.args.members.now n c.loop-member-test.true))
    (one-so_far nodes c.args.reached.now c.loop-member.reached c.reenter.new.reached xs x (members-first (IsState nodes) c.args.state c.args.members.now n c.requires.states) (member-such (IsState nodes) c.args.state c.args.members.now n c.requires.states c.loop-member-test.true) c.loop-member.invariant c.in_ok-reenter.ensures)

pub reenter_each-returns : goal.reenter_each-returns
reenter_each-returns t c =
    let nodes = c.args.nodes.now in
    let done = subst (λ l. ReentersSoFar nodes c.args.reached.now c.loop-member.reached (members_at c.args.state l)) (take_all c.loop-member.member-index c.args.members.now c.loop-member-test.false) c.loop-member.invariant in
    record { reached = done.reached; enters = done.enters; exact = done.exact; as_many = done.as_many }
