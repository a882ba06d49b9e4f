use Rattle.std.proofs.Common.{◌≡◌, arith, take, get_or, refl, sym, subst}
use Rattle.std.specs.List.{All}
use Rattle.ix_selector.specs.declared.reached.Reached.{Reached}
use Rattle.std.proofs.lemmas.Result.{on_ok_weaker}
use Rattle.std.proofs.lemmas.List.{take_all}
use Rattle.ix_selector.specs.States.{IsState, HasNoEdge, EntersAt, SomeEnter, ReachedEnters, Same, Joins}
use Rattle.ix_selector.specs.Places.{AreBelow}
use Rattle.ix_selector.specs.Reaching.{AreReached, members_at}
use Rattle.ix_selector.proofs.Reaching.{Reaches, reaches-more, joins-same}
use Rattle.ix_selector.proofs.Inside.{sequence-before, sequence-state, sequence-enters, sequence-no_edge, members-before, members-states, members-enter, members-no_edge, edge-reached, edge-enters, edge-some, standing-reached, standing-enters, default-stands, members-more, member-below, member-such}
use Rattle.ix_selector.specs.declared.state.State.{State}
use Rattle.ix_selector.specs.States.{seen_states}
use Rattle.ix_selector.specs.Reaching.{Adds}
use Rattle.ix_selector.specs.Behind.{all_lead}
use Rattle.ix_selector.proofs.Adding.{adds-next, standing-adds, recursive-leads, union-leads, edge-adds}
use Rattle.ix_selector.proofs.reached.+close_over.Goals as goal

pub close_over-close_over-requires : goal.close_over-close_over-requires
close_over-close_over-requires t c =
    let is = subst (λ y. y ≡ get_or c.args.nodes.now c.args.state.place y) c.in-Recursive.is c.index-nodes-state.is in
    let below = sequence-before c.args.nodes.now c.requires.reached.table.placed c.args.state c.requires.state c.in-Recursive.depth c.in-Recursive.sequence is in
    (omega arith, (sequence-state c.args.nodes.now c.requires.reached.table.placed c.args.state c.requires.state c.in-Recursive.depth c.in-Recursive.sequence is, c.requires.reached))

pub close_over-close_over_each-requires : goal.close_over-close_over_each-requires
close_over-close_over_each-requires t c =
    let is = subst (λ y. y ≡ get_or c.args.nodes.now c.args.state.place y) c.in-Union.is c.index-nodes-state.is in (
      omega arith,
      subst (λ l. AreBelow c.args.state.place l × (All (IsState c.args.nodes.now) (members_at c.args.state l) × AreReached c.args.nodes.now c.args.reached.now)) (sym c.deref.ensures.value)
          (members-before c.args.nodes.now c.requires.reached.table.placed c.args.state c.requires.state c.in-Union.members is, (members-states c.args.nodes.now c.requires.reached.table.placed c.args.state c.requires.state c.in-Union.members is, c.requires.reached)),
    )

pub close_over-returns-in-Recursive-clause-enters : goal.close_over-returns-in-Recursive-clause-enters
close_over-returns-in-Recursive-clause-enters t c =
    let is = subst (λ y. y ≡ get_or c.args.nodes.now c.args.state.place y) c.in-Recursive.is c.index-nodes-state.is in
    on_ok_weaker c.close_over.result
    (λ enters. joins-same (ReachedEnters c.args.nodes.now c.close_over.new.reached) (ReachedEnters c.args.nodes.now c.args.reached.now) _ (EntersAt c.args.nodes.now c.args.state) enters (sequence-enters c.args.nodes.now c.requires.reached.table.placed c.args.state c.requires.state c.in-Recursive.depth c.in-Recursive.sequence is))
    c.close_over.ensures.enters

pub close_over-returns-in-Recursive-clause-reentries : goal.close_over-returns-in-Recursive-clause-reentries
close_over-returns-in-Recursive-clause-reentries t c =
    let is = subst (λ y. y ≡ get_or c.args.nodes.now c.args.state.place y) c.in-Recursive.is c.index-nodes-state.is in
    on_ok_weaker c.close_over.result (λ again none. again (sequence-no_edge c.args.nodes.now c.requires.reached.table.placed c.args.state c.requires.state c.in-Recursive.depth c.in-Recursive.sequence is)) c.close_over.ensures.reentries

pub close_over-returns-in-Union-clause-enters : goal.close_over-returns-in-Union-clause-enters
close_over-returns-in-Union-clause-enters t c =
    let is = subst (λ y. y ≡ get_or c.args.nodes.now c.args.state.place y) c.in-Union.is c.index-nodes-state.is in
    on_ok_weaker c.close_over_each.result
    (λ enters. joins-same (ReachedEnters c.args.nodes.now c.close_over_each.new.reached) (ReachedEnters c.args.nodes.now c.args.reached.now) (SomeEnter c.args.nodes.now (members_at c.args.state c.deref.result.now)) (EntersAt c.args.nodes.now c.args.state) enters
    (subst (λ l. Same (SomeEnter c.args.nodes.now (members_at c.args.state l)) (EntersAt c.args.nodes.now c.args.state)) (sym c.deref.ensures.value) (members-enter c.args.nodes.now c.requires.reached.table.placed c.args.state c.requires.state c.in-Union.members is)))
    c.close_over_each.ensures.enters

pub close_over-returns-in-Union-clause-reentries : goal.close_over-returns-in-Union-clause-reentries
close_over-returns-in-Union-clause-reentries t c =
    let is = subst (λ y. y ≡ get_or c.args.nodes.now c.args.state.place y) c.in-Union.is c.index-nodes-state.is in
    on_ok_weaker c.close_over_each.result
    (λ again none. again (subst (λ l. All (HasNoEdge c.args.nodes.now) (members_at c.args.state l)) (sym c.deref.ensures.value) (members-no_edge c.args.nodes.now c.requires.reached.table.placed c.args.state c.requires.state c.in-Union.members is none)))
    c.close_over_each.ensures.reentries

pub close_over-returns-in-Edge-clause-reached : goal.close_over-returns-in-Edge-clause-reached
close_over-returns-in-Edge-clause-reached t c =
    let is = subst (λ y. y ≡ get_or c.args.nodes.now c.args.state.place y) c.in-Edge.is c.index-nodes-state.is in
    on_ok_weaker c.reenter_edge.result (λ again. edge-reached c.args.nodes.now c.requires.reached.table.placed c.args.state c.requires.state is c.args.reached.now c.reenter_edge.new.reached c.requires.reached c.reenter_edge.ensures.explore again) c.reenter_edge.ensures.reentries

pub close_over-returns-in-Edge-clause-enters : goal.close_over-returns-in-Edge-clause-enters
close_over-returns-in-Edge-clause-enters t c =
    let is = subst (λ y. y ≡ get_or c.args.nodes.now c.args.state.place y) c.in-Edge.is c.index-nodes-state.is in
    on_ok_weaker c.reenter_edge.result (λ again. edge-enters c.args.nodes.now c.requires.reached.table.placed c.args.state c.requires.state is c.args.reached.now c.reenter_edge.new.reached c.requires.reached c.reenter_edge.ensures.explore again) c.reenter_edge.ensures.reentries

pub close_over-returns-in-Edge-clause-reentries : goal.close_over-returns-in-Edge-clause-reentries
close_over-returns-in-Edge-clause-reentries t c =
    let is = subst (λ y. y ≡ get_or c.args.nodes.now c.args.state.place y) c.in-Edge.is c.index-nodes-state.is in
    on_ok_weaker c.reenter_edge.result (λ again none. absurd (edge-some c.args.nodes.now c.requires.reached.table.placed c.args.state c.requires.state is c.args.reached.now c.reenter_edge.new.reached c.requires.reached c.reenter_edge.ensures.explore again none)) c.reenter_edge.ensures.reentries

pub close_over-returns-in_ok-push-in_default : goal.close_over-returns-in_ok-push-in_default
close_over-returns-in_ok-push-in_default t c =
    let stands = default-stands c.args.nodes.now c.args.state c.index-nodes-state.result c.requires.reached.table.placed c.requires.state c.index-nodes-state.is c.in_default.not-Recursive c.in_default.not-Union c.in_default.not-Edge in
    let new : Reached = record { explore = c.push.new.self; reentries = c.args.reached.now.reentries } in
    record {
      reached = standing-reached c.args.nodes.now c.args.state c.requires.state stands c.args.reached.now new c.requires.reached c.in_ok-push-in_default.ensures.ok refl;
      enters = standing-enters c.args.nodes.now c.args.state c.requires.state stands c.args.reached.now new c.requires.reached c.in_ok-push-in_default.ensures.ok refl;
      exact = standing-adds c.args.nodes.now c.requires.reached.table.placed c.requires.reached.table.laid c.args.state c.requires.state.within c.index-nodes-state.result c.index-nodes-state.is stands c.args.reached.now new c.in_ok-push-in_default.ensures.ok refl;
      reentries = λ none. refl;
    }

pub close_over_each-close_over-requires : goal.close_over_each-close_over-requires
close_over_each-close_over-requires t c =
    let n = c.loop-member.member-index in
    let below = member-below c.args.state.place c.args.members.now n c.requires.members c.loop-member-test.true in
    (omega arith, (member-such (IsState c.args.nodes.now) c.args.state c.args.members.now n c.requires.states c.loop-member-test.true, c.loop-member.invariant.0.reached))

pub close_over_each-loop-member-preserved : goal.close_over_each-loop-member-preserved
close_over_each-loop-member-preserved t c =
    let n = c.loop-member.member-index in
    let nodes = c.args.nodes.now in
    let xs = members_at c.args.state (take n c.args.members.now) in
    let x : State = record { place = get_or c.args.members.now n 0; recursion = c.args.state.recursion } in
    subst (λ l. Reaches nodes c.args.reached.now c.close_over.new.reached l × Adds nodes c.args.reached.now c.close_over.new.reached (all_lead (seen_states nodes l))) (sym (members-more c.args.state c.args.members.now n c.loop-member-test.true)) (
      reaches-more nodes c.args.reached.now c.loop-member.reached c.close_over.new.reached xs x c.loop-member.invariant.0 c.in_ok-close_over.ensures.reached c.in_ok-close_over.ensures.enters c.in_ok-close_over.ensures.reentries,
      adds-next nodes c.args.reached.now c.loop-member.reached c.close_over.new.reached xs x c.loop-member.invariant.1 c.in_ok-close_over.ensures.exact,
    )

pub close_over_each-returns-clause-enters : goal.close_over_each-returns-clause-enters
close_over_each-returns-clause-enters t c =
    subst (λ l. Joins (ReachedEnters c.args.nodes.now c.loop-member.reached) (ReachedEnters c.args.nodes.now c.args.reached.now) (SomeEnter c.args.nodes.now (members_at c.args.state l)))
    (take_all c.loop-member.member-index c.args.members.now c.loop-member-test.false) c.loop-member.invariant.0.enters

pub close_over_each-returns-clause-exact : goal.close_over_each-returns-clause-exact
close_over_each-returns-clause-exact t c =
    let nodes = c.args.nodes.now in
    subst (λ l. Adds nodes c.args.reached.now c.loop-member.reached (all_lead (seen_states nodes (members_at c.args.state l)))) (take_all c.loop-member.member-index c.args.members.now c.loop-member-test.false) c.loop-member.invariant.1

pub close_over-returns-in-Recursive-clause-exact : goal.close_over-returns-in-Recursive-clause-exact
close_over-returns-in-Recursive-clause-exact t c =
    let is = subst (λ y. y ≡ get_or c.args.nodes.now c.args.state.place y) c.in-Recursive.is c.index-nodes-state.is in
    on_ok_weaker c.close_over.result
    (λ adds. subst (Adds c.args.nodes.now c.args.reached.now c.close_over.new.reached) (recursive-leads c.args.nodes.now c.requires.reached.table.placed c.requires.reached.table.laid c.args.state c.requires.state.within c.in-Recursive.depth c.in-Recursive.sequence is) adds)
    c.close_over.ensures.exact

pub close_over-returns-in-Union-clause-exact : goal.close_over-returns-in-Union-clause-exact
close_over-returns-in-Union-clause-exact t c =
    let is = subst (λ y. y ≡ get_or c.args.nodes.now c.args.state.place y) c.in-Union.is c.index-nodes-state.is in
    let nodes = c.args.nodes.now in
    on_ok_weaker c.close_over_each.result
    (λ adds.
    subst (Adds nodes c.args.reached.now c.close_over_each.new.reached) (union-leads nodes c.requires.reached.table.placed c.requires.reached.table.laid c.args.state c.requires.state.within c.in-Union.members is)
    (subst (λ l. Adds nodes c.args.reached.now c.close_over_each.new.reached (all_lead (seen_states nodes (members_at c.args.state l)))) c.deref.ensures.value adds))
    c.close_over_each.ensures.exact

pub close_over-returns-in-Edge-clause-exact : goal.close_over-returns-in-Edge-clause-exact
close_over-returns-in-Edge-clause-exact t c =
    let is = subst (λ y. y ≡ get_or c.args.nodes.now c.args.state.place y) c.in-Edge.is c.index-nodes-state.is in
    on_ok_weaker c.reenter_edge.result
    (λ again. edge-adds c.args.nodes.now c.requires.reached.table.placed c.requires.reached.table.laid c.args.state c.requires.state.within is c.args.reached.now c.reenter_edge.new.reached c.reenter_edge.ensures.explore again) c.reenter_edge.ensures.reentries
