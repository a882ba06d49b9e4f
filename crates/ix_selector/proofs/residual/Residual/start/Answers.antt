use Rattle.std.proofs.Common.{sym, subst, ap, ◌∙◌}
use Rattle.std.specs.Arc.{arc_value}
use Rattle.ix_selector.specs.States.{seen_states}
use Rattle.ix_selector.specs.Reaching.{AreLeftInShared}
use Rattle.ix_selector.specs.Residual.{EntersAs, IsTestedAs}
use Rattle.ix_selector.proofs.Residues.{root-state, start-entered, start-tested}
use Rattle.ix_selector.proofs.Merging.{states-agree, states-of, standing-of, few-states}
use Rattle.ix_selector.proofs.Adding.{start-exact}
use Rattle.ix_selector.proofs.residual.Residual.start.Goals as goal

pub close_over-requires-clause-state : goal.close_over-requires-clause-state
close_over-requires-clause-state c = root-state c.places-place.result.1.now c.places-place.result.2 c.args.selector.now c.places-place.ensures.table.placed c.places-place.ensures.root.0 c.places-place.ensures.root.1 c.places-place.ensures.selector

pub merge-requires : goal.merge-requires
merge-requires c = record { agree = states-agree c.places-place.result.1.now c.close_over.new.reached.explore.items c.places-place.ensures.table.once c.in_ok-close_over.ensures.reached.states }

pub invariant_of-result : goal.invariant_of-result
invariant_of-result c =
    let nodes = c.places-place.result.1.now in
    let reached = c.in_ok-close_over.ensures.reached in
    let among = c.in_ok-merge.ensures.among in
    let states = states-of nodes c.close_over.new.reached.explore.items c.merge.new.states.items among reached.states in
    subst (AreLeftInShared (arc_value c.places-place.result.0.now).items nodes) (sym c.in_ok-states.ensures)
    (c.places-place.ensures.shared, (c.places-place.ensures.table, states, standing-of nodes c.close_over.new.reached.explore.items c.merge.new.states.items among reached.explore, few-states nodes c.merge.new.states.items c.in_ok-merge.ensures.rising states))

pub returns-clause-entered : goal.returns-clause-entered
returns-clause-entered c =
    subst (λ l. EntersAs c.args.selector.now (seen_states c.places-place.result.1.now l)) (sym c.in_ok-states.ensures)
    (start-entered c.places-place.result.1.now c.places-place.result.2 c.args.selector.now c.places-place.ensures.root.1 c.places-place.ensures.selector c.new-reached.result c.close_over.new.reached c.new-reached.ensures.0 c.new-reached.ensures.1
    c.in_ok-close_over.ensures.reached c.in_ok-close_over.ensures.enters c.in_ok-close_over.ensures.reentries c.merge.new.states.items c.in_ok-merge.ensures.enters c.in_ok-merge.ensures.among)

pub returns-clause-tested : goal.returns-clause-tested
returns-clause-tested c =
    subst (λ l. IsTestedAs c.args.selector.now (seen_states c.places-place.result.1.now l)) (sym c.in_ok-states.ensures)
    (start-tested c.places-place.result.1.now c.places-place.result.2 c.args.selector.now c.places-place.ensures.root.1 c.places-place.ensures.selector c.new-reached.result c.close_over.new.reached c.new-reached.ensures.0 c.new-reached.ensures.1
    c.in_ok-close_over.ensures.reached c.in_ok-close_over.ensures.enters c.in_ok-close_over.ensures.reentries c.merge.new.states.items c.in_ok-merge.ensures.enters c.in_ok-merge.ensures.among)

pub returns-clause-exact : goal.returns-clause-exact
returns-clause-exact c =
    ap (seen_states c.places-place.result.1.now) c.in_ok-states.ensures
    ∙ start-exact c.places-place.result.1.now c.places-place.result.2 c.args.selector.now c.places-place.ensures.root.1 c.places-place.ensures.whole c.new-reached.result c.close_over.new.reached c.merge.new.states.items c.new-reached.ensures.0
    c.in_ok-close_over.ensures.exact c.in_ok-merge.ensures.exact
