use Rattle.std.proofs.Common.{◌≡◌, true≢false, [], refl, sym}
use Rattle.ix_selector.specs.States.{SomeEnter, ReachedEnters}
use Rattle.ix_selector.specs.declared.reached.Reached.{Reached}
use Rattle.ix_selector.proofs.Merging.{states-agree, states-of, few-states}
use Rattle.ix_selector.proofs.Residues.{same-twice}
use Rattle.ix_selector.proofs.EnteredOnce.{last-can, last-entered, all-same, all-enter, all-left, none-last}
use Rattle.ix_selector.proofs.stepping.reenter_edges.Goals as goal

pub merge-requires : goal.merge-requires
merge-requires c = record { agree = states-agree c.args.nodes.now c.args.reached.reentries.items c.requires.reached.table.once c.requires.reached.reentries }

pub loop-state-init : goal.loop-state-init
loop-state-init c = all-same c.args.nodes.now c.args.reached _ c.requires.reached refl c.in_ok-merge.ensures.among

pub reenter-requires : goal.reenter-requires
reenter-requires c = last-can c.args.nodes.now c.loop-state.reached _ c.in-Some.state c.loop-state.invariant.reached refl c.in-Some.ensures.items

pub loop-state-preserved : goal.loop-state-preserved
loop-state-preserved c =
    let start : Reached = record { explore = c.args.reached.explore; reentries = c.merge.new.states } in
    let mid : Reached = record { explore = c.loop-state.reached.explore; reentries = c.pop.new.self } in
    last-entered c.args.nodes.now start c.loop-state.reached mid c.reenter.new.reached c.in-Some.state c.loop-state.invariant refl c.in-Some.ensures.items c.in_ok-reenter.ensures

pub merge-requires-2 : goal.merge-requires-2
merge-requires-2 c = record { agree = states-agree c.args.nodes.now c.loop-state.reached.explore.items c.requires.reached.table.once c.loop-state.invariant.reached.states }

pub returns-clause-few : goal.returns-clause-few
returns-clause-few c =
    let nodes = c.args.nodes.now in
    let last = c.merge-2.new.states.items in
    few-states nodes last c.in_ok-merge-2.ensures.rising (states-of nodes c.loop-state.reached.explore.items last c.in_ok-merge-2.ensures.among c.loop-state.invariant.reached.states)

pub returns-clause-enters : goal.returns-clause-enters
returns-clause-enters c =
    let nodes = c.args.nodes.now in
    let start : Reached = record { explore = c.args.reached.explore; reentries = c.merge.new.states } in
    let none : c.loop-state.reached.reentries.items ≡ [] = none-last c.loop-state.reached.reentries.items (λ some. true≢false (sym (c.in_default.ensures.variant.1 some))) in
    same-twice (SomeEnter nodes c.merge-2.new.states.items) (SomeEnter nodes c.loop-state.reached.explore.items) (ReachedEnters nodes c.args.reached) (c.in_ok-merge-2.ensures.enters nodes)
    (all-enter nodes c.args.reached start c.loop-state.reached refl c.loop-state.invariant none c.in_ok-merge.ensures.enters)

pub returns-clause-exact : goal.returns-clause-exact
returns-clause-exact c =
    let nodes = c.args.nodes.now in
    let start : Reached = record { explore = c.args.reached.explore; reentries = c.merge.new.states } in
    let none : c.loop-state.reached.reentries.items ≡ [] = none-last c.loop-state.reached.reentries.items (λ some. true≢false (sym (c.in_default.ensures.variant.1 some))) in
    all-left nodes c.args.reached start c.loop-state.reached refl c.loop-state.invariant none c.merge-2.new.states.items c.in_ok-merge.ensures.exact c.in_ok-merge-2.ensures.exact
