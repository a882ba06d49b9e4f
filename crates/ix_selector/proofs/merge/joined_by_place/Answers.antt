use Rattle.std.proofs.Common.{rules, sym, subst}
use Rattle.std.specs.List.Sorted.{IsNonDecreasingBy}
use Rattle.std.proofs.lemmas.List.{get_or_default, take_all}
use Rattle.std.proofs.lemmas.List.Sorted.{IsNonDecreasingBy-from_sort_by_key}
use Rattle.ix_selector.specs.declared.state.State.{State}
use Rattle.ix_selector.proofs.Merging.{merged-more, merged-done, refill-whole, refill-permutation, sorted-up_to, agree-permutation}
use Rattle.ix_selector.specs.Merging.{AreMerged}
use Rattle.ix_selector.proofs.StatesMerged.{merged-next, merged-other}
use Rattle.ix_selector.proofs.merge.joined_by_place.Goals as goal

pub push_merged-requires-clause-up_to : goal.push_merged-requires-clause-up_to
push_merged-requires-clause-up_to c =
    let whole = refill-whole c.args.states.now.items c.as_mut_slice.result.now _ c.as_slice-state-items.result.now c.as_mut_slice.ensures.value c.sort_unstable_by_key.ensures.permutation c.as_slice-state-items.ensures in
    let sorted = refill-permutation c.args.states.now.items c.as_mut_slice.result.now _ c.as_slice-state-items.result.now c.as_mut_slice.ensures.value c.sort_unstable_by_key.ensures.permutation c.as_slice-state-items.ensures in
    let rises : IsNonDecreasingBy (λ (y : State). y.place) c.as_slice-state-items.result.now =
    subst (IsNonDecreasingBy (λ (y : State). y.place)) (sym whole) (IsNonDecreasingBy-from_sort_by_key (λ (y : State). y.place) _ c.sort_unstable_by_key.ensures.sorted (λ a r q k. search rules)) in
    sorted-up_to c.loop-state.merged.items c.as_slice-state-items.result.now c.loop-state.state-index _ c.loop-state-test.true (get_or_default _ _ _ _ c.loop-state-test.true) rises
    (agree-permutation c.args.states.now.items c.as_slice-state-items.result.now sorted c.requires.agree) c.loop-state.invariant.0.among

pub loop-state-preserved : goal.loop-state-preserved
loop-state-preserved c =
    let sorted = refill-permutation c.args.states.now.items c.as_mut_slice.result.now _ c.as_slice-state-items.result.now c.as_mut_slice.ensures.value c.sort_unstable_by_key.ensures.permutation c.as_slice-state-items.ensures in (
      merged-more c.loop-state.merged.items c.push_merged.new.merged.items c.as_slice-state-items.result.now c.loop-state.state-index _ c.loop-state-test.true (get_or_default _ _ _ _ c.loop-state-test.true) c.loop-state.invariant.0 c.in_ok-push_merged.ensures.enters
          c.in_ok-push_merged.ensures.among c.in_ok-push_merged.ensures.rising,
      merged-next c.loop-state.merged.items c.push_merged.new.merged.items c.as_slice-state-items.result.now c.loop-state.state-index _ c.loop-state-test.true (get_or_default _ _ _ _ c.loop-state-test.true)
          (agree-permutation c.args.states.now.items c.as_slice-state-items.result.now sorted c.requires.agree) c.loop-state.invariant.1 c.in_ok-push_merged.ensures.exact,
    )

pub returns-clause-enters : goal.returns-clause-enters
returns-clause-enters c =
    let sorted = refill-permutation c.args.states.now.items c.as_mut_slice.result.now _ c.as_slice-state-items.result.now c.as_mut_slice.ensures.value c.sort_unstable_by_key.ensures.permutation c.as_slice-state-items.ensures in
    (merged-done c.loop-state.merged.items c.args.states.now.items c.as_slice-state-items.result.now c.loop-state.state-index sorted c.loop-state-test.false c.loop-state.invariant.0).enters

pub returns-clause-among : goal.returns-clause-among
returns-clause-among c =
    let sorted = refill-permutation c.args.states.now.items c.as_mut_slice.result.now _ c.as_slice-state-items.result.now c.as_mut_slice.ensures.value c.sort_unstable_by_key.ensures.permutation c.as_slice-state-items.ensures in
    (merged-done c.loop-state.merged.items c.args.states.now.items c.as_slice-state-items.result.now c.loop-state.state-index sorted c.loop-state-test.false c.loop-state.invariant.0).among

pub returns-clause-exact : goal.returns-clause-exact
returns-clause-exact c =
    let sorted = refill-permutation c.args.states.now.items c.as_mut_slice.result.now _ c.as_slice-state-items.result.now c.as_mut_slice.ensures.value c.sort_unstable_by_key.ensures.permutation c.as_slice-state-items.ensures in
    merged-other c.loop-state.merged.items c.args.states.now.items c.as_slice-state-items.result.now sorted c.requires.agree
    (subst (AreMerged c.loop-state.merged.items) (take_all c.loop-state.state-index c.as_slice-state-items.result.now c.loop-state-test.false) c.loop-state.invariant.1)
