-- States that are compared, as places.
use Rattle.std.proofs.Common.{◌≡◌, ℕ, sym, true≢false, Bool, true, false, ◌&&◌, nat_eq, List, [], ◌∷◌, refl, ap, Ordering, Less, Equal, Greater, nat_cmp}
use Rattle.std.specs.Prelude.{Option, Some, None}
use Rattle.std.proofs.lemmas.Bool.{eqb-true, and_parts}
use Rattle.std.specs.Option.{option_eq, option_cmp}
use Rattle.std.specs.Ordering.{ordering_then}
use Rattle.std.specs.Cmp.Lexicographic.{pointwise, slice_cmp}
use Rattle.ix_selector.specs.declared.selector_node.SelectorNode.{SelectorNode}
use Rattle.ix_selector.specs.declared.state.State.{State}
use Rattle.ix_selector.specs.declared.state.Recursion.{Recursion}
use Rattle.ix_selector.specs.Places.{places_of}
use Rattle.ix_selector.specs.States.{frames, sequence_of, place_of, seen_states}
use Rattle.ix_selector.specs.Behind.{depths, same_place, same_residual, place_order, residual_order}
use Rattle.ix_selector.specs.contracts.state.StatePartialEq.TheImpl as states
use Rattle.ix_selector.specs.contracts.state.RecursionPartialEq.TheImpl as recursions
use Rattle.ix_selector.specs.contracts.state.StateOrd.TheImpl as state_orders
use Rattle.ix_selector.specs.contracts.state.RecursionOrd.TheImpl as recursion_orders

-- a test that is joined with true
and_true : (b : Bool) → b ≡ b && true
and_true true = refl
and_true false = refl

-- comparing recursions is comparing sequences and depths
same_recursion : (nodes others : List SelectorNode) (a b : Option Recursion)
    → option_eq recursions.eq-value.it a b
    ≡ option_eq nat_eq (sequence_of a) (sequence_of b) && pointwise (option_eq nat_eq) (depths (frames (places_of nodes) a)) (depths (frames (places_of others) b))
same_recursion nodes others None None = refl
same_recursion nodes others None (Some b) = refl
same_recursion nodes others (Some a) None = refl
same_recursion nodes others (Some a) (Some b) = ap (λ t. nat_eq a.sequence b.sequence && t) (and_true (option_eq nat_eq a.depth b.depth))

-- so comparing states is comparing places
same_state : (nodes others : List SelectorNode) (x y : State) → states.eq-value.it x y ≡ same_place (place_of nodes x) (place_of others y)
same_state nodes others x y = ap (λ t. nat_eq x.place y.place && t) (same_recursion nodes others x.recursion y.recursion)

-- state by state
pub same-states : (nodes others : List SelectorNode) (xs ys : List State) → pointwise states.eq-value.it xs ys ≡ same_residual (seen_states nodes xs) (seen_states others ys)
unfolding same_residual
same-states nodes others [] [] = refl
same-states nodes others [] (y ∷ ys) = refl
same-states nodes others (x ∷ xs) [] = refl
same-states nodes others (x ∷ xs) (y ∷ ys) = λ i. same_state nodes others x y i && same-states nodes others xs ys i

-- an ordering followed by a tie
then_equal : (o : Ordering) → o ≡ ordering_then o Equal
then_equal Less = refl
then_equal Equal = refl
then_equal Greater = refl

-- the same of the order of recursions
recursion_order : (nodes others : List SelectorNode) (a b : Option Recursion)
    → option_cmp recursion_orders.cmp-value.it a b
    ≡ ordering_then (option_cmp nat_cmp (sequence_of a) (sequence_of b)) (slice_cmp (option_cmp nat_cmp) (depths (frames (places_of nodes) a)) (depths (frames (places_of others) b)))
recursion_order nodes others None None = refl
recursion_order nodes others None (Some b) = refl
recursion_order nodes others (Some a) None = refl
recursion_order nodes others (Some a) (Some b) = ap (λ o. ordering_then (nat_cmp a.sequence b.sequence) o) (then_equal (option_cmp nat_cmp a.depth b.depth))

-- and of states
state_order : (nodes others : List SelectorNode) (x y : State) → state_orders.cmp-value.it x y ≡ place_order (place_of nodes x) (place_of others y)
state_order nodes others x y = ap (λ o. ordering_then (nat_cmp x.place y.place) o) (recursion_order nodes others x.recursion y.recursion)

-- state by state
pub order-states : (nodes others : List SelectorNode) (xs ys : List State) → slice_cmp state_orders.cmp-value.it xs ys ≡ residual_order (seen_states nodes xs) (seen_states others ys)
unfolding residual_order
order-states nodes others [] [] = refl
order-states nodes others [] (y ∷ ys) = refl
order-states nodes others (x ∷ xs) [] = refl
order-states nodes others (x ∷ xs) (y ∷ ys) = λ i. ordering_then (state_order nodes others x y i) (order-states nodes others xs ys i)

-- ---- what compares as equal

-- depths that compare as equal are equal
pub depth-equal : (d e : Option ℕ) → option_eq nat_eq d e ≡ true → d ≡ e
depth-equal None None h = refl
depth-equal None (Some e) h = absurd (true≢false (sym h))
depth-equal (Some d) None h = absurd (true≢false (sym h))
depth-equal (Some d) (Some e) h = ap Some (eqb-true d e h)

-- and so are recursions
recursion_equal : (a b : Option Recursion) → option_eq recursions.eq-value.it a b ≡ true → a ≡ b
recursion_equal None None h = refl
recursion_equal None (Some b) h = absurd (true≢false (sym h))
recursion_equal (Some a) None h = absurd (true≢false (sym h))
recursion_equal (Some a) (Some b) h =
    let parts = and_parts (nat_eq a.sequence b.sequence) (option_eq nat_eq a.depth b.depth) h in
    let sequence : a.sequence ≡ b.sequence = eqb-true a.sequence b.sequence parts.0 in
    let depth : a.depth ≡ b.depth = depth-equal a.depth b.depth parts.1 in
    λ i. Some (record { sequence = sequence i; depth = depth i })

-- states that compare as equal are the same
pub states-equal : (xs ys : List State) → pointwise states.eq-value.it xs ys ≡ true → xs ≡ ys
states-equal [] [] h = refl
states-equal [] (y ∷ ys) h = absurd (true≢false (sym h))
states-equal (x ∷ xs) [] h = absurd (true≢false (sym h))
states-equal (x ∷ xs) (y ∷ ys) h =
    let parts = and_parts (states.eq-value.it x y) (pointwise states.eq-value.it xs ys) h in
    let inside = and_parts (nat_eq x.place y.place) (option_eq recursions.eq-value.it x.recursion y.recursion) parts.0 in
    let place : x.place ≡ y.place = eqb-true x.place y.place inside.0 in
    let recursion : x.recursion ≡ y.recursion = recursion_equal x.recursion y.recursion inside.1 in
    let rest : xs ≡ ys = states-equal xs ys parts.1 in
    λ i. record { place = place i; recursion = recursion i } ∷ rest i
