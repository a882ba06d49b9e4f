-- What is left of a selector at the root and after a step.
use Rattle.std.proofs.Common.{◌≡◌, ℕ, ◌+◌, ◌<◌, inl, inr, ⊎_elim, true, false, true≢false, ◌==◌, List, [], ◌∷◌, ◌++◌, map, take, get_or, length, refl, sym, ◌∙◌, ap, subst, arith}
use Rattle.std.specs.Prelude.{Option, Some, None}
use Rattle.std.proofs.lemmas.Bool.{eqb-true}
use Rattle.std.specs.List.{All}
use Rattle.std.proofs.lemmas.List.{take_more}
use Rattle.std.proofs.lemmas.List.Elements.{All-head, All-tail}
use Rattle.ix_selector.specs.declared.selector_node.SelectorNode.{SelectorNode}
use Rattle.ix_selector.specs.declared.state.State.{State}
use Rattle.ix_selector.specs.declared.state.Recursion.{Recursion}
use Rattle.ix_selector.specs.declared.reached.Reached.{Reached}
use Rattle.ix_selector.specs.Pattern.{Pattern, outside, IsGuarded, IsSelector}
use Rattle.ix_selector.specs.Enters.{Step, Path, Enters}
use Rattle.ix_selector.specs.IsEntered.{is_entered}
use Rattle.ix_selector.specs.Residual.{Place, IsAmong, here, there, ResidualEnters, residual_enters, IsAfter}
use Rattle.ix_selector.specs.Places.{at, places_of, AreNodes}
use Rattle.ix_selector.specs.Standing.{in_none}
use Rattle.ix_selector.proofs.Nodes.{last-free}
use Rattle.ix_selector.specs.Reaching.{AreReached}
use Rattle.ix_selector.specs.States.{frames, place_of, selector_at, EntersAt, SomeEnter, around, IsSequence, IsState, IsStanding, HasNoEdge, ReachedEnters, Same, Joins, EnterSame, IsOf}
use Rattle.ix_selector.proofs.Decides.{FramesGuarded}
use Rattle.ix_selector.proofs.Entering.{stands-enters}
use Rattle.ix_selector.proofs.Tested.{around_of, ArePlaces, start_tested, step_tested_some, step_tested_none}
use Rattle.ix_selector.proofs.Reaching.{none-enter, some-push}
use Rattle.ix_selector.proofs.Merging.{states-of}
use Rattle.ix_selector.proofs.Inside.{some-cons, cons-here, cons-there}

-- ---- states seen as places

-- a residual of states enters what one of them enters
pub residual-some : (nodes : List SelectorNode) (xs : List State) (p : Path) → ResidualEnters (map (place_of nodes) xs) p → SomeEnter nodes xs p
residual-some nodes xs p h = by xs h.among h.enters where
  by : (xs : List State) {x : Place} → IsAmong x (map (place_of nodes) xs) → Enters x.selector x.around p → SomeEnter nodes xs p
  by [] n h = elim n [ ]
  by (x ∷ xs) here h = cons-here nodes x xs p h
  by (x ∷ xs) (there n) h = cons-there nodes x xs p (by xs n h)

-- and back
pub some-residual : (nodes : List SelectorNode) (xs : List State) (p : Path) → SomeEnter nodes xs p → ResidualEnters (map (place_of nodes) xs) p
some-residual nodes [] p h = absurd (none-enter nodes p h)
some-residual nodes (x ∷ xs) p h =
    ⊎_elim
    (λ (first : EntersAt nodes x p). record { place = place_of nodes x; among = here; enters = first })
    (λ (more : SomeEnter nodes xs p). let rest = some-residual nodes xs p more in record { place = rest.place; among = there rest.among; enters = rest.enters })
    (some-cons nodes x xs p h)

-- a state is guarded as the test of residuals asks
is_place : (nodes : List SelectorNode) (s : Pattern) (r : Option Recursion) → IsGuarded (around r) s → IsSequence nodes r → IsGuarded (around_of (frames (places_of nodes) r)) s × FramesGuarded (frames (places_of nodes) r)
is_place nodes s None g is = (g, tt)
is_place nodes s (Some r) g is = (g, (is.1, tt))

-- state by state
are_places : (nodes : List SelectorNode) (xs : List State) → All (IsState nodes) xs → ArePlaces (map (place_of nodes) xs)
are_places nodes [] h = tt
are_places nodes (x ∷ xs) h =
    let first = All-head (IsState nodes) x xs h in
    (is_place nodes (selector_at nodes x) x.recursion first.guarded first.sequence, are_places nodes xs (All-tail (IsState nodes) x xs h))

-- if there is a state, it enters its own place
some_stands : (nodes : List SelectorNode) (xs : List State) → All (IsStanding nodes) xs → (xs ≡ [] → ⊥) → SomeEnter nodes xs []
some_stands nodes [] h some = absurd (some refl)
some_stands nodes (x ∷ xs) h some = cons-here nodes x xs [] (stands-enters (selector_at nodes x) (frames (places_of nodes) x.recursion) (All-head (IsStanding nodes) x xs h))

-- ---- from the root

-- nothing reached enters nothing
empty_enters : (nodes : List SelectorNode) (r : Reached) (p : Path) → r.explore.items ≡ [] → r.reentries.items ≡ [] → ReachedEnters nodes r p → ⊥
empty_enters nodes r p standing again h =
    ⊎_elim (λ (s : SomeEnter nodes r.explore.items p). none-enter nodes p (subst (λ l. SomeEnter nodes l p) standing s)) (λ (a : SomeEnter nodes r.reentries.items p). none-enter nodes p (subst (λ l. SomeEnter nodes l p) again a)) h

module _ (nodes : List SelectorNode) (x : State) (old new : Reached) (nothing : old.explore.items ≡ []) (none : old.reentries.items ≡ []) (enters : Joins (ReachedEnters nodes new) (ReachedEnters nodes old) (EntersAt nodes x))
    (again : new.reentries.items ≡ old.reentries.items) where
  root_enters : Same (SomeEnter nodes new.explore.items) (EntersAt nodes x)
  root_enters p = (
    λ h. ⊎_elim (λ (o : ReachedEnters nodes old p). absurd (empty_enters nodes old p nothing none o)) (λ (e : EntersAt nodes x p). e) ((enters p).0 (inl h)),
    λ h. ⊎_elim (λ (s : SomeEnter nodes new.explore.items p). s) (λ (a : SomeEnter nodes new.reentries.items p). absurd (none-enter nodes p (subst (λ l. SomeEnter nodes l p) (again ∙ none) a))) ((enters p).1 (inr h)),
  )

-- the root's state, of a selector that is in no recursion
pub root-state : (nodes : List SelectorNode) (n : ℕ) (s : Pattern) → AreNodes 0 nodes → n + 1 ≡ length nodes → at (places_of nodes) n ≡ s → IsSelector s → IsState nodes (record { place = n; recursion = None })
root-state nodes n s table last is selector = record { within = omega arith; guarded = subst (IsGuarded outside) (sym is) selector.edges; sequence = tt; stands = in_none (last-free nodes n table last) }

-- the root has no edge before a step, since it is in no recursion
root_no_edge : (nodes : List SelectorNode) (n : ℕ) (s : Pattern) → at (places_of nodes) n ≡ s → IsSelector s → HasNoEdge nodes (record { place = n; recursion = None })
root_no_edge nodes n s is selector = record { around = outside; never = λ m. m; guarded = subst (IsGuarded outside) (sym is) selector.edges }

module _ (nodes : List SelectorNode) (n : ℕ) (s : Pattern) (is : at (places_of nodes) n ≡ s) (selector : IsSelector s) (old new : Reached) (nothing : old.explore.items ≡ []) (none : old.reentries.items ≡ [])
    (reached : AreReached nodes new) (enters : Joins (ReachedEnters nodes new) (ReachedEnters nodes old) (EntersAt nodes (record { place = n; recursion = None })))
    (again : HasNoEdge nodes (record { place = n; recursion = None }) → new.reentries.items ≡ old.reentries.items)
    (xs : List State) (merged : EnterSame xs new.explore.items) (among : All (IsOf new.explore.items) xs) where
  pub start-entered : (p : Path) → (ResidualEnters (map (place_of nodes) xs) p → Enters s [] p) × (Enters s [] p → ResidualEnters (map (place_of nodes) xs) p)
  start-entered p =
      let both = root_enters nodes (record { place = n; recursion = None }) old new nothing none enters (again (root_no_edge nodes n s is selector)) p in (
        λ h. subst (λ q. Enters q [] p) is (both.0 ((merged nodes p).0 (residual-some nodes xs p h))),
        λ h. some-residual nodes xs p ((merged nodes p).1 (both.1 (subst (λ q. Enters q [] p) (sym is) h))),
      )

  pub start-tested : (p : Path) → residual_enters (map (place_of nodes) xs) p ≡ is_entered s p
  start-tested = start_tested (map (place_of nodes) xs) s (are_places nodes xs (states-of nodes new.explore.items xs among reached.states)) selector start-entered

-- ---- states after a step, one by one

pub record Stepped (nodes : List SelectorNode) (t : Step) (r : Reached) (xs : List State) : Type 0 where
  pub reached : AreReached nodes r
  pub enters : Same (ReachedEnters nodes r) (λ p. SomeEnter nodes xs (t ∷ p))

-- the loop's step: one more state after the step
pub derivative-more : (nodes : List SelectorNode) (t : Step) (old new : Reached) (xs : List State) (i : ℕ) (x : State) → i < length xs → x ≡ get_or xs i x → Stepped nodes t old (take i xs) → AreReached nodes new
    → Joins (ReachedEnters nodes new) (ReachedEnters nodes old) (λ p. EntersAt nodes x (t ∷ p)) → Stepped nodes t new (take (i + 1) xs)
derivative-more nodes t old new xs i x within is so_far reached enters =
    let front = take i xs in
    let more : take (i + 1) xs ≡ front ++ x ∷ [] = take_more xs i x within ∙ ap (λ y. take i xs ++ y ∷ []) (sym is) in
    subst (λ l. Stepped nodes t new l) (sym more) (record {
      reached = reached;
      enters = λ p.
          let push = some-push nodes front x (t ∷ p) in (
            λ h. push.1 (⊎_elim (λ (o : ReachedEnters nodes old p). inl ((so_far.enters p).0 o)) (λ (e : EntersAt nodes x (t ∷ p)). inr e) ((enters p).0 h)),
            λ h. (enters p).1 (⊎_elim (λ (o : SomeEnter nodes front (t ∷ p)). inl ((so_far.enters p).1 o)) (λ (e : EntersAt nodes x (t ∷ p)). inr e) (push.0 h)),
          );
    })

-- entering the same paths is transitive
pub same-twice : (A B C : Path → Type 0) → Same A B → Same B C → Same A C
same-twice A B C s t p = (λ h. (t p).0 ((s p).0 h), λ h. (s p).1 ((t p).1 h))

-- ---- the residual after a step

-- the states that were read of a residual are its places
pub places-read : (nodes : List SelectorNode) (held xs : List State) (places : List Place) → map (place_of nodes) held ≡ places → xs ≡ held → places ≡ map (place_of nodes) xs
places-read nodes held xs places seen read = sym seen ∙ ap (map (place_of nodes)) (sym read)

module _ (nodes : List SelectorNode) (held xs ys : List State) (t : Step) (places : List Place) (seen : map (place_of nodes) held ≡ places) (read : xs ≡ held) (whole : All (IsState nodes) held)
    (behind : All (IsState nodes) ys) (standing : All (IsStanding nodes) ys) (enters : Same (SomeEnter nodes ys) (λ p. SomeEnter nodes xs (t ∷ p))) where
  from : places ≡ map (place_of nodes) xs
  from = places-read nodes held xs places seen read

  states : All (IsState nodes) xs
  states = subst (All (IsState nodes)) (sym read) whole

  pub step-below : (p : Path) → (ResidualEnters (map (place_of nodes) ys) p → ResidualEnters places (t ∷ p)) × (ResidualEnters places (t ∷ p) → ResidualEnters (map (place_of nodes) ys) p)
  step-below p = (
    λ h. subst (λ l. ResidualEnters l (t ∷ p)) (sym from) (some-residual nodes xs (t ∷ p) ((enters p).0 (residual-some nodes ys p h))),
    λ h. some-residual nodes ys p ((enters p).1 (residual-some nodes xs (t ∷ p) (subst (λ l. ResidualEnters l (t ∷ p)) from h))),
  )

  pub step-entered : (ys ≡ [] → ⊥) → ResidualEnters (map (place_of nodes) ys) []
  step-entered some = some-residual nodes ys [] (some_stands nodes ys standing some)

  pub step-none : ys ≡ [] → ResidualEnters places (t ∷ []) → ⊥
  step-none empty h = none-enter nodes [] (subst (λ l. SomeEnter nodes l []) empty ((enters []).1 (residual-some nodes xs (t ∷ []) (subst (λ l. ResidualEnters l (t ∷ [])) from h))))

  pub step-tested : (ys ≡ [] → ⊥) → IsAfter places t (Some (map (place_of nodes) ys))
  step-tested some =
      step_tested_some places (map (place_of nodes) ys) t (subst ArePlaces (sym from) (are_places nodes xs states)) (are_places nodes ys behind) (step-entered some) step-below

  pub step-tested_none : ys ≡ [] → IsAfter places t None
  step-tested_none empty = step_tested_none places t (step-none empty)

-- whether any state is left
pub nothing-left : (ys : List State) → (length ys == 0) ≡ true → ys ≡ []
nothing-left [] h = refl
nothing-left (y ∷ ys) h = let none = eqb-true (length (y ∷ ys)) 0 h in absurd (omega arith)

-- if the length isn't 0, there is one
pub something-left : (ys : List State) → (length ys == 0) ≡ false → ys ≡ [] → ⊥
something-left ys h empty = true≢false (subst (λ l. (length l == 0) ≡ false) empty h)
