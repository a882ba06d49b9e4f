-- Where no selector looks at the step, each step leaves the same.
use Rattle.std.proofs.Common.{◌≡◌, ℕ, zero, suc, ◌||◌, List, [], ◌∷◌, ◌++◌, take, get_or, length, ◌+◌, ◌<◌, refl, sym, ◌∙◌, ap, subst}
use Rattle.std.specs.Prelude.{Option, Some}
use Rattle.std.specs.List.{All}
use Rattle.std.proofs.lemmas.List.Elements.{All-head, All-tail, All-push}
use Rattle.std.proofs.lemmas.List.{take_more}
use Rattle.ix_selector.specs.declared.selector_node.SelectorNode.{SelectorNode}
use Rattle.ix_selector.specs.declared.state.State.{State}
use Rattle.ix_selector.specs.Pattern.{Pattern, matcher, all, fields, index, range, recursive, union, edge}
use Rattle.ix_selector.specs.Enters.{Step, Path, Frame, Enters, below_all}
use Rattle.ix_selector.specs.IsEntered.{entered_within}
use Rattle.ix_selector.specs.Residual.{Place, IsAmong, here, there, ResidualEnters, residual_enters, EntersAfter, IsAfter}
use Rattle.ix_selector.specs.Places.{places_of, AreNodes}
use Rattle.ix_selector.specs.States.{seen_states}
use Rattle.ix_selector.specs.Behind.{leads_after, leads_after_from, all_lead_after, residual_after, IsLeftAfter, standing, again, entering}
use Rattle.ix_selector.specs.Alike.{LooksAtNoStep, NodeLooksAtNoStep, LookAtNoStep, StateLooksAtNoStep, EachStepLeaves}
use Rattle.ix_selector.proofs.Inside.{place-is}
use Rattle.ix_selector.proofs.Leading.{matcher_nowhere, out_all}

-- ---- one selector

-- a selector that doesn't depend on the step enters the same after any
enters_alike : (s : Pattern) → LooksAtNoStep s → (e : List Frame) (t u : Step) (p : Path) → Enters s e (t ∷ p) → Enters s e (u ∷ p)
enters_alike matcher a e t u p h = absurd (matcher_nowhere t e p h)
enters_alike (all s) a e t u p h = below_all (out_all h)
enters_alike (fields fs) a e t u p h = absurd a
enters_alike (index i s) a e t u p h = absurd a
enters_alike (range i j s) a e t u p h = absurd a
enters_alike (recursive d s) a e t u p h = absurd a
enters_alike (union ss) a e t u p h = absurd a
enters_alike edge a e t u p h = absurd a

-- and the test agrees
tested_alike : (n : ℕ) (s : Pattern) → LooksAtNoStep s → (e : List Frame) (t u : Step) (p : Path) → entered_within n s e (t ∷ p) ≡ entered_within n s e (u ∷ p)
unfolding entered_within
tested_alike zero matcher a e t u p = refl
tested_alike (suc n) matcher a e t u p = refl
tested_alike zero (all s) a e t u p = refl
tested_alike (suc n) (all s) a e t u p = refl
tested_alike n (fields fs) a e t u p = absurd a
tested_alike n (index i s) a e t u p = absurd a
tested_alike n (range i j s) a e t u p = absurd a
tested_alike n (recursive d s) a e t u p = absurd a
tested_alike n (union ss) a e t u p = absurd a
tested_alike n edge a e t u p = absurd a

-- it leads to the same places
lead_alike : (s : Pattern) → LooksAtNoStep s → (t u : Step) (n : ℕ) (e : List Frame) (q : Option ℕ) → leads_after s t n e q ≡ leads_after s u n e q
lead_alike matcher a t u n e q = refl
lead_alike (all s) a t u n e q = refl
lead_alike (fields fs) a t u n e q = absurd a
lead_alike (index i s) a t u n e q = absurd a
lead_alike (range i j s) a t u n e q = absurd a
lead_alike (recursive d s) a t u n e q = absurd a
lead_alike (union ss) a t u n e q = absurd a
lead_alike edge a t u n e q = absurd a

-- ---- all of them

-- selector by selector
residual_enters_alike : (xs : List Place) → LookAtNoStep xs → (t u : Step) (p : Path) → ResidualEnters xs (t ∷ p) → ResidualEnters xs (u ∷ p)
residual_enters_alike xs a t u p h = by xs a h.among h.enters where
  by : (xs : List Place) → LookAtNoStep xs → {x : Place} → IsAmong x xs → Enters x.selector x.around (t ∷ p) → ResidualEnters xs (u ∷ p)
  by [] a n h = elim n [ ]
  by (x ∷ xs) a here h = record { place = x; among = here; enters = enters_alike x.selector a.0 x.around t u p h }
  by (x ∷ xs) a (there n) h = let rest = by xs a.1 n h in record { place = rest.place; among = there rest.among; enters = rest.enters }

-- test by test
residual_tested_alike : (xs : List Place) → LookAtNoStep xs → (t u : Step) (p : Path) → residual_enters xs (t ∷ p) ≡ residual_enters xs (u ∷ p)
residual_tested_alike [] a t u p = refl
residual_tested_alike (x ∷ xs) a t u p =
    let first = tested_alike (length (t ∷ p) + 1) x.selector a.0 x.around t u p in
    let rest = residual_tested_alike xs a.1 t u p in
    λ i. first i || rest i

-- place by place
all_lead_alike : (xs : List Place) → LookAtNoStep xs → (t u : Step) → all_lead_after xs t ≡ all_lead_after xs u
all_lead_alike [] a t u = refl
all_lead_alike (x ∷ xs) a t u =
    let first : leads_after_from x t ≡ leads_after_from x u = lead_alike x.selector a.0 t u _ x.around x.sequence in
    let rest = all_lead_alike xs a.1 t u in
    λ i. first i ++ rest i

-- so the residual is the same after any step
left_alike : (xs : List Place) → LookAtNoStep xs → (t u : Step) → residual_after xs t ≡ residual_after xs u
unfolding residual_after
left_alike xs a t u = let found = all_lead_alike xs a t u in λ i. entering (standing (found i)) (again (found i))

-- what one step leaves, each does
pub each-leaves : (xs r : List Place) (t : Step) → LookAtNoStep xs → ResidualEnters r [] → EntersAfter xs t r → IsAfter xs t (Some r) → IsLeftAfter xs t r → EachStepLeaves xs r
each-leaves xs r t a entered below tested exact = record {
  entered = entered;
  below = λ u p. (λ h. residual_enters_alike xs a t u p ((below p).0 h), λ h. (below p).1 (residual_enters_alike xs a u t p h));
  tested = λ u. (residual_tested_alike xs a u t [] ∙ tested.0, λ p. tested.1 p ∙ residual_tested_alike xs a t u p);
  exact = λ u. exact ∙ left_alike xs a t u;
}

-- states are seen as such places
pub seen-alike_steps : (nodes : List SelectorNode) (xs : List State) → All (StateLooksAtNoStep nodes) xs → LookAtNoStep (seen_states nodes xs)
seen-alike_steps nodes [] h = tt
seen-alike_steps nodes (x ∷ xs) h = (All-head (StateLooksAtNoStep nodes) x xs h, seen-alike_steps nodes xs (All-tail (StateLooksAtNoStep nodes) x xs h))

-- one more state looks at no step
pub state-more : (nodes : List SelectorNode) (xs : List State) (i : ℕ) (x : State) (y : SelectorNode) → AreNodes 0 nodes → i < length xs → x ≡ get_or xs i x → x.place < length nodes → y ≡ get_or nodes x.place y → NodeLooksAtNoStep y
    → All (StateLooksAtNoStep nodes) (take i xs) → All (StateLooksAtNoStep nodes) (take (i + 1) xs)
state-more nodes xs i x y table within is inside at_y looks so_far =
    let more : take (i + 1) xs ≡ take i xs ++ x ∷ [] = take_more xs i x within ∙ ap (λ z. take i xs ++ z ∷ []) (sym is) in
    subst (All (StateLooksAtNoStep nodes)) (sym more)
    (All-push (StateLooksAtNoStep nodes) (take i xs) x so_far (subst LooksAtNoStep (sym (place-is nodes x.place y table inside at_y)) (looks (places_of nodes))))
