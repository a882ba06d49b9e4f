-- The test of a residual decides what it enters, where its selectors keep the rules on edges.
use Rattle.std.proofs.Common.{◌≡◌, ◌+◌, ◌≤◌, ⊎_elim, true, true≢false, List, [], ◌∷◌, length, sym, ◌∙◌, arith}
use Rattle.std.specs.Prelude.{◌↔◌, Some, None}
use Rattle.std.proofs.lemmas.Bool.{or_cases, or_left, or_right, false_from_ne_true}
use Rattle.std.specs.Cmp.{both_ways}
use Rattle.ix_selector.specs.Pattern.{Pattern, Around, outside, guarded, IsGuarded, IsSelector}
use Rattle.ix_selector.specs.Enters.{Step, Path, Frame, Enters}
use Rattle.ix_selector.specs.IsEntered.{entered_within, is_entered}
use Rattle.ix_selector.specs.Residual.{Place, IsAmong, here, there, ResidualEnters, residual_enters, IsAfter}
use Rattle.ix_selector.proofs.Decides.{within_sound, within_is, entered-complete, edges, FramesGuarded, is_entered-decides}

-- what surrounds a place
abbrev pub around_of : List Frame → Around
around_of [] = outside
around_of (f ∷ e) = guarded

-- the selectors are guarded, and so are the sequences of their recursions
abbrev pub ArePlaces : List Place → Type 0
ArePlaces [] = Unit {0}
ArePlaces (x ∷ xs) = (IsGuarded (around_of x.around) x.selector × FramesGuarded x.around) × ArePlaces xs

-- along a path at most one edge more than steps is followed
few_edges : (e : List Frame) (p : Path) → edges (around_of e) p ≤ length p + 1
few_edges [] p = omega arith
few_edges (f ∷ e) p = omega arith

-- what the test of a residual accepts is entered
pub residual_sound : (places : List Place) (p : Path) → residual_enters places p ≡ true → ResidualEnters places p
residual_sound [] p h = absurd (true≢false (sym h))
residual_sound (x ∷ xs) p h =
    ⊎_elim
    (λ (y : entered_within (length p + 1) x.selector x.around p ≡ true). record { place = x; among = here; enters = within_sound (length p + 1) x.selector x.around p y })
    (λ (y : residual_enters xs p ≡ true). let more = residual_sound xs p y in record { place = more.place; among = there more.among; enters = more.enters })
    (or_cases (entered_within (length p + 1) x.selector x.around p) (residual_enters xs p) h)

-- if one of the places enters, the test accepts
among_entered : {x : Place} {xs : List Place} (p : Path) → IsAmong x xs → ArePlaces xs → Enters x.selector x.around p → residual_enters xs p ≡ true
among_entered p (here {x = x} {xs = xs}) g h =
    or_left _ _ (within_is (length p + 1) x.selector x.around p ∙ entered-complete (length p + 1) (around_of x.around) h g.0.0 g.0.1 (few_edges x.around p))
among_entered p (there a) g h = or_right _ _ (among_entered p a g.1 h)

-- so what is entered is accepted
pub residual_complete : (places : List Place) (p : Path) → ArePlaces places → ResidualEnters places p → residual_enters places p ≡ true
residual_complete places p g h = among_entered p h.among g h.enters

-- a residual that enters what a selector does tests as the selector does
pub start_tested : (places : List Place) (s : Pattern) → ArePlaces places → IsSelector s → ((p : Path) → (ResidualEnters places p ↔ Enters s [] p)) → (p : Path) → residual_enters places p ≡ is_entered s p
start_tested places s g is same p =
    both_ways _ _ (λ h. (is_entered-decides s p is).1 ((same p).0 (residual_sound places p h))) (λ h. residual_complete places p g ((same p).1 ((is_entered-decides s p is).0 h)))

-- the clauses of a step give what the tests say
pub step_tested_some : (places behind : List Place) (t : Step) → ArePlaces places → ArePlaces behind → ResidualEnters behind [] → ((p : Path) → (ResidualEnters behind p ↔ ResidualEnters places (t ∷ p))) → IsAfter places t (Some behind)
step_tested_some places behind t g gs entered same = (
  residual_complete places (t ∷ []) g ((same []).0 entered),
  λ p.
      both_ways _ _ (λ h. residual_complete places (t ∷ p) g ((same p).0 (residual_sound behind p h))) (λ h. residual_complete behind p gs ((same p).1 (residual_sound places (t ∷ p) h))),
)

-- a child that isn't entered is rejected by the test
pub step_tested_none : (places : List Place) (t : Step) → (ResidualEnters places (t ∷ []) → ⊥) → IsAfter places t None
step_tested_none places t h = false_from_ne_true (residual_enters places (t ∷ [])) (λ e. h (residual_sound places (t ∷ []) e))
