-- Which places the selector along a path enters.
use Rattle.std.proofs.Common.{◌≡◌, ℕ, List, [], ◌∷◌, ◌++◌, refl, sym, ◌∙◌, ap, subst, append-nil, pos, inl, inr}
use Rattle.std.specs.Prelude.{◌⊎◌, None, Result, Ok, Err}
use Rattle.ix_selector.specs.declared.fault.SelFault.{SelFault}
use Rattle.ix_selector.specs.Pattern.{Pattern, matcher, all, fields, index, edge, no_fields, field, everything}
use Rattle.ix_selector.specs.Enters.{Step, key, nth, Path, first, later, Enters, at_matcher, at_all, at_fields, at_index, below_all, below_fields, below_index, in_recursion, at_edge}
use Rattle.ix_selector.specs.Reading.{selector_of}
use Rattle.ix_selector.proofs.Guarded.{err_no_ok, ok_same, reads_selector}
use Rattle.ix_path.specs.declared.end.PathEnd.{PathEnd}
use Rattle.ix_path.specs.declared.end.PathEnd.TheVariants as ends
use Rattle.ix_path.specs.Along.{pattern_along}
use Rattle.ix_path.specs.End.{read_at_end, selector_at_end}
use Rattle.ix_path.specs.Entered.{IsBeforeEnd, IsEnteredFromEnd, IsOn, IsBelow, EntersAlong, EntersThePath, EntersAllBelow, EntersItsEnd, KeepsWhatEnters}
use Rattle.ix_path.proofs.OwnPlace.{end_entered, kept_at_end}

-- a field selects its key alone
pub fields_step : {k : List ℕ} {s : Pattern} {t : Step} {place : Path} → Enters (fields (field k s no_fields)) [] (t ∷ place) → (t ≡ key k) × Enters s [] place
fields_step (below_fields first h) = (refl, h)
fields_step (below_fields (later named) h) = elim named [ ]

-- an index selects its position alone
pub index_step : {n : ℕ} {s : Pattern} {t : Step} {place : Path} → Enters (index (pos n) s) [] (t ∷ place) → (t ≡ nth n) × Enters s [] place
index_step (below_index h) = (refl, h)

-- what is entered after the first step
onto : (t u : Step) (p : Path) (s : Pattern) (place : Path) → u ≡ t → (IsBeforeEnd p place ⊎ IsEnteredFromEnd p s place) → IsBeforeEnd (t ∷ p) (u ∷ place) ⊎ IsEnteredFromEnd (t ∷ p) s (u ∷ place)
onto t u p s place same (inl h) = inl (record { next = h.next; rest = h.rest; path = ap (λ x. x ∷ p) (sym same) ∙ ap (λ q. u ∷ q) h.path })
onto t u p s place same (inr h) = inr (record { rest = h.rest; place_is = ap (λ x. x ∷ place) same ∙ ap (λ q. t ∷ q) h.place_is; entered = h.entered })

-- no other place is entered
only : (p : Path) (s : Pattern) (place : Path) → Enters (pattern_along p s) [] place → IsBeforeEnd p place ⊎ IsEnteredFromEnd p s place
only [] s place h = inr (record { rest = place; place_is = refl; entered = h })
only (t ∷ p) s [] h = inl (record { next = t; rest = p; path = refl })
only (key k ∷ p) s (u ∷ place) h = let found = fields_step h in onto (key k) u p s place found.0 (only p s place found.1)
only (nth n ∷ p) s (u ∷ place) h = let found = index_step h in onto (nth n) u p s place found.0 (only p s place found.1)

-- the places before the end are entered
before_end : (place : Path) (next : Step) (rest : Path) (s : Pattern) → Enters (pattern_along (place ++ next ∷ rest) s) [] place
before_end [] (key k) rest s = at_fields
before_end [] (nth n) rest s = at_index
before_end (key k ∷ place) next rest s = below_fields first (before_end place next rest s)
before_end (nth n ∷ place) next rest s = below_index (before_end place next rest s)

-- and so is what the selector at the end enters
from_end : (p rest : Path) (s : Pattern) → Enters s [] rest → Enters (pattern_along p s) [] (p ++ rest)
from_end [] rest s h = h
from_end (key k ∷ p) rest s h = below_fields first (from_end p rest s h)
from_end (nth n ∷ p) rest s h = below_index (from_end p rest s h)

-- each of them
each : (p : Path) (s : Pattern) (place : Path) → (IsBeforeEnd p place ⊎ IsEnteredFromEnd p s place) → Enters (pattern_along p s) [] place
each p s place (inl h) = subst (λ q. Enters (pattern_along q s) [] place) (sym h.path) (before_end place h.next h.rest s)
each p s place (inr h) = subst (λ q. Enters (pattern_along p s) [] q) (sym h.place_is) (from_end p h.rest s h.entered)

pub enters_along : EntersAlong
enters_along = λ p s place. (only p s place, each p s place)

-- a place on the path is before the end or the end
on_path : (p : Path) (s : Pattern) (place rest : Path) → p ≡ place ++ rest → Enters s [] [] → IsBeforeEnd p place ⊎ IsEnteredFromEnd p s place
on_path p s place [] is h = inr (record { rest = []; place_is = sym (append-nil place) ∙ sym is ∙ sym (append-nil p); entered = h })
on_path p s place (t ∷ rest) is h = inl (record { next = t; rest = rest; path = is })

-- a matcher enters its own place alone
matcher_place : {rest : Path} → Enters matcher [] rest → rest ≡ []
matcher_place at_matcher = refl

-- what is entered with a matcher at the end is on the path
alone_only : (p place : Path) → (IsBeforeEnd p place ⊎ IsEnteredFromEnd p matcher place) → IsOn p place
alone_only p place (inl h) = record { rest = h.next ∷ h.rest; path = h.path }
alone_only p place (inr h) =
    record { rest = []; path = sym (h.place_is ∙ ap (λ r. p ++ r) (matcher_place h.entered) ∙ append-nil p) ∙ sym (append-nil place) }

pub enters_the_path : EntersThePath
enters_the_path = λ p place. (λ h. alone_only p place (only p matcher place h), λ h. each p matcher place (on_path p matcher place h.rest h.path at_matcher))

-- everything below is entered inside the recursion
everywhere : (rest : Path) → Enters (all edge) (record { sequence = all edge; depth = None } ∷ []) rest
everywhere [] = at_all
everywhere (t ∷ rest) = below_all (at_edge (everywhere rest))

-- each place is entered by the selector of everything
all_entered : (rest : Path) → Enters everything [] rest
all_entered rest = in_recursion (everywhere rest)

-- what is entered with everything at the end
below_only : (p place : Path) → (IsBeforeEnd p place ⊎ IsEnteredFromEnd p everything place) → IsOn p place ⊎ IsBelow p place
below_only p place (inl h) = inl (record { rest = h.next ∷ h.rest; path = h.path })
below_only p place (inr h) = inr (record { rest = h.rest; place_is = h.place_is })

-- and all of that is
below_each : (p place : Path) → (IsOn p place ⊎ IsBelow p place) → IsBeforeEnd p place ⊎ IsEnteredFromEnd p everything place
below_each p place (inl h) = on_path p everything place h.rest h.path (all_entered [])
below_each p place (inr h) = inr (record { rest = h.rest; place_is = h.place_is; entered = all_entered h.rest })

pub enters_all_below : EntersAllBelow
enters_all_below = λ p place. (λ h. below_only p place (only p everything place h), λ h. each p everything place (below_each p place h))

-- what was read for an end enters its own place
read_entered : (read : Result Pattern SelFault) (s : Pattern) → read_at_end read ≡ Ok s → Enters s [] []
read_entered (Ok t) s h = subst (λ q. Enters q [] []) (ok_same _ s h) (end_entered t)
read_entered (Err fault) s h = err_no_ok fault h

-- and so does whatever is at an end
at_end_entered : (end : PathEnd) (s : Pattern) → selector_at_end end ≡ Ok s → Enters s [] []
at_end_entered ends.Node s h = subst (λ q. Enters q [] []) (ok_same matcher s h) at_matcher
at_end_entered ends.Everything s h = subst (λ q. Enters q [] []) (ok_same everything s h) (all_entered [])
at_end_entered (ends.Selector d) s h = read_entered (selector_of d) s h

pub enters_its_end : EntersItsEnd
enters_its_end = λ end s p place at on. each p s place (on_path p s place on.rest on.path (at_end_entered end s at))

pub keeps_what_enters : KeepsWhatEnters
keeps_what_enters = λ d s place read h. ap read_at_end read ∙ ap (λ q. Ok q) (kept_at_end s place (reads_selector d s read) h)
