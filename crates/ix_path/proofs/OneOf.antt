-- Which places the selector along segments enters.
use Rattle.std.proofs.Common.{◌≡◌, ℕ, List, [], ◌∷◌, refl, sym, subst, pos}
use Rattle.std.specs.Prelude.{Option, Some, None}
use Rattle.ix_selector.specs.Pattern.{Pattern, fields, index, no_fields, field}
use Rattle.ix_selector.specs.Enters.{Step, key, nth, Path, first, head, tail, Enters, at_fields, at_index, below_fields, below_index, in_union}
use Rattle.ix_path.specs.Along.{pattern_along}
use Rattle.ix_path.specs.Segments.{number_of, by_key_or_index, pattern_by_segments, IsPathOf, none, by_key, by_index, IsEnteredAlongOne, EntersOneOf}
use Rattle.ix_path.proofs.Entered.{fields_step, index_step}

-- segments may all be keys
abbrev keys_of : List (List ℕ) → Path
keys_of [] = []
keys_of (g ∷ gs) = key g ∷ keys_of gs

are_keys : (gs : List (List ℕ)) → IsPathOf gs (keys_of gs)
are_keys [] = none
are_keys (g ∷ gs) = by_key (are_keys gs)

-- what is entered along a key is entered along a key or an index
along_key : (g : List ℕ) (o : Option ℕ) (s : Pattern) (place : Path) → Enters (fields (field g s no_fields)) [] place → Enters (by_key_or_index g o s) [] place
along_key g None s place h = h
along_key g (Some n) s place h = in_union head h

along_index : (g : List ℕ) (o : Option ℕ) (n : ℕ) (s : Pattern) (place : Path) → o ≡ Some n → Enters (index (pos n) s) [] place → Enters (by_key_or_index g o s) [] place
along_index g o n s place is h = subst (λ x. Enters (by_key_or_index g x s) [] place) (sym is) (in_union (tail head) h)

-- after a step by a key
after_key : (g : List ℕ) (gs : List (List ℕ)) (s : Pattern) (t : Step) (place : Path) → t ≡ key g → IsEnteredAlongOne gs s place → IsEnteredAlongOne (g ∷ gs) s (t ∷ place)
after_key g gs s t place is h = record {
  path = key g ∷ h.path;
  is = by_key h.is;
  entered = subst (λ x. Enters (fields (field g (pattern_along h.path s) no_fields)) [] (x ∷ place)) (sym is) (below_fields first h.entered);
}

-- after a step by an index
after_index : (g : List ℕ) (gs : List (List ℕ)) (s : Pattern) (t : Step) (n : ℕ) (place : Path) → number_of g ≡ Some n → t ≡ nth n → IsEnteredAlongOne gs s place → IsEnteredAlongOne (g ∷ gs) s (t ∷ place)
after_index g gs s t n place number is h = record {
  path = nth n ∷ h.path;
  is = by_index number h.is;
  entered = subst (λ x. Enters (index (pos n) (pattern_along h.path s)) [] (x ∷ place)) (sym is) (below_index h.entered);
}

-- what is entered, by the number that the segment is
split : (g : List ℕ) (gs : List (List ℕ)) (s : Pattern) (t : Step) (place : Path) → (Enters (pattern_by_segments gs s) [] place → IsEnteredAlongOne gs s place) → (o : Option ℕ) → number_of g ≡ o → Enters (by_key_or_index g o (pattern_by_segments gs s)) [] (t ∷ place) → IsEnteredAlongOne (g ∷ gs) s (t ∷ place)
split g gs s t place below None number h = let found = fields_step h in after_key g gs s t place found.0 (below found.1)
split g gs s t place below (Some n) number (in_union head h) = let found = fields_step h in after_key g gs s t place found.0 (below found.1)
split g gs s t place below (Some n) number (in_union (tail head) h) = let found = index_step h in after_index g gs s t n place number found.0 (below found.1)
split g gs s t place below (Some n) number (in_union (tail (tail nobody)) h) = elim nobody [ ]

only : (gs : List (List ℕ)) (s : Pattern) (place : Path) → Enters (pattern_by_segments gs s) [] place → IsEnteredAlongOne gs s place
only [] s place h = record { path = []; is = none; entered = h }
only (g ∷ gs) s [] h = record { path = key g ∷ keys_of gs; is = by_key (are_keys gs); entered = at_fields }
only (g ∷ gs) s (t ∷ place) h = split g gs s t place (only gs s place) (number_of g) refl h

-- each place along a key, and along an index
each_by_key : (g : List ℕ) (gs : List (List ℕ)) (p : Path) (s : Pattern) (place : Path) → ((rest : Path) → Enters (pattern_along p s) [] rest → Enters (pattern_by_segments gs s) [] rest) → Enters (fields (field g (pattern_along p s) no_fields)) [] place → Enters (by_key_or_index g (number_of g) (pattern_by_segments gs s)) [] place
each_by_key g gs p s [] below h = along_key g (number_of g) (pattern_by_segments gs s) [] at_fields
each_by_key g gs p s (t ∷ place) below h =
    let found = fields_step h in along_key g (number_of g) (pattern_by_segments gs s) (t ∷ place) (subst (λ x. Enters (fields (field g (pattern_by_segments gs s) no_fields)) [] (x ∷ place)) (sym found.0) (below_fields first (below place found.1)))

each_by_index : (g : List ℕ) (gs : List (List ℕ)) (p : Path) (n : ℕ) → number_of g ≡ Some n → (s : Pattern) (place : Path) → ((rest : Path) → Enters (pattern_along p s) [] rest → Enters (pattern_by_segments gs s) [] rest) → Enters (index (pos n) (pattern_along p s)) [] place → Enters (by_key_or_index g (number_of g) (pattern_by_segments gs s)) [] place
each_by_index g gs p n number s [] below h = along_index g (number_of g) n (pattern_by_segments gs s) [] number at_index
each_by_index g gs p n number s (t ∷ place) below h =
    let found = index_step h in along_index g (number_of g) n (pattern_by_segments gs s) (t ∷ place) number (subst (λ x. Enters (index (pos n) (pattern_by_segments gs s)) [] (x ∷ place)) (sym found.0) (below_index (below place found.1)))

-- each of them is entered
each : (gs : List (List ℕ)) (p : Path) → IsPathOf gs p → (s : Pattern) (place : Path) → Enters (pattern_along p s) [] place → Enters (pattern_by_segments gs s) [] place
each [] [] is s place h = h
each [] (t ∷ p) is s place h = elim is [ ]
each (g ∷ gs) [] is s place h = elim is [ ]
each (g ∷ gs) (key k ∷ p) (by_key is) s place h = each_by_key k gs p s place (each gs p is s) h
each (g ∷ gs) (nth n ∷ p) (by_index number is) s place h = each_by_index g gs p n number s place (each gs p is s) h

pub enters_one_of : EntersOneOf
enters_one_of = λ gs s place. (only gs s place, λ h. each gs h.path h.is s place h.entered)
