-- The pieces of a text.
use Rattle.std.proofs.Common.{◌≡◌, ℕ, ◌+◌, ◌-◌, ◌<◌, ◌≤◌, Bool, true, false, not, ◌||◌, cond, ◌==◌, List, [], ◌∷◌, length, take, drop, length-drop, refl, sym, ◌∙◌, ap, arith, ⊎_elim}
use Rattle.std.specs.Prelude.{Option, Some, None, Result, Ok, Err, nat_lt, if◌then◌else◌}
use Rattle.std.specs.List.{slice_split, onto_first, position_or_len, before_first, after_first}
use Rattle.std.proofs.lemmas.List.Splits.{slice_split-cons_no, slice_split_first}
use Rattle.std.proofs.lemmas.Bool.{cases_lt, cond-true, ltb-true, lt-ltb}
use Rattle.std.proofs.lemmas.Option.{cond_some, none-some}
use Rattle.std.proofs.lemmas.List.{take_all, drop_all}
use Rattle.ix_jobs.specs.declared.fault.JobErrorKind.{JobErrorKind}
use Rattle.ix_jobs.specs.declared.fault.JobErrorKind.TheVariants.{Fields}
use Rattle.ix_jobs.specs.Jobs.{◌>>=◌, four_fields}
use Rattle.ix_jobs.specs.LineParts.{first_field, last_field}

found_by : (p : ℕ → Bool) (xs : List ℕ) (n : ℕ) → (if nat_lt (position_or_len p xs) (length xs) then Some (position_or_len p xs) else None) ≡ Some n → (position_or_len p xs ≡ n) × (n < length xs)
found_by p xs n h = let h2 = cond_some (nat_lt (position_or_len p xs) (length xs)) (position_or_len p xs) n h in (h2.1, omega (arith, h2.1, ltb-true (position_or_len p xs) (length xs) h2.0))

-- what `position` answered
pub position-found : (p : ℕ → Bool) (xs : List ℕ) (r : Option ℕ) (n : ℕ) → r ≡ (if nat_lt (position_or_len p xs) (length xs) then Some (position_or_len p xs) else None) → r ≡ Some n → (position_or_len p xs ≡ n) × (n < length xs)
position-found p xs r n found is = found_by p xs n (sym found ∙ is)

pub position-none : (p : ℕ → Bool) (xs : List ℕ) (r : Option ℕ) → r ≡ (if nat_lt (position_or_len p xs) (length xs) then Some (position_or_len p xs) else None) → r ≡ None → length xs ≤ position_or_len p xs
position-none p xs r found is = ⊎_elim (λ lt. absurd (none-some (position_or_len p xs) (sym is ∙ found ∙ cond-true _ _ _ (lt-ltb (position_or_len p xs) (length xs) lt)))) (λ le. le) (cases_lt (position_or_len p xs) (length xs))

-- what is before the first match is the front of the list
pub before_first_at : (p : ℕ → Bool) (xs : List ℕ) (n : ℕ) → (position_or_len p xs ≡ n) × (n < length xs) → take n xs ≡ before_first p xs
before_first_at p xs n h = ap (λ i. take i xs) (sym h.0)

-- what is after the first match is the end of the list
pub after_first_at : (p : ℕ → Bool) (xs : List ℕ) (n : ℕ) → (position_or_len p xs ≡ n) × (n < length xs) → take (length xs - (n + 1)) (drop (n + 1) xs) ≡ after_first p xs
after_first_at p xs n h = take_all (length xs - (n + 1)) (drop (n + 1) xs) (omega (arith, length-drop (n + 1) xs)) ∙ ap (λ i. drop (i + 1) xs) (sym h.0)

-- without a match, the whole list is before it
pub before_first_whole : (p : ℕ → Bool) (xs : List ℕ) → length xs ≤ position_or_len p xs → xs ≡ before_first p xs
before_first_whole p xs h = sym (take_all (position_or_len p xs) xs h)

-- without a match, nothing is after it
pub after_first_whole : (p : ℕ → Bool) (xs : List ℕ) → length xs ≤ position_or_len p xs → [] ≡ after_first p xs
after_first_whole p xs h = sym (drop_all (position_or_len p xs + 1) xs (omega (arith, h)))

-- with no separator there is one piece
pub slice_split_whole : (p : ℕ → Bool) (xs : List ℕ) → position_or_len p xs ≡ length xs → slice_split p xs ≡ xs ∷ []
slice_split_whole p [] h = refl
slice_split_whole p (x ∷ xs) h = on_test (slice_split_whole p xs) (p x) refl where
  on_test : (position_or_len p xs ≡ length xs → slice_split p xs ≡ xs ∷ []) → (b : Bool) → p x ≡ b → slice_split p (x ∷ xs) ≡ (x ∷ xs) ∷ []
  on_test behind true e = let at_front : position_or_len p (x ∷ xs) ≡ 0 = ap (λ b. cond (not b) (1 + position_or_len p xs) 0) e in absurd (omega (arith, h, at_front))
  on_test rest_whole false e =
      let behind : position_or_len p (x ∷ xs) ≡ 1 + position_or_len p xs = ap (λ b. cond (not b) (1 + position_or_len p xs) 0) e in
      let rest : position_or_len p xs ≡ length xs = omega (arith, h, behind) in
      slice_split-cons_no p x xs e ∙ ap (onto_first x) (rest_whole rest)

-- there is a piece at least
pub slice_split_some : (p : ℕ → Bool) (xs : List ℕ) → (a : List ℕ) × (more : List (List ℕ)) × (slice_split p xs ≡ a ∷ more)
slice_split_some p [] = ([], [], refl)
slice_split_some p (x ∷ xs) = on_pieces (p x) (slice_split p xs) where
  on_first : (pieces : List (List ℕ)) → (a : List ℕ) × (more : List (List ℕ)) × (onto_first x pieces ≡ a ∷ more)
  on_first [] = (x ∷ [], [], refl)
  on_first (a ∷ more) = (x ∷ a, more, refl)

  on_pieces : (b : Bool) (pieces : List (List ℕ)) → (a : List ℕ) × (more : List (List ℕ)) × (cond b ([] ∷ pieces) (onto_first x pieces) ≡ a ∷ more)
  on_pieces true pieces = ([], pieces, refl)
  on_pieces false pieces = on_first pieces

first_of : (a b : List ℕ) (more pieces : List (List ℕ)) → pieces ≡ b ∷ more → (length a == 0) ≡ false → first_field (a ∷ pieces) ≡ Ok (a, pieces)
first_of a b more pieces e h = rw e (ap (λ (t : Bool). if t then Err Fields else Ok (a, b ∷ more)) h)

none_of : (a b : List ℕ) (more pieces : List (List ℕ)) → pieces ≡ b ∷ more → (length a == 0) ≡ true → first_field (a ∷ pieces) ≡ Err Fields
none_of a b more pieces e h = rw e (ap (λ (t : Bool). if t then Err Fields else Ok (a, b ∷ more)) h)

-- the field before the first separator
pub first_field_found : (p : ℕ → Bool) (xs a rest : List ℕ) → position_or_len p xs < length xs → a ≡ before_first p xs → rest ≡ after_first p xs → (length a == 0) ≡ false → first_field (slice_split p xs) ≡ Ok (a, slice_split p rest)
first_field_found p xs a rest lt is_a is_rest some =
    let pieces = slice_split_some p rest in
    let cut : slice_split p xs ≡ a ∷ slice_split p rest = slice_split_first p xs 0 lt ∙ (let g : List ℕ → List ℕ → List (List ℕ) = λ x y. x ∷ slice_split p y in ap (λ x. g x (after_first p xs)) (sym is_a) ∙ ap (λ y. g a y) (sym is_rest)) in
    ap first_field cut ∙ first_of a pieces.0 pieces.1 (slice_split p rest) pieces.2 some

-- no field before the first separator
pub first_field_empty : (p : ℕ → Bool) (xs a rest : List ℕ) → position_or_len p xs < length xs → a ≡ before_first p xs → rest ≡ after_first p xs → (length a == 0) ≡ true → first_field (slice_split p xs) ≡ Err Fields
first_field_empty p xs a rest lt is_a is_rest none =
    let pieces = slice_split_some p rest in
    let cut : slice_split p xs ≡ a ∷ slice_split p rest = slice_split_first p xs 0 lt ∙ (let g : List ℕ → List ℕ → List (List ℕ) = λ x y. x ∷ slice_split p y in ap (λ x. g x (after_first p xs)) (sym is_a) ∙ ap (λ y. g a y) (sym is_rest)) in
    ap first_field cut ∙ none_of a pieces.0 pieces.1 (slice_split p rest) pieces.2 none

-- no separator
pub first_field_none : (p : ℕ → Bool) (xs : List ℕ) → position_or_len p xs ≡ length xs → first_field (slice_split p xs) ≡ Err Fields
first_field_none p xs e = ap first_field (slice_split_whole p xs e)

-- without a space, a text that isn't empty is the last field
pub last_field_found : (p : ℕ → Bool) (xs : List ℕ) → position_or_len p xs ≡ length xs → (length xs == 0) ≡ false → last_field (slice_split p xs) ≡ Ok xs
last_field_found p xs e some = ap last_field (slice_split_whole p xs e) ∙ ap (λ (t : Bool). if t then Err Fields else Ok xs) some

-- without a space, an empty text is no field
pub last_field_empty : (p : ℕ → Bool) (xs : List ℕ) → position_or_len p xs ≡ length xs → (length xs == 0) ≡ true → last_field (slice_split p xs) ≡ Err Fields
last_field_empty p xs e none = ap last_field (slice_split_whole p xs e) ∙ ap (λ (t : Bool). if t then Err Fields else Ok xs) none

-- with a space, a text is not the last field
pub last_field_more : (p : ℕ → Bool) (xs : List ℕ) → position_or_len p xs < length xs → last_field (slice_split p xs) ≡ Err Fields
last_field_more p xs lt =
    let pieces = slice_split_some p (after_first p xs) in
    ap last_field (slice_split_first p xs 0 lt) ∙ ap (λ more. last_field (before_first p xs ∷ more)) pieces.2

abbrev Four : Type 0
Four = List ℕ × List ℕ × List ℕ × List ℕ

abbrev pub fourth : List ℕ → List ℕ → List ℕ → List (List ℕ) → Result (List ℕ × List ℕ × List ℕ × List ℕ) JobErrorKind
fourth a b c pieces = last_field pieces >>= (λ d. let four : List ℕ × List ℕ × List ℕ × List ℕ = (a, b, c, d) in Ok four)

abbrev pub third : List ℕ → List ℕ → List (List ℕ) → Result (List ℕ × List ℕ × List ℕ × List ℕ) JobErrorKind
third a b pieces = first_field pieces >>= (λ c. fourth a b c.0 c.1)

abbrev pub second : List ℕ → List (List ℕ) → Result (List ℕ × List ℕ × List ℕ × List ℕ) JobErrorKind
second a pieces = first_field pieces >>= (λ b. third a b.0 b.1)

-- four fields, read one after another
abbrev pub fields_in_turn : List (List ℕ) → Result (List ℕ × List ℕ × List ℕ × List ℕ) JobErrorKind
fields_in_turn pieces = first_field pieces >>= (λ a. second a.0 a.1)

fails_on : {A B : Type 0} (t : Bool) (x : A) (g : A → Result B JobErrorKind) → g x ≡ Err Fields → Err Fields ≡ ((if t then Err Fields else Ok x) >>= g)
fails_on true x g h = refl
fails_on false x g h = sym h

passes_on : {A B : Type 0} (t more : Bool) (x : A) (g : A → Result B JobErrorKind) (y : Result B JobErrorKind) → (if more then Err Fields else y) ≡ g x → (if t || more then Err Fields else y) ≡ ((if t then Err Fields else Ok x) >>= g)
passes_on true more x g y h = refl
passes_on false more x g y h = h

-- reading the four fields one by one gives the fields of the pieces
pub four_fields_in_turn : (pieces : List (List ℕ)) → four_fields pieces ≡ fields_in_turn pieces
four_fields_in_turn [] = refl
four_fields_in_turn (a ∷ []) = refl
four_fields_in_turn (a ∷ b ∷ []) = let at_a : List ℕ × List (List ℕ) = (a, b ∷ []) in fails_on (length a == 0) at_a (λ x. second x.0 x.1) refl
four_fields_in_turn (a ∷ b ∷ c ∷ []) =
    let at_a : List ℕ × List (List ℕ) = (a, b ∷ c ∷ []) in
    let at_b : List ℕ × List (List ℕ) = (b, c ∷ []) in
    fails_on (length a == 0) at_a (λ x. second x.0 x.1) (sym (fails_on (length b == 0) at_b (λ x. third a x.0 x.1) refl))
four_fields_in_turn (a ∷ b ∷ c ∷ d ∷ []) =
    let at_a : List ℕ × List (List ℕ) = (a, b ∷ c ∷ d ∷ []) in
    let at_b : List ℕ × List (List ℕ) = (b, c ∷ d ∷ []) in
    let at_c : List ℕ × List (List ℕ) = (c, d ∷ []) in
    let four : Four = (a, b, c, d) in
    let last : List ℕ → Result Four JobErrorKind = λ d. let f : Four = (a, b, c, d) in Ok f in
    passes_on (length a == 0) ((length b == 0) || ((length c == 0) || ((length d == 0) || false))) at_a (λ x. second x.0 x.1) (Ok four)
    (passes_on (length b == 0) ((length c == 0) || ((length d == 0) || false)) at_b (λ x. third a x.0 x.1) (Ok four)
    (passes_on (length c == 0) ((length d == 0) || false) at_c (λ x. fourth a b x.0 x.1) (Ok four) (passes_on (length d == 0) false d last (Ok four) refl)))
four_fields_in_turn (a ∷ b ∷ c ∷ d ∷ e ∷ more) =
    let at_a : List ℕ × List (List ℕ) = (a, b ∷ c ∷ d ∷ e ∷ more) in
    let at_b : List ℕ × List (List ℕ) = (b, c ∷ d ∷ e ∷ more) in
    let at_c : List ℕ × List (List ℕ) = (c, d ∷ e ∷ more) in
    fails_on (length a == 0) at_a (λ x. second x.0 x.1)
    (sym (fails_on (length b == 0) at_b (λ x. third a x.0 x.1) (sym (fails_on (length c == 0) at_c (λ x. fourth a b x.0 x.1) refl))))
