-- Indices in decimal.
use Rattle.std.proofs.Common.{◌≡◌, ◌≢◌, ℕ, ◌<◌, ◌^◌, true, List, [], ◌∷◌, length, get_or, sym, ◌∙◌, ap, arith, rules}
use Rattle.std.specs.Prelude.{Some, None, Result, Ok, Err}
use Rattle.std.specs.Option.{SomeIff}
use Rattle.std.specs.Borrow.{Bor}
use Rattle.std.specs.Result.{MatchResult, OkIff, result_ok}
use Rattle.std.proofs.lemmas.Option.{same_Some}
use Rattle.std.specs.Char.{is_ascii_digit}
use Rattle.std.specs.List.{list_all}
use Rattle.std.specs.Str.{IsAscii, IsUtf8}
use Rattle.std.specs.Str.Parse.{ParsesUnsigned, digits_value}
use Rattle.std.proofs.lemmas.Bool.{and_parts}
use Rattle.std.proofs.lemmas.Bool.Decides.{nat_tests}
use Rattle.std.proofs.lemmas.Str.{IsUtf8-from_ascii}
use Rattle.std.proofs.lemmas.Str.Ascii.{IsAscii-nil, IsAscii-cons}
use Rattle.std.proofs.lemmas.Str.Parse.{IsDigitsTest, IsNumeralModel, numerals_by_value, parse_plain}
use Rattle.ix_path.specs.Children.{is_index}

tells_digits_all : IsDigitsTest (λ ds. list_all is_ascii_digit ds ≡ true)
tells_digits_all = search rules

own : IsNumeralModel (λ ds. list_all is_ascii_digit ds ≡ true) (digits_value 10)
own = numerals_by_value _ tells_digits_all

-- an index is digits, at least one
index_digits : (s : List ℕ) → is_index s ≡ true → (list_all is_ascii_digit s ≡ true) × (0 < length s)
index_digits [] e = absurd cc
index_digits (d ∷ ds) e = ((and_parts (list_all is_ascii_digit (d ∷ ds)) _ e).0, omega arith)

-- a digit is no plus sign, and is below 128
digit_plain : (d : ℕ) → is_ascii_digit d ≡ true → (d ≢ 43) × (d < 128)
digit_plain d h = (λ e. grind (arith, nat_tests), grind (arith, nat_tests))

-- digits are ASCII
ascii_digits : (s : List ℕ) → list_all is_ascii_digit s ≡ true → IsAscii s
ascii_digits [] h = IsAscii-nil
ascii_digits (d ∷ ds) h =
    let p = and_parts (is_ascii_digit d) (list_all is_ascii_digit ds) h in IsAscii-cons d ds (digit_plain d p.0).1 (ascii_digits ds p.1)

-- so an index is text
pub index_is_text : (s : List ℕ) → is_index s ≡ true → IsUtf8 s
index_is_text s e = IsUtf8-from_ascii s (ascii_digits s (index_digits s e).0)

-- that doesn't begin with a sign
first_plain : (s : List ℕ) → list_all is_ascii_digit s ≡ true → 0 < length s → get_or s 0 0 ≢ 43
first_plain [] h some = absurd (omega arith)
first_plain (d ∷ ds) h some = (digit_plain d (and_parts (is_ascii_digit d) (list_all is_ascii_digit ds) h).0).0

-- what parsing it gives
pub index_parsed : {E : Type 0} (s : List ℕ) (r : Result ℕ E) → is_index s ≡ true → ParsesUnsigned 64 10 s r → SomeIff (result_ok r) ((is_index s ≡ true) × (digits_value 10 s < 2 ^ 64)) (digits_value 10 s)
index_parsed s r e parses = let d = index_digits s e in on r (parse_plain own 64 s r parses (first_plain s d.0 d.1)) where
  on : {E : Type 0} (r : Result ℕ E) → OkIff r ((list_all is_ascii_digit s ≡ true) × (0 < length s) × (digits_value 10 s < 2 ^ 64)) (digits_value 10 s)
      → SomeIff (result_ok r) ((is_index s ≡ true) × (digits_value 10 s < 2 ^ 64)) (digits_value 10 s)
  on (Ok n) h = ((e, h.0.2), h.1)
  on (Err f) h = λ p. let d = index_digits s e in h (d.0, d.1, p.1)

-- what can't be read as text is none
pub no_text : {E : Type 0} (r : Result (Bor (List ℕ)) E) (bs : List ℕ) (Q : E → Type 0) → MatchResult r (λ s. (s.now ≡ bs) × IsUtf8 bs) (λ e. (IsUtf8 bs → ⊥) × Q e) → result_ok r ≡ None → IsUtf8 bs → ⊥
no_text (Ok s) bs Q h e = absurd cc
no_text (Err f) bs Q h e = h.0

-- what can is the bytes
pub ok_text : {E : Type 0} (r : Result (Bor (List ℕ)) E) (bs : List ℕ) (Q : E → Type 0) (x : Bor (List ℕ)) → MatchResult r (λ s. (s.now ≡ bs) × IsUtf8 bs) Q → result_ok r ≡ Some x → x.now ≡ bs
ok_text (Ok s) bs Q x h e = ap (λ (t : Bor (List ℕ)). t.now) (sym (same_Some s x e)) ∙ h.0
ok_text (Err f) bs Q x h e = absurd cc
