-- What parsing says of a limit.
use Rattle.std.proofs.Common.{◌≡◌, ◌≢◌, ℕ, ◌+◌, ◌*◌, ◌≤◌, Bool, true, false, not, ◌&&◌, ◌==◌, nat_le, List, [], ◌∷◌, get_or, refl, sym, ◌∙◌, ap, arith}
use Rattle.std.specs.Prelude.{Result, Ok, Err, if◌then◌else◌}
use Rattle.std.specs.Char.{digit_value}
use Rattle.std.specs.Str.{all_ascii_digits}
use Rattle.std.specs.Str.Parse.{ParsesUnsigned, digits_value, digits_value_after}
use Rattle.std.proofs.lemmas.Bool.{and_parts, and_from, false_from_ne_true}
use Rattle.std.proofs.lemmas.Bool.Decides.{nat_tests}
use Rattle.std.proofs.lemmas.Result.{OkIff-at_ok, OkIff-at_err}
use Rattle.std.proofs.lemmas.Str.Parse.{IsNumeralModel, numerals_by_value, tells_all_ascii_digits, parse_plain}
use Rattle.ix_jobs.specs.declared.fault.JobErrorKind.{JobErrorKind}
use Rattle.ix_jobs.specs.declared.fault.JobErrorKind.TheVariants.{Limit}
use Rattle.ix_jobs.specs.Jobs.{limit_in}

own : IsNumeralModel (λ ds. all_ascii_digits ds ≡ true) (digits_value 10)
own = numerals_by_value _ tells_all_ascii_digits

-- more digits make no smaller number
value_after-above : (n : ℕ) (cs : List ℕ) → n ≤ digits_value_after 10 n cs
value_after-above n [] = omega arith
value_after-above n (c ∷ cs) = omega (arith, value_after-above (n * 10 + digit_value c) cs)

-- a digit from 1 to 9 is at least 1
digit_above : (d : ℕ) → 49 ≤ d → d ≤ 57 → 1 ≤ digit_value d
digit_above d low high = grind (arith, nat_tests)

-- digits without a leading zero make at least 1
value_above : (d : ℕ) (ds : List ℕ) → 49 ≤ d → d ≤ 57 → 1 ≤ digits_value 10 (d ∷ ds)
value_above d ds low high = omega (arith, value_after-above (0 * 10 + digit_value d) ds, digit_above d low high)

abbrev fits : ℕ → ℕ → List ℕ → Bool
fits greatest d ds = (all_ascii_digits (d ∷ ds) && not (d == 48)) && nat_le (digits_value 10 (d ∷ ds)) greatest

limit_if : ℕ → List ℕ → Bool → Result ℕ JobErrorKind
limit_if d ds b = if b then Ok (digits_value 10 (d ∷ ds)) else Err Limit

-- a digit from 1 to 9 is not 0
first_fits : (d : ℕ) → 49 ≤ d → not (d == 48) ≡ true
first_fits d low = grind (arith, nat_tests)

-- a digit is no plus sign
no_plus : (d : ℕ) → 49 ≤ d → d ≢ 43
no_plus d low e = omega (arith, e)

-- a limit of at most the greatest passes the test
limit-passes : (greatest v : ℕ) → v ≤ greatest → nat_le v greatest ≡ true
limit-passes greatest v h = grind (arith, nat_tests)

-- a limit that passes the test is at most the greatest
limit-small : (greatest v : ℕ) → nat_le v greatest ≡ true → v ≤ greatest
limit-small greatest v h = grind (arith, nat_tests)

-- a number that is parsed and within the bound
pub limit_in-ok : {E : Type 0} (greatest : ℕ) (bs : List ℕ) (r : Result ℕ E) (n : ℕ) → 49 ≤ get_or bs 0 0 → get_or bs 0 0 ≤ 57 → ParsesUnsigned 32 10 bs r → r ≡ Ok n → n ≤ greatest → (limit_in greatest bs ≡ Ok n) × (1 ≤ n)
unfolding limit_if
limit_in-ok greatest [] r n low high parses is few = absurd (omega (arith, low))
limit_in-ok greatest (d ∷ ds) r n low high parses is few =
    let found = OkIff-at_ok r _ (digits_value 10 (d ∷ ds)) n (parse_plain own 32 (d ∷ ds) r parses (no_plus d low)) is in
    let same : digits_value 10 (d ∷ ds) ≡ n = sym found.1 in
    let passes : fits greatest d ds ≡ true = and_from _ _ (and_from _ _ found.0.0 (first_fits d low)) (limit-passes greatest (digits_value 10 (d ∷ ds)) (omega (arith, same, few))) in
    (ap (limit_if d ds) passes ∙ ap Ok same, omega (arith, same, value_above d ds low high))

-- no number, or one that is greater still
pub limit_in-err : {E : Type 0} (greatest : ℕ) → greatest ≤ 4294967295 → (bs : List ℕ) (r : Result ℕ E) (e : E) → 49 ≤ get_or bs 0 0 → ParsesUnsigned 32 10 bs r → r ≡ Err e → limit_in greatest bs ≡ Err Limit
unfolding limit_if
limit_in-err greatest below [] r e low parses is = refl
limit_in-err greatest below (d ∷ ds) r e low parses is =
    let plain = parse_plain own 32 (d ∷ ds) r parses (no_plus d low) in
    let fails : fits greatest d ds ≡ false =
    false_from_ne_true (fits greatest d ds) (λ passes.
    let halves = and_parts (all_ascii_digits (d ∷ ds) && not (d == 48)) (nat_le (digits_value 10 (d ∷ ds)) greatest) passes in
    let few = limit-small greatest (digits_value 10 (d ∷ ds)) halves.1 in
    OkIff-at_err r _ (digits_value 10 (d ∷ ds)) e plain is ((and_parts (all_ascii_digits (d ∷ ds)) (not (d == 48)) halves.0).0, omega arith, omega (arith, few, below))) in
    ap (limit_if d ds) fails
