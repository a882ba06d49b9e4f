-- An integer in decimal is a number of JSON, whatever its sign.
use Rattle.std.proofs.Common.{◌≡◌, ℕ, ℤ, pos, negsuc, zero, suc, ◌+◌, ◌^◌, ◌%◌, ◌<◌, ◌≤◌, false, cond, ◌==◌, List, [], ◌∷◌, length, drop, get_or, Some, option_and_then, decimal, refl, ap, ◌∙◌, arith}
use Rattle.std.proofs.lemmas.Bool.{ne_eqb, le-leb, and_from}
use Rattle.std.proofs.lemmas.List.{drop_all, length-append}
use Rattle.std.proofs.Math.ListN.{get_or-append}
use Rattle.std.proofs.lemmas.Fmt.{decimal_is_IsNumeral_wide, decimal_by_steps_wide, decimal_digit}
use Rattle.std.proofs.lemmas.Str.Parse.{digit_at}
use Rattle.std.specs.Fmt.{signed_decimal}
use Rattle.std.specs.List.{prefix_len}
use Rattle.std.specs.Char.{is_ascii_digit}
use Rattle.std.specs.Prelude.{FitsSigned}
use Rattle.std.specs.Int.{w128}
use Rattle.json.specs.Word.{head, after_whole, after_fraction, after_exponent, after_number}
use Rattle.json.specs.Print.{IsNumber}

-- the codes of decimal digits alone
abbrev AreDigits : List ℕ → Type 0
AreDigits ds = (i : ℕ) → i < length ds → (48 ≤ get_or ds i 0) × (get_or ds i 0 ≤ 57)

-- each is taken as a digit
taken : (ds : List ℕ) → AreDigits ds → prefix_len is_ascii_digit ds ≡ length ds
taken [] h = refl
taken (d ∷ ds) h =
    let first = h 0 (omega arith) in
    let rest = taken ds (λ i l. h (suc i) (omega arith)) in
    ap (λ b. cond b (1 + prefix_len is_ascii_digit ds) 0) (and_from _ _ (le-leb 48 d first.0) (le-leb d 57 first.1)) ∙ omega arith

-- a number with a minus before it or none
abbrev AreNumbers : List ℕ → Type 0
AreNumbers ds = IsNumber ds × IsNumber (45 ∷ ds)

-- digits of which the first is no zero
numbers_from : (ds : List ℕ) → 48 < get_or ds 0 0 → AreDigits ds → AreNumbers ds
unfolding after_number
numbers_from [] first all = absurd (omega arith)
numbers_from (d ∷ ds) first all =
    let whole : after_whole (d ∷ ds) ≡ Some [] =
    rw (ne_eqb d 48 (λ e. omega arith), taken (d ∷ ds) all, ne_eqb (suc (length ds)) 0 (λ e. omega arith)) (ap Some (drop_all (length ds) ds (omega arith))) in
    let no_minus : (head (d ∷ ds) == 45) ≡ false = ne_eqb d 45 (λ e. omega arith) in (
      ap (λ o. option_and_then after_exponent (option_and_then after_fraction o)) (ap (λ b. after_whole (cond b ds (d ∷ ds))) no_minus ∙ whole),
      ap (λ o. option_and_then after_exponent (option_and_then after_fraction o)) whole,
    )

-- no zero is first, but in 0
leads_high : (n : ℕ) → n < 10 ^ 64 → 0 < n → 48 < get_or (decimal n) 0 0
leads_high n small some =
    (decimal_by_steps_wide (λ m ds. (0 < length ds) × (0 < m → 48 < get_or ds 0 0)) (λ m l. (omega arith, λ a. omega arith))
    (λ m ds l h. (omega (arith, length-append ds ((48 + m % 10) ∷ [])), λ a. omega (arith, get_or-append ds ((48 + m % 10) ∷ []) 0 0 h.0, h.1 (omega arith)))) n small).1 some

numbers_of : (n : ℕ) → n < 10 ^ 64 → AreNumbers (decimal n)
unfolding after_number
numbers_of zero h =
    let e = decimal_digit 0 (omega arith) in (
      ap (λ ds. option_and_then after_exponent (option_and_then after_fraction (after_whole (cond (head ds == 45) (drop 1 ds) ds)))) e,
      ap (λ ds. option_and_then after_exponent (option_and_then after_fraction (after_whole ds))) e,
    )
numbers_of (suc n) h = numbers_from (decimal (suc n)) (leads_high (suc n) h (omega arith)) (λ i l. digit_at _ i (decimal_is_IsNumeral_wide (suc n) h).0.1 l)

-- each integer of 128 bits
pub IsNumber-any : (z : ℤ) (fits : FitsSigned w128 z) → IsNumber (signed_decimal z)
IsNumber-any (pos n) h = (numbers_of n (omega (arith, h.sfits))).0
IsNumber-any (negsuc n) h = (numbers_of (suc n) (omega (arith, h.sfits))).1
