-- Hexadecimal as the crate hex writes it.
use Rattle.std.proofs.Common.{◌≡◌, ℕ, ◌/◌, ◌%◌, ◌<◌, ◌^◌, true, eqb, List, [], ◌∷◌, ◌++◌, Result, Ok, Err, refl, ap, ◌∙◌, arith}
use Rattle.std.specs.Prelude.{slice_index, OnOk, is_ok, if◌then◌else◌}
use Rattle.std.proofs.lemmas.Bool.{eqb-true, agree_below_at}
use Rattle.std.proofs.lemmas.List.Elements.{All-head, All-tail}
use Rattle.hex.specs.Hex.{lower_digits, encode_with, encode_lower}
use Rattle.ix_cid.specs.Bytes.{AreBytes}
use Rattle.ix_cid.specs.CidText.{hex_digit, hex_of}

-- The table's digit is that of the definition.
lower_digit : (n : ℕ) → n < 16 → slice_index lower_digits n ≡ hex_digit n
lower_digit n h = eqb-true (slice_index lower_digits n) (hex_digit n) (agree_below_at (λ k. eqb (slice_index lower_digits k) (hex_digit k)) (λ k. true) 16 n refl h)

-- Bytes are written as the text of a CID spells them.
pub encode_lower-bytes : (b : List ℕ) → AreBytes b → encode_lower b ≡ hex_of b
unfolding encode_with
encode_lower-bytes [] are = refl
encode_lower-bytes (x ∷ b) are =
    let small : x < 256 = All-head (λ y. y < 2 ^ 8) x b are in
    let high : slice_index lower_digits (x / 16) ≡ hex_digit (x / 16) = lower_digit (x / 16) (omega arith) in
    let low : slice_index lower_digits (x % 16) ≡ hex_digit (x % 16) = lower_digit (x % 16) (omega arith) in
    let rest = encode_lower-bytes b (All-tail (λ y. y < 2 ^ 8) x b are) in
    ap (λ (y : ℕ). y ∷ slice_index lower_digits (x % 16) ∷ encode_lower b) high
    ∙ ap (λ (y : ℕ). hex_digit (x / 16) ∷ y ∷ encode_lower b) low
    ∙ ap (λ (y : List ℕ). hex_digit (x / 16) ∷ hex_digit (x % 16) ∷ y) rest

-- What is pushed last is what the call answers.
pub digits-pushed : {E : Type 0} (r : Result (Unit {0}) E) (more out digits meant : List ℕ) → more ≡ (if is_ok r then out ++ digits else out) → digits ≡ meant → OnOk r (more ≡ out ++ meant)
digits-pushed (Ok u) more out digits meant h same = h ∙ ap (λ (x : List ℕ). out ++ x) same
digits-pushed (Err e) more out digits meant h same = tt
