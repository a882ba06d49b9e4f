-- Bits of digits, as bytes and what is left over.
use Rattle.std.proofs.Common.{◌≡◌, ℕ, ◌+◌, ◌*◌, ◌/◌, ◌%◌, ◌^◌, ◌<◌, ◌∙◌, true, ◌&&◌, nat_lt, ◌==◌, List, [], ◌∷◌, ◌++◌, length, get_or, drop, ap, sym, refl, eq-eqb, arith}
use Rattle.std.specs.Prelude.{if◌then◌else◌, Result, Ok, Err}
use Rattle.std.proofs.Math.Arith.{digits_lt, digits_div, digits_mod}
use Rattle.std.proofs.Math.Nat.{div-lt_iff_lt-mul}
use Rattle.std.proofs.lemmas.Nat.{pow-add, pow_pos, div-add-mod'}
use Rattle.std.specs.List.{All}
use Rattle.ix_cid.specs.CidText.{number_in, digits_in}
use Rattle.ix_cid.proofs.Digits.{number_in-turn, digits_in-number_in}
use Rattle.ix_cid_text.specs.Bytes.{bytes_of_bits}
use Rattle.ix_cid_text.specs.declared.base.Base.{Base}
use Rattle.ix_cid_text.specs.declared.fault.CidTextFault.{CidTextFault}
use Rattle.ix_cid_text.specs.declared.fault.CidTextFault.TheVariants.{Bits}

-- the bits of a digit below those before
pub below : (w b c d : ℕ) → b < 2 ^ c → d < 2 ^ w → b * 2 ^ w + d < 2 ^ (c + w)
below w b c d h k = omega (arith, digits_lt h k, pow-add 2 c w)

-- digits after a number are those after its bytes
grown : (w n b c d : ℕ) → (n * 2 ^ c + b) * 2 ^ w + d ≡ n * 2 ^ (c + w) + (b * 2 ^ w + d)
grown w n b c d =
    let power : n * 2 ^ (c + w) ≡ n * (2 ^ c * 2 ^ w) = ap (λ (x : ℕ). n * x) (pow-add 2 c w) in
    omega (arith, power)

-- the first eight bits are a byte
cut : (n m c : ℕ) → n * 2 ^ (c + 8) + m ≡ (n * 256 + m / 2 ^ c) * 2 ^ c + m % 2 ^ c
cut n m c =
    let power : n * 2 ^ (c + 8) ≡ n * (2 ^ c * 256) = ap (λ (x : ℕ). n * x) (pow-add 2 c 8) in
    omega (arith, power, div-add-mod' m (2 ^ c))

-- and are less than 256
pub byte : (m c k : ℕ) → k ≡ c + 8 → m < 2 ^ k → m / 2 ^ c < 256
byte m c k e h =
    let power : 2 ^ k ≡ 256 * 2 ^ c = ap (λ (x : ℕ). 2 ^ x) e ∙ pow-add 2 c 8 ∙ omega arith in
    (div-lt_iff_lt-mul {k = 2 ^ c} {x = m} {y = 256} (pow_pos c)).1 (omega (arith, power))

-- one digit more of a number
number_in-push : (base n : ℕ) (ds : List ℕ) (d : ℕ) → number_in base n (ds ++ d ∷ []) ≡ number_in base n ds * base + d
number_in-push base n [] d = refl
number_in-push base n (x ∷ ds) d = number_in-push base (n * base + x) ds d

-- one digit is read, of which no byte is full
pub read : (w : ℕ) (digits bytes : List ℕ) (b c i : ℕ) → i < length digits
    → number_in (2 ^ w) (number_in 256 0 bytes * 2 ^ (c + w) + (b * 2 ^ w + get_or digits i 0)) (drop (i + 1) digits)
    ≡ number_in (2 ^ w) (number_in 256 0 bytes * 2 ^ c + b) (drop i digits)
read w digits bytes b c i h =
    let n = number_in 256 0 bytes in
    ap (λ (x : ℕ). number_in (2 ^ w) x (drop (i + 1) digits)) (sym (grown w n b c (get_or digits i 0)))
    ∙ sym (number_in-turn (2 ^ w) (n * 2 ^ c + b) digits i h)

-- one digit is read, and a byte is full
pub read_byte : (w : ℕ) (digits bytes : List ℕ) (m c i rest : ℕ) → c + 8 ≡ rest
    → number_in (2 ^ w) (number_in 256 0 (bytes ++ (m / 2 ^ c) ∷ []) * 2 ^ c + m % 2 ^ c) (drop i digits)
    ≡ number_in (2 ^ w) (number_in 256 0 bytes * 2 ^ rest + m) (drop i digits)
read_byte w digits bytes m c i rest e =
    let n = number_in 256 0 bytes in
    ap (λ (x : ℕ). number_in (2 ^ w) (x * 2 ^ c + m % 2 ^ c) (drop i digits)) (number_in-push 256 0 bytes (m / 2 ^ c))
    ∙ ap (λ (x : ℕ). number_in (2 ^ w) x (drop i digits)) (sym (cut n m c))
    ∙ ap (λ (x : ℕ). number_in (2 ^ w) (n * 2 ^ x + m) (drop i digits)) e

-- bytes by what is left over, the number of bits and that number
abbrev by_rest : Base → ℕ → ℕ → ℕ → ℕ → Result (List ℕ) CidTextFault
by_rest base w rest size n = if nat_lt rest w && (n % 2 ^ rest == 0) then Ok (digits_in 256 size (n / 2 ^ rest)) else Err (Bits base)

-- what was read
abbrev Counted : ℕ → List ℕ → List ℕ → ℕ → ℕ → Type 0
Counted w digits bytes b c =
    (c < 8) × (b < 2 ^ c) × (w * length digits ≡ 8 * length bytes + c) × (number_in 256 0 bytes * 2 ^ c + b ≡ number_in (2 ^ w) 0 digits)

named : (base : Base) (w : ℕ) (digits bytes : List ℕ) (b c : ℕ) → Counted w digits bytes b c
    → bytes_of_bits base w digits ≡ by_rest base w c (length bytes) (number_in 256 0 bytes * 2 ^ c + b)
named base w digits bytes b c h =
    let rest : w * length digits % 8 ≡ c = omega (arith, h.0, h.2) in
    let size : w * length digits / 8 ≡ length bytes = omega (arith, h.0, h.2) in
    let n = number_in (2 ^ w) 0 digits in
    ap (λ (r : ℕ). by_rest base w r (w * length digits / 8) n) rest ∙ ap (λ (s : ℕ). by_rest base w c s n) size
    ∙ ap (by_rest base w c (length bytes)) (sym h.3)

-- the digits are those of the bytes
pub whole : (base : Base) (w : ℕ) (digits bytes : List ℕ) (b c : ℕ) → Counted w digits bytes b c → All (λ x. x < 256) bytes → c < w → b ≡ 0
    → bytes_of_bits base w digits ≡ Ok bytes
whole base w digits bytes b c h are less none =
    let n = number_in 256 0 bytes in
    let low : b < 2 ^ c = h.1 in
    let first : nat_lt c w ≡ true = search arith in
    let over : (n * 2 ^ c + b) % 2 ^ c ≡ 0 = digits_mod n low ∙ none in
    let second : ((n * 2 ^ c + b) % 2 ^ c == 0) ≡ true = eq-eqb _ _ over in
    let same : digits_in 256 (length bytes) ((n * 2 ^ c + b) / 2 ^ c) ≡ bytes = ap (digits_in 256 (length bytes)) (digits_div n low) ∙ digits_in-number_in 256 bytes 0 are in
    named base w digits bytes b c h ∙ grind (arith, first, second, same)

-- or of none
pub none : (base : Base) (w : ℕ) (digits bytes : List ℕ) (b c : ℕ) → Counted w digits bytes b c → (c < w → b ≡ 0 → ⊥)
    → bytes_of_bits base w digits ≡ Err (Bits base)
none base w digits bytes b c h some =
    let n = number_in 256 0 bytes in
    let over : (n * 2 ^ c + b) % 2 ^ c ≡ b = digits_mod n h.1 in
    named base w digits bytes b c h ∙ grind (arith, over, some)
