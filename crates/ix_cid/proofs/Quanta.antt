-- Base32 and back.
use Rattle.std.proofs.Common.{◌≡◌, ℕ, ◌+◌, ◌-◌, ◌*◌, ◌/◌, ◌%◌, ◌^◌, ◌<◌, ◌≤◌, List, [], ◌∷◌, ◌++◌, length, take, drop, map, min, refl, sym, ap, ◌∙◌, subst, ltb, ⊎_elim, arith}
use Rattle.std.specs.List.{All}
use Rattle.std.proofs.lemmas.List.{take-map, length-map, append-nil, append_assoc, map_push, take_all, drop_all, take-append-drop, length-take-le}
use Rattle.std.proofs.lemmas.List.Elements.{All-head, All-tail, All-take, All-drop}
use Rattle.std.proofs.lemmas.Bool.{cases_lt, ltb-true, cond_both}
use Rattle.std.proofs.lemmas.Bool.Decides.{nat_tests}
use Rattle.std.proofs.lemmas.Nat.{shl_whole}
use Rattle.std.proofs.Math.Nat.{mod-eq_of_lt, mul-div_cancel, mul-lt-mul_of_pos_right, one-le-pow}
use Rattle.ix_cid.specs.Bytes.{AreBytes}
use Rattle.ix_cid.specs.CidText.{letter, bits_of_letter, number_in, digits_in, quantum, bytes_of_quantum, base32_of, bytes_of_letters}
use Rattle.ix_cid.proofs.Digits.{digits_in-below, number_in-lt, digits_in-number_in, length-digits_in, number_in-digits_in, take-digits_in, digits_in-more, pow-32, pow-256}

-- A letter keeps its five bits.
pub bits_of_letter-letter : (d : ℕ) → d < 32 → bits_of_letter (letter d) ≡ d
bits_of_letter-letter d h = grind (arith, nat_tests)

-- Letters keep their bits.
pub bits_of_letters : (ds : List ℕ) → All (λ d. d < 32) ds → map bits_of_letter (map letter ds) ≡ ds
bits_of_letters [] h = refl
bits_of_letters (d ∷ ds) h =
    let first = bits_of_letter-letter d (All-head (λ d. d < 32) d ds h) in
    let rest = bits_of_letters ds (All-tail (λ d. d < 32) d ds h) in
    cc (first, rest)

-- The letters of some bytes are the digits of their bits.
pub quantum-digits : (b : List ℕ) (j l k : ℕ) → length b + j ≡ 5 → (8 * length b + 4) / 5 ≡ l → l + k ≡ 8 → quantum b ≡ map letter (digits_in 32 l (number_in 256 0 b * 256 ^ j / 32 ^ k))
quantum-digits b j l k e5 el e8 =
    let missing : 5 - length b ≡ j = omega arith in
    ap (λ (x : ℕ). take x (map letter (digits_in 32 8 (number_in 256 0 b * 256 ^ (5 - length b))))) el
    ∙ ap (λ (x : ℕ). take l (map letter (digits_in 32 8 (number_in 256 0 b * 256 ^ x)))) missing
    ∙ take-map letter l (digits_in 32 8 (number_in 256 0 b * 256 ^ j))
    ∙ ap (map letter) (take-digits_in 32 l k 8 (number_in 256 0 b * 256 ^ j) e8)

-- The bytes of some letters are the digits of their bits.
pub bytes_of_quantum-digits : (q : List ℕ) (n j k : ℕ) → 5 * length q / 8 ≡ n → n + j ≡ 5 → length q + k ≡ 8 → bytes_of_quantum q ≡ digits_in 256 n (number_in 32 0 (map bits_of_letter q) * 32 ^ k / 256 ^ j)
bytes_of_quantum-digits q n j k en e5 e8 =
    let missing : 8 - length q ≡ k = omega arith in
    ap (λ (x : ℕ). take x (digits_in 256 5 (number_in 32 0 (map bits_of_letter q) * 32 ^ (8 - length q)))) en
    ∙ ap (λ (x : ℕ). take n (digits_in 256 5 (number_in 32 0 (map bits_of_letter q) * 32 ^ x))) missing
    ∙ take-digits_in 256 n j 5 (number_in 32 0 (map bits_of_letter q) * 32 ^ k) e5

-- Fewer than eight letters are one quantum.
pub bytes_of_letters-short : (q : List ℕ) → length q < 8 → bytes_of_letters q ≡ bytes_of_quantum q
bytes_of_letters-short [] h = refl
bytes_of_letters-short (a ∷ []) h = refl
bytes_of_letters-short (a ∷ b ∷ []) h = refl
bytes_of_letters-short (a ∷ b ∷ c ∷ []) h = refl
bytes_of_letters-short (a ∷ b ∷ c ∷ d ∷ []) h = refl
bytes_of_letters-short (a ∷ b ∷ c ∷ d ∷ e ∷ []) h = refl
bytes_of_letters-short (a ∷ b ∷ c ∷ d ∷ e ∷ f ∷ []) h = refl
bytes_of_letters-short (a ∷ b ∷ c ∷ d ∷ e ∷ f ∷ g ∷ []) h = refl
bytes_of_letters-short (a ∷ b ∷ c ∷ d ∷ e ∷ f ∷ g ∷ i ∷ more) h = absurd (omega arith)

-- Eight letters are one quantum, and the others follow.
pub bytes_of_letters-eight : (q more : List ℕ) → length q ≡ 8 → bytes_of_letters (q ++ more) ≡ bytes_of_quantum q ++ bytes_of_letters more
bytes_of_letters-eight (a ∷ b ∷ c ∷ d ∷ e ∷ f ∷ g ∷ i ∷ []) more h = refl
bytes_of_letters-eight (a ∷ b ∷ c ∷ d ∷ e ∷ f ∷ g ∷ i ∷ j ∷ rest) more h = absurd (omega arith)
bytes_of_letters-eight [] more h = absurd (omega arith)
bytes_of_letters-eight (a ∷ []) more h = absurd (omega arith)
bytes_of_letters-eight (a ∷ b ∷ []) more h = absurd (omega arith)
bytes_of_letters-eight (a ∷ b ∷ c ∷ []) more h = absurd (omega arith)
bytes_of_letters-eight (a ∷ b ∷ c ∷ d ∷ []) more h = absurd (omega arith)
bytes_of_letters-eight (a ∷ b ∷ c ∷ d ∷ e ∷ []) more h = absurd (omega arith)
bytes_of_letters-eight (a ∷ b ∷ c ∷ d ∷ e ∷ f ∷ []) more h = absurd (omega arith)
bytes_of_letters-eight (a ∷ b ∷ c ∷ d ∷ e ∷ f ∷ g ∷ []) more h = absurd (omega arith)

-- A quantum of n bytes, where j are missing, has l letters, where k are missing. The letters have g times the number of the
-- bytes.
pub record IsQuantum (n j l k g : ℕ) : Type 0 where
  pub bytes : n + j ≡ 5
  pub letters : (8 * n + 4) / 5 ≡ l
  pub missing : l + k ≡ 8
  pub back : 5 * l / 8 ≡ n
  pub shift : 256 ^ j ≡ g * 32 ^ k
  pub fits : 256 ^ n * g ≡ 32 ^ l
  pub left : 2 ^ (5 * l % 8) ≡ g
  pub some : 0 < g

-- one byte is two letters, with two bits left over
pub one : IsQuantum 1 4 2 6 4
one = record { bytes = refl; letters = refl; missing = refl; back = refl; shift = refl; fits = refl; left = refl; some = omega arith }

-- two bytes are four letters, with four bits left over
pub two : IsQuantum 2 3 4 4 16
two = record { bytes = refl; letters = refl; missing = refl; back = refl; shift = refl; fits = refl; left = refl; some = omega arith }

-- three bytes are five letters, with one bit left over
pub three : IsQuantum 3 2 5 3 2
three = record { bytes = refl; letters = refl; missing = refl; back = refl; shift = refl; fits = refl; left = refl; some = omega arith }

-- four bytes are seven letters, with three bits left over
pub four : IsQuantum 4 1 7 1 8
four = record { bytes = refl; letters = refl; missing = refl; back = refl; shift = refl; fits = refl; left = refl; some = omega arith }

-- five bytes are eight letters
pub five : IsQuantum 5 0 8 0 1
five = record { bytes = refl; letters = refl; missing = refl; back = refl; shift = refl; fits = refl; left = refl; some = omega arith }

-- one quantum of bytes
module _ (n j l k g : ℕ) (q : IsQuantum n j l k g) (b : List ℕ) (size : length b ≡ n) (are : AreBytes b) where
  -- its letters are the digits of a number below the power of 32 at their number
  pub spelled : quantum b ≡ map letter (digits_in 32 l (number_in 256 0 b * g))
  spelled =
      let same : number_in 256 0 b * 256 ^ j ≡ number_in 256 0 b * g * 32 ^ k = omega (arith, ap (λ (x : ℕ). number_in 256 0 b * x) q.shift) in
      let some : 0 < 32 ^ k = one-le-pow k 32 (omega arith) in
      quantum-digits b j l k (omega (arith, q.bytes)) (ap (λ (x : ℕ). (8 * x + 4) / 5) size ∙ q.letters) q.missing
      ∙ ap (λ (x : ℕ). map letter (digits_in 32 l (x / 32 ^ k))) same
      ∙ ap (λ (x : ℕ). map letter (digits_in 32 l x)) (mul-div_cancel (number_in 256 0 b * g) some)

  -- they are as many as are needed
  pub length-quantum : length (quantum b) ≡ l
  length-quantum =
      ap length spelled ∙ length-map (digits_in 32 l (number_in 256 0 b * g)) letter ∙ length-digits_in 32 l (number_in 256 0 b * g)

  -- they spell so many times the number of the bytes
  pub number_in-quantum : number_in 32 0 (map bits_of_letter (quantum b)) ≡ number_in 256 0 b * g
  number_in-quantum =
      let number = number_in 256 0 b in
      let ds = digits_in 32 l (number * g) in
      let below : number < 256 ^ n = subst (λ x. number < 256 ^ x) size (number_in-lt 256 b are) in
      let small : number * g < 32 ^ l = subst (λ x. number * g < x) q.fits (mul-lt-mul_of_pos_right below q.some) in
      ap (λ (x : List ℕ). number_in 32 0 (map bits_of_letter x)) spelled
      ∙ ap (number_in 32 0) (bits_of_letters ds (digits_in-below 32 l (number * g) (omega arith)))
      ∙ number_in-digits_in 32 l (number * g) (omega arith)
      ∙ mod-eq_of_lt small

  -- and are read as the bytes
  bytes_of_quantum-quantum : bytes_of_quantum (quantum b) ≡ b
  bytes_of_quantum-quantum =
      let number = number_in 256 0 b in
      let again : number * g * 32 ^ k ≡ number * 256 ^ j = omega (arith, ap (λ (x : ℕ). number * x) q.shift) in
      let some : 0 < 256 ^ j = one-le-pow j 256 (omega arith) in
      bytes_of_quantum-digits (quantum b) n j k (ap (λ (x : ℕ). 5 * x / 8) length-quantum ∙ q.back) q.bytes (omega (arith, length-quantum, q.missing))
      ∙ ap (λ (x : ℕ). digits_in 256 n (x * 32 ^ k / 256 ^ j)) number_in-quantum
      ∙ ap (λ (x : ℕ). digits_in 256 n (x / 256 ^ j)) again
      ∙ ap (λ (x : ℕ). digits_in 256 n x) (mul-div_cancel number some)
      ∙ ap (λ (x : ℕ). digits_in 256 x number) (sym size)
      ∙ digits_in-number_in 256 b 0 are

  -- by themselves too, where they are fewer than eight
  bytes_of_letters-quantum : l < 8 → bytes_of_letters (quantum b) ≡ b
  bytes_of_letters-quantum short = bytes_of_letters-short (quantum b) (omega (arith, length-quantum)) ∙ bytes_of_quantum-quantum

-- Base32 loses nothing.
pub bytes_of_letters-base32_of : (bytes : List ℕ) → AreBytes bytes → bytes_of_letters (base32_of bytes) ≡ bytes
bytes_of_letters-base32_of [] are = refl
bytes_of_letters-base32_of (a ∷ []) are = bytes_of_letters-quantum 1 4 2 6 4 one (a ∷ []) refl are (omega arith)
bytes_of_letters-base32_of (a ∷ b ∷ []) are = bytes_of_letters-quantum 2 3 4 4 16 two (a ∷ b ∷ []) refl are (omega arith)
bytes_of_letters-base32_of (a ∷ b ∷ c ∷ []) are = bytes_of_letters-quantum 3 2 5 3 2 three (a ∷ b ∷ c ∷ []) refl are (omega arith)
bytes_of_letters-base32_of (a ∷ b ∷ c ∷ d ∷ []) are = bytes_of_letters-quantum 4 1 7 1 8 four (a ∷ b ∷ c ∷ d ∷ []) refl are (omega arith)
bytes_of_letters-base32_of (a ∷ b ∷ c ∷ d ∷ e ∷ more) are =
    let first = a ∷ b ∷ c ∷ d ∷ e ∷ [] in
    let front : AreBytes first = All-take (λ x. x < 2 ^ 8) 5 (a ∷ b ∷ c ∷ d ∷ e ∷ more) are in
    let behind : AreBytes more = All-drop (λ x. x < 2 ^ 8) 5 (a ∷ b ∷ c ∷ d ∷ e ∷ more) are in
    bytes_of_letters-eight (quantum first) (base32_of more) (length-quantum 5 0 8 0 1 five first refl front)
    ∙ ap (λ (x : List ℕ). x ++ bytes_of_letters (base32_of more)) (bytes_of_quantum-quantum 5 0 8 0 1 five first refl front)
    ∙ ap (λ (x : List ℕ). first ++ x) (bytes_of_letters-base32_of more behind)

-- Fewer than five bytes are one quantum.
pub base32_of-short : (b : List ℕ) → length b < 5 → base32_of b ≡ quantum b
base32_of-short [] h = refl
base32_of-short (a ∷ []) h = refl
base32_of-short (a ∷ b ∷ []) h = refl
base32_of-short (a ∷ b ∷ c ∷ []) h = refl
base32_of-short (a ∷ b ∷ c ∷ d ∷ []) h = refl
base32_of-short (a ∷ b ∷ c ∷ d ∷ e ∷ more) h = absurd (omega arith)

-- Five bytes are one quantum, and the others follow.
pub base32_of-five : (b more : List ℕ) → length b ≡ 5 → base32_of (b ++ more) ≡ quantum b ++ base32_of more
base32_of-five (a ∷ b ∷ c ∷ d ∷ e ∷ []) more h = refl
base32_of-five (a ∷ b ∷ c ∷ d ∷ e ∷ f ∷ rest) more h = absurd (omega arith)
base32_of-five [] more h = absurd (omega arith)
base32_of-five (a ∷ []) more h = absurd (omega arith)
base32_of-five (a ∷ b ∷ []) more h = absurd (omega arith)
base32_of-five (a ∷ b ∷ c ∷ []) more h = absurd (omega arith)
base32_of-five (a ∷ b ∷ c ∷ d ∷ []) more h = absurd (omega arith)

-- what goes over a list by quanta of m
module _ (whole piece : List ℕ → List ℕ) (m : ℕ) (none : whole [] ≡ []) (short : (xs : List ℕ) → length xs < m → whole xs ≡ piece xs) (full : (xs more : List ℕ) → length xs ≡ m → whole (xs ++ more) ≡ piece xs ++ whole more) where
  -- what is made quantum by quantum is made of the first quantum, and then of the rest
  by_quanta : (n : ℕ) (xs : List ℕ) → n ≡ min m (length xs) → whole xs ≡ piece (take n xs) ++ whole (drop n xs)
  by_quanta n xs h =
      ⊎_elim
      (λ (few : length xs < m).
      let all : length xs ≤ n = omega arith in
      short xs few
      ∙ sym (append-nil (piece xs))
      ∙ ap (λ (x : List ℕ). piece xs ++ x) (sym none)
      ∙ ap (λ (x : List ℕ). piece x ++ whole []) (sym (take_all n xs all))
      ∙ ap (λ (x : List ℕ). piece (take n xs) ++ whole x) (sym (drop_all n xs all)))
      (λ (many : m ≤ length xs).
      let enough : n ≤ length xs = omega arith in
      let size : length (take n xs) ≡ m = length-take-le n xs enough ∙ omega arith in
      ap whole (sym (take-append-drop n xs)) ∙ full (take n xs) (drop n xs) size)
      (cases_lt (length xs) m)

-- One quantum of bytes is spelled, and the others follow.
pub base32_of-step : (n : ℕ) (b : List ℕ) → n ≡ min 5 (length b) → base32_of b ≡ quantum (take n b) ++ base32_of (drop n b)
base32_of-step = by_quanta base32_of quantum 5 refl base32_of-short base32_of-five

-- Letters are ASCII.
pub letter-ascii : (d : ℕ) → letter (d % 32) < 128
letter-ascii d =
    let small : d % 32 < 32 = omega arith in
    cond_both (ltb (d % 32) 26) (d % 32 + 97) (d % 32 + 24) (λ y. y < 128) (λ e. omega (arith, ltb-true (d % 32) 26 e)) (λ e. omega arith)

-- The letter at a place is of the five bits there.
pub letters-more : (bits i : ℕ) → i < 8 → take (i + 1) (map letter (digits_in 32 8 bits)) ≡ take i (map letter (digits_in 32 8 bits)) ++ letter (bits / 2 ^ (35 - 5 * i) % 32) ∷ []
letters-more bits i h =
    let digits = digits_in 32 8 bits in
    let place : 35 - 5 * i ≡ 5 * (7 - i) = omega arith in
    let digit : bits / 32 ^ (7 - i) % 32 ≡ bits / 2 ^ (35 - 5 * i) % 32 =
    ap (λ (x : ℕ). bits / x % 32) (sym (pow-32 (7 - i)) ∙ ap (λ (x : ℕ). 2 ^ x) (sym place)) in
    take-map letter (i + 1) digits
    ∙ ap (map letter) (digits_in-more 32 8 bits i (7 - i) (omega arith))
    ∙ map_push letter (take i digits) (bits / 32 ^ (7 - i) % 32)
    ∙ ap (λ (x : List ℕ). x ++ letter (bits / 32 ^ (7 - i) % 32) ∷ []) (sym (take-map letter i digits))
    ∙ ap (λ (x : ℕ). take i (map letter digits) ++ letter x ∷ []) digit

-- The bits of at most five bytes fit.
pub bits_of_bytes : (b : List ℕ) → length b ≤ 5 → AreBytes b → number_in 256 0 b * 2 ^ (8 * (5 - length b)) % 2 ^ 64 ≡ number_in 256 0 b * 256 ^ (5 - length b)
bits_of_bytes b short are =
    let small : number_in 256 0 b < 2 ^ (8 * length b) = subst (λ x. number_in 256 0 b < x) (sym (pow-256 (length b))) (number_in-lt 256 b are) in
    shl_whole (number_in 256 0 b) (8 * length b) (8 * (5 - length b)) 64 small (omega arith)
    ∙ ap (λ (x : ℕ). number_in 256 0 b * x) (pow-256 (5 - length b))

-- All letters of some bytes are pushed.
pub quantum-pushed : (old text b : List ℕ) (n place : ℕ) → length b ≤ 5 → AreBytes b → n ≡ number_in 256 0 b → place ≡ (8 * length b + 4) / 5 → text ≡ old ++ take place (map letter (digits_in 32 8 (n * 2 ^ (8 * (5 - length b)) % 2 ^ 64))) → text ≡ old ++ quantum b
quantum-pushed old text b n place short are number count h =
    let bits : n * 2 ^ (8 * (5 - length b)) % 2 ^ 64 ≡ number_in 256 0 b * 256 ^ (5 - length b) =
    ap (λ (x : ℕ). x * 2 ^ (8 * (5 - length b)) % 2 ^ 64) number ∙ bits_of_bytes b short are in
    h
    ∙ ap (λ (x : ℕ). old ++ take place (map letter (digits_in 32 8 x))) bits
    ∙ ap (λ (x : ℕ). old ++ take x (map letter (digits_in 32 8 (number_in 256 0 b * 256 ^ (5 - length b))))) count

-- A piece is pushed, and the rest is still to come.
pub piece-pushed : (out more piece whole behind all : List ℕ) → whole ≡ piece ++ behind → more ≡ out ++ piece → out ++ whole ≡ all → more ++ behind ≡ all
piece-pushed out more piece whole behind all split pushed so_far =
    ap (λ (x : List ℕ). x ++ behind) pushed ∙ append_assoc out piece behind ∙ ap (λ (x : List ℕ). out ++ x) (sym split) ∙ so_far
