-- Base32: letters are that of bytes exactly under the three conditions.
use Rattle.std.proofs.Common.{◌≡◌, ◌≢◌, ◌⊎◌, ℕ, ◌+◌, ◌-◌, ◌*◌, ◌/◌, ◌%◌, ◌^◌, ◌<◌, ◌≤◌, Bool, true, false, List, [], ◌∷◌, ◌++◌, length, take, drop, map, min, Result, Ok, Err, refl, sym, ap, ◌∙◌, subst, inl, inr, ⊎_elim, arith}
use Rattle.std.specs.Prelude.{bytes_eq, if◌then◌else◌}
use Rattle.std.specs.List.{All}
use Rattle.std.proofs.lemmas.List.{length-map, length-append, map-append, append-nil, append_assoc, take_at, drop_at, take_all, drop_all, take-append-drop, length-take-le}
use Rattle.std.proofs.lemmas.List.Elements.{All-head, All-tail, All-nil, All-take, All-drop, All-append, All-same, All-map, All-weaker}
use Rattle.std.proofs.lemmas.Bool.{cases_Bool, cases_lt}
use Rattle.std.proofs.lemmas.Bool.Decides.{nat_tests, not_from_Decides}
use Rattle.std.proofs.lemmas.Nat.{pow-add, shl_whole}
use Rattle.std.proofs.lemmas.Slice.Eq.{bytes_eq-Decides}
use Rattle.std.proofs.Math.Nat.{mod-eq_of_lt, mod-one, mul-mod_left, mul-add-mod_self_left, div-add-mod, mul-div_cancel, one-le-pow, lt_of_mul-lt-mul_right}
use Rattle.ix_cid.specs.Bytes.{AreBytes}
use Rattle.ix_cid.specs.Cid.{◌>>=◌}
use Rattle.ix_cid.specs.CidText.{letter, bits_of_letter, number_in, digits_in, quantum, bytes_of_quantum, base32_of, bytes_of_letters, bytes_of_base32, IsLetter, IsBase32, appended}
use Rattle.ix_cid.specs.Gives.{Fails}
use Rattle.ix_cid.specs.declared.fault.CidFault.{CidFault}
use Rattle.ix_cid.specs.declared.fault.CidFault.TheVariants.{Base32}
use Rattle.ix_cid.proofs.Digits.{number_in-split, digits_in-below, digits_in-number_in, length-digits_in, number_in-digits_in, number_in-lt, pow-32}
use Rattle.ix_cid.proofs.Quanta.{IsQuantum, one, two, three, four, five, bytes_of_quantum-digits, bytes_of_letters-short, bytes_of_letters-eight, base32_of-short, base32_of-five}
use Rattle.ix_cid.proofs.Quanta as quanta
use Rattle.ix_cid.proofs.Results.{ok_same, fails_along}

-- ---- letters

-- a letter has five bits
pub bits-below : (x : ℕ) → IsLetter x → bits_of_letter x < 32
bits-below x h = grind (arith, nat_tests)

-- which spell it again
letter-again : (x : ℕ) → IsLetter x → letter (bits_of_letter x) ≡ x
letter-again x h = grind (arith, nat_tests)

-- five bits have a letter
letter-is : (d : ℕ) → d < 32 → IsLetter (letter d)
letter-is d h = grind (arith, nat_tests)

-- letters have five bits each
pub all-below : (s : List ℕ) → All IsLetter s → All (λ d. d < 32) (map bits_of_letter s)
all-below s h = All-map (λ d. d < 32) bits_of_letter s (All-weaker IsLetter (λ x. bits_of_letter x < 32) bits-below s h)

-- which spell them again
letters-again : (s : List ℕ) → All IsLetter s → map letter (map bits_of_letter s) ≡ s
letters-again [] h = refl
letters-again (x ∷ s) h =
    let first = letter-again x (All-head IsLetter x s h) in
    let rest = letters-again s (All-tail IsLetter x s h) in
    cc (first, rest)

-- digits have letters
letters-are : (ds : List ℕ) → All (λ d. d < 32) ds → All IsLetter (map letter ds)
letters-are ds h = All-map IsLetter letter ds (All-weaker (λ d. d < 32) (λ d. IsLetter (letter d)) letter-is ds h)

-- ---- what follows whole quanta

-- what digits spell after others
number_in-append : (base n : ℕ) (xs ys : List ℕ) → number_in base n (xs ++ ys) ≡ number_in base (number_in base n xs) ys
number_in-append base n [] ys = refl
number_in-append base n (x ∷ xs) ys = number_in-append base (n * base + x) xs ys

-- the bits left over are those of what follows
left-behind : (q more : List ℕ) → length q ≡ 8 → number_in 32 0 (map bits_of_letter (q ++ more)) % 2 ^ (5 * length (q ++ more) % 8) ≡ number_in 32 0 (map bits_of_letter more) % 2 ^ (5 * length more % 8)
left-behind q more size =
    let bits = map bits_of_letter more in
    let number = number_in 32 0 (map bits_of_letter q) in
    let r = 5 * length more % 8 in
    let above = 5 * length more - r in
    let same : 5 * length (q ++ more) % 8 ≡ r = omega (arith, length-append q more) in
    let sum : 5 * length more ≡ r + above = omega arith in
    let power : 32 ^ length bits ≡ 2 ^ r * 2 ^ above =
    ap (λ (x : ℕ). 32 ^ x) (length-map more bits_of_letter) ∙ sym (pow-32 (length more)) ∙ ap (λ (x : ℕ). 2 ^ x) sum ∙ pow-add 2 r above in
    let high : number * 32 ^ length bits ≡ 2 ^ r * (number * 2 ^ above) = omega (arith, ap (λ (x : ℕ). number * x) power) in
    let split : number_in 32 0 (map bits_of_letter (q ++ more)) ≡ 2 ^ r * (number * 2 ^ above) + number_in 32 0 bits =
    ap (number_in 32 0) (map-append bits_of_letter q more)
    ∙ number_in-append 32 0 (map bits_of_letter q) bits
    ∙ number_in-split 32 number bits
    ∙ ap (λ (x : ℕ). x + number_in 32 0 bits) high in
    ap (λ (x : ℕ). number_in 32 0 (map bits_of_letter (q ++ more)) % 2 ^ x) same
    ∙ ap (λ (x : ℕ). x % 2 ^ r) split
    ∙ mul-add-mod_self_left (2 ^ r) (number * 2 ^ above) (number_in 32 0 bits)

-- nothing is left over of eight letters
nothing_left-eight : (q : List ℕ) → length q ≡ 8 → number_in 32 0 (map bits_of_letter q) % 2 ^ (5 * length q % 8) ≡ 0
nothing_left-eight q size =
    let none : 5 * length q % 8 ≡ 0 = omega arith in
    ap (λ (x : ℕ). number_in 32 0 (map bits_of_letter q) % 2 ^ x) none ∙ mod-one (number_in 32 0 (map bits_of_letter q))

-- eight letters that are base32, and what follows them
pub join : (q more : List ℕ) → length q ≡ 8 → IsBase32 q → IsBase32 more → IsBase32 (q ++ more)
join q more size front appended =
    let count : length (q ++ more) % 8 ≡ length more % 8 = omega (arith, length-append q more) in
    record {
      alphabet = All-append IsLetter q more front.alphabet appended.alphabet;
      count = (λ e. appended.count.0 (sym count ∙ e), λ e. appended.count.1 (sym count ∙ e), λ e. appended.count.2 (sym count ∙ e));
      nothing_left = left-behind q more size ∙ appended.nothing_left;
    }

-- of base32 letters the first eight are base32, and so is the rest
pub split : (q more : List ℕ) → length q ≡ 8 → IsBase32 (q ++ more) → IsBase32 q × IsBase32 more
split q more size whole =
    let count : length (q ++ more) % 8 ≡ length more % 8 = omega (arith, length-append q more) in (
      record {
        alphabet = All-same IsLetter q (take (length q) (q ++ more)) (sym (take_at q more (length q) refl)) (All-take IsLetter (length q) (q ++ more) whole.alphabet);
        count = (λ e. omega arith, λ e. omega arith, λ e. omega arith);
        nothing_left = nothing_left-eight q size;
      },
      record {
        alphabet = All-same IsLetter more (drop (length q) (q ++ more)) (sym (drop_at q more (length q) refl)) (All-drop IsLetter (length q) (q ++ more) whole.alphabet);
        count = (λ e. whole.count.0 (count ∙ e), λ e. whole.count.1 (count ∙ e), λ e. whole.count.2 (count ∙ e));
        nothing_left = sym (left-behind q more size) ∙ whole.nothing_left;
      },
    )

-- ---- one quantum

-- letters of one quantum spell bytes
bytes_are-quantum : (q : List ℕ) → AreBytes (bytes_of_quantum q)
bytes_are-quantum q =
    let bits = number_in 32 0 (map bits_of_letter q) * 32 ^ (8 - length q) in
    All-take (λ x. x < 2 ^ 8) (5 * length q / 8) (digits_in 256 5 bits) (digits_in-below 256 5 bits (omega arith))

-- some letters that are base32
module _ (n j l k g : ℕ) (q : IsQuantum n j l k g) (s : List ℕ) (size : length s ≡ l) (alphabet : All IsLetter s) (left : number_in 32 0 (map bits_of_letter s) % 2 ^ (5 * length s % 8) ≡ 0) where
  -- their number is so many times that of their bytes
  whole : number_in 32 0 (map bits_of_letter s) / g * g ≡ number_in 32 0 (map bits_of_letter s)
  whole =
      let number = number_in 32 0 (map bits_of_letter s) in
      let none : number % g ≡ 0 = ap (λ (x : ℕ). number % x) (sym (ap (λ (x : ℕ). 2 ^ (5 * x % 8)) size ∙ q.left)) ∙ left in
      omega (arith, div-add-mod number g, none)

  -- the digits of which are the bytes
  digits : bytes_of_quantum s ≡ digits_in 256 n (number_in 32 0 (map bits_of_letter s) / g)
  digits =
      let number = number_in 32 0 (map bits_of_letter s) in
      let m = number / g in
      let again : number * 32 ^ k ≡ m * 256 ^ j = ap (λ (x : ℕ). x * 32 ^ k) (sym whole) ∙ omega (arith, ap (λ (x : ℕ). m * x) q.shift) in
      let some : 0 < 256 ^ j = one-le-pow j 256 (omega arith) in
      bytes_of_quantum-digits s n j k (ap (λ (x : ℕ). 5 * x / 8) size ∙ q.back) q.bytes (omega (arith, q.missing))
      ∙ ap (λ (x : ℕ). digits_in 256 n (x / 256 ^ j)) again
      ∙ ap (λ (x : ℕ). digits_in 256 n x) (mul-div_cancel m some)

  -- as many as whole bytes
  length-bytes : length (bytes_of_quantum s) ≡ n
  length-bytes = ap length digits ∙ length-digits_in 256 n (number_in 32 0 (map bits_of_letter s) / g)

  -- and the bytes are spelled so
  quantum-bytes : quantum (bytes_of_quantum s) ≡ s
  quantum-bytes =
      let ds = map bits_of_letter s in
      let number = number_in 32 0 ds in
      let m = number / g in
      let count : length ds ≡ l = length-map s bits_of_letter ∙ size in
      let below : number < 32 ^ l = subst (λ x. number < 32 ^ x) count (number_in-lt 32 ds (all-below s alphabet)) in
      let product : m * g < 256 ^ n * g = omega (arith, whole, below, q.fits) in
      let small : m < 256 ^ n = lt_of_mul-lt-mul_right g product in
      let spelling : number_in 256 0 (bytes_of_quantum s) * g ≡ number =
      ap (λ (x : List ℕ). number_in 256 0 x * g) digits
      ∙ ap (λ (x : ℕ). x * g) (number_in-digits_in 256 n m (omega arith) ∙ mod-eq_of_lt small)
      ∙ whole in
      quanta.spelled n j l k g q (bytes_of_quantum s) length-bytes (bytes_are-quantum s)
      ∙ ap (λ (x : ℕ). map letter (digits_in 32 l x)) spelling
      ∙ ap (λ (x : ℕ). map letter (digits_in 32 x number)) (sym count)
      ∙ ap (map letter) (digits_in-number_in 32 ds 0 (all-below s alphabet))
      ∙ letters-again s alphabet

  -- by themselves too, where they are fewer than eight
  again-short : l < 8 → n < 5 → base32_of (bytes_of_letters s) ≡ s
  again-short few fewer =
      ap base32_of (bytes_of_letters-short s (omega (arith, size)))
      ∙ base32_of-short (bytes_of_quantum s) (omega (arith, length-bytes))
      ∙ quantum-bytes

  -- and before others
  again-five : (more : List ℕ) → n ≡ 5 → base32_of (bytes_of_quantum s ++ more) ≡ s ++ base32_of more
  again-five more full =
      base32_of-five (bytes_of_quantum s) more (length-bytes ∙ full) ∙ ap (λ (x : List ℕ). x ++ base32_of more) quantum-bytes

-- ---- the laws

-- letters that are base32 are the base32 of their bytes
pub base32_of-letters : (letters : List ℕ) → IsBase32 letters → base32_of (bytes_of_letters letters) ≡ letters
base32_of-letters [] h = refl
base32_of-letters (a ∷ []) h = absurd (h.count.0 refl)
base32_of-letters (a ∷ b ∷ []) h = again-short 1 4 2 6 4 one (a ∷ b ∷ []) refl h.alphabet h.nothing_left (omega arith) (omega arith)
base32_of-letters (a ∷ b ∷ c ∷ []) h = absurd (h.count.1 refl)
base32_of-letters (a ∷ b ∷ c ∷ d ∷ []) h = again-short 2 3 4 4 16 two (a ∷ b ∷ c ∷ d ∷ []) refl h.alphabet h.nothing_left (omega arith) (omega arith)
base32_of-letters (a ∷ b ∷ c ∷ d ∷ e ∷ []) h = again-short 3 2 5 3 2 three (a ∷ b ∷ c ∷ d ∷ e ∷ []) refl h.alphabet h.nothing_left (omega arith) (omega arith)
base32_of-letters (a ∷ b ∷ c ∷ d ∷ e ∷ f ∷ []) h = absurd (h.count.2 refl)
base32_of-letters (a ∷ b ∷ c ∷ d ∷ e ∷ f ∷ i ∷ []) h = again-short 4 1 7 1 8 four (a ∷ b ∷ c ∷ d ∷ e ∷ f ∷ i ∷ []) refl h.alphabet h.nothing_left (omega arith) (omega arith)
base32_of-letters (a ∷ b ∷ c ∷ d ∷ e ∷ f ∷ i ∷ o ∷ more) h =
    let front = a ∷ b ∷ c ∷ d ∷ e ∷ f ∷ i ∷ o ∷ [] in
    let parts = split front more refl h in
    again-five 5 0 8 0 1 five front refl parts.0.alphabet parts.0.nothing_left (bytes_of_letters more) refl
    ∙ ap (λ (x : List ℕ). front ++ x) (base32_of-letters more parts.1)

-- the letters of a quantum of bytes are base32
is_base32-quantum : (n j l k g : ℕ) → IsQuantum n j l k g → (l % 8 ≢ 1) × (l % 8 ≢ 3) × (l % 8 ≢ 6) → (b : List ℕ) → length b ≡ n → AreBytes b → IsBase32 (quantum b)
is_base32-quantum n j l k g q count b size are =
    let number = number_in 256 0 b in
    let long : length (quantum b) ≡ l = quanta.length-quantum n j l k g q b size are in
    let left : 2 ^ (5 * length (quantum b) % 8) ≡ g = ap (λ (x : ℕ). 2 ^ (5 * x % 8)) long ∙ q.left in
    record {
      alphabet = All-same IsLetter (quantum b) _ (quanta.spelled n j l k g q b size are) (letters-are (digits_in 32 l (number * g)) (digits_in-below 32 l (number * g) (omega arith)));
      count = (
        λ e. count.0 (ap (λ (x : ℕ). x % 8) (sym long) ∙ e),
        λ e. count.1 (ap (λ (x : ℕ). x % 8) (sym long) ∙ e),
        λ e. count.2 (ap (λ (x : ℕ). x % 8) (sym long) ∙ e),
      );
      nothing_left =
          ap (λ (x : ℕ). x % 2 ^ (5 * length (quantum b) % 8)) (quanta.number_in-quantum n j l k g q b size are)
          ∙ ap (λ (x : ℕ). number * g % x) left
          ∙ mul-mod_left number g;
    }

-- no letters are base32
pub none : IsBase32 []
none = record { alphabet = All-nil IsLetter; count = (λ e. omega arith, λ e. omega arith, λ e. omega arith); nothing_left = refl }

-- the base32 of bytes is base32
pub is_base32 : (b : List ℕ) → AreBytes b → IsBase32 (base32_of b)
is_base32 [] are = none
is_base32 (a ∷ []) are = is_base32-quantum 1 4 2 6 4 one (λ e. omega arith, λ e. omega arith, λ e. omega arith) (a ∷ []) refl are
is_base32 (a ∷ b ∷ []) are = is_base32-quantum 2 3 4 4 16 two (λ e. omega arith, λ e. omega arith, λ e. omega arith) (a ∷ b ∷ []) refl are
is_base32 (a ∷ b ∷ c ∷ []) are = is_base32-quantum 3 2 5 3 2 three (λ e. omega arith, λ e. omega arith, λ e. omega arith) (a ∷ b ∷ c ∷ []) refl are
is_base32 (a ∷ b ∷ c ∷ d ∷ []) are = is_base32-quantum 4 1 7 1 8 four (λ e. omega arith, λ e. omega arith, λ e. omega arith) (a ∷ b ∷ c ∷ d ∷ []) refl are
is_base32 (a ∷ b ∷ c ∷ d ∷ e ∷ more) are =
    let first = a ∷ b ∷ c ∷ d ∷ e ∷ [] in
    let front : AreBytes first = All-take (λ x. x < 2 ^ 8) 5 (a ∷ b ∷ c ∷ d ∷ e ∷ more) are in
    let appended : AreBytes more = All-drop (λ x. x < 2 ^ 8) 5 (a ∷ b ∷ c ∷ d ∷ e ∷ more) are in
    join (quantum first) (base32_of more) (quanta.length-quantum 5 0 8 0 1 five first refl front) (is_base32-quantum 5 0 8 0 1 five (λ e. omega arith, λ e. omega arith, λ e. omega arith) first refl front) (is_base32 more appended)

-- letters spell bytes
bytes_are : (letters : List ℕ) → AreBytes (bytes_of_letters letters)
bytes_are [] = All-nil (λ x. x < 2 ^ 8)
bytes_are (a ∷ []) = bytes_are-quantum (a ∷ [])
bytes_are (a ∷ b ∷ []) = bytes_are-quantum (a ∷ b ∷ [])
bytes_are (a ∷ b ∷ c ∷ []) = bytes_are-quantum (a ∷ b ∷ c ∷ [])
bytes_are (a ∷ b ∷ c ∷ d ∷ []) = bytes_are-quantum (a ∷ b ∷ c ∷ d ∷ [])
bytes_are (a ∷ b ∷ c ∷ d ∷ e ∷ []) = bytes_are-quantum (a ∷ b ∷ c ∷ d ∷ e ∷ [])
bytes_are (a ∷ b ∷ c ∷ d ∷ e ∷ f ∷ []) = bytes_are-quantum (a ∷ b ∷ c ∷ d ∷ e ∷ f ∷ [])
bytes_are (a ∷ b ∷ c ∷ d ∷ e ∷ f ∷ i ∷ []) = bytes_are-quantum (a ∷ b ∷ c ∷ d ∷ e ∷ f ∷ i ∷ [])
bytes_are (a ∷ b ∷ c ∷ d ∷ e ∷ f ∷ i ∷ o ∷ more) =
    let front = a ∷ b ∷ c ∷ d ∷ e ∷ f ∷ i ∷ o ∷ [] in
    All-append (λ x. x < 2 ^ 8) (bytes_of_quantum front) (bytes_of_letters more) (bytes_are-quantum front) (bytes_are more)

-- the base32 of the bytes of letters is the letters only where these are base32
IsBase32-again : (letters : List ℕ) → base32_of (bytes_of_letters letters) ≡ letters → IsBase32 letters
IsBase32-again letters e = subst IsBase32 e (is_base32 (bytes_of_letters letters) (bytes_are letters))

-- letters are base32 and read as their bytes, or are none and rejected
pub bytes_of_base32-cases : (letters : List ℕ) → (IsBase32 letters × (bytes_of_base32 letters ≡ Ok (bytes_of_letters letters))) ⊎ ((¬ IsBase32 letters) × (bytes_of_base32 letters ≡ Err Base32))
bytes_of_base32-cases letters =
    let again = base32_of (bytes_of_letters letters) in
    let answer : Bool → Result (List ℕ) CidFault = λ b. if b then Ok (bytes_of_letters letters) else Err Base32 in
    ⊎_elim
    (λ (same : bytes_eq again letters ≡ true). inl (IsBase32-again letters ((bytes_eq-Decides again letters).0 same), ap answer same))
    (λ (other : bytes_eq again letters ≡ false). inr (λ is. not_from_Decides (bytes_eq again letters) (bytes_eq-Decides again letters) other (base32_of-letters letters is), ap answer other))
    (cases_Bool (bytes_eq again letters))

-- what is base32 is read
pub bytes_of_base32-is : (letters : List ℕ) → IsBase32 letters → bytes_of_base32 letters ≡ Ok (bytes_of_letters letters)
bytes_of_base32-is letters h = ⊎_elim (λ found. found.1) (λ other. absurd (other.0 h)) (bytes_of_base32-cases letters)

-- what isn't is rejected
pub bytes_of_base32-refused : (letters : List ℕ) → ¬ IsBase32 letters → bytes_of_base32 letters ≡ Err Base32
bytes_of_base32-refused letters h = ⊎_elim (λ found. absurd (h found.0)) (λ other. other.1) (bytes_of_base32-cases letters)

-- what is read is base32
pub bytes_of_base32-only : (letters b : List ℕ) → bytes_of_base32 letters ≡ Ok b → IsBase32 letters × (b ≡ bytes_of_letters letters)
bytes_of_base32-only letters b h =
    ⊎_elim
    (λ found. (found.0, ok_same b (bytes_of_letters letters) (sym h ∙ found.1)))
    (λ other. let never : ◌≡◌ {A = Result (List ℕ) CidFault} (Ok b) (Err Base32) = sym h ∙ other.1 in absurd cc)
    (bytes_of_base32-cases letters)

-- what is rejected isn't
pub bytes_of_base32-refused-only : (letters : List ℕ) → bytes_of_base32 letters ≡ Err Base32 → ¬ IsBase32 letters
bytes_of_base32-refused-only letters h is = let never : ◌≡◌ {A = Result (List ℕ) CidFault} (Ok (bytes_of_letters letters)) (Err Base32) = sym (bytes_of_base32-is letters is) ∙ h in absurd cc

-- ---- one quantum that is read

-- two to the number of the bits left over
power-left : (s : List ℕ) → 1 * 2 ^ (5 * length s % 8) % 2 ^ 64 ≡ 2 ^ (5 * length s % 8)
power-left s = shl_whole 1 1 (5 * length s % 8) 64 (omega arith) (omega arith) ∙ omega arith

-- where the bits left over aren't 0, the letters aren't base32
pub some_left : (s : List ℕ) (number : ℕ) → number ≡ number_in 32 0 (map bits_of_letter s) → (number % (1 * 2 ^ (5 * length s % 8) % 2 ^ 64) ≡ 0 → ⊥) → ¬ IsBase32 s
some_left s number is some h =
    some (ap (λ (x : ℕ). number % x) (power-left s) ∙ ap (λ (x : ℕ). x % 2 ^ (5 * length s % 8)) is ∙ h.nothing_left)

-- letters of the alphabet, as many as whole bytes need, with no bits left over
pub from_tests : (s : List ℕ) (number : ℕ) → All IsLetter s → number ≡ number_in 32 0 (map bits_of_letter s) → (length s % 8 ≢ 1) × (length s % 8 ≢ 3) × (length s % 8 ≢ 6) → number % (1 * 2 ^ (5 * length s % 8) % 2 ^ 64) ≡ 0 → IsBase32 s
from_tests s number are is count left = record {
  alphabet = are;
  count = count;
  nothing_left = ap (λ (x : ℕ). x % 2 ^ (5 * length s % 8)) (sym is) ∙ ap (λ (x : ℕ). number % x) (sym (power-left s)) ∙ left;
}

-- at most eight letters are one quantum
one-quantum : (s : List ℕ) → length s ≤ 8 → bytes_of_letters s ≡ bytes_of_quantum s
one-quantum s most =
    ⊎_elim
    (λ (few : length s < 8). bytes_of_letters-short s few)
    (λ (many : 8 ≤ length s).
    ap bytes_of_letters (sym (append-nil s)) ∙ bytes_of_letters-eight s [] (omega arith) ∙ append-nil (bytes_of_quantum s))
    (cases_lt (length s) 8)

-- what isn't base32 is rejected, whatever is in front
pub refused-behind : (old s : List ℕ) → ¬ IsBase32 s → (bytes_of_base32 s >>= (λ more. Ok (old ++ more))) ≡ Err Base32
refused-behind old s h = let next : Result (List ℕ) CidFault → Result (List ℕ) CidFault = λ r. r >>= (λ more. Ok (old ++ more)) in ap next (bytes_of_base32-refused s h)

-- the bytes of a quantum are pushed
pub quantum-pushed : (old new s : List ℕ) (number : ℕ) → length s ≤ 8 → IsBase32 s → number ≡ number_in 32 0 (map bits_of_letter s) → new ≡ old ++ take (5 * length s / 8) (digits_in 256 5 (number * 2 ^ (5 * (8 - length s)) % 2 ^ 64)) → (bytes_of_base32 s >>= (λ more. Ok (old ++ more))) ≡ Ok new
quantum-pushed old new s number most is number-is h =
    let next : Result (List ℕ) CidFault → Result (List ℕ) CidFault = λ r. r >>= (λ more. Ok (old ++ more)) in
    let answer : List ℕ → Result (List ℕ) CidFault = λ x. Ok x in
    let missing = 8 - length s in
    let ds = map bits_of_letter s in
    let below : number_in 32 0 ds < 32 ^ length s = subst (λ x. number_in 32 0 ds < 32 ^ x) (length-map s bits_of_letter) (number_in-lt 32 ds (all-below s is.alphabet)) in
    let small : number < 2 ^ (5 * length s) = omega (arith, below, number-is, pow-32 (length s)) in
    let bits : number * 2 ^ (5 * missing) % 2 ^ 64 ≡ number_in 32 0 ds * 32 ^ missing =
    shl_whole number (5 * length s) (5 * missing) 64 small (omega arith)
    ∙ ap (λ (x : ℕ). number * x) (pow-32 missing)
    ∙ ap (λ (x : ℕ). x * 32 ^ missing) number-is in
    ap next (bytes_of_base32-is s is)
    ∙ ap (λ (x : List ℕ). answer (old ++ x)) (one-quantum s most)
    ∙ ap (λ (x : ℕ). answer (old ++ take (5 * length s / 8) (digits_in 256 5 x))) (sym bits)
    ∙ ap answer (sym h)

-- ---- one quantum after another

-- what is read of two parts
abbrev pub together : Result (List ℕ) CidFault → Result (List ℕ) CidFault → Result (List ℕ) CidFault
together front rest = front >>= (λ a. rest >>= (λ b. Ok (a ++ b)))

-- eight letters are read, and then the others
eight : (q more : List ℕ) → length q ≡ 8 → bytes_of_base32 (q ++ more) ≡ together (bytes_of_base32 q) (bytes_of_base32 more)
eight q more size =
    let answer : List ℕ → Result (List ℕ) CidFault = λ x. Ok x in
    let first : Result (List ℕ) CidFault → Result (List ℕ) CidFault = λ r. together r (bytes_of_base32 more) in
    let second : Result (List ℕ) CidFault → Result (List ℕ) CidFault = λ r. together (Ok (bytes_of_letters q)) r in
    let one : bytes_of_quantum q ≡ bytes_of_letters q = sym (one-quantum q (omega arith)) in
    ⊎_elim
    (λ front.
    ⊎_elim
    (λ rest.
    bytes_of_base32-is (q ++ more) (join q more size front.0 rest.0)
    ∙ ap answer (bytes_of_letters-eight q more size ∙ ap (λ (x : List ℕ). x ++ bytes_of_letters more) one)
    ∙ sym (ap first front.1 ∙ ap second rest.1))
    (λ rest. bytes_of_base32-refused (q ++ more) (λ is. rest.0 (split q more size is).1) ∙ sym (ap first front.1 ∙ ap second rest.1))
    (bytes_of_base32-cases more))
    (λ front. bytes_of_base32-refused (q ++ more) (λ is. front.0 (split q more size is).0) ∙ sym (ap first front.1))
    (bytes_of_base32-cases q)

-- nothing follows
together-none : (r : Result (List ℕ) CidFault) → r ≡ together r (bytes_of_base32 [])
together-none (Ok a) = let answer : List ℕ → Result (List ℕ) CidFault = λ x. Ok x in ap answer (sym (append-nil a))
together-none (Err e) = refl

-- one quantum of letters is read, and then the others
pub step : (n : ℕ) (s : List ℕ) → n ≡ min 8 (length s) → bytes_of_base32 s ≡ together (bytes_of_base32 (take n s)) (bytes_of_base32 (drop n s))
step n s h =
    ⊎_elim
    (λ (few : length s < 8).
    let all : length s ≤ n = omega arith in
    together-none (bytes_of_base32 s)
    ∙ ap (λ (x : List ℕ). together (bytes_of_base32 x) (bytes_of_base32 [])) (sym (take_all n s all))
    ∙ ap (λ (x : List ℕ). together (bytes_of_base32 (take n s)) (bytes_of_base32 x)) (sym (drop_all n s all)))
    (λ (many : 8 ≤ length s).
    let enough : n ≤ length s = omega arith in
    ap bytes_of_base32 (sym (take-append-drop n s)) ∙ eight (take n s) (drop n s) (length-take-le n s enough ∙ omega arith))
    (cases_lt (length s) 8)

-- a front is read after what was, and the rest is still to come
pub piece-read : (whole left front rest : Result (List ℕ) CidFault) (old new : List ℕ) → whole ≡ appended old left → left ≡ together front rest → appended old front ≡ Ok new → whole ≡ appended new rest
piece-read whole left (Ok a) (Ok b) old new so_far parts one =
    let answer : List ℕ → Result (List ℕ) CidFault = λ x. Ok x in
    so_far
    ∙ ap (appended old) parts
    ∙ ap answer (sym (append_assoc old a b) ∙ ap (λ (x : List ℕ). x ++ b) (ok_same (old ++ a) new one))
piece-read whole left (Ok a) (Err e) old new so_far parts one = so_far ∙ ap (appended old) parts
piece-read whole left (Err e) rest old new so_far parts one = absurd cc

-- a front that is rejected is the error of the whole
piece-refused : (whole left front rest : Result (List ℕ) CidFault) (old : List ℕ) (f : CidFault) → whole ≡ appended old left → left ≡ together front rest → appended old front ≡ Err f → whole ≡ Err f
piece-refused whole left (Ok a) rest old f so_far parts one = absurd cc
piece-refused whole left (Err e) rest old f so_far parts one = so_far ∙ ap (appended old) parts ∙ one

-- a front that fails is the failure of the whole
pub piece-fails : (whole left front rest : Result (List ℕ) CidFault) (old : List ℕ) (e : CidFault) → whole ≡ appended old left → left ≡ together front rest → Fails e (appended old front) → Fails e whole
piece-fails whole left front rest old e so_far parts one =
    fails_along e (appended old front) whole (λ f h. piece-refused whole left front rest old f so_far parts h) one
