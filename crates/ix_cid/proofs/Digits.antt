-- Numbers and their digits in a base.
use Rattle.std.proofs.Common.{◌≡◌, ℕ, zero, suc, ◌+◌, ◌*◌, ◌/◌, ◌%◌, ◌^◌, ◌<◌, ◌≤◌, List, [], ◌∷◌, ◌++◌, length, get_or, take, drop, refl, sym, ap, ◌∙◌, arith}
use Rattle.std.specs.List.{All}
use Rattle.std.proofs.lemmas.List.Elements.{All-head, All-tail, All-nil, All-cons}
use Rattle.std.proofs.lemmas.List.{at_drop_more}
use Rattle.std.proofs.Math.Arith.{digits_lt, digits_div, digits_mod, mod-mul}
use Rattle.std.proofs.Math.Nat.{pow-suc, pow-succ', pow-zero, mod-one, div-div-eq-div-mul, one-le-pow, pow-le-pow_right, mod-lt}
use Rattle.std.proofs.lemmas.Nat.{pow-add}
use Rattle.ix_cid.specs.CidText.{number_in, digits_in}

-- A number in front counts above the digits.
pub number_in-split : (base n : ℕ) (ds : List ℕ) → number_in base n ds ≡ n * base ^ length ds + number_in base 0 ds
number_in-split base n [] =
    let one : n * base ^ 0 ≡ n * 1 = ap (λ (x : ℕ). n * x) (pow-zero base) in
    let same : n ≡ n * base ^ 0 + 0 = omega (arith, one) in
    same
number_in-split base n (d ∷ ds) =
    let above : n * base ^ suc (length ds) ≡ n * (base ^ length ds * base) = ap (λ (x : ℕ). n * x) (pow-suc base (length ds)) in
    let split : number_in base (n * base + d) ds ≡ (n * base + d) * base ^ length ds + number_in base 0 ds = number_in-split base (n * base + d) ds in
    let alone : number_in base (0 * base + d) ds ≡ (0 * base + d) * base ^ length ds + number_in base 0 ds = number_in-split base (0 * base + d) ds in
    let whole : number_in base (n * base + d) ds ≡ n * base ^ suc (length ds) + number_in base (0 * base + d) ds = omega (arith, above, split, alone) in
    whole

-- Digits spell less than the power of the base at their number.
pub number_in-lt : (base : ℕ) (ds : List ℕ) → All (λ d. d < base) ds → number_in base 0 ds < base ^ length ds
number_in-lt base [] h = omega (arith, pow-zero base)
number_in-lt base (d ∷ ds) h =
    let above : d * base ^ length ds + number_in base 0 ds < base * base ^ length ds =
    digits_lt (All-head (λ d. d < base) d ds h) (number_in-lt base ds (All-tail (λ d. d < base) d ds h)) in
    let split : number_in base (0 * base + d) ds ≡ (0 * base + d) * base ^ length ds + number_in base 0 ds = number_in-split base (0 * base + d) ds in
    let whole : number_in base (0 * base + d) ds < base ^ suc (length ds) = omega (arith, above, split, pow-succ' base (length ds)) in
    whole

-- The digits of what digits spell are these, whatever is in front.
pub digits_in-number_in : (base : ℕ) (ds : List ℕ) (n : ℕ) → All (λ d. d < base) ds → digits_in base (length ds) (number_in base n ds) ≡ ds
digits_in-number_in base [] n h = refl
digits_in-number_in base (d ∷ ds) n h =
    let low : number_in base 0 ds < base ^ length ds = number_in-lt base ds (All-tail (λ d. d < base) d ds h) in
    let first : number_in base (n * base + d) ds / base ^ length ds % base ≡ d =
    ap (λ (x : ℕ). x / base ^ length ds % base) (number_in-split base (n * base + d) ds)
    ∙ ap (λ (x : ℕ). x % base) (digits_div (n * base + d) low)
    ∙ digits_mod n (All-head (λ d. d < base) d ds h) in
    let rest = digits_in-number_in base ds (n * base + d) (All-tail (λ d. d < base) d ds h) in
    cc (first, rest)

-- As many digits as are asked for.
pub length-digits_in : (base k m : ℕ) → length (digits_in base k m) ≡ k
length-digits_in base zero m = refl
length-digits_in base (suc k) m = ap suc (length-digits_in base k m)

-- The digits of a number spell its rest by the power of the base.
pub number_in-digits_in : (base k m : ℕ) → 0 < base → number_in base 0 (digits_in base k m) ≡ m % base ^ k
number_in-digits_in base zero m h = sym (ap (λ (x : ℕ). m % x) (pow-zero base) ∙ mod-one m)
number_in-digits_in base (suc k) m h =
    let q = m / base ^ k % base in
    let split : number_in base (0 * base + q) (digits_in base k m) ≡ (0 * base + q) * base ^ k + m % base ^ k =
    number_in-split base (0 * base + q) (digits_in base k m)
    ∙ ap (λ (x : ℕ). (0 * base + q) * base ^ x + number_in base 0 (digits_in base k m)) (length-digits_in base k m)
    ∙ ap (λ (x : ℕ). (0 * base + q) * base ^ k + x) (number_in-digits_in base k m h) in
    let whole : m % (base * base ^ k) ≡ q * base ^ k + m % base ^ k = mod-mul m h (one-le-pow k base h) in
    split ∙ omega arith ∙ sym whole ∙ ap (λ (x : ℕ). m % x) (sym (pow-succ' base k))

-- The first digits of a number are those of its quotient.
pub take-digits_in : (base n j t m : ℕ) → n + j ≡ t → take n (digits_in base t m) ≡ digits_in base n (m / base ^ j)
take-digits_in base zero j t m e = refl
take-digits_in base (suc n) j zero m e = absurd (omega arith)
take-digits_in base (suc n) j (suc t) m e =
    let sum : t ≡ j + n = omega arith in
    let first : m / base ^ t % base ≡ m / base ^ j / base ^ n % base =
    ap (λ (x : ℕ). m / base ^ x % base) sum
    ∙ ap (λ (x : ℕ). m / x % base) (pow-add base j n)
    ∙ ap (λ (x : ℕ). x % base) (sym (div-div-eq-div-mul m (base ^ j) (base ^ n))) in
    let rest = take-digits_in base n j t m (omega arith) in
    cc (first, rest)

-- One digit more of a number.
pub digits_in-more : (base k m i j : ℕ) → i + suc j ≡ k → take (i + 1) (digits_in base k m) ≡ take i (digits_in base k m) ++ (m / base ^ j % base) ∷ []
digits_in-more base zero m i j e = absurd (omega arith)
digits_in-more base (suc k) m zero j e =
    let last : j ≡ k = omega arith in
    ap (λ (x : ℕ). (m / base ^ x % base) ∷ []) (sym last)
digits_in-more base (suc k) m (suc i) j e =
    let more : suc i + 1 ≡ suc (i + 1) = omega arith in
    let rest = digits_in-more base k m i j (omega arith) in
    ap (λ (x : ℕ). take x (digits_in base (suc k) m)) more ∙ ap (λ (x : List ℕ). (m / base ^ k % base) ∷ x) rest

-- One digit is taken into the number.
pub number_in-turn : (base n : ℕ) (ds : List ℕ) (i : ℕ) → i < length ds → number_in base n (drop i ds) ≡ number_in base (n * base + get_or ds i 0) (drop (i + 1) ds)
number_in-turn base n ds i h = at_drop_more (number_in base n) ds i 0 h

-- Five bits are a digit in the base 32.
pub pow-32 : (j : ℕ) → 2 ^ (5 * j) ≡ 32 ^ j
pow-32 zero = refl
pow-32 (suc j) =
    let sum : 5 * suc j ≡ 5 * j + 5 = omega arith in
    ap (λ (x : ℕ). 2 ^ x) sum ∙ pow-add 2 (5 * j) 5 ∙ ap (λ (x : ℕ). x * 32) (pow-32 j) ∙ sym (pow-suc 32 j)

-- Eight bits are a digit in the base 256.
pub pow-256 : (j : ℕ) → 2 ^ (8 * j) ≡ 256 ^ j
pow-256 zero = refl
pow-256 (suc j) =
    let sum : 8 * suc j ≡ 8 * j + 8 = omega arith in
    ap (λ (x : ℕ). 2 ^ x) sum ∙ pow-add 2 (8 * j) 8 ∙ ap (λ (x : ℕ). x * 256) (pow-256 j) ∙ sym (pow-suc 256 j)

-- A higher power is no less.
pub pow-least : (base i k : ℕ) → 0 < base → i ≤ k → base ^ i ≤ base ^ k
pow-least base i k some h = pow-le-pow_right some h

-- Digits are below their base.
pub digits_in-below : (base k m : ℕ) → 0 < base → All (λ d. d < base) (digits_in base k m)
digits_in-below base zero m h = All-nil (λ d. d < base)
digits_in-below base (suc k) m h = All-cons (λ d. d < base) (m / base ^ k % base) (digits_in base k m) (mod-lt (m / base ^ k) h) (digits_in-below base k m h)
