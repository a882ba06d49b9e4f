-- Numbers in base 256, the lowest byte first.
use Rattle.std.proofs.Common.{◌≡◌, ℕ, zero, suc, ◌+◌, ◌*◌, ◌/◌, ◌%◌, ◌^◌, ◌<◌, ◌≤◌, Bool, true, false, ◌==◌, List, [], ◌∷◌, ◌++◌, length, get_or, set, take, drop, reverse, refl, sym, ap, ◌∙◌, inl, inr, arith, length-append}
use Rattle.std.specs.Prelude.{if◌then◌else◌}
use Rattle.std.proofs.lemmas.List.{take_more, take_more_set, drop-set-lt, reverse-append, length-take-le, at_drop_more}
use Rattle.std.proofs.lemmas.List.Elements.{All-head, All-tail}
use Rattle.std.proofs.lemmas.Nat.{div-add-mod', mul-le}
use Rattle.std.proofs.Math.Nat.{pow-suc, pow-succ', pow-zero, one-le-pow}
use Rattle.std.specs.List.{All}
use Rattle.ix_cid_text.specs.Bytes.{zeros_of, shortest, low_value, IsShort}

-- bytes above others count by their place
low_value-append : (xs ys : List ℕ) → low_value (xs ++ ys) ≡ low_value xs + 256 ^ length xs * low_value ys
low_value-append [] ys = omega (arith, pow-zero 256)
low_value-append (x ∷ xs) ys =
    let power : 256 ^ suc (length xs) * low_value ys ≡ 256 * 256 ^ length xs * low_value ys = ap (λ (p : ℕ). p * low_value ys) (pow-succ' 256 (length xs)) in
    omega (arith, low_value-append xs ys, power)

-- one byte above others
pub low_value-push : (xs : List ℕ) (x i : ℕ) → length xs ≡ i → low_value (xs ++ x ∷ []) ≡ low_value xs + x * 256 ^ i
low_value-push xs x i e =
    let power : 256 ^ length xs * (x + 256 * 0) ≡ 256 ^ i * (x + 256 * 0) = ap (λ (k : ℕ). 256 ^ k * (x + 256 * 0)) e in
    omega (arith, low_value-append xs (x ∷ []), power)

-- lists that go on alike have the same element there
same_there : (xs ys : List ℕ) (i : ℕ) → i < length xs → i < length ys → drop i xs ≡ drop i ys → (get_or xs i 0 ≡ get_or ys i 0) × (drop (i + 1) xs ≡ drop (i + 1) ys)
same_there xs ys i h k e =
    let whole : get_or xs i 0 ∷ drop (i + 1) xs ≡ get_or ys i 0 ∷ drop (i + 1) ys =
    sym (at_drop_more (λ (l : List ℕ). l) xs i 0 h) ∙ e ∙ at_drop_more (λ (l : List ℕ). l) ys i 0 k in
    (cc whole, cc whole)

-- one byte of a number is multiplied, and the carry goes on
pub multiplied : (xs ys : List ℕ) (i carry base digit s : ℕ) → i < length xs → length xs ≡ length ys
    → low_value (take i xs) + carry * 256 ^ i ≡ low_value (take i ys) * base + digit
    → drop i xs ≡ drop i ys → s ≡ carry + get_or xs i 0 * base
    → (low_value (take (i + 1) (set xs i (s % 256))) + s / 256 * 256 ^ (i + 1) ≡ low_value (take (i + 1) ys) * base + digit)
    × (drop (i + 1) (set xs i (s % 256)) ≡ drop (i + 1) ys)
multiplied xs ys i carry base digit s within same value rest sum =
    let there = same_there xs ys i within (omega arith) rest in
    let new : low_value (take (i + 1) (set xs i (s % 256))) ≡ low_value (take i xs) + s % 256 * 256 ^ i =
    ap low_value (take_more_set xs i (s % 256) within) ∙ low_value-push (take i xs) (s % 256) i (length-take-le i xs (omega arith)) in
    let old : low_value (take (i + 1) ys) ≡ low_value (take i ys) + get_or ys i 0 * 256 ^ i =
    ap low_value (take_more ys i 0 (omega arith)) ∙ low_value-push (take i ys) (get_or ys i 0) i (length-take-le i ys (omega arith)) in
    let high : s / 256 * 256 ^ (i + 1) ≡ s / 256 * (256 ^ i * 256) = ap (λ (p : ℕ). s / 256 * p) (ap (λ (k : ℕ). 256 ^ k) (omega arith) ∙ pow-suc 256 i) in
    let whole : (s / 256 * 256 + s % 256) * 256 ^ i ≡ (carry + get_or ys i 0 * base) * 256 ^ i =
    ap (λ (n : ℕ). n * 256 ^ i) (div-add-mod' s 256 ∙ sum ∙ ap (λ (n : ℕ). carry + n * base) there.0) in
    let scaled : low_value (take (i + 1) ys) * base ≡ (low_value (take i ys) + get_or ys i 0 * 256 ^ i) * base = ap (λ (n : ℕ). n * base) old in
    (omega (arith, new, high, whole, scaled, value), drop-set-lt (i + 1) xs i (s % 256) (omega arith) ∙ there.1)

-- a number whose highest byte isn't 0
pub short_pushed : (xs : List ℕ) (x : ℕ) → 0 < x → IsShort (xs ++ x ∷ [])
short_pushed xs x some =
    let size : 256 ^ length (xs ++ x ∷ []) ≡ 256 ^ length xs * 256 = ap (λ (k : ℕ). 256 ^ k) (length-append xs (x ∷ []) ∙ omega arith) ∙ pow-suc 256 (length xs) in
    inr (omega (arith, size, low_value-push xs x (length xs) refl, mul-le 1 (256 ^ length xs) x (256 ^ length xs) some (omega arith)))

-- a zero after zeros is a zero before them
snoc : (ds : List ℕ) → zeros_of ds ++ 0 ∷ [] ≡ 0 ∷ zeros_of ds
snoc [] = refl
snoc (d ∷ ds) =
    elim (d == 0) as (λ t. (if t then 0 ∷ zeros_of ds else []) ++ 0 ∷ [] ≡ 0 ∷ (if t then 0 ∷ zeros_of ds else []))
    [ true ↦ ap (λ (l : List ℕ). 0 ∷ l) (snoc ds) | false ↦ refl ]

-- zeros are the same in reverse
zeros-reverse : (ds : List ℕ) → reverse (zeros_of ds) ≡ zeros_of ds
zeros-reverse [] = refl
zeros-reverse (d ∷ ds) =
    elim (d == 0) as (λ t. reverse (if t then 0 ∷ zeros_of ds else []) ≡ (if t then 0 ∷ zeros_of ds else []))
    [ true ↦ reverse-append (0 ∷ []) (zeros_of ds) ∙ ap (λ (l : List ℕ). l ++ 0 ∷ []) (zeros-reverse ds) ∙ snoc ds | false ↦ refl ]

-- without its lowest byte a number is no shorter than it has to be
short_above : (b : ℕ) (bs : List ℕ) → b < 256 → IsShort (b ∷ bs) → IsShort bs
short_above b [] h short = inl refl
short_above b (x ∷ bs) h (inl none) = absurd cc
short_above b (x ∷ bs) h (inr short) =
    inr (omega (arith, pow-succ' 256 (length (x ∷ bs)), pow-succ' 256 (length bs)))

-- a number with a byte isn't 0
positive : (b : ℕ) (bs : List ℕ) → IsShort (b ∷ bs) → 0 < low_value (b ∷ bs)
positive b bs (inl none) = absurd cc
positive b bs (inr short) = omega (arith, short, one-le-pow (length (b ∷ bs)) 256 (omega arith))

past : (t : Bool) (l : List ℕ) → t ≡ false → (if t then [] else l) ≡ l
past true l e = absurd cc
past false l e = refl

-- the bytes of a number, in reverse, are its shortest
pub low-shortest : (most : ℕ) (bs : List ℕ) → All (λ b. b < 2 ^ 8) bs → IsShort bs → length bs ≤ most → reverse bs ≡ shortest most (low_value bs)
low-shortest zero [] are short within = refl
low-shortest (suc most) [] are short within = refl
low-shortest zero (b ∷ bs) are short within = absurd (omega arith)
low-shortest (suc most) (b ∷ bs) are short within =
    let n = low_value (b ∷ bs) in
    let below : b < 256 = All-head (λ b. b < 2 ^ 8) b bs are in
    let rest = low-shortest most bs (All-tail (λ b. b < 2 ^ 8) b bs are) (short_above b bs below short) (omega arith) in
    let high : low_value bs ≡ n / 256 = omega arith in
    let low : b ≡ n % 256 = omega arith in
    let some : 0 < n = positive b bs short in
    reverse-append (b ∷ []) bs ∙ ap (λ (l : List ℕ). l ++ b ∷ []) (rest ∙ ap (shortest most) high)
    ∙ ap (λ (x : ℕ). shortest most (n / 256) ++ x ∷ []) low ∙ sym (past (n == 0) (shortest most (n / 256) ++ (n % 256) ∷ []) (grind (arith, some)))

-- the bytes of a number and of zeros above it, in reverse
pub reversed : (digits bs : List ℕ) → All (λ b. b < 2 ^ 8) bs → IsShort bs → length bs ≤ length digits → (n : ℕ) → low_value bs ≡ n
    → reverse (bs ++ zeros_of digits) ≡ zeros_of digits ++ shortest (length digits) n
reversed digits bs are short within n value =
    reverse-append bs (zeros_of digits) ∙ ap (λ (l : List ℕ). l ++ reverse bs) (zeros-reverse digits)
    ∙ ap (λ (l : List ℕ). zeros_of digits ++ l) (low-shortest (length digits) bs are short within ∙ ap (shortest (length digits)) value)
