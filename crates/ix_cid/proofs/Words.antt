-- The order of bytes is the order of the numbers that they spell, eight at a time.
use Rattle.std.proofs.Common.{◌≡◌, Ordering, Less, Equal, Greater, ℕ, suc, ◌+◌, ◌*◌, ◌^◌, ◌<◌, ◌≤◌, List, [], ◌∷◌, length, refl, sym, ap, ◌∙◌, subst, arith}
use Rattle.std.specs.Int.{w64, from_be_bytes}
use Rattle.std.specs.Ordering.{MatchOrdering, nat_cmp, ordering_then}
use Rattle.std.specs.Cmp.{ranks, nat_cmp_is}
use Rattle.std.specs.Cmp.Lexicographic.{slice_cmp}
use Rattle.std.proofs.Math.Nat.{mul-le-mul_right, pow-suc}
use Rattle.ix_cid.specs.Bytes.{AreBytes}

-- what is after the first byte are bytes
AreBytes-rest : (b : ℕ) (bs : List ℕ) → AreBytes (b ∷ bs) → AreBytes bs
AreBytes-rest b bs are k d within = are (suc k) d (omega (arith, within))

-- the number that bytes spell, the first the highest
abbrev worth : List ℕ → ℕ
worth [] = 0
worth (b ∷ bs) = b * 256 ^ length bs + worth bs

-- it has no more digits than there are bytes
worth_below : (bs : List ℕ) → AreBytes bs → worth bs < 256 ^ length bs
worth_below [] are = omega arith
worth_below (b ∷ bs) are =
    let below : worth bs < 256 ^ length bs = worth_below bs (AreBytes-rest b bs are) in
    let small : b < 256 = are 0 0 (omega arith) in
    let first : (b + 1) * 256 ^ length bs ≤ 256 * 256 ^ length bs = mul-le-mul_right (256 ^ length bs) (omega (arith, small)) in
    omega (arith, below, first, pow-suc 256 (length bs))

-- the higher digit decides, and where they are equal what is after them
digits : (o r : Ordering) (x y k p q : ℕ) → p < k → q < k → MatchOrdering o (x < y) (x ≡ y) (y < x) → MatchOrdering r (p < q) (p ≡ q) (q < p)
    → MatchOrdering (ordering_then o r) (x * k + p < y * k + q) (x * k + p ≡ y * k + q) (y * k + q < x * k + p)
digits Less r x y k p q small few h g = let m : (x + 1) * k ≤ y * k = mul-le-mul_right k (omega (arith, h)) in omega (arith, m, small)
digits Greater r x y k p q small few h g = let m : (y + 1) * k ≤ x * k = mul-le-mul_right k (omega (arith, h)) in omega (arith, m, few)
digits Equal Less x y k p q small few h g = let m : x * k ≡ y * k = ap (λ (n : ℕ). n * k) h in omega (arith, m, g)
digits Equal Equal x y k p q small few h g = let m : x * k ≡ y * k = ap (λ (n : ℕ). n * k) h in omega (arith, m, g)
digits Equal Greater x y k p q small few h g = let m : x * k ≡ y * k = ap (λ (n : ℕ). n * k) h in omega (arith, m, g)

-- bytes of one length are in the order of the numbers that they spell
ranked : (xs ys : List ℕ) → length xs ≡ length ys → AreBytes xs → AreBytes ys → MatchOrdering (slice_cmp nat_cmp xs ys) (worth xs < worth ys) (worth xs ≡ worth ys) (worth ys < worth xs)
ranked [] [] same xb yb = refl
ranked [] (y ∷ ys) same xb yb = absurd (omega (arith, same))
ranked (x ∷ xs) [] same xb yb = absurd (omega (arith, same))
ranked (x ∷ xs) (y ∷ ys) same xb yb =
    let tails : length xs ≡ length ys = omega (arith, same) in
    let below : worth ys < 256 ^ length xs = subst (λ (n : ℕ). worth ys < 256 ^ n) (sym tails) (worth_below ys (AreBytes-rest y ys yb)) in
    let d = digits (nat_cmp x y) (slice_cmp nat_cmp xs ys) x y (256 ^ length xs) (worth xs) (worth ys) (worth_below xs (AreBytes-rest x xs xb)) below (ranks x y) (ranked xs ys tails (AreBytes-rest x xs xb) (AreBytes-rest y ys yb)) in
    subst (λ (n : ℕ). MatchOrdering (ordering_then (nat_cmp x y) (slice_cmp nat_cmp xs ys)) (x * 256 ^ length xs + worth xs < y * 256 ^ n + worth ys) (x * 256 ^ length xs + worth xs ≡ y * 256 ^ n + worth ys) (y * 256 ^ n + worth ys < x * 256 ^ length xs + worth xs)) tails d

-- eight bytes
worth_eight : (bs : List ℕ) → length bs ≡ 8 → from_be_bytes w64 bs ≡ worth bs
worth_eight (a ∷ b ∷ c ∷ d ∷ e ∷ f ∷ g ∷ h ∷ []) eight = omega arith
worth_eight [] eight = absurd (omega (arith, eight))
worth_eight (a ∷ []) eight = absurd (omega (arith, eight))
worth_eight (a ∷ b ∷ []) eight = absurd (omega (arith, eight))
worth_eight (a ∷ b ∷ c ∷ []) eight = absurd (omega (arith, eight))
worth_eight (a ∷ b ∷ c ∷ d ∷ []) eight = absurd (omega (arith, eight))
worth_eight (a ∷ b ∷ c ∷ d ∷ e ∷ []) eight = absurd (omega (arith, eight))
worth_eight (a ∷ b ∷ c ∷ d ∷ e ∷ f ∷ []) eight = absurd (omega (arith, eight))
worth_eight (a ∷ b ∷ c ∷ d ∷ e ∷ f ∷ g ∷ []) eight = absurd (omega (arith, eight))
worth_eight (a ∷ b ∷ c ∷ d ∷ e ∷ f ∷ g ∷ h ∷ i ∷ bs) eight = absurd (omega (arith, eight))

-- the order of the numbers that eight bytes spell is theirs
pub order_of_eight : (xs ys : List ℕ) → length xs ≡ 8 → length ys ≡ 8 → AreBytes xs → AreBytes ys
    → nat_cmp (from_be_bytes w64 xs) (from_be_bytes w64 ys) ≡ slice_cmp nat_cmp xs ys
order_of_eight xs ys m n xb yb =
    ap (λ (a : ℕ). nat_cmp a (from_be_bytes w64 ys)) (worth_eight xs m) ∙ ap (nat_cmp (worth xs)) (worth_eight ys n)
    ∙ sym (nat_cmp_is (worth xs) (worth ys) (slice_cmp nat_cmp xs ys) (ranked xs ys (m ∙ sym n) xb yb))
