-- Groups of seven bits: what spells a number in them, and what is read from the bytes that they are.
use Rattle.std.proofs.Common.{◌≡◌, ℕ, zero, suc, ◌+◌, ◌*◌, ◌/◌, ◌%◌, ◌^◌, ◌<◌, ◌≤◌, true, false, ltb, leb, List, [], ◌∷◌, ◌++◌, length, get_or, take, refl, sym, ◌∙◌, subst, add-one, ⊎_elim, arith}
use Rattle.std.proofs.Math.Nat.{pow-succ'}
use Rattle.std.proofs.lemmas.Bool.{lt-leb, le-leb, lt-ltb, le-ltb, leb-true, leb-false, ltb-true, ltb-false, cond_both, cond-true, cases_lt}
use Rattle.std.proofs.lemmas.List.Elements.{All-head, All-tail}
use Rattle.ix_cid.specs.Bytes.{AreBytes}
use Rattle.ix_cid.specs.Varint.{number_of_groups, continued, groups_of, AreGroups, last, more}

-- each byte but the last has the high bit, whatever follows
pub continued_groups : {b : List ℕ} {n : ℕ} → AreGroups b n → (rest : List ℕ) → continued (b ++ rest) + 1 ≡ length b
continued_groups (last {b = b} small) rest = rw (lt-leb 128 b small) refl
continued_groups (more {b = b} {bs = bs} small some h) rest =
    let high : leb 128 (128 + b) ≡ true = le-leb 128 (128 + b) (omega arith) in
    rw high (omega (arith, continued_groups h rest))

-- the number that groups spell
pub number_groups : {b : List ℕ} {n : ℕ} → AreGroups b n → number_of_groups b ≡ n
number_groups (last {b = b} small) = omega arith
number_groups (more {b = b} {n = n} {bs = bs} small some h) = let e = number_groups h in omega arith

-- more than 0 ends in a byte that isn't 0
pub last_group : {b : List ℕ} {n : ℕ} → AreGroups b n → 0 < n → (rest : List ℕ) → 0 < get_or (b ++ rest) (continued (b ++ rest)) 0
last_group (last {b = b} small) some rest = rw (lt-leb 128 b small) some
last_group (more {b = b} {bs = bs} small some h) any rest =
    let high : leb 128 (128 + b) ≡ true = le-leb 128 (128 + b) (omega arith) in
    rw (high, add-one) (last_group h some rest)

-- groups are at least one byte
pub some_group : {b : List ℕ} {n : ℕ} → AreGroups b n → 0 < length b
some_group (last small) = omega arith
some_group (more small some h) = omega arith

-- what one byte more spells
power_more : (k : ℕ) → 128 ^ (suc k + 1) ≡ 128 * 128 ^ (k + 1)
power_more k = rw (add-one (suc k), add-one k) (pow-succ' 128 (suc k))

-- what one byte or more spells
power_some : (k : ℕ) → 128 ≤ 128 ^ (k + 1)
power_some zero = omega arith
power_some (suc k) = omega (arith, power_more k, power_some k)

-- at most 7 bits a byte
pub bound_groups : {b : List ℕ} {n : ℕ} → AreGroups b n → (k : ℕ) → length b ≤ k + 1 → n < 128 ^ (k + 1)
bound_groups (last {b = b} small) zero fits = small
bound_groups (last {b = b} small) (suc k) fits = omega (arith, power_some (suc k))
bound_groups (more {b = b} {n = n} {bs = bs} small some h) zero fits = absurd (omega (arith, some_group h))
bound_groups (more {b = b} {n = n} {bs = bs} small some h) (suc k) fits =
    let below : n < 128 ^ (k + 1) = bound_groups h k (omega arith) in
    omega (arith, power_more k)

-- one spelling
pub one_spelling : {b : List ℕ} {n : ℕ} → AreGroups b n → (k : ℕ) → length b ≤ k + 1 → b ≡ groups_of k n
one_spelling (last {b = b} small) zero fits = refl
one_spelling (last {b = b} small) (suc k) fits = rw (lt-ltb b 128 small) refl
one_spelling (more small some h) zero fits = absurd (omega (arith, some_group h))
one_spelling (more {b = b} {n = n} {bs = bs} small some h) (suc k) fits =
    let rest : bs ≡ groups_of k n = one_spelling h k (omega arith) in
    let low : (b + 128 * n) % 128 ≡ b = omega arith in
    let high : (b + 128 * n) / 128 ≡ n = omega arith in
    let long : ltb (b + 128 * n) 128 ≡ false = le-ltb (b + 128 * n) 128 (omega arith) in
    rw (long, low, high) (let swap : 128 + b ≡ b + 128 = omega arith in cc)

-- each number has a spelling
pub groups_spell : (k n : ℕ) → n < 128 ^ (k + 1) → AreGroups (groups_of k n) n
groups_spell zero n small = last small
groups_spell (suc k) n small =
    cond_both (ltb n 128) (n ∷ []) ((n % 128 + 128) ∷ groups_of k (n / 128)) (λ b. AreGroups b n)
    (λ e. last (ltb-true n 128 e))
    (λ e.
    let long : 128 ≤ n = ltb-false n 128 e in
    let high : n / 128 < 128 ^ (k + 1) = omega (arith, power_more k) in
    let h : AreGroups (groups_of k (n / 128)) (n / 128) = groups_spell k (n / 128) high in
    subst (λ b. AreGroups (b ∷ groups_of k (n / 128)) n) (let c : 128 + n % 128 ≡ n % 128 + 128 = omega arith in c)
    (subst (λ m. AreGroups ((128 + n % 128) ∷ groups_of k (n / 128)) m) (let c : n % 128 + 128 * (n / 128) ≡ n = omega arith in c)
    (more (omega arith) (omega arith) h)))

-- of at most so many bytes
pub groups_length : (k n : ℕ) → length (groups_of k n) ≤ k + 1
groups_length zero n = omega arith
groups_length (suc k) n =
    cond_both (ltb n 128) (n ∷ []) ((n % 128 + 128) ∷ groups_of k (n / 128)) (λ b. length b ≤ suc k + 1) (λ e. omega arith) (λ e. let h = groups_length k (n / 128) in omega arith)

-- at most all bytes have the high bit
pub continued_length : (b : List ℕ) → continued b ≤ length b
continued_length [] = omega arith
continued_length (x ∷ xs) =
    cond_both (leb 128 x) (continued xs + 1) 0 (λ c. c ≤ length (x ∷ xs)) (λ e. omega (arith, continued_length xs)) (λ e. omega arith)

-- one byte more at the front
take_next : (c x : ℕ) (xs : List ℕ) → take (suc c + 1) (x ∷ xs) ≡ x ∷ take (c + 1) xs
take_next c x xs = rw (add-one (suc c), add-one c) refl

-- the first c + 1 bytes are groups, of more than 0
abbrev AreSome : List ℕ → ℕ → Type 0
AreSome b c = AreGroups (take (c + 1) b) (number_of_groups (take (c + 1) b)) × (0 < number_of_groups (take (c + 1) b))

-- the same from the bytes themselves
abbrev AreSomeGroups : List ℕ → Type 0
AreSomeGroups b = AreGroups b (number_of_groups b) × (0 < number_of_groups b)

-- groups with one byte more at the front
one_more : (x : ℕ) (b : List ℕ) → x < 256 → 128 ≤ x → AreSomeGroups b → AreSomeGroups (x ∷ b)
one_more x b byte high h =
    let c : 128 + x % 128 ≡ x = omega arith in
    let some : 0 < number_of_groups b = h.1 in
    (subst (λ y. AreGroups (y ∷ b) (x % 128 + 128 * number_of_groups b)) c (more (omega arith) some h.0), omega arith)

-- a byte without the high bit
one_group : (x : ℕ) → x < 128 → AreGroups (x ∷ []) (x % 128 + 128 * 0)
one_group x low = subst (λ n. AreGroups (x ∷ []) n) (let c : x ≡ x % 128 + 128 * 0 = omega arith in c) (last low)

-- what is read after more than one byte: groups, where the last isn't 0
pub read_groups : (b : List ℕ) → AreBytes b → continued b < length b → 0 < get_or b (continued b) 0 → AreSome b (continued b)
read_groups [] bytes short end = absurd (omega arith)
read_groups (x ∷ xs) bytes short end =
    let byte : x < 2 ^ 8 = All-head (λ y. y < 2 ^ 8) x xs bytes in
    let Q : ℕ → Type 0 = λ c. c < length (x ∷ xs) → 0 < get_or (x ∷ xs) c 0 → AreSome (x ∷ xs) c in
    cond_both (leb 128 x) (continued xs + 1) 0 Q
    (λ e.
    let high : 128 ≤ x = leb-true 128 x e in
    let Q' : (c : ℕ) → (continued xs ≡ c) → Q (suc c) =
    λ c is s t. rw (take_next c x xs) (one_more x (take (c + 1) xs) byte high (subst (AreSome xs) is
    (read_groups xs (All-tail (λ y. y < 2 ^ 8) x xs bytes) (omega arith) (subst (λ k. 0 < get_or xs k 0) (sym is) t)))) in
    subst Q (sym (add-one (continued xs))) (Q' (continued xs) refl))
    (λ e s t.
    let low : x < 128 = leb-false 128 x e in
    (one_group x low, omega arith))
    short end

-- what is read of one byte
pub read_one_group : (b : List ℕ) → continued b ≡ 0 → 0 < length b → AreGroups (take 1 b) (number_of_groups (take 1 b))
read_one_group [] none some = absurd (omega arith)
read_one_group (x ∷ xs) none some =
    one_group x
    (⊎_elim
    (λ (low : x < 128). low)
    (λ (high : 128 ≤ x). absurd (let one : continued xs + 1 ≡ 0 = sym (cond-true (leb 128 x) (continued xs + 1) 0 (le-leb 128 x high)) ∙ none in omega arith))
    (cases_lt x 128))
