-- Varints: each number below 2 ^ 63 has one, which is read if it is at the front, whatever follows.
use Rattle.std.proofs.Common.{◌≡◌, ℕ, ◌+◌, ◌^◌, ◌<◌, ◌≤◌, Bool, false, ◌&&◌, ltb, leb, eqb, cond, List, ◌∷◌, ◌++◌, length, get_or, take, Result, Ok, Err, refl, sym, ◌∙◌, ap, subst, ⊎_elim, arith}
use Rattle.std.proofs.lemmas.Bool.{lt-leb, le-ltb, leb-false, eqb-false, ne_eqb, and_cases, and_left, and_right, ltb-false}
use Rattle.std.proofs.lemmas.List.{take_at, length-append, length-take-le}
use Rattle.ix_cid.specs.Bytes.{AreBytes}
use Rattle.ix_cid.specs.Varint.{number_of_groups, continued, AreGroups, last, more, varint_at, varint_of, varint_ending, IsVarint}
use Rattle.ix_cid.specs.declared.fault.VarintFault.{VarintFault}
use Rattle.ix_cid.specs.declared.fault.VarintFault.TheVariants.{Truncated, TooLong, NotMinimal}
use Rattle.ix_cid.proofs.Results.{past_test, ok_same}
use Rattle.ix_cid.proofs.GroupLaws.{continued_groups, number_groups, last_group, bound_groups, one_spelling, groups_spell, groups_length, continued_length, read_groups, read_one_group}

-- a number below 2 ^ 63 has a varint
pub IsVarint-varint_of : (n : ℕ) → n < 2 ^ 63 → IsVarint (varint_of n) n
IsVarint-varint_of n small = record { groups = groups_spell 8 n small; short = groups_length 8 n }

-- what has a varint is below 2 ^ 63
pub IsVarint-below : (b : List ℕ) (n : ℕ) → IsVarint b n → n < 2 ^ 63
IsVarint-below b n h = bound_groups h.groups 8 h.short

-- a number has one varint
pub IsVarint-is : (b : List ℕ) (n : ℕ) → IsVarint b n → b ≡ varint_of n
IsVarint-is b n h = one_spelling h.groups 8 h.short

-- whether the byte k ends a longer form, `00` after others
abbrev ends_in_zero : List ℕ → ℕ → Bool
ends_in_zero b k = eqb (get_or b k 0) 0 && ltb 0 k

-- only a lone byte may be 0 at the end
no_zero_end : {b : List ℕ} {n : ℕ} → AreGroups b n → (rest : List ℕ) → ends_in_zero (b ++ rest) (continued (b ++ rest)) ≡ false
no_zero_end (last {b = b} small) rest =
    let none : continued (b ∷ rest) ≡ 0 = rw (lt-leb 128 b small) refl in
    and_right (eqb (get_or (b ∷ rest) (continued (b ∷ rest)) 0) 0) (ltb 0 (continued (b ∷ rest))) (le-ltb 0 (continued (b ∷ rest)) (omega arith))
no_zero_end (more {b = b} {n = n} {bs = bs} small some h) rest =
    let bytes : List ℕ = (128 + b) ∷ (bs ++ rest) in
    let k : ℕ = continued bytes in
    let end : 0 < get_or bytes k 0 = last_group (more {b = b} {n = n} {bs = bs} small some h) (omega arith) rest in
    and_left (eqb (get_or bytes k 0) 0) (ltb 0 k) (ne_eqb (get_or bytes k 0) 0 (λ e. omega arith))

-- how a varint is read
reading : (b : List ℕ) → continued b < 9 → continued b < length b → ends_in_zero b (continued b) ≡ false → varint_at b ≡ Ok (number_of_groups (take (continued b + 1) b), continued b + 1)
reading b short inside end =
    let long : leb 9 (continued b) ≡ false = lt-leb 9 (continued b) short in
    let cut : eqb (continued b) (length b) ≡ false = ne_eqb (continued b) (length b) (λ e. omega arith) in
    rw (long, cut, end) refl

-- a varint at the front is read, whatever follows
pub varint_at-append : (b : List ℕ) (n : ℕ) (rest : List ℕ) → IsVarint b n → varint_at (b ++ rest) ≡ Ok (n, length b)
varint_at-append b n rest h =
    let size : continued (b ++ rest) + 1 ≡ length b = continued_groups h.groups rest in
    let found : ℕ → Result (ℕ × ℕ) VarintFault = λ k. Ok (number_of_groups (take k (b ++ rest)), k) in
    let number : List ℕ → Result (ℕ × ℕ) VarintFault = λ t. Ok (number_of_groups t, length b) in
    let spells : ℕ → Result (ℕ × ℕ) VarintFault = λ m. Ok (m, length b) in
    reading (b ++ rest) (omega (arith, h.short)) (omega (arith, length-append b rest)) (no_zero_end h.groups rest)
    ∙ (ap found size ∙ (ap number (take_at b rest (length b) refl) ∙ ap spells (number_groups h.groups)))

-- the groups at the front of bytes that don't end in a 0 after others
front_groups : (b : List ℕ) → AreBytes b → continued b < length b → ends_in_zero b (continued b) ≡ false → AreGroups (take (continued b + 1) b) (number_of_groups (take (continued b + 1) b))
front_groups b bytes inside end =
    ⊎_elim
    (λ (some : eqb (get_or b (continued b) 0) 0 ≡ false).
    let ne : get_or b (continued b) 0 ≡ 0 → ⊥ = eqb-false _ _ some in
    (read_groups b bytes inside (omega arith)).0)
    (λ (lone : ltb 0 (continued b) ≡ false).
    let none : continued b ≡ 0 = (let z = ltb-false 0 (continued b) lone in omega arith) in
    let P : ℕ → Type 0 = λ k. AreGroups (take (k + 1) b) (number_of_groups (take (k + 1) b)) in
    subst P (sym none) (read_one_group b none (omega arith)))
    (and_cases _ _ end)

-- what is read of bytes is a varint at their front
pub varint_at-varint : (b : List ℕ) (n k : ℕ) → AreBytes b → varint_at b ≡ Ok (n, k) → (k ≤ length b) × IsVarint (take k b) n
varint_at-varint b n k bytes h =
    let long = past_test (leb 9 (continued b)) TooLong (cond (eqb (continued b) (length b)) (Err Truncated) (varint_ending b (continued b))) (n, k) h in
    let cut = past_test (eqb (continued b) (length b)) Truncated (varint_ending b (continued b)) (n, k) long.1 in
    let end = past_test (ends_in_zero b (continued b)) NotMinimal (Ok (number_of_groups (take (continued b + 1) b), continued b + 1)) (n, k) cut.1 in
    let short : continued b < 9 = leb-false 9 (continued b) long.0 in
    let ne : continued b ≡ length b → ⊥ = eqb-false _ _ cut.0 in
    let inside : continued b < length b = omega (arith, continued_length b) in
    let pair = ok_same (number_of_groups (take (continued b + 1) b), continued b + 1) (n, k) end.1 in
    let size : continued b + 1 ≡ k = ap (λ (p : ℕ × ℕ). p.1) pair in
    let number : number_of_groups (take (continued b + 1) b) ≡ n = ap (λ (p : ℕ × ℕ). p.0) pair in
    let P : ℕ → Type 0 = λ j. AreGroups (take j b) n in (
      omega arith,
      record {
        groups = subst P size (subst (λ m. AreGroups (take (continued b + 1) b) m) number (front_groups b bytes inside end.0));
        short = omega (arith, length-take-le k b (omega arith));
      },
    )

-- no varint begins another
pub no_beginning : (a b x y : List ℕ) (m n : ℕ) → IsVarint a m → IsVarint b n → a ++ x ≡ b ++ y → (a ≡ b) × (m ≡ n)
no_beginning a b x y m n ha hb same =
    let pair : (m, length a) ≡ (n, length b) = ok_same (m, length a) (n, length b) (sym (varint_at-append a m x ha) ∙ (ap varint_at same ∙ varint_at-append b n y hb)) in
    let number : m ≡ n = ap (λ (p : ℕ × ℕ). p.0) pair in
    (IsVarint-is a m ha ∙ (ap varint_of number ∙ sym (IsVarint-is b n hb)), number)
