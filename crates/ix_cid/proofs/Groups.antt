-- Varints written group by group.
use Rattle.std.proofs.Common.{◌≡◌, ℕ, zero, suc, ◌+◌, ◌-◌, ◌*◌, ◌/◌, ◌%◌, ◌^◌, ◌<◌, ◌≤◌, Bool, cond, List, [], ◌∷◌, ◌++◌, length, take, set, sym, refl, ap, ◌∙◌, ⊎_elim, arith, append_assoc, Result, Ok, Err, OnOk, is_ok}
use Rattle.std.proofs.lemmas.List.{take_more_set}
use Rattle.std.proofs.lemmas.Nat.{pow-add, div_below}
use Rattle.std.proofs.lemmas.Bool.{le-ltb, lt-ltb, cases_lt}
use Rattle.ix_cid.specs.Varint.{groups_of}

-- a number with more groups gives its lowest
pub groups_of-more : (k n : ℕ) → k < 8 → 128 ≤ n → groups_of (8 - k) n ≡ (n % 128 + 128) ∷ groups_of (8 - (k + 1)) (n / 128)
groups_of-more k n few high =
    let e : 8 - k ≡ suc (8 - (k + 1)) = omega arith in
    ap (λ m. groups_of m n) e ∙ ap (λ (t : Bool). cond t (n ∷ []) ((n % 128 + 128) ∷ groups_of (8 - (k + 1)) (n / 128))) (le-ltb n 128 high)

-- a number below 128 is one group
pub groups_of-last : (k n : ℕ) → n < 128 → groups_of k n ≡ n ∷ []
groups_of-last zero n low = refl
groups_of-last (suc k) n low = ap (λ (t : Bool). cond t (n ∷ []) ((n % 128 + 128) ∷ groups_of k (n / 128))) (lt-ltb n 128 low)

-- one more group is spelled
pub spelled_more : (whole spelled : List ℕ) (last rest : ℕ) → last < 8 → last < length spelled → 128 ≤ rest → whole ≡ take last spelled ++ groups_of (8 - last) rest → whole ≡ take (last + 1) (set spelled last (rest % 128 + 128)) ++ groups_of (8 - (last + 1)) (rest / 128)
spelled_more whole spelled last rest few within high so_far =
    let b = rest % 128 + 128 in
    let more = groups_of (8 - (last + 1)) (rest / 128) in
    so_far
    ∙ ap (λ gs. take last spelled ++ gs) (groups_of-more last rest few high)
    ∙ sym (append_assoc (take last spelled) (b ∷ []) more)
    ∙ ap (λ front. front ++ more) (sym (take_more_set spelled last b within))

-- the last group is spelled
pub spelled_end : (whole spelled : List ℕ) (last rest : ℕ) → last < length spelled → rest < 128 → whole ≡ take last spelled ++ groups_of (8 - last) rest → take (last + 1) (set spelled last rest) ≡ whole
spelled_end whole spelled last rest within low so_far =
    take_more_set spelled last rest within ∙ sym (so_far ∙ ap (λ gs. take last spelled ++ gs) (groups_of-last (8 - last) rest low))

-- nine groups are enough
pub few_groups : (last rest : ℕ) → last ≤ 8 → rest < 2 ^ (63 - 7 * last) → 128 ≤ rest → last < 8
few_groups last rest most below high =
    ⊎_elim (λ few. few) (λ all. let e : last ≡ 8 = omega arith in let top : 2 ^ (63 - 7 * last) ≡ 128 = ap (λ k. 2 ^ (63 - 7 * k)) e in absurd (omega (arith, top))) (cases_lt last 8)

-- what is left after a group
pub fewer_bits : (last rest : ℕ) → last < 8 → rest < 2 ^ (63 - 7 * last) → rest / 128 < 2 ^ (63 - 7 * (last + 1))
fewer_bits last rest few below =
    let e : 63 - 7 * last ≡ (63 - 7 * (last + 1)) + 7 = omega arith in
    let p : 2 ^ (63 - 7 * last) ≡ 2 ^ (63 - 7 * (last + 1)) * 128 = ap (λ k. 2 ^ k) e ∙ pow-add 2 (63 - 7 * (last + 1)) 7 in
    div_below rest 128 (2 ^ (63 - 7 * (last + 1))) (omega arith) (omega (arith, p))

-- what is appended as spelled is appended
pub appended : {T E : Type 0} (r : Result T E) (was now spelled whole : List ℕ) → now ≡ cond (is_ok r) (was ++ spelled) was → spelled ≡ whole → OnOk r (now ≡ was ++ whole)
appended (Ok x) was now spelled whole h e = h ∙ ap (λ s. was ++ s) e
appended (Err x) was now spelled whole h e = tt
