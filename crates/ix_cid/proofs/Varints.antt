-- Varints read group by group.
use Rattle.std.proofs.Common.{◌≡◌, ℕ, suc, ◌+◌, ◌*◌, ◌%◌, ◌^◌, ◌<◌, ◌≤◌, Bool, false, cond, ltb, leb, eqb, ◌&&◌, List, [], ◌∷◌, ◌++◌, length, take, drop, get_or, Ok, Err, sym, ap, subst, ◌∙◌, ⊎_elim, arith}
use Rattle.std.proofs.lemmas.List.{take_more, at_drop_more, length-take-le}
use Rattle.std.proofs.lemmas.Nat.{shl_whole, pow-add, mod_below, mul-le}
use Rattle.std.proofs.lemmas.Bool.{le-leb, lt-leb, le-ltb, ne_eqb, and_left, and_right, cases_eq}
use Rattle.ix_cid.specs.Varint.{number_of_groups, continued, varint_ending, varint_at}
use Rattle.ix_cid.specs.declared.fault.VarintFault.TheVariants.{Truncated, TooLong, NotMinimal}

-- seven more bits
pub pow_7_more : (i : ℕ) → 2 ^ (7 * (i + 1)) ≡ 128 * 2 ^ (7 * i)
pow_7_more i =
    let e : 7 * (i + 1) ≡ 7 + 7 * i = omega arith in
    ap (λ k. 2 ^ k) e ∙ pow-add 2 7 (7 * i)

-- one more group at the end
pub number_of_groups-push : (bs : List ℕ) (b : ℕ) → number_of_groups (bs ++ b ∷ []) ≡ number_of_groups bs + b % 128 * 2 ^ (7 * length bs)
number_of_groups-push [] b = omega arith
number_of_groups-push (x ∷ xs) b =
    let e : number_of_groups (xs ++ b ∷ []) ≡ number_of_groups xs + b % 128 * 2 ^ (7 * length xs) = number_of_groups-push xs b in
    let p : 2 ^ (7 * (length xs + 1)) ≡ 128 * 2 ^ (7 * length xs) = pow_7_more (length xs) in
    let q : 2 ^ (7 * suc (length xs)) ≡ 128 * 2 ^ (7 * length xs) = ap (λ k. 2 ^ (7 * k)) (let e : suc (length xs) ≡ length xs + 1 = omega arith in e) ∙ p in
    let m : b % 128 * 2 ^ (7 * suc (length xs)) ≡ b % 128 * (128 * 2 ^ (7 * length xs)) = ap (λ k. b % 128 * k) q in
    omega (arith, m)

-- the number that one more byte makes, shifted as the code does
pub number_more : (bytes : List ℕ) (i number b : ℕ) → i < length bytes → i < 9 → b ≡ get_or bytes i 0 % 128 → number ≡ number_of_groups (take i bytes) → number + b * 2 ^ (7 * i) % 2 ^ 64 ≡ number_of_groups (take (i + 1) bytes)
number_more bytes i number b within few is read =
    let small : b < 2 ^ 7 = subst (λ (v : ℕ). v < 2 ^ 7) (sym is) (mod_below (get_or bytes i 0) 128 (omega arith)) in
    let whole : b * 2 ^ (7 * i) % 2 ^ 64 ≡ b * 2 ^ (7 * i) = shl_whole b 7 (7 * i) 64 small (omega arith) in
    let front : length (take i bytes) ≡ i = length-take-le i bytes (omega arith) in
    let more : number_of_groups (take (i + 1) bytes) ≡ number_of_groups (take i bytes ++ get_or bytes i 0 ∷ []) = ap number_of_groups (take_more bytes i 0 within) in
    let pushed : number_of_groups (take i bytes ++ get_or bytes i 0 ∷ []) ≡ number_of_groups (take i bytes) + get_or bytes i 0 % 128 * 2 ^ (7 * length (take i bytes)) = number_of_groups-push (take i bytes) (get_or bytes i 0) in
    let here : get_or bytes i 0 % 128 * 2 ^ (7 * length (take i bytes)) ≡ b * 2 ^ (7 * i) = ap (λ k. get_or bytes i 0 % 128 * 2 ^ (7 * k)) front ∙ ap (λ v. v * 2 ^ (7 * i)) (sym is) in
    omega (arith, whole, more, pushed, here)

-- the bound on that number
pub number_more_below : (i number b : ℕ) → i < 9 → b < 128 → number < 2 ^ (7 * i) → number + b * 2 ^ (7 * i) % 2 ^ 64 < 2 ^ (7 * (i + 1))
number_more_below i number b few small below =
    let whole : b * 2 ^ (7 * i) % 2 ^ 64 ≡ b * 2 ^ (7 * i) = shl_whole b 7 (7 * i) 64 small (omega arith) in
    let most : b * 2 ^ (7 * i) ≤ 127 * 2 ^ (7 * i) = mul-le b (2 ^ (7 * i)) 127 (2 ^ (7 * i)) (omega arith) (omega arith) in
    omega (arith, whole, most, pow_7_more i)

-- a byte with the high bit counts
pub continued_more : (bytes : List ℕ) (i : ℕ) → i < length bytes → 128 ≤ get_or bytes i 0 → continued (drop i bytes) ≡ continued (drop (i + 1) bytes) + 1
continued_more bytes i within high =
    at_drop_more continued bytes i 0 within ∙ ap (λ (t : Bool). cond t (continued (drop (i + 1) bytes) + 1) 0) (le-leb 128 (get_or bytes i 0) high)

-- a byte without it ends the count
pub continued_end : (bytes : List ℕ) (i : ℕ) → i < length bytes → get_or bytes i 0 < 128 → continued (drop i bytes) ≡ 0
continued_end bytes i within low =
    at_drop_more continued bytes i 0 within ∙ ap (λ (t : Bool). cond t (continued (drop (i + 1) bytes) + 1) 0) (lt-leb 128 (get_or bytes i 0) low)

-- the varint ends at the first byte without the high bit
pub varint_at-ends : (bytes : List ℕ) (k : ℕ) → continued bytes ≡ k → k < 9 → k < length bytes → varint_at bytes ≡ varint_ending bytes k
varint_at-ends bytes k count few within =
    let short : leb 9 (continued bytes) ≡ false = lt-leb 9 (continued bytes) (omega arith) in
    let inside : eqb (continued bytes) (length bytes) ≡ false = ne_eqb (continued bytes) (length bytes) (λ e. omega arith) in
    ap (λ (t : Bool). cond t (Err TooLong) (cond (eqb (continued bytes) (length bytes)) (Err Truncated) (varint_ending bytes (continued bytes)))) short
    ∙ ap (λ (t : Bool). cond t (Err Truncated) (varint_ending bytes (continued bytes))) inside
    ∙ ap (λ n. varint_ending bytes n) count

-- such an end isn't `00` unless it is alone
pub varint_ending-ok : (bytes : List ℕ) (k : ℕ) → (get_or bytes k 0 ≡ 0 → k ≡ 0) → varint_ending bytes k ≡ Ok (number_of_groups (take (k + 1) bytes), k + 1)
varint_ending-ok bytes k alone =
    let test : (eqb (get_or bytes k 0) 0 && ltb 0 k) ≡ false =
    ⊎_elim (λ e. and_right (eqb (get_or bytes k 0) 0) (ltb 0 k) (le-ltb 0 k (omega (arith, alone e)))) (λ n. and_left (eqb (get_or bytes k 0) 0) (ltb 0 k) (ne_eqb (get_or bytes k 0) 0 n)) (cases_eq (get_or bytes k 0) 0) in
    ap (λ (t : Bool). cond t (Err NotMinimal) (Ok (number_of_groups (take (k + 1) bytes), k + 1))) test

-- what the code answers where the varint ends
pub varint_at-read : (bytes : List ℕ) (i number : ℕ) → continued bytes ≡ i + continued (drop i bytes) → i < 9 → i < length bytes → get_or bytes i 0 < 128 → (get_or bytes i 0 ≡ 0 → i ≡ 0) → number ≡ number_of_groups (take (i + 1) bytes) → Ok (number, i + 1) ≡ varint_at bytes
varint_at-read bytes i number count few within low alone read =
    let last : continued (drop i bytes) ≡ 0 = continued_end bytes i within low in
    let ends : varint_at bytes ≡ varint_ending bytes i = varint_at-ends bytes i (omega (arith, count, last)) few within in
    ap (λ n. Ok (n, i + 1)) read ∙ sym (ends ∙ varint_ending-ok bytes i alone)
