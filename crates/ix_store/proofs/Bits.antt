-- Words with one bit more.
use Rattle.std.proofs.Common.{◌≡◌, ℕ, zero, suc, ◌+◌, ◌*◌, ◌/◌, ◌%◌, ◌^◌, ◌<◌, ◌≤◌, Bool, false, ◌||◌, eqb, List, [], ◌∷◌, ◌++◌, length, take, get_or, refl, sym, ap, ◌∙◌, ⊎_elim, arith}
use Rattle.std.proofs.Math.ListN.{set, replicate, length-replicate}
use Rattle.std.specs.Int.{bit_at, w64}
use Rattle.std.specs.Int.RustNames.{bit_or}
use Rattle.std.proofs.lemmas.Bool.{cases_Bool, false_from_ne_true, eqb-true, eqb-false}
use Rattle.std.proofs.lemmas.Bool.Decides.{Decides-eqb}
use Rattle.std.proofs.lemmas.List.{take_all, get_or-set_same, get_or-set_other, get_or_read, length-append}
use Rattle.std.proofs.lemmas.Nat.Bits.{bit_at_set_same, bit_at_set_other}

-- zeros that are appended change no word, and no word after the last
zero-words : (k i : ℕ) → get_or (replicate k zero) i zero ≡ zero
zero-words zero i = refl
zero-words (suc k) zero = refl
zero-words (suc k) (suc i) = zero-words k i

-- words of zeros at the end change no word's value
appended-words : (words : List ℕ) (k i : ℕ) → get_or (words ++ replicate k 0) i 0 ≡ get_or words i 0
appended-words [] k i = zero-words k i
appended-words (w ∷ words) k zero = refl
appended-words (w ∷ words) k (suc i) = appended-words words k i

-- words that were filled up with zeros
pub record HasRoom (words grown : List ℕ) (word : ℕ) : Type 0 where
  pub same : (i : ℕ) → get_or grown i 0 ≡ get_or words i 0
  pub within : word < length grown

-- so a set that was extended has the bits that it had, and room for the word
pub filled-up : (words grown : List ℕ) (word more : ℕ) → length words ≤ word → word + 1 ≡ length words + more → grown ≡ take (word + 1) words ++ replicate more 0 → HasRoom words grown word
filled-up words grown word more short count is =
    let whole : grown ≡ words ++ replicate more 0 = is ∙ ap (λ (l : List ℕ). l ++ replicate more 0) (take_all (word + 1) words (omega arith)) in
    record {
      same = λ i. ap (λ (l : List ℕ). get_or l i 0) whole ∙ appended-words words more i;
      within = omega (arith, ap length whole, length-append words (replicate more 0), length-replicate more (let n : ℕ = 0 in n));
    }

-- one bit more is set, and the others are as they were
pub bit-more : (words grown : List ℕ) (x place n : ℕ) → HasRoom words grown (place / 64) → x ≡ get_or grown (place / 64) x → eqb (bit_at (get_or (set grown (place / 64) (bit_or x (1 * 2 ^ (place % 64) % 2 ^ 64))) (n / 64) 0) (n % 64)) 1 ≡ (eqb place n || eqb (bit_at (get_or words (n / 64) 0) (n % 64)) 1)
bit-more words grown x place n room at =
    let low : place % 64 < 64 = omega arith in
    let v = bit_or x (1 * 2 ^ (place % 64) % 2 ^ 64) in
    ⊎_elim
    (λ same_word.
    let same_q : n / 64 ≡ place / 64 = eqb-true (n / 64) (place / 64) same_word in
    let there : get_or (set grown (place / 64) v) (n / 64) 0 ≡ v = ap (λ (i : ℕ). get_or (set grown (place / 64) v) i 0) same_q ∙ get_or-set_same grown (place / 64) v 0 room.within in
    ⊎_elim
    (λ same_bit.
    let same_k : n % 64 ≡ place % 64 = eqb-true (n % 64) (place % 64) same_bit in
    let one : place ≡ n = omega arith in
    ap (λ (w : ℕ). eqb (bit_at w (n % 64)) 1) there
    ∙ ap (λ (i : ℕ). eqb (bit_at v i) 1) same_k
    ∙ ap (λ (b : ℕ). eqb b 1) (bit_at_set_same w64 x (place % 64) low)
    ∙ ap (λ (b : Bool). b || eqb (bit_at (get_or words (n / 64) 0) (n % 64)) 1) (sym ((Decides-eqb place n).1 one)))
    (λ other_bit.
    let apart_k : n % 64 ≡ place % 64 → ⊥ = eqb-false (n % 64) (place % 64) other_bit in
    let apart : eqb place n ≡ false = false_from_ne_true (eqb place n) (λ h. let one : place ≡ n = eqb-true place n h in apart_k (omega arith)) in
    let word : x ≡ get_or words (n / 64) 0 = get_or_read grown (place / 64) x room.within at 0 ∙ room.same (place / 64) ∙ ap (λ (i : ℕ). get_or words i 0) (sym same_q) in
    ap (λ (w : ℕ). eqb (bit_at w (n % 64)) 1) there
    ∙ ap (λ (b : ℕ). eqb b 1) (bit_at_set_other w64 x (place % 64) low (n % 64) apart_k)
    ∙ ap (λ (w : ℕ). eqb (bit_at w (n % 64)) 1) word
    ∙ ap (λ (b : Bool). b || eqb (bit_at (get_or words (n / 64) 0) (n % 64)) 1) (sym apart))
    (cases_Bool (eqb (n % 64) (place % 64))))
    (λ other_word.
    let apart_q : n / 64 ≡ place / 64 → ⊥ = eqb-false (n / 64) (place / 64) other_word in
    let apart : eqb place n ≡ false = false_from_ne_true (eqb place n) (λ h. let one : place ≡ n = eqb-true place n h in apart_q (ap (λ (m : ℕ). m / 64) (sym one))) in
    ap (λ (w : ℕ). eqb (bit_at w (n % 64)) 1) (get_or-set_other grown (place / 64) (n / 64) v 0 apart_q ∙ room.same (n / 64))
    ∙ ap (λ (b : Bool). b || eqb (bit_at (get_or words (n / 64) 0) (n % 64)) 1) (sym apart))
    (cases_Bool (eqb (n / 64) (place / 64)))
