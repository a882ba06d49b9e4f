-- Slots and entries, by number.
use Rattle.std.proofs.Common.{◌≡◌, ℕ, zero, suc, ◌+◌, ◌-◌, ◌<◌, ◌≤◌, List, [], ◌∷◌, ◌++◌, length, set, drop, refl, ap, sym, ◌∙◌, arith, Option, Some, None, true, false, ◌⊎◌, inl, inr}
use Rattle.std.proofs.lemmas.Bool.{cases_lt}
use Rattle.std.proofs.lemmas.Bool.Decides.{nat_tests}
use Rattle.std.specs.Prelude.{slice_get, ◌==◌}
use Rattle.std.specs.Option.{option_flatten}
use Rattle.ix_pipeline.specs.Numbered.{Numbered, slot, entries_of, entry_at, found, IsFree, IsPlaced, IsPopped}

module _ {T : Type 0} where
  -- an empty slot at the end of the window changes no slot; used where the window is extended
  pub slot-none : (xs : List (Option T)) (k : ℕ) → slot (xs ++ None ∷ []) k ≡ slot xs k
  slot-none [] zero = refl
  slot-none [] (suc k) = refl
  slot-none (x ∷ xs) zero = refl
  slot-none (x ∷ xs) (suc k) = slot-none xs k

  -- the slot that was set has what it was set to
  pub slot-here : (xs : List (Option T)) (k : ℕ) (o : Option T) → k < length xs → slot (set xs k o) k ≡ o
  slot-here [] k o h = absurd (omega (arith, h))
  slot-here (x ∷ xs) zero o h = refl
  slot-here (x ∷ xs) (suc k) o h = slot-here xs k o (omega (arith, h))

  -- no other slot changes
  pub slot-else : (xs : List (Option T)) (i k : ℕ) (o : Option T) → (k ≡ i → ⊥) → slot (set xs i o) k ≡ slot xs k
  slot-else [] i k o h = refl
  slot-else (x ∷ xs) zero zero o h = absurd (h refl)
  slot-else (x ∷ xs) zero (suc k) o h = refl
  slot-else (x ∷ xs) (suc i) zero o h = refl
  slot-else (x ∷ xs) (suc i) (suc k) o h = slot-else xs i k o (λ e. h (ap suc e))

  -- without its first slot each slot moves down by one
  pub slot-drop : (xs : List (Option T)) (k : ℕ) → slot (drop 1 xs) k ≡ slot xs (suc k)
  slot-drop [] k = refl
  slot-drop (x ∷ xs) k = refl

  -- no entry has a number below that of the first slot
  pub entry_none : (n k : ℕ) (xs : List (Option T)) → k < n → entry_at (entries_of n xs) k ≡ None
  entry_none n k [] h = refl
  entry_none n k (None ∷ xs) h = entry_none (n + 1) k xs (omega arith)
  entry_none n k (Some x ∷ xs) h = (let t : (n == k) ≡ false = grind (arith, nat_tests) in rw t (entry_none (n + 1) k xs (omega arith)))

  -- the entry with the number k is what slot k - n has, where the first slot has the number n
  pub entry_slot : (n : ℕ) (xs : List (Option T)) (i k : ℕ) → k ≡ n + i → entry_at (entries_of n xs) k ≡ slot xs i
  entry_slot n [] i k e = refl
  entry_slot n (None ∷ xs) zero k e = entry_none (n + 1) k xs (omega arith)
  entry_slot n (None ∷ xs) (suc i) k e = entry_slot (n + 1) xs i k (omega arith)
  entry_slot n (Some x ∷ xs) zero k e = (let t : (n == k) ≡ true = grind (arith, nat_tests) in rw t refl)
  entry_slot n (Some x ∷ xs) (suc i) k e = (let t : (n == k) ≡ false = grind (arith, nat_tests) in rw t (entry_slot (n + 1) xs i k (omega arith)))

module _ {T : Type 0} where
  -- past the window every slot is empty
  slot_past : (xs : List (Option T)) (i : ℕ) → length xs ≤ i → slot xs i ≡ None
  slot_past [] i h = refl
  slot_past (x ∷ xs) zero h = absurd (omega (arith, h))
  slot_past (x ∷ xs) (suc i) h = slot_past xs i (omega (arith, h))

  -- an item that is found has a number from n on, and a slot in the window
  pub entry_held : (n : ℕ) (xs : List (Option T)) (k : ℕ) (x : T) → entry_at (entries_of n xs) k ≡ Some x → (n ≤ k) × (k < n + length xs)
  entry_held n xs k x e = by_order (cases_lt k n) where
    by_slot : n ≤ k → (k - n < length xs) ⊎ (length xs ≤ k - n) → (n ≤ k) × (k < n + length xs)
    by_slot low (inl less) = (low, omega arith)
    by_slot low (inr more) = absurd (let none : entry_at (entries_of n xs) k ≡ None = entry_slot n xs (k - n) k (omega arith) ∙ slot_past xs (k - n) more in cc)

    by_order : (k < n) ⊎ (n ≤ k) → (n ≤ k) × (k < n + length xs)
    by_order (inl less) = absurd (let none : entry_at (entries_of n xs) k ≡ None = entry_none n k xs less in cc)
    by_order (inr more) = by_slot more (cases_lt (k - n) (length xs))

-- the slot is the window's element, where there is one
pub slot-get : {T : Type 0} (xs : List (Option T)) (k : ℕ) → slot xs k ≡ option_flatten (slice_get xs k)
slot-get [] k = refl
slot-get (o ∷ xs) zero = refl
slot-get (o ∷ xs) (suc k) = slot-get xs k

module _ {T : Type 0} where
  -- empty slots give no entries
  entries_none : (n : ℕ) (xs : List (Option T)) → ((k : ℕ) → slot xs k ≡ None) → entries_of n xs ≡ []
  entries_none n [] h = refl
  entries_none n (None ∷ xs) h = entries_none (n + 1) xs (λ k. h (suc k))
  entries_none n (Some x ∷ xs) h = absurd (let e : Some x ≡ None = h 0 in cc)

  -- equal slots give equal entries, though one window may be longer
  pub entries_same : (n : ℕ) (xs ys : List (Option T)) → ((k : ℕ) → slot xs k ≡ slot ys k) → entries_of n xs ≡ entries_of n ys
  entries_same n [] ys h = sym (entries_none n ys (λ k. sym (h k)))
  entries_same n (x ∷ xs) [] h = entries_none n (x ∷ xs) h
  entries_same n (None ∷ xs) (None ∷ ys) h = entries_same (n + 1) xs ys (λ k. h (suc k))
  entries_same n (None ∷ xs) (Some y ∷ ys) h = absurd (let e : None ≡ Some y = h 0 in cc)
  entries_same n (Some x ∷ xs) (None ∷ ys) h = absurd (let e : Some x ≡ None = h 0 in cc)
  entries_same n (Some x ∷ xs) (Some y ∷ ys) h =
      let e : Some x ≡ Some y = h 0 in let same : x ≡ y = cc in ap (λ (z : T). (n, z) ∷ entries_of (n + 1) xs) same ∙ ap (λ (l : List (ℕ × T)). (n, y) ∷ l) (entries_same (n + 1) xs ys (λ k. h (suc k)))

  -- the ring whose window this is
  abbrev pub window_at : ℕ → List (Option T) → Numbered T
  window_at n xs = record { next = n; entries = entries_of n xs }

  -- the item with the number k is that of the slot k - n
  pub found_at : (n : ℕ) (xs : List (Option T)) (k i : ℕ) → n ≤ k → i ≡ k - n → found (window_at n xs) k ≡ slot xs i
  found_at n xs k i h e = entry_slot n xs i k (omega arith)

  -- a number within reach whose slot is empty may be placed
  pub free_at : (n : ℕ) (xs : List (Option T)) (k i : ℕ) → n ≤ k → k < n + 1048576 → i ≡ k - n → slot xs i ≡ None → IsFree (window_at n xs) k
  free_at n xs k i low high e none = (low, high, found_at n xs k i low e ∙ none)

  -- an item is stored in an empty slot, once the window was extended to it
  pub placed : (n : ℕ) (xs ys : List (Option T)) (k i : ℕ) (x : T)
      → n ≤ k → k < n + 1048576 → i ≡ k - n → slot xs i ≡ None → ((j : ℕ) → slot ys j ≡ slot xs j) → i < length ys → IsPlaced (window_at n xs) k x (window_at n (set ys i (Some x)))
  placed n xs ys k i x low high e none same lt = (
    free_at n xs k i low high e none,
    refl,
    found_at n (set ys i (Some x)) k i low e ∙ slot-here ys i (Some x) lt,
    λ j ne. beside j ne (cases_lt j n),
  ) where
    beside : (j : ℕ) → (j ≡ k → ⊥) → (j < n) ⊎ (n ≤ j) → found (window_at n (set ys i (Some x))) j ≡ found (window_at n xs) j
    beside j ne (inl less) = entry_none n j (set ys i (Some x)) less ∙ sym (entry_none n j xs less)
    beside j ne (inr more) =
        found_at n (set ys i (Some x)) j (j - n) more refl
        ∙ slot-else ys i (j - n) (Some x) (λ h. ne (omega (arith, h, e, low, more)))
        ∙ same (j - n)
        ∙ sym (found_at n xs j (j - n) more refl)

  -- the first slot is dropped, and the next number is one higher
  pub popped : (n : ℕ) (xs : List (Option T)) (x : T) → slot xs 0 ≡ Some x → IsPopped (window_at n xs) x (window_at (n + 1) (drop 1 xs))
  popped n xs x e = (
    entry_slot n xs 0 n (omega arith) ∙ e,
    refl,
    entry_none (n + 1) n (drop 1 xs) (omega arith),
    λ j ne. beside j ne (cases_lt j n),
  ) where
    beside : (j : ℕ) → (j ≡ n → ⊥) → (j < n) ⊎ (n ≤ j) → found (window_at (n + 1) (drop 1 xs)) j ≡ found (window_at n xs) j
    beside j ne (inl less) = entry_none (n + 1) j (drop 1 xs) (omega arith) ∙ sym (entry_none n j xs less)
    beside j ne (inr more) =
        let past : n + 1 ≤ j = omega arith in
        found_at (n + 1) (drop 1 xs) j (j - (n + 1)) past refl ∙ slot-drop xs (j - (n + 1)) ∙ sym (entry_slot n xs (suc (j - (n + 1))) j (omega arith))
