-- What is after items that are skipped.
use Rattle.std.proofs.Common.{◌≡◌, ◌+◌, ◌<◌, ◌≤◌, ◌-◌, arith, ℕ, suc, List, [], ◌∷◌, length, refl, sym, ◌∙◌, ap}
use Rattle.std.specs.Prelude.{Option, Some, Result, Ok, Err}
use Rattle.ix_cbor.specs.declared.fault.CborKind.TheVariants.{Rest}
use Rattle.ix_cbor.specs.Data.{Data, Items, Entries}
use Rattle.ix_cbor.specs.Reading.{Fault, Parse, ◌>>=◌, key_at, items_at, entries_at, item_at, nothing_after}
use Rattle.ix_cbor.specs.Fronts.{behind, after_item, judged}
use Rattle.ix_cbor.proofs.Steps.{with_item, items_after, with_entry, entries_after, value_behind}
use Rattle.ix_cbor.proofs.Within.{item_within, err_within, ok_within}

-- what was read, where its rest is known
pub read_before : {A : Type 0} (r : Result (A × List ℕ) Fault) (next : List ℕ) → (r >>= behind) ≡ Ok next → (x : A) × (r ≡ Ok (x, next))
read_before (Ok x) next e = let here : x.1 ≡ next = cc in (x.0, ap (λ l. Ok (x.0, l)) here)
read_before (Err f) next e = absurd cc

-- a fault comes of the reading
pub fault_before : {A : Type 0} (r : Result (A × List ℕ) Fault) (f : Fault) → (r >>= behind) ≡ Err f → r ≡ Err f
fault_before (Ok x) f e = absurd cc
fault_before (Err g) f e = let here : g ≡ f = cc in ap (λ h. Err h) here

-- members before others change nothing after them
past_item : (d : Data) (r : Result (Items × List ℕ) Fault) → (r >>= with_item d >>= behind) ≡ (r >>= behind)
past_item d (Ok x) = refl
past_item d (Err f) = refl

-- skipping an entry and the rest is skipping the rest
past_entry : (k : List ℕ) (d : Data) (r : Result (Entries × List ℕ) Fault) → (r >>= with_entry k d >>= behind) ≡ (r >>= behind)
past_entry k d (Ok x) = refl
past_entry k d (Err f) = refl

-- one member more is gone over, in a loop that counts up
pub item_over : (read : Parse Data) (count i : ℕ) (b next : List ℕ) (whole : Result (List ℕ) Fault) → i < count → (read b >>= behind) ≡ Ok next
    → (items_at read (count - i) b >>= behind) ≡ whole → (items_at read (count - (i + 1)) next >>= behind) ≡ whole
item_over read count i b next whole lt e so_far =
    let n = count - (i + 1) in
    let k : count - i ≡ suc n = omega arith in
    let x = read_before (read b) next e in
    sym (past_item x.0 (items_at read n next)) ∙ ap (λ r. r >>= items_after read n >>= behind) (sym x.1) ∙ ap (λ m. items_at read m b >>= behind) (sym k) ∙ so_far

module _ (read : Parse Data) (last : Option (List ℕ)) (count i : ℕ) (b : List ℕ) (whole : Result (List ℕ) Fault) where
  -- one key and value more are gone over
  pub entry_over : (key value next : List ℕ) → i < count → key_at last b ≡ Ok (key, value) → (read value >>= behind) ≡ Ok next
      → (entries_at read last (count - i) b >>= behind) ≡ whole → (entries_at read (Some key) (count - (i + 1)) next >>= behind) ≡ whole
  entry_over key value next lt named e so_far =
      let n = count - (i + 1) in
      let k : count - i ≡ suc n = omega arith in
      let x = read_before (read value) next e in
      sym (past_entry key x.0 (entries_at read (Some key) n next)) ∙ ap (λ r. r >>= entries_after read n key >>= behind) (sym x.1)
      ∙ ap (λ r. r >>= value_behind read n >>= behind) (sym named) ∙ ap (λ m. entries_at read last m b >>= behind) (sym k) ∙ so_far

  -- a key can't be read
  pub key_stops : (f : Fault) → i < count → key_at last b ≡ Err f → (entries_at read last (count - i) b >>= behind) ≡ whole → whole ≡ Err f
  key_stops f lt e so_far =
      let n = count - (i + 1) in
      let k : count - i ≡ suc n = omega arith in
      sym so_far ∙ ap (λ m. entries_at read last m b >>= behind) k ∙ ap (λ r. r >>= value_behind read n >>= behind) e

  -- a value can't be gone over
  pub value_stops : (key value : List ℕ) (f : Fault) → i < count → key_at last b ≡ Ok (key, value) → (read value >>= behind) ≡ Err f
      → (entries_at read last (count - i) b >>= behind) ≡ whole → whole ≡ Err f
  value_stops key value f lt named e so_far =
      let n = count - (i + 1) in
      let k : count - i ≡ suc n = omega arith in
      sym so_far ∙ ap (λ m. entries_at read last m b >>= behind) k ∙ ap (λ r. r >>= value_behind read n >>= behind) named
      ∙ ap (λ r. r >>= entries_after read n key >>= behind) (fault_before (read value) f e)

-- a block with bytes after its item
pub judged_more : (b next : List ℕ) → after_item 512 b ≡ Ok next → 1 ≤ length next → judged b ≡ Err (record { kind = Rest; left = length next })
judged_more b [] e h = absurd (omega (arith, h))
judged_more b (y ∷ next) e h = let x = read_before (item_at 512 b) (y ∷ next) e in ap (λ r. r >>= nothing_after >>= (λ d. Ok tt)) x.1

-- a block whose item has a fault
pub judged_fault : (b : List ℕ) (f : Fault) → after_item 512 b ≡ Err f → judged b ≡ Err f
judged_fault b f e = ap (λ r. r >>= nothing_after >>= (λ d. Ok tt)) (fault_before (item_at 512 b) f e)

-- the place of an item's fault
pub skip_within : (b : List ℕ) (f : Fault) → after_item 512 b ≡ Err f → f.left ≤ length b
skip_within b f e = err_within (length b) (item_at 512 b) f (item_within (length b) 512 b (omega arith)) (fault_before (item_at 512 b) f e)

-- what is left after an item
pub rest_is_within : (b next : List ℕ) → after_item 512 b ≡ Ok next → length next ≤ length b
rest_is_within b next e = let x = read_before (item_at 512 b) next e in ok_within (length b) (item_at 512 b) (x.0, next) (item_within (length b) 512 b (omega arith)) x.1
