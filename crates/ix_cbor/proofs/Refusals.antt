-- A first fault is what reading answers, so that there is one at most.
use Rattle.std.proofs.Common.{◌≡◌, ◌⊎◌, inl, inr, ◌<◌, ◌≤◌, ◌+◌, ◌-◌, ◌^◌, arith, ℕ, zero, suc, true, List, [], ◌∷◌, ◌++◌, length, refl, sym, ◌∙◌, ap, append_assoc}
use Rattle.std.specs.Prelude.{◌↔◌, ◌≢◌, Option, Some, None, Result, Ok, Err}
use Rattle.ix_cid.specs.Bytes.{AreBytes}
use Rattle.ix_cbor.specs.declared.fault.CborKind.TheVariants.{Nesting, Rest}
use Rattle.ix_cbor.specs.Data.{Data, Items, Entries, no_items, item, no_entries, entry}
use Rattle.ix_cbor.specs.Spelling.{head_of, key_spelling, spelling_of, items_spelling, entries_spelling, item_count, entry_count, items_nesting, entries_nesting, AreSpellable, AreRising, Spells}
use Rattle.ix_cbor.specs.Reading.{Fault, Parse, ◌>>=◌, key_at, rises, own_at, list_of, map_of, items_at, entries_at, with_members, item_with, item_at, nothing_after, decoded}
use Rattle.ix_cbor.specs.FirstFault.{last_key, BeginsList, BeginsMap, FaultAt, own, list_too_deep, map_too_deep, in_list, at_key, in_map, FirstFault}
use Rattle.ix_cbor.specs.Fits.{RisesAbove}
use Rattle.ix_cbor.proofs.Steps.{fault_same, no_err, with_item, items_after, with_entry, entries_after, value_behind, as_list, as_map}
use Rattle.ix_cbor.proofs.Keys.{key_again, rises_at}
use Rattle.ix_cbor.proofs.Owns.{own_again}
use Rattle.ix_cbor.proofs.Complete.{IsComplete, item_complete}
use Rattle.ix_cbor.proofs.Faults.{entry_parts, decoded-fault}
use Rattle.ix_cbor.proofs.Laws.{decoded-sound, decoded-complete}

-- a fault of the own tests
own_refused : (n : ℕ) (b : List ℕ) (f : Fault) → own_at b ≡ Err f → item_at n b ≡ Err f
unfolding item_at
own_refused zero b f e = ap (λ x. x >>= with_members None b) e
own_refused (suc n) b f e = ap (λ x. x >>= with_members (Some (item_at n)) b) e

-- a list where none is allowed
list_stopped : (b : List ℕ) (count : ℕ) (after : List ℕ) → count < 2 ^ 64 → b ≡ head_of 4 count ++ after → item_with None b ≡ Err (record { kind = Nesting; left = length b })
list_stopped b count after below is = ap (λ x. x >>= with_members None b) (ap own_at is ∙ own_again (list_of count) after below)

-- a map where none is allowed
map_stopped : (b : List ℕ) (count : ℕ) (after : List ℕ) → count < 2 ^ 64 → b ≡ head_of 5 count ++ after → item_with None b ≡ Err (record { kind = Nesting; left = length b })
map_stopped b count after below is = ap (λ x. x >>= with_members None b) (ap own_at is ∙ own_again (map_of count) after below)

module _ (n : ℕ) (read : Parse Data) (complete : IsComplete n read) where
  -- after members that are spelled
  items_refused : (before : Items) (left : ℕ) (after : List ℕ) (f : Fault) → AreSpellable before → items_nesting before ≤ n → items_at read left after ≡ Err f
      → items_at read (item_count before + left) (items_spelling before ++ after) ≡ Err f
  items_refused no_items left after f spellable nesting e = ap (λ (k : ℕ). items_at read k after) (omega arith) ∙ e
  items_refused (item d ds) left after f spellable nesting e =
      let count : item_count ds + 1 + left ≡ suc (item_count ds + left) = omega arith in
      ap (λ (k : ℕ). items_at read k ((spelling_of d ++ items_spelling ds) ++ after)) count
      ∙ ap (λ x. x >>= items_after read (item_count ds + left)) (ap read (append_assoc (spelling_of d) (items_spelling ds) after) ∙ complete d (items_spelling ds ++ after) spellable.0 (omega arith))
      ∙ ap (λ x. x >>= with_item d) (items_refused ds left after f spellable.1 (omega arith) e)

  -- after keys and values that are spelled
  entries_refused : (last : Option (List ℕ)) (before : Entries) (left : ℕ) (after : List ℕ) (f : Fault) → AreRising before → RisesAbove last before
      → entries_nesting before ≤ n → entries_at read (last_key last before) left after ≡ Err f
      → entries_at read last (entry_count before + left) (entries_spelling before ++ after) ≡ Err f
  entries_refused last no_entries left after f rising above nesting e = ap (λ (k : ℕ). entries_at read last k after) (omega arith) ∙ e
  entries_refused last (entry k d es) left after f rising above nesting e =
      let count : entry_count es + 1 + left ≡ suc (entry_count es + left) = omega arith in
      let at = spelling_of d ++ (entries_spelling es ++ after) in
      ap (λ (j : ℕ). entries_at read last j (entries_spelling (entry k d es) ++ after)) count
      ∙ ap (λ x. x >>= value_behind read (entry_count es + left)) (ap (key_at last) (entry_parts k d es after) ∙ key_again last k at rising.0 (rises_at last k d es above))
      ∙ ap (λ x. x >>= entries_after read (entry_count es + left) k) (complete d (entries_spelling es ++ after) rising.1 (omega arith))
      ∙ ap (λ x. x >>= with_entry k d) (entries_refused (Some k) es left after f rising.3 rising.2 (omega arith) e)

  -- after the head of a list
  list_refused : (b : List ℕ) (f : Fault) (count : ℕ) (before : Items) (after : List ℕ) → BeginsList n count before
      → b ≡ head_of 4 count ++ (items_spelling before ++ after) → read after ≡ Err f → item_with (Some read) b ≡ Err f
  list_refused b f count before after begins is e =
      let more = begins.more in
      let left = count - item_count before - 1 in
      let sum : count ≡ item_count before + suc left = omega arith in
      let behind = items_spelling before ++ after in
      ap (λ x. x >>= with_members (Some read) b) (ap own_at is ∙ own_again (list_of count) behind begins.count_fits)
      ∙ ap (λ (k : ℕ). items_at read k behind >>= as_list) sum
      ∙ ap (λ x. x >>= as_list) (items_refused before (suc left) after f begins.spelled begins.nesting (ap (λ x. x >>= items_after read left) e))

  -- after the head of a map, where no entry can be read
  map_refused : (b : List ℕ) (f : Fault) (count : ℕ) (before : Entries) (after : List ℕ) → BeginsMap n count before
      → b ≡ head_of 5 count ++ (entries_spelling before ++ after) → ((left : ℕ) → entries_at read (last_key None before) (suc left) after ≡ Err f)
      → item_with (Some read) b ≡ Err f
  map_refused b f count before after begins is e =
      let more = begins.more in
      let left = count - entry_count before - 1 in
      let sum : count ≡ entry_count before + suc left = omega arith in
      let behind = entries_spelling before ++ after in
      ap (λ x. x >>= with_members (Some read) b) (ap own_at is ∙ own_again (map_of count) behind begins.count_fits)
      ∙ ap (λ (k : ℕ). entries_at read None k behind >>= as_map) sum
      ∙ ap (λ x. x >>= as_map) (entries_refused None before (suc left) after f begins.spelled (from_none before) begins.nesting (e left)) where
        from_none : (es : Entries) → RisesAbove None es
        from_none es = tt

  -- a key that can't be read
  key_refused : (last : Option (List ℕ)) (after : List ℕ) (f : Fault) (left : ℕ) → key_at last after ≡ Err f → entries_at read last (suc left) after ≡ Err f
  key_refused last after f left e = ap (λ x. x >>= value_behind read left) e

  -- a value that can't be read
  value_refused : (last : Option (List ℕ)) (k after : List ℕ) (f : Fault) (left : ℕ) → length k < 2 ^ 64 → rises last k ≡ true → read after ≡ Err f
      → entries_at read last (suc left) (key_spelling k ++ after) ≡ Err f
  value_refused last k after f left below above e =
      ap (λ x. x >>= value_behind read left) (key_again last k after below above) ∙ ap (λ x. x >>= entries_after read left k) e

-- a fault at or below an item is what reading it answers
pub item_refused : {n : ℕ} {b : List ℕ} {f : Fault} → FaultAt n b f → item_at n b ≡ Err f
unfolding item_at
item_refused (own {n = n} {b = b} {f = f} e) = own_refused n b f e
item_refused (list_too_deep {b = b} count after below is) = list_stopped b count after below is
item_refused (map_too_deep {b = b} count after below is) = map_stopped b count after below is
item_refused (in_list {n = n} {b = b} {f = f} count before after begins is inner) =
    list_refused n (item_at n) (item_complete n) b f count before after begins is (item_refused inner)
item_refused (at_key {n = n} {b = b} {f = f} count before after begins is e) =
    map_refused n (item_at n) (item_complete n) b f count before after begins is (λ left. key_refused n (item_at n) (item_complete n) (last_key None before) after f left e)
item_refused (in_map {n = n} {b = b} {f = f} count before k after begins below above is inner) =
    map_refused n (item_at n) (item_complete n) b f count before (key_spelling k ++ after) begins is (λ left. value_refused n (item_at n) (item_complete n) (last_key None before) k after f left below above (item_refused inner))

-- bytes after an item are what reading the block answers
rest_refused : (d : Data) (after : List ℕ) → after ≢ [] → nothing_after (d, after) ≡ Err (record { kind = Rest; left = length after })
rest_refused d [] more = absurd (more refl)
rest_refused d (x ∷ xs) more = refl

-- an error at the item, or bytes after it
block_refused : (read : Parse Data) (b : List ℕ) (f : Fault) → IsComplete 512 read → (FaultAt 512 b f → read b ≡ Err f) → FirstFault b f → (read b >>= nothing_after) ≡ Err f
block_refused read b f complete first (inl at) = ap (λ x. x >>= nothing_after) (first at)
block_refused read b f complete first (inr h) =
    ap (λ (l : List ℕ). read l >>= nothing_after) h.whole ∙ ap (λ x. x >>= nothing_after) (complete h.data_before h.after h.spellable h.nesting)
    ∙ rest_refused h.data_before h.after h.more ∙ ap (λ g. Err g) (sym h.fault)

-- a first fault is what reading answers
pub decoded-refused : (b : List ℕ) (f : Fault) → FirstFault b f → decoded b ≡ Err f
decoded-refused b f h = block_refused (item_at 512) b f (item_complete 512) item_refused h

-- reading answers a fault exactly where it is the first one
pub decoded-fault_iff : (b : List ℕ) (f : Fault) → AreBytes b → (decoded b ≡ Err f ↔ FirstFault b f)
decoded-fault_iff b f fits = (decoded-fault b f fits, decoded-refused b f)

-- bytes have at most one first fault
pub fault-once : (b : List ℕ) (f g : Fault) → FirstFault b f → FirstFault b g → f ≡ g
fault-once b f g h k = fault_same {A = Data} f g (sym (decoded-refused b f h) ∙ decoded-refused b g k)

-- bytes that spell data have no first fault
pub spelled-no_fault : (b : List ℕ) (d : Data) (f : Fault) → Spells b d → FirstFault b f → ⊥
spelled-no_fault b d f s h = no_err d f (sym (decoded-complete b d s) ∙ decoded-refused b f h)

-- by what reading answers
spelled_or_fault : (b : List ℕ) (r : Result Data Fault) → ((d : Data) → r ≡ Ok d → Spells b d) → ((f : Fault) → r ≡ Err f → FirstFault b f) → ((d : Data) × Spells b d) ⊎ ((f : Fault) × FirstFault b f)
spelled_or_fault b (Ok d) sound first = inl (d, sound d refl)
spelled_or_fault b (Err f) sound first = inr (f, first f refl)

-- bytes spell data or have a first fault
pub spelled-or_fault : (b : List ℕ) → AreBytes b → ((d : Data) × Spells b d) ⊎ ((f : Fault) × FirstFault b f)
spelled-or_fault b fits = spelled_or_fault b (decoded b) (λ d. decoded-sound b d fits) (λ f. decoded-fault b f fits)
