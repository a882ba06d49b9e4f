-- A fault of reading is the first one, since what is read before it is spelled as it should be.
use Rattle.std.proofs.Common.{◌≡◌, inl, inr, ◌<◌, ◌≤◌, ◌+◌, ◌^◌, arith, ℕ, zero, suc, true, List, [], ◌∷◌, ◌++◌, length, refl, sym, ◌∙◌, ap, subst, append_assoc}
use Rattle.std.specs.Prelude.{Option, Some, None, Err}
use Rattle.ix_cid.specs.Bytes.{AreBytes}
use Rattle.ix_cbor.specs.declared.fault.CborKind.TheVariants.{Nesting, Rest}
use Rattle.ix_cbor.specs.Data.{Data, Items, Entries, list, map, no_items, item, no_entries, entry}
use Rattle.ix_cbor.specs.Spelling.{head_of, key_spelling, spelling_of, items_spelling, entries_spelling, item_count, entry_count, items_nesting, entries_nesting, IsSpellable, AreSpellable, AreRising, Rises, nesting_of}
use Rattle.ix_cbor.specs.Reading.{Fault, Parse, ◌>>=◌, key_at, rises, own_at, Own, leaf, list_of, map_of, items_at, entries_at, with_members, item_with, item_at, nothing_after, decoded}
use Rattle.ix_cbor.specs.FirstFault.{last_key, BeginsMap, FaultAt, own, list_too_deep, map_too_deep, in_list, at_key, in_map, HasRest, FirstFault}
use Rattle.ix_cbor.proofs.Bytes.{IsBytes, IsBytes-from_are_bytes, IsBytes-behind}
use Rattle.ix_cbor.proofs.Steps.{bind_err, no_err, fault_same, with_item, items_after, with_entry, entries_after, value_behind, as_list, as_map}
use Rattle.ix_cbor.proofs.Keys.{key_taken, RisesFrom-from_test}
use Rattle.ix_cbor.proofs.Owns.{OwnTaken, own_taken, own_spelling}
use Rattle.ix_cbor.proofs.Sound.{Takes, IsSound, item_sound}

-- ---- elements that were read, one after another

-- an element after others
snoc : Items → Data → Items
snoc no_items d = item d no_items
snoc (item e es) d = item e (snoc es d)

-- their number
count-snoc : (ds : Items) (d : Data) → item_count (snoc ds d) ≡ item_count ds + 1
unfolding snoc
count-snoc no_items d = refl
count-snoc (item e es) d = ap (λ n. n + 1) (count-snoc es d)

-- their spelling
spelling-snoc : (ds : Items) (d : Data) (rest : List ℕ) → items_spelling (snoc ds d) ++ rest ≡ items_spelling ds ++ (spelling_of d ++ rest)
unfolding snoc
spelling-snoc no_items d rest = append_assoc (spelling_of d) [] rest
spelling-snoc (item e es) d rest = append_assoc (spelling_of e) (items_spelling (snoc es d)) rest ∙ ap (λ l. spelling_of e ++ l) (spelling-snoc es d rest)
    ∙ sym (append_assoc (spelling_of e) (items_spelling es) (spelling_of d ++ rest))

-- each has a spelling
spellable-snoc : (ds : Items) (d : Data) → AreSpellable ds → IsSpellable d → AreSpellable (snoc ds d)
unfolding snoc
spellable-snoc no_items d a h = (h, tt)
spellable-snoc (item e es) d a h = (a.0, spellable-snoc es d a.1 h)

-- how deep they nest
nesting-snoc : (n : ℕ) (ds : Items) (d : Data) → items_nesting ds ≤ n → nesting_of d ≤ n → items_nesting (snoc ds d) ≤ n
unfolding snoc
nesting-snoc n no_items d a h = omega arith
nesting-snoc n (item e es) d a h = let below = nesting-snoc n es d (omega arith) h in omega arith

-- ---- entries that were read, one after another

-- an entry after others
snoc_entry : Entries → List ℕ → Data → Entries
snoc_entry no_entries k d = entry k d no_entries
snoc_entry (entry l e es) k d = entry l e (snoc_entry es k d)

-- their number
count-snoc_entry : (es : Entries) (k : List ℕ) (d : Data) → entry_count (snoc_entry es k d) ≡ entry_count es + 1
unfolding snoc_entry
count-snoc_entry no_entries k d = refl
count-snoc_entry (entry l e es) k d = ap (λ n. n + 1) (count-snoc_entry es k d)

-- an entry, before other bytes
pub entry_parts : (l : List ℕ) (e : Data) (es : Entries) (rest : List ℕ) → entries_spelling (entry l e es) ++ rest ≡ key_spelling l ++ (spelling_of e ++ (entries_spelling es ++ rest))
entry_parts l e es rest =
    append_assoc (key_spelling l) (spelling_of e ++ entries_spelling es) rest ∙ ap (λ (x : List ℕ). key_spelling l ++ x) (append_assoc (spelling_of e) (entries_spelling es) rest)

-- their spelling
spelling-snoc_entry : (es : Entries) (k : List ℕ) (d : Data) (rest : List ℕ) → entries_spelling (snoc_entry es k d) ++ rest ≡ entries_spelling es ++ (key_spelling k ++ (spelling_of d ++ rest))
unfolding snoc_entry
spelling-snoc_entry no_entries k d rest = entry_parts k d no_entries rest
spelling-snoc_entry (entry l e es) k d rest =
    entry_parts l e (snoc_entry es k d) rest ∙ ap (λ (x : List ℕ). key_spelling l ++ (spelling_of e ++ x)) (spelling-snoc_entry es k d rest)
    ∙ sym (entry_parts l e es (key_spelling k ++ (spelling_of d ++ rest)))

-- a key that rises above the last one is where the keys still rise
rises-snoc : (l : List ℕ) (es : Entries) (k : List ℕ) (d : Data) → Rises l es → rises (last_key (Some l) es) k ≡ true → Rises l (snoc_entry es k d)
unfolding snoc_entry
rises-snoc l no_entries k d a h = RisesFrom-from_test (Some l) k d no_entries h
rises-snoc l (entry m e es) k d a h = a

-- the keys still rise
rising-snoc : (before : Option (List ℕ)) (es : Entries) (k : List ℕ) (d : Data) → AreRising es → length k < 2 ^ 64 → IsSpellable d → rises (last_key before es) k ≡ true → AreRising (snoc_entry es k d)
unfolding snoc_entry
rising-snoc before no_entries k d a below h above = (below, h, tt, tt)
rising-snoc before (entry l e es) k d a below h above =
    (a.0, a.1, rises-snoc l es k d a.2 above, rising-snoc (Some l) es k d a.3 below h above)

-- the last key
last-snoc : (before : Option (List ℕ)) (es : Entries) (k : List ℕ) (d : Data) → last_key before (snoc_entry es k d) ≡ Some k
unfolding snoc_entry
last-snoc before no_entries k d = refl
last-snoc before (entry l e es) k d = last-snoc (Some l) es k d

-- how deep they nest
nesting-snoc_entry : (n : ℕ) (es : Entries) (k : List ℕ) (d : Data) → entries_nesting es ≤ n → nesting_of d ≤ n → entries_nesting (snoc_entry es k d) ≤ n
unfolding snoc_entry
nesting-snoc_entry n no_entries k d a h = omega arith
nesting-snoc_entry n (entry l e es) k d a h = let below = nesting-snoc_entry n es k d (omega arith) h in omega arith

-- ---- every level

-- each fault of reading is a first one
abbrev pub IsFirst : ℕ → Parse Data → Type 0
IsFirst n read = (b : List ℕ) (f : Fault) → IsBytes b → read b ≡ Err f → FaultAt n b f

-- one level, where the levels below are as they should be
module _ (n : ℕ) (read : Parse Data) (sound : IsSound n read) (first : IsFirst n read) where
  -- the members from a place on
  items_fault : (whole : List ℕ) (count : ℕ) (before : Items) (left : ℕ) (b : List ℕ) (f : Fault) → IsBytes b → count < 2 ^ 64 → item_count before + left ≡ count
      → AreSpellable before → items_nesting before ≤ n
      → whole ≡ head_of 4 count ++ (items_spelling before ++ b) → items_at read left b ≡ Err f → FaultAt (suc n) whole f
  items_fault whole count before zero b f bytes fits sum spelled nest is e = no_err (no_items, b) f e
  items_fault whole count before (suc left) b f bytes fits sum spelled nest is e =
      elim (bind_err (read b) (items_after read left) f e) [
        | inl here ↦ in_list count before b (record { count_fits = fits; more = omega arith; spelled = spelled; nesting = nest }) is (first b f bytes here)
        | inr behind ↦
            let x = behind.0 in
            let t = sound b x.0 x.1 bytes behind.1 in
            elim (bind_err (items_at read left x.1) (with_item x.0) f behind.2) [
              | inl later ↦
                  items_fault whole count (snoc before x.0) left x.1 f (IsBytes-behind b (spelling_of x.0) x.1 bytes t.whole)
                  fits (omega (arith, count-snoc before x.0)) (spellable-snoc before x.0 spelled t.spellable) (nesting-snoc n before x.0 nest t.nesting)
                  (is ∙ ap (λ l. head_of 4 count ++ (items_spelling before ++ l)) t.whole ∙ ap (λ l. head_of 4 count ++ l) (sym (spelling-snoc before x.0 x.1))) later
              | inr never ↦ no_err (item x.0 never.0.0, never.0.1) f never.2
            ]
      ]

  -- the keys and values from a place on
  entries_fault : (whole : List ℕ) (count : ℕ) (before : Entries) (last : Option (List ℕ)) (left : ℕ) (b : List ℕ) (f : Fault) → IsBytes b → last_key None before ≡ last
      → count < 2 ^ 64 → entry_count before + left ≡ count → AreRising before → entries_nesting before ≤ n
      → whole ≡ head_of 5 count ++ (entries_spelling before ++ b) → entries_at read last left b ≡ Err f → FaultAt (suc n) whole f
  entries_fault whole count before last zero b f bytes last_is fits sum rising nest is e = no_err (no_entries, b) f e
  entries_fault whole count before last (suc left) b f bytes last_is fits sum rising nest is e =
      let begins : BeginsMap n count before = record { count_fits = fits; more = omega arith; spelled = rising; nesting = nest } in
      elim (bind_err (key_at last b) (value_behind read left) f e) [
        | inl here ↦ at_key count before b begins is (ap (λ l. key_at l b) last_is ∙ here)
        | inr after_key ↦
            let k = after_key.0 in
            let s = key_taken last b k.0 k.1 bytes after_key.1 in
            let key_bytes = IsBytes-behind b (key_spelling k.0) k.1 bytes s.parts in
            let above : rises (last_key None before) k.0 ≡ true = ap (λ l. rises l k.0) last_is ∙ s.above in
            let key_is : whole ≡ head_of 5 count ++ (entries_spelling before ++ (key_spelling k.0 ++ k.1)) = is ∙ ap (λ l. head_of 5 count ++ (entries_spelling before ++ l)) s.parts in
            elim (bind_err (read k.1) (entries_after read left k.0) f after_key.2) [
              | inl below ↦ in_map count before k.0 k.1 begins s.below above key_is (first k.1 f key_bytes below)
              | inr behind ↦
                  let x = behind.0 in
                  let t = sound k.1 x.0 x.1 key_bytes behind.1 in
                  elim (bind_err (entries_at read (Some k.0) left x.1) (with_entry k.0 x.0) f behind.2) [
                    | inl later ↦
                        entries_fault whole count (snoc_entry before k.0 x.0) (Some k.0) left x.1 f (IsBytes-behind k.1 (spelling_of x.0) x.1 key_bytes t.whole) (last-snoc None before k.0 x.0)
                        fits (omega (arith, count-snoc_entry before k.0 x.0)) (rising-snoc None before k.0 x.0 rising s.below t.spellable above) (nesting-snoc_entry n before k.0 x.0 nest t.nesting)
                        (key_is ∙ ap (λ l. head_of 5 count ++ (entries_spelling before ++ (key_spelling k.0 ++ l))) t.whole ∙ ap (λ l. head_of 5 count ++ l) (sym (spelling-snoc_entry before k.0 x.0 x.1))) later
                    | inr never ↦ no_err (entry k.0 x.0 never.0.0, never.0.1) f never.2
                  ]
            ]
      ]

  -- the members of an item
  some_members : (part : Own) (b middle : List ℕ) (f : Fault) → IsBytes middle → OwnTaken b part middle → with_members (Some read) b (part, middle) ≡ Err f → FaultAt (suc n) b f
  some_members (leaf d) b middle f bytes o e = no_err (d, middle) f e
  some_members (list_of count) b middle f bytes o e =
      elim (bind_err (items_at read count middle) as_list f e) [
        | inl here ↦ items_fault b count no_items count middle f bytes o.is_own (omega arith) tt (omega arith) o.parts here
        | inr never ↦ no_err (list never.0.0, never.0.1) f never.2
      ]
  some_members (map_of count) b middle f bytes o e =
      elim (bind_err (entries_at read None count middle) as_map f e) [
        | inl here ↦ entries_fault b count no_entries None count middle f bytes refl o.is_own (omega arith) tt (omega arith) o.parts here
        | inr never ↦ no_err (map never.0.0, never.0.1) f never.2
      ]

  -- an item inside which lists and maps are allowed
  some_first : IsFirst (suc n) (item_with (Some read))
  some_first b f bytes e =
      elim (bind_err (own_at b) (with_members (Some read) b) f e) [
        | inl here ↦ own here
        | inr behind ↦
            let x = behind.0 in
            let o = own_taken b x.0 x.1 bytes behind.1 in
            some_members x.0 b x.1 f (IsBytes-behind b (own_spelling x.0) x.1 bytes o.parts) o behind.2
      ]

-- an item that may have no members
none_members : (part : Own) (b middle : List ℕ) (f : Fault) → OwnTaken b part middle → with_members None b (part, middle) ≡ Err f → FaultAt 0 b f
none_members (leaf d) b middle f o e = no_err (d, middle) f e
none_members (list_of count) b middle f o e = subst (λ (g : Fault). FaultAt 0 b g) (fault_same {A = Data × List ℕ} (record { kind = Nesting; left = length b }) f e) (list_too_deep count middle o.is_own o.parts)
none_members (map_of count) b middle f o e = subst (λ (g : Fault). FaultAt 0 b g) (fault_same {A = Data × List ℕ} (record { kind = Nesting; left = length b }) f e) (map_too_deep count middle o.is_own o.parts)

-- an item inside which none is allowed
none_first : IsFirst 0 (item_with None)
none_first b f bytes e =
    elim (bind_err (own_at b) (with_members None b) f e) [
      | inl here ↦ own here
      | inr behind ↦ none_members behind.0.0 b behind.0.1 f (own_taken b behind.0.0 behind.0.1 bytes behind.1) behind.2
    ]

-- any level
pub item_first : (n : ℕ) → IsFirst n (item_at n)
unfolding item_at
item_first zero = none_first
item_first (suc n) = some_first n (item_at n) (item_sound n) (item_first n)

-- ---- a block

-- what is after the item is an error
rest_fault : (b : List ℕ) (d : Data) (rest : List ℕ) (f : Fault) → Takes 512 b d rest → nothing_after (d, rest) ≡ Err f → HasRest b f
rest_fault b d [] f t e = no_err d f e
rest_fault b d (x ∷ xs) f t e =
    record { data_before = d; after = x ∷ xs; spellable = t.spellable; nesting = t.nesting; whole = t.whole; more = λ nil. cc; fault = sym (fault_same {A = Data} (record { kind = Rest; left = length (x ∷ xs) }) f e) }

-- an error at the item, or bytes after it
block_fault : (read : Parse Data) (b : List ℕ) (f : Fault) → IsBytes b → IsSound 512 read → IsFirst 512 read → (read b >>= nothing_after) ≡ Err f → FirstFault b f
block_fault read b f bytes sound first e =
    elim (bind_err (read b) nothing_after f e) [
      | inl here ↦ inl (first b f bytes here)
      | inr behind ↦ inr (rest_fault b behind.0.0 behind.0.1 f (sound b behind.0.0 behind.0.1 bytes behind.1) behind.2)
    ]

-- a fault of reading is the first one
pub decoded-fault : (b : List ℕ) (f : Fault) → AreBytes b → decoded b ≡ Err f → FirstFault b f
decoded-fault b f fits e = block_fault (item_at 512) b f (IsBytes-from_are_bytes b fits) (item_sound 512) (item_first 512) e
