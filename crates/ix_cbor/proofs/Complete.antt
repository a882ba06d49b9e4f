-- What is spelled is read: at every level, by the laws of the level below.
use Rattle.std.proofs.Common.{◌≡◌, ℕ, zero, suc, ◌+◌, ◌≤◌, List, ◌++◌, refl, ◌∙◌, ap, arith, append_assoc, add-one}
use Rattle.std.specs.Prelude.{Option, Some, None, Ok}
use Rattle.ix_cbor.specs.Data.{Data, Items, Entries, null, boolean, integer, float, bytes, text, list, map, link, no_items, item, no_entries, entry}
use Rattle.ix_cbor.specs.Spelling.{head_of, key_spelling, spelling_of, items_spelling, entries_spelling, item_count, entry_count, IsSpellable, AreSpellable, AreRising, nesting_of, items_nesting, entries_nesting}
use Rattle.ix_cbor.specs.Reading.{Parse, ◌>>=◌, key_at, own_at, Own, leaf, list_of, map_of, items_at, entries_at, with_members, item_with, item_at}
use Rattle.ix_cbor.specs.Fits.{RisesAbove}
use Rattle.ix_cbor.proofs.Steps.{with_item, items_after, with_entry, entries_after, value_behind, as_list, as_map}
use Rattle.ix_cbor.proofs.Keys.{key_again, rises_at}
use Rattle.ix_cbor.proofs.Owns.{own_spelling, IsOwn, own_again}

-- each item that is spelled is read
abbrev pub IsComplete : ℕ → Parse Data → Type 0
IsComplete n read = (d : Data) (rest : List ℕ) → IsSpellable d → nesting_of d ≤ n → read (spelling_of d ++ rest) ≡ Ok (d, rest)

-- a member before others
items_read : (read : Parse Data) (k : ℕ) (b middle rest : List ℕ) (d : Data) (ds : Items) → read b ≡ Ok (d, middle) → items_at read k middle ≡ Ok (ds, rest)
    → items_at read (k + 1) b ≡ Ok (item d ds, rest)
items_read read k b middle rest d ds first others =
    ap (λ (j : ℕ). items_at read j b) (add-one k) ∙ ap (λ x. x >>= items_after read k) first ∙ ap (λ x. x >>= with_item d) others

-- a key and a value before others
entries_read : (read : Parse Data) (before : Option (List ℕ)) (j : ℕ) (b at middle rest k : List ℕ) (d : Data) (es : Entries) → key_at before b ≡ Ok (k, at)
    → read at ≡ Ok (d, middle) → entries_at read (Some k) j middle ≡ Ok (es, rest) → entries_at read before (j + 1) b ≡ Ok (entry k d es, rest)
entries_read read before j b at middle rest k d es key value others =
    ap (λ (i : ℕ). entries_at read before i b) (add-one j) ∙ ap (λ x. x >>= value_behind read j) key ∙ ap (λ x. x >>= entries_after read j k) value ∙ ap (λ x. x >>= with_entry k d) others

-- an item whose members are read
members_read : (inner : Option (Parse Data)) (part : Own) (b behind rest : List ℕ) (d : Data) → b ≡ own_spelling part ++ behind → IsOwn part
    → with_members inner b (part, behind) ≡ Ok (d, rest) → item_with inner b ≡ Ok (d, rest)
members_read inner part b behind rest d is part_is members =
    ap (λ x. x >>= with_members inner b) (ap own_at is ∙ own_again part behind part_is) ∙ members

module _ (n : ℕ) (read : Parse Data) (complete : IsComplete n read) where
  -- members that are spelled
  pub items_again : (ds : Items) (rest : List ℕ) → AreSpellable ds → items_nesting ds ≤ n → items_at read (item_count ds) (items_spelling ds ++ rest) ≡ Ok (ds, rest)
  items_again no_items rest spellable nesting = refl
  items_again (item d ds) rest spellable nesting =
      items_read read (item_count ds) ((spelling_of d ++ items_spelling ds) ++ rest) (items_spelling ds ++ rest) rest d ds
      (ap read (append_assoc (spelling_of d) (items_spelling ds) rest) ∙ complete d (items_spelling ds ++ rest) spellable.0 (omega arith))
      (items_again ds rest spellable.1 (omega arith))

  -- keys and values that are spelled
  pub entries_again : (before : Option (List ℕ)) (es : Entries) (rest : List ℕ) → AreRising es → RisesAbove before es → entries_nesting es ≤ n
      → entries_at read before (entry_count es) (entries_spelling es ++ rest) ≡ Ok (es, rest)
  entries_again before no_entries rest rising above nesting = refl
  entries_again before (entry k d es) rest rising above nesting =
      let at = (spelling_of d ++ entries_spelling es) ++ rest in
      entries_read read before (entry_count es) ((key_spelling k ++ (spelling_of d ++ entries_spelling es)) ++ rest) at (entries_spelling es ++ rest) rest k d es
      (ap (key_at before) (append_assoc (key_spelling k) (spelling_of d ++ entries_spelling es) rest) ∙ key_again before k at rising.0 (rises_at before k d es above))
      (ap read (append_assoc (spelling_of d) (entries_spelling es) rest) ∙ complete d (entries_spelling es ++ rest) rising.1 (omega arith))
      (entries_again (Some k) es rest rising.3 rising.2 (omega arith))

  -- an item that is whole
  leaf_some : (d : Data) (rest : List ℕ) → IsSpellable d → nesting_of d ≡ 0 → item_with (Some read) (spelling_of d ++ rest) ≡ Ok (d, rest)
  leaf_some d rest spellable flat = ap (λ x. x >>= with_members (Some read) (spelling_of d ++ rest)) (own_again (leaf d) rest (spellable, flat))

  -- an item inside which lists and maps are allowed
  pub some_complete : IsComplete (suc n) (item_with (Some read))
  some_complete null rest spellable nesting = refl
  some_complete (boolean x) rest spellable nesting = leaf_some (boolean x) rest spellable refl
  some_complete (integer x) rest spellable nesting = leaf_some (integer x) rest spellable refl
  some_complete (float x) rest spellable nesting = leaf_some (float x) rest spellable refl
  some_complete (bytes x) rest spellable nesting = leaf_some (bytes x) rest spellable refl
  some_complete (text x) rest spellable nesting = leaf_some (text x) rest spellable refl
  some_complete (list ds) rest spellable nesting =
      members_read (Some read) (list_of (item_count ds)) ((head_of 4 (item_count ds) ++ items_spelling ds) ++ rest) (items_spelling ds ++ rest) rest (list ds)
      (append_assoc (head_of 4 (item_count ds)) (items_spelling ds) rest) spellable.0 (ap (λ x. x >>= as_list) (items_again ds rest spellable.1 (omega arith)))
  some_complete (map es) rest spellable nesting =
      members_read (Some read) (map_of (entry_count es)) ((head_of 5 (entry_count es) ++ entries_spelling es) ++ rest) (entries_spelling es ++ rest) rest (map es)
      (append_assoc (head_of 5 (entry_count es)) (entries_spelling es) rest) spellable.0 (ap (λ x. x >>= as_map) (entries_again None es rest spellable.1 tt (omega arith)))
  some_complete (link c) rest spellable nesting = leaf_some (link c) rest spellable refl

-- an item inside which none is allowed
pub none_complete : IsComplete 0 (item_with None)
none_complete d rest spellable nesting = ap (λ x. x >>= with_members None (spelling_of d ++ rest)) (own_again (leaf d) rest (spellable, omega arith))

-- every level
pub item_complete : (n : ℕ) → IsComplete n (item_at n)
unfolding item_at
item_complete zero = none_complete
item_complete (suc n) = some_complete n (item_at n) (item_complete n)
