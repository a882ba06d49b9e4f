-- What is read where lists and maps may nest so deep is read where they may nest deeper, and keys that rise above one rise.
use Rattle.std.proofs.Common.{◌≡◌, ℕ, zero, suc, List, ◌∙◌, ap}
use Rattle.std.specs.Prelude.{Option, Some, None, Ok, if◌then◌else◌}
use Rattle.ix_cbor.specs.declared.fault.CborKind.TheVariants.{KeyKind, KeyOrder}
use Rattle.ix_cbor.specs.Data.{Data, Items, Entries}
use Rattle.ix_cbor.specs.Reading.{Parse, ◌>>=◌, fails, string_of_major, rises, key_at, own_at, Own, leaf, list_of, map_of, items_at, entries_at, with_members, item_with, item_at}
use Rattle.ix_cbor.proofs.Steps.{bind_ok, no_ok, past_guard, with_item, items_after, with_entry, entries_after, value_behind, as_list, as_map}

-- what one reading gives another gives too
abbrev pub IsAlso : Parse Data → Parse Data → Type 0
IsAlso read other = (b : List ℕ) (x : Data × List ℕ) → read b ≡ Ok x → other b ≡ Ok x

module _ (read other : Parse Data) (also : IsAlso read other) where
  -- what reads elements also reads them with a deeper reader
  pub items_also : (count : ℕ) (b : List ℕ) (x : Items × List ℕ) → items_at read count b ≡ Ok x → items_at other count b ≡ Ok x
  items_also zero b x e = e
  items_also (suc count) b x e =
      let a = bind_ok (read b) (items_after read count) x e in
      let m = bind_ok (items_at read count a.0.1) (with_item a.0.0) x a.2 in
      ap (λ r. r >>= items_after other count) (also b a.0 a.1) ∙ ap (λ r. r >>= with_item a.0.0) (items_also count a.0.1 m.0 m.1) ∙ m.2

  -- and so it is for entries
  pub entries_also : (before : Option (List ℕ)) (count : ℕ) (b : List ℕ) (x : Entries × List ℕ) → entries_at read before count b ≡ Ok x → entries_at other before count b ≡ Ok x
  entries_also before zero b x e = e
  entries_also before (suc count) b x e =
      let k = bind_ok (key_at before b) (value_behind read count) x e in
      let a = bind_ok (read k.0.1) (entries_after read count k.0.0) x k.2 in
      let m = bind_ok (entries_at read (Some k.0.0) count a.0.1) (with_entry k.0.0 a.0.0) x a.2 in
      ap (λ r. r >>= value_behind other count) k.1 ∙ ap (λ r. r >>= entries_after other count k.0.0) (also k.0.1 a.0 a.1)
      ∙ ap (λ r. r >>= with_entry k.0.0 a.0.0) (entries_also (Some k.0.0) count a.0.1 m.0 m.1) ∙ m.2

  -- and for whatever an item has inside
  members_also : (own : Own) (b behind : List ℕ) (x : Data × List ℕ) → with_members (Some read) b (own, behind) ≡ Ok x → with_members (Some other) b (own, behind) ≡ Ok x
  members_also (leaf d) b behind x e = e
  members_also (list_of count) b behind x e =
      let m = bind_ok (items_at read count behind) as_list x e in ap (λ r. r >>= as_list) (items_also count behind m.0 m.1) ∙ m.2
  members_also (map_of count) b behind x e =
      let m = bind_ok (entries_at read None count behind) as_map x e in ap (λ r. r >>= as_map) (entries_also None count behind m.0 m.1) ∙ m.2

  -- so it is for items, level by level
  item_also : IsAlso (item_with (Some read)) (item_with (Some other))
  item_also b x e =
      let a = bind_ok (own_at b) (with_members (Some read) b) x e in
      ap (λ r. r >>= with_members (Some other) b) a.1 ∙ members_also a.0.0 b a.0.1 x a.2

-- an item inside which none is allowed
alone_also : (read : Parse Data) (own : Own) (b behind : List ℕ) (x : Data × List ℕ) → with_members None b (own, behind) ≡ Ok x → with_members (Some read) b (own, behind) ≡ Ok x
alone_also read (leaf d) b behind x e = e
alone_also read (list_of count) b behind x e = no_ok _ x e
alone_also read (map_of count) b behind x e = no_ok _ x e

-- what is read where no list or map is allowed is read where one is
none_also : (read : Parse Data) → IsAlso (item_with None) (item_with (Some read))
none_also read b x e =
    let a = bind_ok (own_at b) (with_members None b) x e in
    ap (λ r. r >>= with_members (Some read) b) a.1 ∙ alone_also read a.0.0 b a.0.1 x a.2

-- one level deeper
pub item_deeper : (n : ℕ) → IsAlso (item_at n) (item_at (suc n))
unfolding item_at
item_deeper zero = none_also (item_at 0)
item_deeper (suc n) = item_also (item_at n) (item_at (suc n)) (item_deeper n)

-- a key above another is one
pub key_first : (before : Option (List ℕ)) (b : List ℕ) (k : List ℕ × List ℕ) → key_at before b ≡ Ok k → key_at None b ≡ Ok k
key_first before b k e =
    let m = bind_ok (string_of_major 3 (λ at. fails KeyKind at) b) (λ k. if rises before k.0 then Ok k else fails KeyOrder b) k e in
    ap (λ r. r >>= (λ k. if rises None k.0 then Ok k else fails KeyOrder b)) m.1 ∙ (past_guard (rises before m.0.0) _ (Ok m.0) k m.2).1

-- keys and values after a key are keys and values
pub entries_first : (read : Parse Data) (before : Option (List ℕ)) (count : ℕ) (b : List ℕ) (x : Entries × List ℕ) → entries_at read before count b ≡ Ok x → entries_at read None count b ≡ Ok x
entries_first read before zero b x e = e
entries_first read before (suc count) b x e =
    let k = bind_ok (key_at before b) (value_behind read count) x e in
    ap (λ r. r >>= value_behind read count) (key_first before b k.0 k.1) ∙ k.2
