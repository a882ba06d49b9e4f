-- Nodes by their bytes.
use Rattle.std.proofs.Common.{◌≡◌, ℕ, suc, ◌-◌, ◌≤◌, Bool, true, false, List, [], ◌∷◌, length, take, refl, sym, ◌∙◌, ap, arith, length-append}
use Rattle.std.specs.Prelude.{Some, None, Ok}
use Rattle.std.proofs.lemmas.List.{take-append-le, take_all}
use Rattle.std.specs.Borrow.{Bor}
use Rattle.ix_cbor.specs.declared.front.Front.{Front}
use Rattle.ix_cbor.specs.declared.front.Front.TheVariants as fronts
use Rattle.ix_cbor.specs.Data.{Data, Items, Entries, null, boolean, integer, float, bytes, text, link, item, no_items, entry, no_entries}
use Rattle.ix_cbor.specs.Data as nodes
use Rattle.ix_cbor.specs.Spelling.{spelling_of}
use Rattle.ix_cbor.specs.Reading.{◌>>=◌, own_at, Own, item_at, items_at, entries_at, key_at, with_members, nothing_after, decoded}
use Rattle.ix_cbor.specs.Fronts.{own_of_front, behind, after_item}
use Rattle.ix_cbor.proofs.Bytes.{IsBytes}
use Rattle.ix_cbor.proofs.Fronts.{item_at-above}
use Rattle.ix_cbor.proofs.Deeper.{item_deeper, items_also, entries_also, entries_first}
use Rattle.ix_cbor.proofs.Sound.{item_sound}
use Rattle.ix_cbor.proofs.Laws.{decoded-complete}
use Rattle.ix_cbor.proofs.Steps.{bind_ok, ok_same, ok_data, as_list, as_map, with_item, items_after, with_entry, entries_after, value_behind}
use Rattle.ix_path.specs.Node.{data_in, link_of, IsNode, IsItemAt, AreItemsAt, AreEntriesAt}

-- a DAG-CBOR node is the data that its bytes spell
pub node_spelled : (b : List ℕ) → IsNode false b → decoded b ≡ Ok (data_in false b)
node_spelled b h =
    let g = h.1 in
    let is : data_in false b ≡ h.0 = rw g refl in
    g ∙ ap (λ (d : Data). Ok d) (sym is)

-- data that bytes spell are the node
pub spelled_node : (b : List ℕ) (d : Data) → decoded b ≡ Ok d → data_in false b ≡ d
spelled_node b d g = rw g refl

-- nothing is after an item that is all of the bytes
ends_there : (x : Data × List ℕ) (d : Data) → nothing_after x ≡ Ok d → ok_data x ≡ ok_data (d, [])
ends_there (y, []) d e = ap (λ z. ok_data (z, [])) (ok_same y d e)
ends_there (y, (l ∷ ls)) d e = absurd cc

-- bytes that spell data are one item
pub decoded_item : (b : List ℕ) (d : Data) → decoded b ≡ Ok d → item_at 512 b ≡ ok_data (d, [])
decoded_item b d e = let x = bind_ok (item_at 512 b) nothing_after d e in x.1 ∙ ends_there x.0 d x.2

-- an item has a front
pub front_there : (b : List ℕ) (d : Data) → IsItemAt b d → (own : Own × List ℕ) × (own_at b ≡ Ok own)
front_there b d h =
    let m = bind_ok (own_at b) (with_members (Some (item_at 511)) b) (d, h.0) (sym (item_at-above 512 b (omega arith)) ∙ h.1) in (m.0, m.1)

-- the item after which these bytes are
pub rest_same : (b next : List ℕ) (d : Data) (rest : List ℕ) → after_item 512 b ≡ Ok next → item_at 512 b ≡ Ok (d, rest) → next ≡ rest
rest_same b next d rest after e = sym (ok_same rest next (sym (ap (λ r. r >>= behind) e) ∙ after))

-- the bytes of an item alone
pub item_alone : (b rest : List ℕ) (d : Data) → IsBytes b → item_at 512 b ≡ Ok (d, rest) → decoded (take (length b - length rest) b) ≡ Ok d
item_alone b rest d fits e =
    let t = item_sound 512 b d rest fits e in
    let front : List ℕ = spelling_of d in
    let size : length b - length rest ≡ length front = omega (arith, ap length t.whole, length-append front rest) in
    let cut : take (length b - length rest) b ≡ front =
    ap (λ (n : ℕ). take n b) size ∙ ap (take (length front)) t.whole ∙ take-append-le (length front) front rest (omega arith) ∙ take_all (length front) front (omega arith) in
    decoded-complete (take (length b - length rest) b) d (record { canonical = record { parts = t.spellable; nesting = t.nesting }; spelled = cut })

-- and what follows an item is no longer than all of it
pub item_shorter : (b rest : List ℕ) (d : Data) → IsBytes b → item_at 512 b ≡ Ok (d, rest) → length rest ≤ length b
item_shorter b rest d fits e = let t = item_sound 512 b d rest fits e in omega (arith, ap length t.whole, length-append (spelling_of d) rest)

-- ---- by its front

-- what is read after the front
by_front : (f : Front) (b rest : List ℕ) (d : Data) → decoded b ≡ Ok d → own_at b ≡ Ok (own_of_front f, rest) → with_members (Some (item_at 511)) b (own_of_front f, rest) ≡ Ok (d, [])
by_front f b rest d h own =
    ap (λ r. r >>= with_members (Some (item_at 511)) b) (sym own) ∙ sym (item_at-above 512 b (omega arith)) ∙ decoded_item b d h

-- an item that has no members is the data
whole : (x d : Data) (rest : List ℕ) → ok_data (x, rest) ≡ ok_data (d, []) → d ≡ x
whole x d rest e = sym (ap (λ (y : Data × List ℕ). y.0) (ok_same (x, rest) (d, []) e))

-- data that isn't a list or map, by its front
abbrev pub leaf_data : Front → Data
leaf_data fronts.Null = null
leaf_data (fronts.Bool t) = boolean t
leaf_data (fronts.Int n) = integer n
leaf_data (fronts.Bits64 n) = float n
leaf_data (fronts.Bytes s) = bytes s.now
leaf_data (fronts.Text s) = text s.now
leaf_data (fronts.Link s) = link s.now
leaf_data (fronts.List n) = null
leaf_data (fronts.Map n) = null

module _ (b rest : List ℕ) (d : Data) (h : decoded b ≡ Ok d) where
  -- data by its front
  pub leaf_is : (f : Front) → ((n : ℕ) → f ≡ fronts.List n → ⊥) → ((n : ℕ) → f ≡ fronts.Map n → ⊥) → own_at b ≡ Ok (own_of_front f, rest) → d ≡ leaf_data f
  leaf_is fronts.Null no_list no_map own = whole null d rest (by_front fronts.Null b rest d h own)
  leaf_is (fronts.Bool t) no_list no_map own = whole (boolean t) d rest (by_front (fronts.Bool t) b rest d h own)
  leaf_is (fronts.Int n) no_list no_map own = whole (integer n) d rest (by_front (fronts.Int n) b rest d h own)
  leaf_is (fronts.Bits64 n) no_list no_map own = whole (float n) d rest (by_front (fronts.Bits64 n) b rest d h own)
  leaf_is (fronts.Bytes s) no_list no_map own = whole (bytes s.now) d rest (by_front (fronts.Bytes s) b rest d h own)
  leaf_is (fronts.Text s) no_list no_map own = whole (text s.now) d rest (by_front (fronts.Text s) b rest d h own)
  leaf_is (fronts.Link s) no_list no_map own = whole (link s.now) d rest (by_front (fronts.Link s) b rest d h own)
  leaf_is (fronts.List n) no_list no_map own = absurd (no_list n refl)
  leaf_is (fronts.Map n) no_list no_map own = absurd (no_map n refl)

  -- a list and its elements
  pub list_is : (n : ℕ) → own_at b ≡ Ok (own_of_front (fronts.List n), rest) → (ds : Items) × (d ≡ nodes.list ds) × AreItemsAt n rest ds
  list_is n own =
      let m = bind_ok (items_at (item_at 511) n rest) as_list (d, []) (by_front (fronts.List n) b rest d h own) in
      (m.0.0, whole (nodes.list m.0.0) d m.0.1 m.2, (m.0.1, items_also (item_at 511) (item_at 512) (item_deeper 511) n rest m.0 m.1))

  -- a map and its entries
  pub map_is : (n : ℕ) → own_at b ≡ Ok (own_of_front (fronts.Map n), rest) → (es : Entries) × (d ≡ nodes.map es) × AreEntriesAt n rest es
  map_is n own =
      let m = bind_ok (entries_at (item_at 511) None n rest) as_map (d, []) (by_front (fronts.Map n) b rest d h own) in
      (m.0.0, whole (nodes.map m.0.0) d m.0.1 m.2, (m.0.1, entries_also (item_at 511) (item_at 512) (item_deeper 511) None n rest m.0 m.1))

  -- a link
  pub link_is : (s : Bor (List ℕ)) → own_at b ≡ Ok (own_of_front (fronts.Link s), rest) → Some s.now ≡ link_of d
  link_is s own = sym (ap link_of (whole (link s.now) d rest (by_front (fronts.Link s) b rest d h own)))

  -- what isn't a link has no CID
  pub no_link : (f : Front) → ((s : Bor (List ℕ)) → f ≡ fronts.Link s → ⊥) → own_at b ≡ Ok (own_of_front f, rest) → None ≡ link_of d
  no_link fronts.Null not_link own = sym (ap link_of (whole null d rest (by_front fronts.Null b rest d h own)))
  no_link (fronts.Bool t) not_link own = sym (ap link_of (whole (boolean t) d rest (by_front (fronts.Bool t) b rest d h own)))
  no_link (fronts.Int n) not_link own = sym (ap link_of (whole (integer n) d rest (by_front (fronts.Int n) b rest d h own)))
  no_link (fronts.Bits64 n) not_link own = sym (ap link_of (whole (float n) d rest (by_front (fronts.Bits64 n) b rest d h own)))
  no_link (fronts.Bytes s) not_link own = sym (ap link_of (whole (bytes s.now) d rest (by_front (fronts.Bytes s) b rest d h own)))
  no_link (fronts.Text s) not_link own = sym (ap link_of (whole (text s.now) d rest (by_front (fronts.Text s) b rest d h own)))
  no_link (fronts.Link s) not_link own = absurd (not_link s refl)
  no_link (fronts.List n) not_link own = let l = list_is n own in sym (ap link_of l.1)
  no_link (fronts.Map n) not_link own = let m = map_is n own in sym (ap link_of m.1)

-- ---- members, one after another

-- the first element, and those after it
pub items_split : (k : ℕ) (b : List ℕ) (es : Items) → AreItemsAt (suc k) b es → (d : Data) × (fs : Items) × (middle : List ℕ) × (es ≡ item d fs) × (item_at 512 b ≡ Ok (d, middle)) × AreItemsAt k middle fs
items_split k b es h =
    let a = bind_ok (item_at 512 b) (items_after (item_at 512) k) (es, h.0) h.1 in
    let m = bind_ok (items_at (item_at 512) k a.0.1) (with_item a.0.0) (es, h.0) a.2 in
    (a.0.0, m.0.0, a.0.1, sym (ap (λ (x : Items × List ℕ). x.0) (ok_same (item a.0.0 m.0.0, m.0.1) (es, h.0) m.2)), a.1, (m.0.1, m.1))

-- the first entry, and those after it
pub entries_split : (k : ℕ) (b : List ℕ) (es : Entries) → AreEntriesAt (suc k) b es
    → (name : List ℕ) × (d : Data) × (fs : Entries) × (value : List ℕ) × (middle : List ℕ) × (es ≡ entry name d fs) × (key_at None b ≡ Ok (name, value)) × (item_at 512 value ≡ Ok (d, middle)) × AreEntriesAt k middle fs
entries_split k b es h =
    let n = bind_ok (key_at None b) (value_behind (item_at 512) k) (es, h.0) h.1 in
    let a = bind_ok (item_at 512 n.0.1) (entries_after (item_at 512) k n.0.0) (es, h.0) n.2 in
    let m = bind_ok (entries_at (item_at 512) (Some n.0.0) k a.0.1) (with_entry n.0.0 a.0.0) (es, h.0) a.2 in (
      n.0.0,
      a.0.0,
      m.0.0,
      n.0.1,
      a.0.1,
      sym (ap (λ (x : Entries × List ℕ). x.0) (ok_same (entry n.0.0 a.0.0 m.0.0, m.0.1) (es, h.0) m.2)),
      n.1,
      a.1,
      (m.0.1, entries_first (item_at 512) (Some n.0.0) k a.0.1 m.0 m.1),
    )

-- a node whose bytes aren't raw is what they spell
pub self_spelled : (is_raw : Bool) (b : List ℕ) (d : Data) → is_raw ≡ false → IsNode is_raw b → data_in is_raw b ≡ d → decoded b ≡ Ok d
self_spelled true b d e h v = absurd cc
self_spelled false b d e h v = node_spelled b h ∙ ap (λ (x : Data). Ok x) v
