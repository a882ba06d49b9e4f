-- What is read of a block in passing is what is in it.
use Rattle.std.proofs.Common.{◌≡◌, ◌⊎◌, inl, inr, ℕ, pos, negsuc, suc, ◌+◌, ◌-◌, ◌<◌, ◌≤◌, Bool, true, false, List, [], ◌∷◌, ◌++◌, refl, sym, ap, ◌∙◌, subst, arith}
use Rattle.std.specs.Prelude.{Option, Some, None, Result, Ok, Err, option_map, bytes_eq, if◌then◌else◌}
use Rattle.std.specs.Borrow.{Bor}
use Rattle.ix_cid.proofs.Results.{bind_ok, ok_same}
use Rattle.ix_cbor.specs.declared.front.Front.{Front}
use Rattle.ix_cbor.specs.declared.front.Front.TheVariants.{Null, Bool as BoolFront, Int, Bits64, Bytes, Text, Link, List as ListFront, Map}
use Rattle.ix_cbor.specs.Data.{Data, Items, Entries, null, boolean, integer, float, bytes, text, list, map, link, no_items, item, no_entries, entry}
use Rattle.ix_cbor.specs.Reading.{Fault, Parse, ◌>>=◌, Own, leaf, list_of, map_of, own_at, key_at, item_at, items_at, entries_at, with_members, decoded, nothing_after, data_at}
use Rattle.ix_cbor.specs.Fronts.{own_of_front, behind, after_item, judged}
use Rattle.ix_cbor.proofs.Steps.{items_after, with_item, value_behind, entries_after, with_entry, as_list, as_map, ok_data, no_ok, bind_err}
use Rattle.ix_cbor.proofs.Fronts.{item_at-above}
use Rattle.ix_cbor.proofs.Deeper.{item_deeper}
use Rattle.ix_sections.specs.declared.fault.CarKind.TheVariants.{Header}
use Rattle.ix_sections.specs.Reading.{value_at, are_links, has_roots, version_fault, header_fault}
use Rattle.ix_sections.specs.Sections.{links_in, links_of, roots_in}
use Rattle.ix_sections.specs.Standing.{StandsAt, EntriesAreAt, MembersAreAt, ValueIsAt, IsMapAt, IsListAt, integer_in, own_integer, own_map, own_list, own_is_link, own_links}

-- ---- an item by its own head

-- what is read after the head of an item that is there
with_own : (n : ℕ) (b : List ℕ) (d : Data) (own : Own) (rest : List ℕ) → 0 < n → own_at b ≡ Ok (own, rest) → (h : StandsAt n b d)
    → with_members (Some (item_at (n - 1))) b (own, rest) ≡ Ok (d, h.0)
with_own n b d own rest some e h = ap (λ r. r >>= with_members (Some (item_at (n - 1))) b) (sym e) ∙ sym (item_at-above n b some) ∙ h.1

-- what is there has a head
pub has_head : (n : ℕ) (b : List ℕ) (d : Data) (f : Fault) → 0 < n → own_at b ≡ Err f → StandsAt n b d → ⊥
has_head n b d f some e h =
    no_ok f (d, h.0) (ap (λ r. r >>= with_members (Some (item_at (n - 1))) b) (sym e) ∙ sym (item_at-above n b some) ∙ h.1)

-- an item without members is what its head says
leaf_is : (x d : Data) (b r : List ℕ) → ok_data (x, b) ≡ Ok (d, r) → x ≡ d
leaf_is x d b r e = ap (λ p. p.0) (ok_same (x, b) (d, r) e)

-- a list is its members
list_is : (read : Parse Data) (count : ℕ) (b r : List ℕ) (d : Data) → (items_at read count b >>= as_list) ≡ Ok (d, r) → (ds : Items) × (d ≡ list ds) × (items_at read count b ≡ Ok (ds, r))
list_is read count b r d e =
    let x = bind_ok (items_at read count b) as_list (d, r) e in
    let is = ok_same (list x.0.0, x.0.1) (d, r) x.2 in
    (x.0.0, sym (ap (λ p. p.0) is), x.1 ∙ ap (λ l. Ok (x.0.0, l)) (ap (λ p. p.1) is))

-- a map is its keys and values
map_is : (read : Parse Data) (count : ℕ) (b r : List ℕ) (d : Data) → (entries_at read None count b >>= as_map) ≡ Ok (d, r) → (es : Entries) × (d ≡ map es) × (entries_at read None count b ≡ Ok (es, r))
map_is read count b r d e =
    let x = bind_ok (entries_at read None count b) as_map (d, r) e in
    let is = ok_same (map x.0.0, x.0.1) (d, r) x.2 in
    (x.0.0, sym (ap (λ p. p.0) is), x.1 ∙ ap (λ l. Ok (x.0.0, l)) (ap (λ p. p.1) is))

-- the count of a map
map_counted : (read : Parse Data) (own : Own) (b rest r : List ℕ) (d : Data) (count : ℕ) → Some count ≡ own_map own → with_members (Some read) b (own, rest) ≡ Ok (d, r)
    → (es : Entries) × (d ≡ map es) × (entries_at read None count rest ≡ Ok (es, r))
map_counted read (leaf x) b rest r d count is e = absurd cc
map_counted read (list_of n) b rest r d count is e = absurd cc
map_counted read (map_of n) b rest r d count is e =
    let same : count ≡ n = cc in
    let m = map_is read n rest r d e in
    (m.0, m.1, ap (λ k. entries_at read None k rest) same ∙ m.2)

-- and of a list
list_counted : (read : Parse Data) (own : Own) (b rest r : List ℕ) (d : Data) (count : ℕ) → Some count ≡ own_list own → with_members (Some read) b (own, rest) ≡ Ok (d, r)
    → (ds : Items) × (d ≡ list ds) × (items_at read count rest ≡ Ok (ds, r))
list_counted read (leaf x) b rest r d count is e = absurd cc
list_counted read (map_of n) b rest r d count is e = absurd cc
list_counted read (list_of n) b rest r d count is e =
    let same : count ≡ n = cc in
    let m = list_is read n rest r d e in
    (m.0, m.1, ap (λ k. items_at read k rest) same ∙ m.2)

-- a map that is there has as many keys and values as its head says, right after it
pub map_found : (b : List ℕ) (own : Own) (rest : List ℕ) (m : ℕ × Bor (List ℕ)) → own_at b ≡ Ok (own, rest) → Some m.0 ≡ own_map own → m.1.now ≡ rest → (d : Data) → StandsAt 512 b d → IsMapAt (Some m) d
map_found b own rest m e is lent d h =
    let x = map_counted (item_at 511) own b rest h.0 d m.0 is (with_own 512 b d own rest (omega arith) e h) in
    subst (IsMapAt (Some m)) (sym x.1) (h.0, ap (entries_at (item_at 511) None m.0) lent ∙ x.2)

-- the same of a list
pub list_found : (b : List ℕ) (own : Own) (rest : List ℕ) (m : ℕ × Bor (List ℕ)) → own_at b ≡ Ok (own, rest) → Some m.0 ≡ own_list own → m.1.now ≡ rest → (d : Data) → StandsAt 511 b d → IsListAt (Some m) d
list_found b own rest m e is lent d h =
    let x = list_counted (item_at 510) own b rest h.0 d m.0 is (with_own 511 b d own rest (omega arith) e h) in
    subst (IsListAt (Some m)) (sym x.1) (h.0, ap (items_at (item_at 510) m.0) lent ∙ x.2)

-- no map
map_missing : (read : Parse Data) (front : Front) (b rest r : List ℕ) (d : Data) → None ≡ own_map (own_of_front front) → with_members (Some read) b (own_of_front front, rest) ≡ Ok (d, r) → IsMapAt None d
map_missing read Null b rest r d is e = subst (IsMapAt None) (leaf_is null d rest r e) tt
map_missing read (BoolFront t) b rest r d is e = subst (IsMapAt None) (leaf_is (boolean t) d rest r e) tt
map_missing read (Int n) b rest r d is e = subst (IsMapAt None) (leaf_is (integer n) d rest r e) tt
map_missing read (Bits64 n) b rest r d is e = subst (IsMapAt None) (leaf_is (float n) d rest r e) tt
map_missing read (Bytes s) b rest r d is e = subst (IsMapAt None) (leaf_is (bytes s.now) d rest r e) tt
map_missing read (Text s) b rest r d is e = subst (IsMapAt None) (leaf_is (text s.now) d rest r e) tt
map_missing read (Link c) b rest r d is e = subst (IsMapAt None) (leaf_is (link c.now) d rest r e) tt
map_missing read (ListFront n) b rest r d is e = subst (IsMapAt None) (sym (list_is read n rest r d e).1) tt
map_missing read (Map n) b rest r d is e = absurd cc

-- no list
list_missing : (read : Parse Data) (front : Front) (b rest r : List ℕ) (d : Data) → None ≡ own_list (own_of_front front) → with_members (Some read) b (own_of_front front, rest) ≡ Ok (d, r) → IsListAt None d
list_missing read Null b rest r d is e = subst (IsListAt None) (leaf_is null d rest r e) tt
list_missing read (BoolFront t) b rest r d is e = subst (IsListAt None) (leaf_is (boolean t) d rest r e) tt
list_missing read (Int n) b rest r d is e = subst (IsListAt None) (leaf_is (integer n) d rest r e) tt
list_missing read (Bits64 n) b rest r d is e = subst (IsListAt None) (leaf_is (float n) d rest r e) tt
list_missing read (Bytes s) b rest r d is e = subst (IsListAt None) (leaf_is (bytes s.now) d rest r e) tt
list_missing read (Text s) b rest r d is e = subst (IsListAt None) (leaf_is (text s.now) d rest r e) tt
list_missing read (Link c) b rest r d is e = subst (IsListAt None) (leaf_is (link c.now) d rest r e) tt
list_missing read (ListFront n) b rest r d is e = absurd cc
list_missing read (Map n) b rest r d is e = subst (IsListAt None) (sym (map_is read n rest r d e).1) tt

-- another head than that of a map is before other data
pub no_map : (b : List ℕ) (front : Front) (rest : List ℕ) → own_at b ≡ Ok (own_of_front front, rest) → None ≡ own_map (own_of_front front) → (d : Data) → StandsAt 512 b d → IsMapAt None d
no_map b front rest e is d h = map_missing (item_at 511) front b rest h.0 d is (with_own 512 b d (own_of_front front) rest (omega arith) e h)

-- and so of a list
pub no_list : (b : List ℕ) (front : Front) (rest : List ℕ) → own_at b ≡ Ok (own_of_front front, rest) → None ≡ own_list (own_of_front front) → (d : Data) → StandsAt 511 b d → IsListAt None d
no_list b front rest e is d h = list_missing (item_at 510) front b rest h.0 d is (with_own 511 b d (own_of_front front) rest (omega arith) e h)

-- an item is an integer where its head says so
integer_told : (read : Parse Data) (own : Own) (b rest r : List ℕ) (d : Data) → with_members (Some read) b (own, rest) ≡ Ok (d, r) → own_integer own ≡ integer_in (Some d)
integer_told read (leaf x) b rest r d e = ap (λ y. integer_in (Some y)) (leaf_is x d rest r e)
integer_told read (list_of n) b rest r d e = ap (λ y. integer_in (Some y)) (sym (list_is read n rest r d e).1)
integer_told read (map_of n) b rest r d e = ap (λ y. integer_in (Some y)) (sym (map_is read n rest r d e).1)

-- the integer of a value
pub integer_found : (value : Bor (List ℕ)) (own : Own) (rest : List ℕ) → own_at value.now ≡ Ok (own, rest) → (d : Option Data) → ValueIsAt (Some value) d → own_integer own ≡ integer_in d
integer_found value own rest e None h = absurd h
integer_found value own rest e (Some d) h = integer_told (item_at 510) own value.now rest h.0 d (with_own 511 value.now d own rest (omega arith) e h)

-- a value has a head
pub value_headed : (value : Bor (List ℕ)) (f : Fault) → own_at value.now ≡ Err f → (d : Option Data) → ValueIsAt (Some value) d → ⊥
value_headed value f e None h = h
value_headed value f e (Some d) h = has_head 511 value.now d f (omega arith) e h

-- ---- keys and values

-- what is left after an item that is skipped
pub skipped : (b next : List ℕ) (d : Data × List ℕ) → item_at 511 b ≡ Ok d → after_item 512 b ≡ Ok next → next ≡ d.1
skipped b next d e over = ok_same next d.1 (sym over ∙ ap (λ r. r >>= behind) (item_deeper 511 b d e))

-- what is read can be skipped
pub is_skipped : (b : List ℕ) (f : Fault) (d : Data × List ℕ) → item_at 511 b ≡ Ok d → after_item 512 b ≡ Err f → ⊥
is_skipped b f d e over = no_ok f d.1 (sym over ∙ ap (λ r. r >>= behind) (item_deeper 511 b d e))

module _ (last : Option (List ℕ)) (count i : ℕ) (b : List ℕ) (es : Entries) (after : List ℕ) where
  -- the first of what is left, which is read
  entry_read : i < count → entries_at (item_at 511) last (count - i) b ≡ Ok (es, after)
      → (k : List ℕ × List ℕ) × (d : Data × List ℕ) × (more : Entries) × (key_at last b ≡ Ok k) × (item_at 511 k.1 ≡ Ok d)
      × (entries_at (item_at 511) (Some k.0) (count - (i + 1)) d.1 ≡ Ok (more, after)) × (es ≡ entry k.0 d.0 more)
  entry_read lt e =
      let n = count - (i + 1) in
      let less : count - i ≡ suc n = omega arith in
      let whole : entries_at (item_at 511) last (suc n) b ≡ Ok (es, after) = ap (λ m. entries_at (item_at 511) last m b) (sym less) ∙ e in
      let k = bind_ok (key_at last b) (value_behind (item_at 511) n) (es, after) whole in
      let d = bind_ok (item_at 511 k.0.1) (entries_after (item_at 511) n k.0.0) (es, after) k.2 in
      let more = bind_ok (entries_at (item_at 511) (Some k.0.0) n d.0.1) (with_entry k.0.0 d.0.0) (es, after) d.2 in
      let is = ok_same (entry k.0.0 d.0.0 more.0.0, more.0.1) (es, after) more.2 in
      (k.0, d.0, more.0.0, k.1, d.1, more.1 ∙ ap (λ l. Ok (more.0.0, l)) (ap (λ p. p.1) is), sym (ap (λ p. p.0) is))

  -- a key can't fail where entries are left that are read
  pub key_is_read : (f : Fault) → i < count → entries_at (item_at 511) last (count - i) b ≡ Ok (es, after) → key_at last b ≡ Err f → ⊥
  key_is_read f lt e miss = let x = entry_read lt e in no_ok f x.0 (sym miss ∙ x.3)

  module _ (key : List ℕ) (k : List ℕ × List ℕ) (lt : i < count) (e : entries_at (item_at 511) last (count - i) b ≡ Ok (es, after)) (named : key_at last b ≡ Ok k) where
    -- and neither can its value
    pub value_is_read : (f : Fault) → after_item 512 k.1 ≡ Err f → ⊥
    value_is_read f miss =
        let x = entry_read lt e in
        let same : x.0 ≡ k = ok_same x.0 k (sym x.3 ∙ named) in
        is_skipped k.1 f x.1 (ap (λ p. item_at 511 p.1) (sym same) ∙ x.4) miss

    -- the value is after its key
    pub value_found : (value : Bor (List ℕ)) → value.now ≡ k.1 → bytes_eq k.0 key ≡ true → ValueIsAt (Some value) (value_at key es)
    value_found value lent found =
        let x = entry_read lt e in
        let same : x.0 ≡ k = ok_same x.0 k (sym x.3 ∙ named) in
        let here : value_at key (entry x.0.0 x.1.0 x.2) ≡ Some x.1.0 =
        ap (λ t. if t then Some x.1.0 else value_at key x.2) (ap (λ p. bytes_eq p.0 key) same ∙ found) in
        subst (ValueIsAt (Some value)) (sym (ap (value_at key) x.6 ∙ here))
        (x.1.1, ap (item_at 511) (lent ∙ ap (λ p. p.1) (sym same)) ∙ x.4)

    -- another key is passed
    pub value_passed : (next : List ℕ) → bytes_eq k.0 key ≡ false → after_item 512 k.1 ≡ Ok next
        → (more : Entries) × (entries_at (item_at 511) (Some k.0) (count - (i + 1)) next ≡ Ok (more, after)) × (value_at key es ≡ value_at key more)
    value_passed next other over =
        let x = entry_read lt e in
        let same : x.0 ≡ k = ok_same x.0 k (sym x.3 ∙ named) in
        let after_it : next ≡ x.1.1 = skipped k.1 next x.1 (ap (λ p. item_at 511 p.1) (sym same) ∙ x.4) over in
        let past : value_at key (entry x.0.0 x.1.0 x.2) ≡ value_at key x.2 =
        ap (λ t. if t then Some x.1.0 else value_at key x.2) (ap (λ p. bytes_eq p.0 key) same ∙ other) in (
          x.2,
          ap (entries_at (item_at 511) (Some k.0) (count - (i + 1))) after_it ∙ ap (λ p. entries_at (item_at 511) (Some p.0) (count - (i + 1)) x.1.1) (sym same) ∙ x.5,
          ap (value_at key) x.6 ∙ past,
        )

  -- none is left
  pub no_value : (key : List ℕ) → count ≤ i → entries_at (item_at 511) last (count - i) b ≡ Ok (es, after) → value_at key es ≡ None
  no_value key le e =
      let none : count - i ≡ 0 = omega arith in
      let is = ok_same (no_entries, b) (es, after) (ap (λ m. entries_at (item_at 511) last m b) (sym none) ∙ e) in
      ap (value_at key) (sym (ap (λ p. p.0) is))

-- ---- members of a list

module _ (count i : ℕ) (b : List ℕ) (ds : Items) (after : List ℕ) (lt : i < count) (e : items_at (item_at 510) (count - i) b ≡ Ok (ds, after)) where
  -- the first of what is left, which is read
  member_read : (d : Data × List ℕ) × (more : Items) × (item_at 510 b ≡ Ok d) × (items_at (item_at 510) (count - (i + 1)) d.1 ≡ Ok (more, after)) × (ds ≡ item d.0 more)
  member_read =
      let n = count - (i + 1) in
      let less : count - i ≡ suc n = omega arith in
      let whole : items_at (item_at 510) (suc n) b ≡ Ok (ds, after) = ap (λ m. items_at (item_at 510) m b) (sym less) ∙ e in
      let d = bind_ok (item_at 510 b) (items_after (item_at 510) n) (ds, after) whole in
      let more = bind_ok (items_at (item_at 510) n d.0.1) (with_item d.0.0) (ds, after) d.2 in
      let is = ok_same (item d.0.0 more.0.0, more.0.1) (ds, after) more.2 in
      (d.0, more.0.0, d.1, more.1 ∙ ap (λ l. Ok (more.0.0, l)) (ap (λ p. p.1) is), sym (ap (λ p. p.0) is))

  -- a member that is read has a head
  pub member_headed : (f : Fault) → own_at b ≡ Err f → ⊥
  member_headed f miss = let x = member_read in has_head 510 b x.0.0 f (omega arith) miss (x.0.1, x.2)

  -- and can be skipped
  pub member_skipped : (f : Fault) → after_item 512 b ≡ Err f → ⊥
  member_skipped f miss = let x = member_read in is_skipped b f x.0 (item_deeper 510 b x.0 x.2) miss

  module _ (own : Own) (rest : List ℕ) (head : own_at b ≡ Ok (own, rest)) where
    -- a member whose head is that of no link is none
    is_link_told : (own : Own) (d : Data) (r : List ℕ) (more : Items) → with_members (Some (item_at 509)) b (own, rest) ≡ Ok (d, r) → own_is_link own ≡ false → are_links (item d more) ≡ false
    is_link_told (leaf x) d r more w miss = ap (λ y. are_links (item y more)) (sym (leaf_is x d rest r w)) ∙ by_data x miss where
      by_data : (x : Data) → own_is_link (leaf x) ≡ false → are_links (item x more) ≡ false
      by_data (link c) miss = absurd cc
      by_data null miss = refl
      by_data (boolean t) miss = refl
      by_data (integer n) miss = refl
      by_data (float n) miss = refl
      by_data (bytes s) miss = refl
      by_data (text s) miss = refl
      by_data (list ds) miss = refl
      by_data (map es) miss = refl
    is_link_told (list_of n) d r more w miss = ap (λ y. are_links (item y more)) (list_is (item_at 509) n rest r d w).1
    is_link_told (map_of n) d r more w miss = ap (λ y. are_links (item y more)) (map_is (item_at 509) n rest r d w).1

    -- a member that is no link
    pub other_found : own_is_link own ≡ false → are_links ds ≡ false
    other_found miss =
        let x = member_read in
        ap are_links x.4 ∙ is_link_told own x.0.0 x.0.1 x.1 (with_own 510 b x.0.0 own rest (omega arith) head (x.0.1, x.2)) miss

    -- after a link there is only the next element
    link_told : (own : Own) (d : Data) (r : List ℕ) (more : Items) → with_members (Some (item_at 509)) b (own, rest) ≡ Ok (d, r) → own_is_link own ≡ true → (are_links (item d more) ≡ are_links more) × (rest ≡ r)
    link_told (leaf x) d r more w hit =
        let is = ok_same (x, rest) (d, r) w in (ap (λ y. are_links (item y more)) (sym (ap (λ p. p.0) is)) ∙ by_data x hit, ap (λ p. p.1) is) where
          by_data : (x : Data) → own_is_link (leaf x) ≡ true → are_links (item x more) ≡ are_links more
          by_data (link c) hit = refl
          by_data null hit = absurd cc
          by_data (boolean t) hit = absurd cc
          by_data (integer n) hit = absurd cc
          by_data (float n) hit = absurd cc
          by_data (bytes s) hit = absurd cc
          by_data (text s) hit = absurd cc
          by_data (list ds) hit = absurd cc
          by_data (map es) hit = absurd cc
    link_told (list_of n) d r more w hit = absurd cc
    link_told (map_of n) d r more w hit = absurd cc

    -- a link is passed
    pub link_passed : own_is_link own ≡ true → (more : Items) × (items_at (item_at 510) (count - (i + 1)) rest ≡ Ok (more, after)) × (are_links ds ≡ are_links more)
    link_passed hit =
        let x = member_read in
        let t = link_told own x.0.0 x.0.1 x.1 (with_own 510 b x.0.0 own rest (omega arith) head (x.0.1, x.2)) hit in
        (x.1, ap (items_at (item_at 510) (count - (i + 1))) t.1 ∙ x.3, ap are_links x.4 ∙ t.0)

    -- the link of a member is that of its head
    links_told : (own : Own) (d : Data) (r : List ℕ) (more : Items) → with_members (Some (item_at 509)) b (own, rest) ≡ Ok (d, r) → links_in (item d more) ≡ own_links own ++ links_in more
    links_told (leaf x) d r more w = ap (λ y. links_in (item y more)) (sym (leaf_is x d rest r w)) ∙ by_data x where
      by_data : (x : Data) → links_in (item x more) ≡ own_links (leaf x) ++ links_in more
      by_data (link c) = refl
      by_data null = refl
      by_data (boolean t) = refl
      by_data (integer n) = refl
      by_data (float n) = refl
      by_data (bytes s) = refl
      by_data (text s) = refl
      by_data (list ds) = refl
      by_data (map es) = refl
    links_told (list_of n) d r more w = ap (λ y. links_in (item y more)) (list_is (item_at 509) n rest r d w).1
    links_told (map_of n) d r more w = ap (λ y. links_in (item y more)) (map_is (item_at 509) n rest r d w).1

    -- a member is passed, whose link is one of those
    pub member_passed : (next : List ℕ) → after_item 512 b ≡ Ok next → (more : Items) × (items_at (item_at 510) (count - (i + 1)) next ≡ Ok (more, after)) × (links_in ds ≡ own_links own ++ links_in more)
    member_passed next over =
        let x = member_read in
        let after_it : next ≡ x.0.1 = skipped b next x.0 (item_deeper 510 b x.0 x.2) over in (
          x.1,
          ap (items_at (item_at 510) (count - (i + 1))) after_it ∙ x.3,
          ap links_in x.4 ∙ links_told own x.0.0 x.0.1 x.1 (with_own 510 b x.0.0 own rest (omega arith) head (x.0.1, x.2)),
        )

-- no member is left
pub no_member : (count i : ℕ) (b : List ℕ) (ds : Items) (after : List ℕ) → count ≤ i → items_at (item_at 510) (count - i) b ≡ Ok (ds, after) → ds ≡ no_items
no_member count i b ds after le e =
    let none : count - i ≡ 0 = omega arith in
    sym (ap (λ p. p.0) (ok_same (no_items, b) (ds, after) (ap (λ m. items_at (item_at 510) m b) (sym none) ∙ e)))

-- ---- the whole

-- that a block decodes
abbrev ok_tt : Result (Unit {0}) Fault
ok_tt = Ok tt

-- the option that the header's definitions take
data_read : (b : List ℕ) (d : Data) → decoded b ≡ Ok d → data_at b ≡ Some d
data_read b d e = rw e refl

-- a block that is judged sound decodes
pub block_stands : (b : List ℕ) → judged b ≡ Ok tt → (d : Data) × StandsAt 512 b d × (data_at b ≡ Some d)
block_stands b e =
    let x = bind_ok (decoded b) (λ d. Ok tt) tt e in
    let read = bind_ok (item_at 512 b) nothing_after x.0 x.1 in
    let is : read.0.0 ≡ x.0 = last read.0 x.0 read.2 in
    (x.0, (read.0.1, read.1 ∙ ap (λ d. Ok (d, read.0.1)) is), data_read b x.0 x.1) where
      last : (p : Data × List ℕ) (d : Data) → nothing_after p ≡ Ok d → p.0 ≡ d
      last (d, []) e h = ok_same d e h
      last (d, (x ∷ xs)) e h = no_ok _ e h

-- one that isn't does not
pub block_fails : (b : List ℕ) (f : Fault) → judged b ≡ Err f → data_at b ≡ None
block_fails b f e = by_fault (bind_err (decoded b) (λ d. Ok tt) f e) where
  by_fault : (decoded b ≡ Err f) ⊎ ((x : Data) × (decoded b ≡ Ok x) × (ok_tt ≡ Err f)) → data_at b ≡ None
  by_fault (inl h) = rw h refl
  by_fault (inr h) = absurd cc

-- data that is no map is faulty, and names no roots
pub has_no_map : (d : Data) → IsMapAt None d → (Some Header ≡ header_fault (Some d)) × ([] ≡ roots_in (Some d))
has_no_map null h = (refl, refl)
has_no_map (boolean t) h = (refl, refl)
has_no_map (integer n) h = (refl, refl)
has_no_map (float n) h = (refl, refl)
has_no_map (bytes s) h = (refl, refl)
has_no_map (text s) h = (refl, refl)
has_no_map (list ds) h = (refl, refl)
has_no_map (map es) h = absurd h
has_no_map (link c) h = (refl, refl)

-- a value that is no list has no roots
pub has_no_list : (d : Data) → IsListAt None d → (false ≡ has_roots (Some d)) × ([] ≡ links_of (Some d))
has_no_list null h = (refl, refl)
has_no_list (boolean t) h = (refl, refl)
has_no_list (integer n) h = (refl, refl)
has_no_list (float n) h = (refl, refl)
has_no_list (bytes s) h = (refl, refl)
has_no_list (text s) h = (refl, refl)
has_no_list (list ds) h = absurd h
has_no_list (map es) h = (refl, refl)
has_no_list (link c) h = (refl, refl)

-- data whose keys and values are there are a map
pub map_stands : (m : ℕ × Bor (List ℕ)) (d : Data) → IsMapAt (Some m) d → (es : Entries) × (d ≡ map es) × EntriesAreAt m.0 m.1.now es
map_stands m null h = absurd h
map_stands m (boolean t) h = absurd h
map_stands m (integer n) h = absurd h
map_stands m (float n) h = absurd h
map_stands m (bytes s) h = absurd h
map_stands m (text s) h = absurd h
map_stands m (list ds) h = absurd h
map_stands m (map es) h = (es, refl, h)
map_stands m (link c) h = absurd h

-- and those with members a list
pub list_stands : (m : ℕ × Bor (List ℕ)) (d : Data) → IsListAt (Some m) d → (ds : Items) × (d ≡ list ds) × MembersAreAt m.0 m.1.now ds
list_stands m null h = absurd h
list_stands m (boolean t) h = absurd h
list_stands m (integer n) h = absurd h
list_stands m (float n) h = absurd h
list_stands m (bytes s) h = absurd h
list_stands m (text s) h = absurd h
list_stands m (list ds) h = (ds, refl, h)
list_stands m (map es) h = absurd h
list_stands m (link c) h = absurd h

-- the fault of a version goes by its integer
pub version_told : (d : Option Data) (roots : Bool) → version_fault (option_map integer (integer_in d)) roots ≡ version_fault d roots
version_told None roots = refl
version_told (Some null) roots = refl
version_told (Some (boolean t)) roots = refl
version_told (Some (integer (pos n))) roots = refl
version_told (Some (integer (negsuc n))) roots = refl
version_told (Some (float n)) roots = refl
version_told (Some (bytes s)) roots = refl
version_told (Some (text s)) roots = refl
version_told (Some (list ds)) roots = refl
version_told (Some (map es)) roots = refl
version_told (Some (link c)) roots = refl

module _ (value : Bor (List ℕ)) where
  module _ (m : ℕ × Bor (List ℕ)) (is : (d : Data) → StandsAt 511 value.now d → IsListAt (Some m) d) where
    -- whether the members of a list are links
    pub roots_told : (answer : Bool) → ((ds : Items) → MembersAreAt m.0 m.1.now ds → answer ≡ are_links ds) → (d : Option Data) → ValueIsAt (Some value) d → answer ≡ has_roots d
    roots_told answer told None h = absurd h
    roots_told answer told (Some d) h = let x = list_stands m d (is d h) in told x.0 x.2 ∙ ap (λ y. has_roots (Some y)) (sym x.1)

    -- and the links among them
    pub links_listed : (links : List (List ℕ)) → ((ds : Items) → MembersAreAt m.0 m.1.now ds → links ≡ links_in ds) → (d : Option Data) → ValueIsAt (Some value) d → links ≡ links_of d
    links_listed links told None h = absurd h
    links_listed links told (Some d) h = let x = list_stands m d (is d h) in told x.0 x.2 ∙ ap (λ y. links_of (Some y)) (sym x.1)

  -- a value that is no list
  pub roots_missing : ((d : Data) → StandsAt 511 value.now d → IsListAt None d) → (d : Option Data) → ValueIsAt (Some value) d → (false ≡ has_roots d) × ([] ≡ links_of d)
  roots_missing is None h = absurd h
  roots_missing is (Some d) h = has_no_list d (is d h)
