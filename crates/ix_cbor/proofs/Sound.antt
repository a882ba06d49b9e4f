-- What is read is spelled so: at every level, by the laws of the level below.
use Rattle.std.proofs.Common.{◌≡◌, ℕ, zero, suc, ◌≤◌, List, ◌++◌, length, refl, sym, ◌∙◌, ap, subst, arith, append_assoc}
use Rattle.std.specs.Prelude.{Option, Some, None, Ok}
use Rattle.ix_cbor.specs.declared.fault.CborKind.TheVariants.{Nesting}
use Rattle.ix_cbor.specs.Data.{Data, Items, Entries, list, map, no_items, item, no_entries, entry}
use Rattle.ix_cbor.specs.Spelling.{head_of, key_spelling, spelling_of, items_spelling, entries_spelling, item_count, entry_count, IsSpellable, AreSpellable, AreRising, nesting_of, items_nesting, entries_nesting}
use Rattle.ix_cbor.specs.Reading.{Parse, ◌>>=◌, key_at, own_at, Own, leaf, list_of, map_of, items_at, entries_at, with_members, item_with, item_at}
use Rattle.ix_cbor.specs.Fits.{RisesAbove}
use Rattle.ix_cbor.proofs.Bytes.{IsBytes, IsBytes-behind}
use Rattle.ix_cbor.proofs.Steps.{bind_ok, no_ok, ok_same, ok_data, with_item, items_after, with_entry, entries_after, value_behind, as_list, as_map}
use Rattle.ix_cbor.proofs.Keys.{KeyTaken, key_taken, RisesFrom-from_test}
use Rattle.ix_cbor.proofs.Owns.{OwnTaken, own_taken, own_spelling}

-- what was read is a spelling at the front
pub record Takes (n : ℕ) (b : List ℕ) (d : Data) (rest : List ℕ) : Type 0 where
  pub whole : b ≡ spelling_of d ++ rest
  pub spellable : IsSpellable d
  pub nesting : nesting_of d ≤ n

-- the same of members
pub record TakesItems (n count : ℕ) (b : List ℕ) (ds : Items) (rest : List ℕ) : Type 0 where
  pub whole : b ≡ items_spelling ds ++ rest
  pub counted : item_count ds ≡ count
  pub spellable : AreSpellable ds
  pub nesting : items_nesting ds ≤ n

-- the same of keys and values after a key or none
pub record TakesEntries (n : ℕ) (before : Option (List ℕ)) (count : ℕ) (b : List ℕ) (es : Entries) (rest : List ℕ) : Type 0 where
  pub whole : b ≡ entries_spelling es ++ rest
  pub counted : entry_count es ≡ count
  pub rising : AreRising es
  pub above : RisesAbove before es
  pub nesting : entries_nesting es ≤ n

-- each item that is read is taken
abbrev pub IsSound : ℕ → Parse Data → Type 0
IsSound n read = (b : List ℕ) (d : Data) (rest : List ℕ) → IsBytes b → read b ≡ Ok (d, rest) → Takes n b d rest

-- a member before others
items_more : (n count : ℕ) (b middle rest : List ℕ) (d : Data) (ds : Items) → Takes n b d middle → TakesItems n count middle ds rest → TakesItems n (suc count) b (item d ds) rest
items_more n count b middle rest d ds t ts =
    let here = t.nesting in
    let below = ts.nesting in
    record {
      whole = t.whole ∙ ap (λ (l : List ℕ). spelling_of d ++ l) ts.whole ∙ sym (append_assoc (spelling_of d) (items_spelling ds) rest);
      counted = omega (arith, ts.counted);
      spellable = (t.spellable, ts.spellable);
      nesting = omega arith;
    }

-- a key and a value before others
entries_more : (n : ℕ) (before : Option (List ℕ)) (count : ℕ) (b at middle rest k : List ℕ) (d : Data) (es : Entries) → KeyTaken before b k at → Takes n at d middle
    → TakesEntries n (Some k) count middle es rest → TakesEntries n before (suc count) b (entry k d es) rest
entries_more n before count b at middle rest k d es s t ts =
    let here = t.nesting in
    let below = ts.nesting in
    record {
      whole = s.parts ∙ ap (λ (l : List ℕ). key_spelling k ++ l) (t.whole ∙ ap (λ (l : List ℕ). spelling_of d ++ l) ts.whole ∙ sym (append_assoc (spelling_of d) (entries_spelling es) rest)) ∙ sym (append_assoc (key_spelling k) (spelling_of d ++ entries_spelling es) rest);
      counted = omega (arith, ts.counted);
      rising = (s.below, t.spellable, ts.above, ts.rising);
      above = RisesFrom-from_test before k d es s.above;
      nesting = omega arith;
    }

-- where no key follows nothing has to rise
none_above : (before : Option (List ℕ)) → RisesAbove before no_entries
none_above None = tt
none_above (Some before) = tt

-- an item that is whole
leaf_sound : (n : ℕ) (b middle : List ℕ) (leaf_data d : Data) (rest : List ℕ) → OwnTaken b (leaf leaf_data) middle
    → ok_data (leaf_data, middle) ≡ ok_data (d, rest) → Takes n b d rest
leaf_sound n b middle leaf_data d rest o e =
    subst (λ (x : Data × List ℕ). Takes n b x.0 x.1) (ok_same (leaf_data, middle) (d, rest) e)
    (record { whole = o.parts; spellable = o.is_own.0; nesting = omega (arith, o.is_own.1) })

module _ (n : ℕ) (read : Parse Data) (sound : IsSound n read) where
  -- members that are read
  pub items_taken : (count : ℕ) (b : List ℕ) (ds : Items) (rest : List ℕ) → IsBytes b → items_at read count b ≡ Ok (ds, rest) → TakesItems n count b ds rest
  items_taken zero b ds rest fits e =
      subst (λ (x : Items × List ℕ). TakesItems n 0 b x.0 x.1) (ok_same (no_items, b) (ds, rest) e) (record { whole = refl; counted = refl; spellable = tt; nesting = omega arith })
  items_taken (suc count) b ds rest fits e =
      let a = bind_ok (read b) (items_after read count) (ds, rest) e in
      let t = sound b a.0.0 a.0.1 fits a.1 in
      let m = bind_ok (items_at read count a.0.1) (with_item a.0.0) (ds, rest) a.2 in
      let ts = items_taken count a.0.1 m.0.0 m.0.1 (IsBytes-behind b (spelling_of a.0.0) a.0.1 fits t.whole) m.1 in
      subst (λ (x : Items × List ℕ). TakesItems n (suc count) b x.0 x.1) (ok_same (item a.0.0 m.0.0, m.0.1) (ds, rest) m.2) (items_more n count b a.0.1 m.0.1 a.0.0 m.0.0 t ts)

  -- entries that are read at a count
  abbrev AreSound : ℕ → Type 0
  AreSound count = (before : Option (List ℕ)) (b : List ℕ) (es : Entries) (rest : List ℕ) → IsBytes b → entries_at read before count b ≡ Ok (es, rest) → TakesEntries n before count b es rest

  -- the entries after a key and its value
  others_taken : (count : ℕ) → AreSound count → (before : Option (List ℕ)) (b at middle k : List ℕ) (d : Data) (es : Entries) (rest : List ℕ) → IsBytes at
      → KeyTaken before b k at → Takes n at d middle
      → (entries_at read (Some k) count middle >>= with_entry k d) ≡ Ok (es, rest) → TakesEntries n before (suc count) b es rest
  others_taken count others before b at middle k d es rest fits s t e =
      let m = bind_ok (entries_at read (Some k) count middle) (with_entry k d) (es, rest) e in
      let ts = others (Some k) middle m.0.0 m.0.1 (IsBytes-behind at (spelling_of d) middle fits t.whole) m.1 in
      subst (λ (x : Entries × List ℕ). TakesEntries n before (suc count) b x.0 x.1) (ok_same (entry k d m.0.0, m.0.1) (es, rest) m.2) (entries_more n before count b at middle m.0.1 k d m.0.0 s t ts)

  -- the value and the entries after a key
  value_taken : (count : ℕ) → AreSound count → (before : Option (List ℕ)) (b at k : List ℕ) (es : Entries) (rest : List ℕ) → IsBytes b → KeyTaken before b k at
      → (read at >>= entries_after read count k) ≡ Ok (es, rest) → TakesEntries n before (suc count) b es rest
  value_taken count others before b at k es rest fits s e =
      let at_fits = IsBytes-behind b (key_spelling k) at fits s.parts in
      let v = bind_ok (read at) (entries_after read count k) (es, rest) e in
      others_taken count others before b at v.0.1 k v.0.0 es rest at_fits s (sound at v.0.0 v.0.1 at_fits v.1) v.2

  -- keys and values that are read
  pub entries_taken : (count : ℕ) → AreSound count
  entries_taken zero before b es rest fits e =
      subst (λ (x : Entries × List ℕ). TakesEntries n before 0 b x.0 x.1) (ok_same (no_entries, b) (es, rest) e) (record { whole = refl; counted = refl; rising = tt; above = none_above before; nesting = omega arith })
  entries_taken (suc count) before b es rest fits e =
      let a = bind_ok (key_at before b) (value_behind read count) (es, rest) e in
      value_taken count (entries_taken count) before b a.0.1 a.0.0 es rest fits (key_taken before b a.0.0 a.0.1 fits a.1) a.2

  -- an item with its members
  some_members : (own : Own) (b middle : List ℕ) (d : Data) (rest : List ℕ) → IsBytes middle → OwnTaken b own middle
      → with_members (Some read) b (own, middle) ≡ Ok (d, rest) → Takes (suc n) b d rest
  some_members (leaf leaf_data) b middle d rest fits o e = leaf_sound (suc n) b middle leaf_data d rest o e
  some_members (list_of count) b middle d rest fits o e =
      let m = bind_ok (items_at read count middle) as_list (d, rest) e in
      let ts = items_taken count middle m.0.0 m.0.1 fits m.1 in
      let below = ts.nesting in
      subst (λ (x : Data × List ℕ). Takes (suc n) b x.0 x.1) (ok_same (list m.0.0, m.0.1) (d, rest) m.2)
      (record {
        whole = o.parts ∙ ap (λ (l : List ℕ). head_of 4 count ++ l) ts.whole ∙ ap (λ (k : ℕ). head_of 4 k ++ (items_spelling m.0.0 ++ m.0.1)) (sym ts.counted) ∙ sym (append_assoc (head_of 4 (item_count m.0.0)) (items_spelling m.0.0) m.0.1);
        spellable = (omega (arith, ts.counted, o.is_own), ts.spellable);
        nesting = omega arith;
      })
  some_members (map_of count) b middle d rest fits o e =
      let m = bind_ok (entries_at read None count middle) as_map (d, rest) e in
      let ts = entries_taken count None middle m.0.0 m.0.1 fits m.1 in
      let below = ts.nesting in
      subst (λ (x : Data × List ℕ). Takes (suc n) b x.0 x.1) (ok_same (map m.0.0, m.0.1) (d, rest) m.2)
      (record {
        whole = o.parts ∙ ap (λ (l : List ℕ). head_of 5 count ++ l) ts.whole ∙ ap (λ (k : ℕ). head_of 5 k ++ (entries_spelling m.0.0 ++ m.0.1)) (sym ts.counted) ∙ sym (append_assoc (head_of 5 (entry_count m.0.0)) (entries_spelling m.0.0) m.0.1);
        spellable = (omega (arith, ts.counted, o.is_own), ts.rising);
        nesting = omega arith;
      })

  -- an item inside which lists and maps are allowed
  pub some_sound : IsSound (suc n) (item_with (Some read))
  some_sound b d rest fits e =
      let a = bind_ok (own_at b) (with_members (Some read) b) (d, rest) e in
      let o = own_taken b a.0.0 a.0.1 fits a.1 in
      some_members a.0.0 b a.0.1 d rest (IsBytes-behind b (own_spelling a.0.0) a.0.1 fits o.parts) o a.2

-- an item that may have none
none_members : (own : Own) (b middle : List ℕ) (d : Data) (rest : List ℕ) → OwnTaken b own middle → with_members None b (own, middle) ≡ Ok (d, rest) → Takes 0 b d rest
none_members (leaf leaf_data) b middle d rest o e = leaf_sound 0 b middle leaf_data d rest o e
none_members (list_of count) b middle d rest o e = no_ok (record { kind = Nesting; left = length b }) (d, rest) e
none_members (map_of count) b middle d rest o e = no_ok (record { kind = Nesting; left = length b }) (d, rest) e

-- an item inside which none is allowed
pub none_sound : IsSound 0 (item_with None)
none_sound b d rest fits e =
    let a = bind_ok (own_at b) (with_members None b) (d, rest) e in none_members a.0.0 b a.0.1 d rest (own_taken b a.0.0 a.0.1 fits a.1) a.2

-- every level
pub item_sound : (n : ℕ) → IsSound n (item_at n)
unfolding item_at
item_sound zero = none_sound
item_sound (suc n) = some_sound n (item_at n) (item_sound n)
