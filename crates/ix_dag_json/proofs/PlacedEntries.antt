-- The entries of a map in place: how they are read, sorted and printed.
use Rattle.std.proofs.Common.{◌≡◌, ℕ, zero, suc, ◌+◌, ◌-◌, ◌<◌, ◌≤◌, false, List, [], ◌∷◌, ◌++◌, length, map, take, get_or, set, inl, inr, refl, sym, ap, ◌∙◌, subst, append_assoc, arith}
use Rattle.std.specs.Prelude.{Option, Some, Result, Ok, IsPermutation, All}
use Rattle.std.specs.List.{swap}
use Rattle.std.specs.Ordering.{nat_cmp, is_lt}
use Rattle.std.specs.Cmp.Lexicographic.{slice_cmp}
use Rattle.std.specs.List.Sorted.{IsSortedByKey}
use Rattle.std.proofs.Math.Seq.{take-suc}
use Rattle.std.proofs.lemmas.List.{append-nil, take_all, map_push, map-set, get_or-map, length-map}
use Rattle.std.proofs.lemmas.List.Edits.{swap_is}
use Rattle.std.proofs.lemmas.List.Elements.{All-nil, All-push, All-head, All-tail, All-get_or}
use Rattle.std.proofs.lemmas.List.Sorted.{All-permutation, IsPermutation-refl, IsPermutation-sym, IsPermutation-trans, IsPermutation-map, IsPermutation-swap, IsPermutation-keeps}
use Rattle.json.specs.Token.{Token}
use Rattle.ix_cbor.specs.Data.{Data, Entries, entry, entries_of}
use Rattle.ix_cbor.specs.Reading.{key_at, item_at, entries_at, fields_at}
use Rattle.ix_cbor.proofs.EntryFronts.{before, with_front, goes_on, is_done}
use Rattle.ix_cbor.proofs.Steps.{bind_ok, ok_same, entries_after, value_behind}
use Rattle.ix_dag_json.specs.declared.fault.DagJsonFault.{DagJsonFault}
use Rattle.ix_dag_json.specs.declared.order.Entry.{Entry}
use Rattle.ix_dag_json.specs.declared.output.Output.{Output}
use Rattle.ix_dag_json.specs.Written.{Adds}
use Rattle.std.specs.Prelude.{IfOk}
use Rattle.std.specs.declared.alloc.AllocError.{AllocError}
use Rattle.ix_dag_json.specs.declared.fault.Step.{Step}
use Rattle.ix_dag_json.specs.Lack.{IsEntry, IsStepTo, IsUnder}
use Rattle.ix_dag_json.proofs.Lacking.{value_lacks}
use Rattle.ix_dag_json.specs.Order.{Orders, EntriesOrder, Rise}
use Rattle.ix_dag_json.specs.Shown.{EntriesShow, IsKey, Appends}
use Rattle.ix_dag_json.specs.Place.{HasItem, HasEntries, IsBehind, data_read, value_of, entry_of, HaveValues, AreEntriesAt, AreSorted, IsOrdered, printed_of, PlacesShow, Prints, PrintsEntries, ItemLacks, PlacesLack, EntriesLack}
use Rattle.ix_dag_json.proofs.Showing.{added_none, added_both}

-- ---- reading

-- these entries were read, and the others follow
pub record EntriesRead (n count : ℕ) (at : List ℕ) (entries : List Entry) (i : ℕ) (last : Option (List ℕ)) (rest : List ℕ) : Type 0 where
  pub reads : with_front (map (entry_of n) entries) (entries_at (item_at n) last (count - i) rest) ≡ fields_at n count at
  pub values : HaveValues n entries

-- a key and a value begin there
pub entry_there : (n count : ℕ) (at : List ℕ) (entries : List Entry) (i : ℕ) (last : Option (List ℕ)) (rest : List ℕ) → i < count → HasEntries n count at
    → EntriesRead n count at entries i last rest → (k : List ℕ × List ℕ) × (key_at last rest ≡ Ok k) × HasItem n k.1
entry_there n count at entries i last rest l h so_far =
    let k : count - i ≡ suc (count - (i + 1)) = omega arith in
    let one = bind_ok (entries_at (item_at n) last (count - i) rest) (λ x. Ok (before (map (entry_of n) entries) x.0, x.1)) (h.0, h.1) (so_far.reads ∙ h.2) in
    let m = bind_ok (key_at last rest) (value_behind (item_at n) (count - (i + 1))) one.0 (sym (ap (λ k. entries_at (item_at n) last k rest) k) ∙ one.1) in
    let v = bind_ok (item_at n m.0.1) (entries_after (item_at n) (count - (i + 1)) m.0.0) one.0 m.2 in
    (m.0, m.1, (v.0.0, v.0.1, v.1))

-- a value begins after the key
pub value_there : (n count : ℕ) (at : List ℕ) (entries : List Entry) (i : ℕ) (last : Option (List ℕ)) (rest key value : List ℕ) → i < count → HasEntries n count at
    → key_at last rest ≡ Ok (key, value) → EntriesRead n count at entries i last rest → HasItem n value
value_there n count at entries i last rest key value l h e so_far =
    let there = entry_there n count at entries i last rest l h so_far in
    let same : there.0 ≡ (key, value) = ok_same there.0 (key, value) (sym there.1 ∙ e) in
    subst (λ (k : List ℕ × List ℕ). HasItem n k.1) same there.2

-- one entry more
pub one_entry_more : (n count : ℕ) (at : List ℕ) (entries after : List Entry) (x : Entry) (i : ℕ) (last : Option (List ℕ)) (rest next : List ℕ) → i < count
    → key_at last rest ≡ Ok (x.key.now, x.value.now) → IsBehind n x.value.now next → after ≡ entries ++ x ∷ [] → EntriesRead n count at entries i last rest
    → EntriesRead n count at after (i + 1) (Some x.key.now) next
one_entry_more n count at entries after x i last rest next l key value pushed so_far =
    let d : Data = value.0 in
    let is : entry_of n x ≡ (x.key.now, d) = ap (λ r. (x.key.now, data_read r)) value.1 in
    let front : map (entry_of n) after ≡ map (entry_of n) entries ++ (x.key.now, d) ∷ [] =
    ap (map (entry_of n)) pushed ∙ map_push (entry_of n) entries x ∙ ap (λ e. map (entry_of n) entries ++ e ∷ []) is in
    record {
      reads = ap (λ f. with_front f (entries_at (item_at n) (Some x.key.now) (count - (i + 1)) next)) front
          ∙ goes_on (map (entry_of n) entries) (item_at n) last count i rest (fields_at n count at) x.key.now x.value.now next d l key value.1 so_far.reads;
      values = subst (HaveValues n) (sym pushed) (All-push (λ (e : Entry). HasItem n e.value.now) entries x so_far.values (d, next, value.1));
    }

-- all entries
pub all_entries_read : (n count : ℕ) (at : List ℕ) (entries : List Entry) (i : ℕ) (last : Option (List ℕ)) (rest : List ℕ) → count ≤ i
    → EntriesRead n count at entries i last rest → AreEntriesAt n count at entries rest
all_entries_read n count at entries i last rest l so_far = record {
  read = is_done (map (entry_of n) entries) (item_at n) last count i rest (fields_at n count at) l so_far.reads;
  values = so_far.values;
}

-- ---- printing

-- the data of a value that was read
value_is : (n : ℕ) (x : Entry) (d : Data) (rest : List ℕ) → item_at n x.value.now ≡ Ok (d, rest) → d ≡ value_of n x
value_is n x d rest e = sym (ap data_read e)

-- what is at an index, whatever stands for what is past the end
at_index : (xs : List Entry) (i : ℕ) (e : Entry) → i < length xs → get_or xs i e ≡ get_or xs i (get_or xs i e)
at_index [] i e l = absurd (omega arith)
at_index (x ∷ xs) zero e l = refl
at_index (x ∷ xs) (suc i) e l = at_index xs i e (omega arith)

-- the entries before index i were printed
pub record PlacesSoFar (n : ℕ) (entries : List Entry) (i : ℕ) (old new : Output) : Type 0 where
  pub ordered : List (Entry × Data)
  pub pushed : List Token
  pub named : map (λ (e : Entry × Data). e.0) ordered ≡ take i entries
  pub each : All (IsOrdered n) ordered
  pub adds : Adds old new pushed
  pub shows : (more : List (List ℕ × Data)) (ts : List Token) → EntriesShow (entries_of more) ts → EntriesShow (entries_of (map printed_of ordered ++ more)) (pushed ++ ts)

pub no_places_yet : (n : ℕ) (entries : List Entry) (out : Output) → PlacesSoFar n entries 0 out out
no_places_yet n entries out = record {
  ordered = [];
  pushed = [];
  named = refl;
  each = All-nil (IsOrdered n);
  adds = added_none out;
  shows = λ more ts h. h;
}

-- one entry more
pub one_place_more : (n : ℕ) (entries : List Entry) (i : ℕ) (x : Entry) (old mid keyed new : Output) (rest : List ℕ) → i < length entries → x ≡ get_or entries i x → IsKey x.key.now
    → Adds mid keyed (Token.key x.key.now ∷ []) → Prints n x.value.now keyed new rest → PlacesSoFar n entries i old mid → PlacesSoFar n entries (i + 1) old new
one_place_more n entries i x old mid keyed new rest l is key name printed so_far =
    let ts : List Token = printed.2.0 in
    let o : Data = printed.2.1.0 in
    let new_one : Entry × Data = (x, o) in
    let added : List Token = Token.key x.key.now ∷ ts in
    let order : IsOrdered n new_one = subst (λ d. Orders d o) (value_is n x printed.0 rest printed.1) printed.2.1.1 in
    let next : i + 1 ≡ suc i = omega arith in
    let upto : take (i + 1) entries ≡ take i entries ++ x ∷ [] =
    ap (λ k. take k entries) next ∙ take-suc entries i x l ∙ ap (λ y. take i entries ++ y ∷ []) (sym is) in
    record {
      ordered = so_far.ordered ++ new_one ∷ [];
      pushed = so_far.pushed ++ added;
      named = map_push (λ (e : Entry × Data). e.0) so_far.ordered new_one ∙ ap (λ es. es ++ x ∷ []) so_far.named ∙ sym upto;
      each = All-push (IsOrdered n) so_far.ordered new_one so_far.each order;
      adds = added_both old mid new so_far.pushed added so_far.adds (added_both mid keyed new (Token.key x.key.now ∷ []) ts name printed.2.2);
      shows = λ more us h.
          let here : EntriesShow (entries_of (map printed_of so_far.ordered ++ (x.key.now, o) ∷ more)) (so_far.pushed ++ (added ++ us)) =
          so_far.shows ((x.key.now, o) ∷ more) (added ++ us) (ts, us, key, printed.2.1.2, h, refl) in
          let all : map printed_of so_far.ordered ++ (x.key.now, o) ∷ more ≡ map printed_of (so_far.ordered ++ new_one ∷ []) ++ more =
          sym (append_assoc (map printed_of so_far.ordered) ((x.key.now, o) ∷ []) more) ∙ ap (λ l. l ++ more) (sym (map_push printed_of so_far.ordered new_one)) in
          let named = subst (λ es. EntriesShow (entries_of es) (so_far.pushed ++ (added ++ us))) all here in
          subst (EntriesShow (entries_of (map printed_of (so_far.ordered ++ new_one ∷ []) ++ more))) (sym (append_assoc so_far.pushed added us)) named;
    }

-- the same of the entry at an index
pub place_at_more : (n : ℕ) (entries : List Entry) (i : ℕ) (e : Entry) (k : List ℕ) (old mid keyed new : Output) (rest : List ℕ) → i < length entries → k ≡ (get_or entries i e).key.now → IsKey (get_or entries i e).key.now
    → Adds mid keyed (Token.key k ∷ []) → Prints n (get_or entries i e).value.now keyed new rest → PlacesSoFar n entries i old mid → PlacesSoFar n entries (i + 1) old new
place_at_more n entries i e k old mid keyed new rest l same key name printed so_far =
    let x : Entry = get_or entries i e in
    one_place_more n entries i x old mid keyed new rest l (at_index entries i e l) key (subst (λ m. Adds mid keyed (Token.key m ∷ [])) same name) printed so_far

-- all entries and the brace
pub all_places_printed : (n : ℕ) (entries : List Entry) (i : ℕ) (old mid new : Output) → length entries ≤ i → Adds mid new (Token.end_object ∷ [])
    → PlacesSoFar n entries i old mid → Appends (PlacesShow n entries) old new
all_places_printed n entries i old mid new l closed so_far =
    let all = so_far.pushed ++ Token.end_object ∷ [] in
    let shown = subst (λ es. EntriesShow (entries_of es) all) (append-nil (map printed_of so_far.ordered)) (so_far.shows [] (Token.end_object ∷ []) refl) in
    (all, (so_far.ordered, so_far.named ∙ take_all i entries l, so_far.each, shown), added_both old mid new so_far.pushed (Token.end_object ∷ []) so_far.adds closed)

-- ---- sorting

-- exchanged before or after
map_swap : {X Y : Type 0} (f : X → Y) (l : List X) (i j : ℕ) → i < length l → j < length l → map f (swap l i j) ≡ swap (map f l) i j
map_swap f [] i j p q = refl
map_swap f (x ∷ xs) i j p q =
    let l = x ∷ xs in
    ap (map f) (sym (swap_is l i j x p q)) ∙ map-set f (set l i (get_or l j x)) j (get_or l i x)
    ∙ ap (λ k. set k j (f (get_or l i x))) (map-set f l i (get_or l j x) ∙ ap (set (map f l) i) (sym (get_or-map f l j x (f x) q)))
    ∙ ap (set (set (map f l) i (get_or (map f l) j (f x))) j) (sym (get_or-map f l i x (f x) p))
    ∙ swap_is (map f l) i j (f x) (omega (arith, p, length-map l f)) (omega (arith, q, length-map l f))

-- what is paired with elements in one order, in another
pub record IsPairedAlso {X Y : Type 0} (f : Y → X) (ps : List Y) (xs : List X) : Type 0 where
  pub pairs : List Y
  pub named : map f pairs ≡ xs
  pub same : IsPermutation pairs ps

paired_also : {X Y : Type 0} (f : Y → X) (ps : List Y) (xs ys : List X) → map f ps ≡ xs → IsPermutation xs ys → IsPairedAlso f ps ys
paired_also f ps xs ys named same =
    IsPermutation-keeps xs (IsPairedAlso f ps) (record { pairs = ps; named = named; same = IsPermutation-refl ps }) (λ l i j p q h.
    let long : length h.pairs ≡ length l = sym (length-map h.pairs f) ∙ ap length h.named in
    record {
      pairs = swap h.pairs i j;
      named = map_swap f h.pairs i j (omega (arith, p, long)) (omega (arith, q, long)) ∙ ap (λ k. swap k i j) h.named;
      same = IsPermutation-trans (swap h.pairs i j) h.pairs ps
          (IsPermutation-sym h.pairs (swap h.pairs i j) (IsPermutation-swap h.pairs (swap h.pairs i j) i j (omega (arith, p, long)) (omega (arith, q, long)) refl)) h.same;
    }) ys same

-- each value in order, in its place
values_ordered : (n : ℕ) (ps : List (Entry × Data)) → All (IsOrdered n) ps → EntriesOrder (entries_of (map (entry_of n) (map (λ (e : Entry × Data). e.0) ps))) (map printed_of ps)
values_ordered n [] each = refl
values_ordered n (p ∷ ps) each =
    (p.1, map printed_of ps, All-head (IsOrdered n) p ps each, values_ordered n ps (All-tail (IsOrdered n) p ps each), refl)

-- the keys rise in the data too
keys_rise : (ps : List (Entry × Data)) → IsSortedByKey (λ (e : Entry). e.key.now) (slice_cmp nat_cmp) (map (λ (e : Entry × Data). e.0) ps) → Rise (map printed_of ps)
keys_rise [] h k d low l = absurd (omega arith)
keys_rise (p ∷ ps) h k d low l =
    let all = p ∷ ps in
    let first = λ (e : Entry × Data). e.0 in
    let some : k + 1 < length all = omega (arith, l, length-map all printed_of) in
    let low_key = λ (x y : Entry). is_lt (slice_cmp nat_cmp x.key.now y.key.now) ≡ false in
    let here = h k p.0 low (omega (arith, some, length-map all first)) in
    let second = subst (λ y. low_key y (get_or (map first all) k p.0)) (get_or-map first all (k + 1) p p.0 some) here in
    let both = subst (λ y. low_key (first (get_or all (k + 1) p)) y) (get_or-map first all k p p.0 (omega arith)) second in
    rw (get_or-map printed_of all k p d (omega arith), get_or-map printed_of all (k + 1) p d some) both

-- entries that were printed in order are the map
pub places_printed : (n count : ℕ) (at : List ℕ) (entries sorted : List Entry) (rest : List ℕ) (old new : Output) → AreEntriesAt n count at entries rest → AreSorted entries sorted → Appends (PlacesShow n sorted) old new
    → PrintsEntries n count at old new rest
places_printed n count at entries sorted rest old new are order printed =
    let shown = printed.1 in
    let first = λ (e : Entry × Data). e.0 in
    let also = paired_also first shown.0 sorted entries shown.1 (IsPermutation-sym entries sorted order.same) in
    let each = All-permutation (IsOrdered n) shown.0 also.pairs (IsPermutation-sym also.pairs shown.0 also.same) shown.2 in
    let ordered = subst (λ es. EntriesOrder (entries_of (map (entry_of n) es)) (map printed_of also.pairs)) also.named (values_ordered n also.pairs each) in
    let rise = keys_rise shown.0 (subst (IsSortedByKey (λ (e : Entry). e.key.now) (slice_cmp nat_cmp)) (sym shown.1) order.rise) in (
      entries_of (map (entry_of n) entries),
      are.read,
      (printed.0, (map printed_of shown.0, (map printed_of also.pairs, ordered, IsPermutation-map printed_of also.pairs shown.0 also.same, rise), shown.3), printed.2),
    )

-- ---- what is lacking

-- an entry that is one of these is one of more
IsEntry-more : (k l : List ℕ) (x y : Data) (es : Entries) → IsEntry es k x → IsEntry (entry l y es) k x
IsEntry-more k l x y es h = inr h

-- each entry is in the map
each_entry : (n : ℕ) (entries : List Entry) → All (λ e. IsEntry (entries_of (map (entry_of n) entries)) e.key.now (value_of n e)) entries
each_entry n [] k d l = absurd (omega arith)
each_entry n (e ∷ es) zero d l = inl (refl, refl)
each_entry n (e ∷ es) (suc k) d l =
    let x : Entry = get_or es k d in
    IsEntry-more x.key.now e.key.now (value_of n x) (value_of n e) (entries_of (map (entry_of n) es)) (each_entry n es k d (omega arith))

-- what is lacking in entries in place is lacking in the map
pub places_lack : (n count : ℕ) (at : List ℕ) (entries sorted : List Entry) (rest : List ℕ) (fault : DagJsonFault) → AreEntriesAt n count at entries rest → AreSorted entries sorted
    → PlacesLack n sorted fault → EntriesLack n count at fault
places_lack n count at entries sorted rest fault are order lack =
    let es = entries_of (map (entry_of n) entries) in
    (es, rest, are.read, lack es (All-permutation (λ e. IsEntry es e.key.now (value_of n e)) entries sorted order.same (each_entry n entries)))

-- a value begins at each of the sorted entries
pub sorted_values : (n count : ℕ) (at : List ℕ) (entries sorted : List Entry) (rest : List ℕ) → AreEntriesAt n count at entries rest → AreSorted entries sorted → HaveValues n sorted
sorted_values n count at entries sorted rest are order = All-permutation (λ (e : Entry). HasItem n e.value.now) entries sorted order.same are.values

-- an entry of a map that has each of them
place_found : (n : ℕ) (entries : List Entry) (es : Entries) (i : ℕ) (e : Entry) → i < length entries → All (λ e. IsEntry es e.key.now (value_of n e)) entries
    → IsEntry es (get_or entries i e).key.now (value_of n (get_or entries i e))
place_found n entries es i e l each = All-get_or (λ e. IsEntry es e.key.now (value_of n e)) entries i e l each

-- what is lacking in its value is lacking in the map
pub place_lacks : (n : ℕ) (entries : List Entry) (i : ℕ) (e : Entry) (fault result : DagJsonFault) (step : Result Step AllocError) → i < length entries
    → IfOk step (IsStepTo (get_or entries i e).key.now) → ItemLacks n (get_or entries i e).value.now fault → IsUnder fault step result → PlacesLack n entries result
place_lacks n entries i e fault result step l to lack under es each =
    let x : Entry = get_or entries i e in
    let found : IsEntry es x.key.now lack.0 = subst (IsEntry es x.key.now) (sym (value_is n x lack.0 lack.1 lack.2)) (place_found n entries es i e l each) in
    value_lacks es x.key.now lack.0 fault result step found to lack.3 under
