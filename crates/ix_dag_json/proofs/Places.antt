-- Items in place: what begins after a front, and what loops over elements have printed so far.
use Rattle.std.proofs.Common.{◌≡◌, ℕ, zero, suc, ◌+◌, ◌-◌, ◌<◌, ◌≤◌, List, [], ◌∷◌, ◌++◌, length, length-append, refl, sym, ap, ◌∙◌, subst, append_assoc, arith}
use Rattle.std.specs.Prelude.{Option, Some, None, Result, Ok, Err}
use Rattle.std.proofs.lemmas.List.{append-nil}
use Rattle.json.specs.Token.{Token}
use Rattle.ix_cbor.specs.declared.front.Front.{Front}
use Rattle.ix_cbor.specs.declared.front.Front.TheVariants as fronts
use Rattle.ix_cbor.specs.Data.{Data, Items, Entries, list, map, item, items_of, entries_of}
use Rattle.ix_cbor.specs.Reading.{◌>>=◌, Fault, Parse, list_of, map_of, own_at, item_at, items_at, entries_at, members_at, fields_at, with_members}
use Rattle.ix_cbor.specs.Fronts.{own_of_front, behind, after_item}
use Rattle.ix_cbor.proofs.Deeper.{item_deeper}
use Rattle.ix_cbor.proofs.Fronts.{with_front, before, before_more, goes_on, is_done, item_at-above, item_at-zero}
use Rattle.ix_cbor.proofs.Steps.{bind_ok, ok_same, no_ok, as_list, as_map, items_after}
use Rattle.ix_dag_json.specs.declared.fault.DagJsonFault.{DagJsonFault}
use Rattle.ix_dag_json.specs.declared.output.Output.{Output}
use Rattle.ix_dag_json.specs.Written.{Adds}
use Rattle.ix_dag_json.specs.Lack.{IsItem}
use Rattle.ix_dag_json.specs.Order.{Orders, ItemsOrder}
use Rattle.ix_dag_json.specs.Shown.{Shows, ItemsShow, Appends}
use Rattle.ix_dag_json.specs.Place.{HasItem, HasItems, HasEntries, HasFront, IsBehind, IsLeaf, leaf_data, Prints, PrintsItems, PrintsEntries, ItemLacks, ItemsLack, EntriesLack}
use Rattle.ix_dag_json.proofs.Showing.{added_none, added_both}

-- what reads the members of an item
abbrev inner : ℕ → Option (Parse Data)
inner zero = None
inner (suc n) = Some (item_at n)

item_is : (n : ℕ) (b : List ℕ) → item_at n b ≡ (own_at b >>= with_members (inner n) b)
unfolding item_at
item_is zero b = refl
item_is (suc n) b = refl

-- an item has a front
pub front_there : (n : ℕ) (b : List ℕ) → HasItem n b → HasFront b
front_there n b h =
    let m = bind_ok (own_at b) (with_members (inner n) b) (h.0, h.1) (sym (item_is n b) ∙ h.2) in (m.0, m.1)

-- an item by its front, where it is neither a list nor a map
pub leaf_at : (n : ℕ) (b rest : List ℕ) (f : Front) → IsLeaf f → own_at b ≡ Ok (own_of_front f, rest) → item_at n b ≡ Ok (leaf_data f, rest)
leaf_at n b rest fronts.Null leaf own = item_is n b ∙ ap (λ r. r >>= with_members (inner n) b) own
leaf_at n b rest (fronts.Bool t) leaf own = item_is n b ∙ ap (λ r. r >>= with_members (inner n) b) own
leaf_at n b rest (fronts.Int i) leaf own = item_is n b ∙ ap (λ r. r >>= with_members (inner n) b) own
leaf_at n b rest (fronts.Bits64 i) leaf own = item_is n b ∙ ap (λ r. r >>= with_members (inner n) b) own
leaf_at n b rest (fronts.Bytes s) leaf own = item_is n b ∙ ap (λ r. r >>= with_members (inner n) b) own
leaf_at n b rest (fronts.Text s) leaf own = item_is n b ∙ ap (λ r. r >>= with_members (inner n) b) own
leaf_at n b rest (fronts.Link s) leaf own = item_is n b ∙ ap (λ r. r >>= with_members (inner n) b) own
leaf_at n b rest (fronts.List i) leaf own = absurd leaf
leaf_at n b rest (fronts.Map i) leaf own = absurd leaf

-- a front that is neither that of a list nor that of a map
pub other_leaf : (f : Front) → ((n : ℕ) → f ≡ fronts.List n → ⊥) → ((n : ℕ) → f ≡ fronts.Map n → ⊥) → IsLeaf f
other_leaf fronts.Null no_list no_map = tt
other_leaf (fronts.Bool t) no_list no_map = tt
other_leaf (fronts.Int i) no_list no_map = tt
other_leaf (fronts.Bits64 i) no_list no_map = tt
other_leaf (fronts.Bytes s) no_list no_map = tt
other_leaf (fronts.Text s) no_list no_map = tt
other_leaf (fronts.Link s) no_list no_map = tt
other_leaf (fronts.List i) no_list no_map = no_list i refl
other_leaf (fronts.Map i) no_list no_map = no_map i refl

module _ (b rest : List ℕ) (count : ℕ) where
  -- where a list is, lists may nest
  pub list_deep : (n : ℕ) → HasItem n b → own_at b ≡ Ok (list_of count, rest) → 0 < n
  list_deep zero h own = no_ok _ (h.0, h.1) (sym (ap (λ r. r >>= with_members None b) own) ∙ sym (item_at-zero 0 b refl) ∙ h.2)
  list_deep (suc n) h own = omega arith

  pub map_deep : (n : ℕ) → HasItem n b → own_at b ≡ Ok (map_of count, rest) → 0 < n
  map_deep zero h own = no_ok _ (h.0, h.1) (sym (ap (λ r. r >>= with_members None b) own) ∙ sym (item_at-zero 0 b refl) ∙ h.2)
  map_deep (suc n) h own = omega arith

  -- its elements follow
  pub list_has : (n : ℕ) → 0 < n → HasItem n b → own_at b ≡ Ok (list_of count, rest) → HasItems (n - 1) count rest
  list_has n l h own =
      let inside = sym (ap (λ r. r >>= with_members (Some (item_at (n - 1))) b) own) ∙ sym (item_at-above n b l) ∙ h.2 in
      let m = bind_ok (items_at (item_at (n - 1)) count rest) as_list (h.0, h.1) inside in
      (m.0.0, m.0.1, m.1)

  pub map_has : (n : ℕ) → 0 < n → HasItem n b → own_at b ≡ Ok (map_of count, rest) → HasEntries (n - 1) count rest
  map_has n l h own =
      let inside = sym (ap (λ r. r >>= with_members (Some (item_at (n - 1))) b) own) ∙ sym (item_at-above n b l) ∙ h.2 in
      let m = bind_ok (entries_at (item_at (n - 1)) None count rest) as_map (h.0, h.1) inside in
      (m.0.0, m.0.1, m.1)

  -- and are the list
  pub list_at : (n : ℕ) (ds : Items) (next : List ℕ) → 0 < n → own_at b ≡ Ok (list_of count, rest) → members_at (n - 1) count rest ≡ Ok (ds, next) → item_at n b ≡ Ok (list ds, next)
  list_at n ds next l own e = item_at-above n b l ∙ ap (λ r. r >>= with_members (Some (item_at (n - 1))) b) own ∙ ap (λ r. r >>= as_list) e

  pub map_at : (n : ℕ) (es : Entries) (next : List ℕ) → 0 < n → own_at b ≡ Ok (map_of count, rest) → fields_at (n - 1) count rest ≡ Ok (es, next) → item_at n b ≡ Ok (map es, next)
  map_at n es next l own e = item_at-above n b l ∙ ap (λ r. r >>= with_members (Some (item_at (n - 1))) b) own ∙ ap (λ r. r >>= as_map) e

-- what is read where lists and maps may nest so deep is read where they may nest deeper
deeper : (k n m : ℕ) (b : List ℕ) (x : Data × List ℕ) → m ≡ k + n → item_at n b ≡ Ok x → item_at m b ≡ Ok x
deeper zero n m b x is e = let same : n ≡ m = omega (arith, is) in subst (λ l. item_at l b ≡ Ok x) same e
deeper (suc k) n m b x is e =
    let same : suc (k + n) ≡ m = omega (arith, is) in
    subst (λ l. item_at l b ≡ Ok x) same (item_deeper (k + n) b x (deeper k n (k + n) b x refl e))

at_512 : (n : ℕ) (b : List ℕ) (x : Data × List ℕ) → n ≤ 512 → item_at n b ≡ Ok x → item_at 512 b ≡ Ok x
at_512 n b x l e = deeper (512 - n) n 512 b x (omega (arith, l)) e

-- an item can be skipped
pub skips : (n : ℕ) (b : List ℕ) → n ≤ 512 → (h : HasItem n b) → after_item 512 b ≡ Ok h.1
skips n b l h = ap (λ r. r >>= behind) (at_512 n b (h.0, h.1) l h.2)

-- and these bytes are after it
pub skipped_behind : (n : ℕ) (b next : List ℕ) → n ≤ 512 → HasItem n b → after_item 512 b ≡ Ok next → IsBehind n b next
skipped_behind n b next l h e =
    (h.0, subst (λ r. item_at n b ≡ Ok (h.0, r)) (ok_same h.1 next (sym (skips n b l h) ∙ e)) h.2)

-- ---- the elements of a list

-- an element more, in order
order_more : (front ordered : List Data) (d o : Data) → ItemsOrder (items_of front) ordered → Orders d o → ItemsOrder (items_of (front ++ d ∷ [])) (ordered ++ o ∷ [])
order_more [] ordered d o h k = (o, [], k, refl, ap (λ l. l ++ o ∷ []) h)
order_more (x ∷ xs) ordered d o h k = (h.0, h.1 ++ o ∷ [], h.2, order_more xs h.1 d o h.3 k, ap (λ l. l ++ o ∷ []) h.4)

-- the element before others
item_before : (front : List Data) (d : Data) (more : Items) → IsItem (before front (item d more)) (length front) d
item_before [] d more = refl
item_before (x ∷ xs) d more = item_before xs d more

-- nothing is before
none_before : (r : Result (Items × List ℕ) Fault) → with_front [] r ≡ r
none_before (Ok x) = refl
none_before (Err f) = refl

-- the elements before index i were printed
pub record ItemsSoFar (n count : ℕ) (at : List ℕ) (old new : Output) (i : ℕ) (rest : List ℕ) : Type 0 where
  pub front : List Data
  pub ordered : List Data
  pub pushed : List Token
  pub many : length front ≡ i
  pub adds : Adds old new pushed
  pub reads : with_front front (members_at n (count - i) rest) ≡ members_at n count at
  pub order : ItemsOrder (items_of front) ordered
  pub shows : (more : List Data) (ts : List Token) → ItemsShow (items_of more) ts → ItemsShow (items_of (ordered ++ more)) (pushed ++ ts)

pub no_items_yet : (n count : ℕ) (at : List ℕ) (out : Output) → ItemsSoFar n count at out out 0 at
no_items_yet n count at out = record {
  front = [];
  ordered = [];
  pushed = [];
  many = refl;
  adds = added_none out;
  reads = none_before (members_at n (count - 0) at) ∙ (let none : count - 0 ≡ count = omega arith in ap (λ k. members_at n k at) none);
  order = refl;
  shows = λ more ts h. h;
}

-- an element begins there
pub item_there : (n count : ℕ) (at : List ℕ) (old new : Output) (i : ℕ) (rest : List ℕ) → i < count → HasItems n count at → ItemsSoFar n count at old new i rest → HasItem n rest
item_there n count at old new i rest l h so_far =
    let k : count - i ≡ suc (count - (i + 1)) = omega arith in
    let one = bind_ok (members_at n (count - i) rest) (λ x. Ok (before so_far.front x.0, x.1)) (h.0, h.1) (so_far.reads ∙ h.2) in
    let m = bind_ok (item_at n rest) (items_after (item_at n) (count - (i + 1))) one.0 (sym (ap (λ k. members_at n k rest) k) ∙ one.1) in
    (m.0.0, m.0.1, m.1)

-- one element more
pub one_item_more : (n count : ℕ) (at : List ℕ) (old mid new : Output) (i : ℕ) (rest next : List ℕ) → i < count → Prints n rest mid new next
    → ItemsSoFar n count at old mid i rest → ItemsSoFar n count at old new (i + 1) next
one_item_more n count at old mid new i rest next l printed so_far =
    let d : Data = printed.0 in
    let ts : List Token = printed.2.0 in
    let o : Data = printed.2.1.0 in
    record {
      front = so_far.front ++ d ∷ [];
      ordered = so_far.ordered ++ o ∷ [];
      pushed = so_far.pushed ++ ts;
      many = length-append so_far.front (d ∷ []) ∙ ap (λ k. k + 1) so_far.many;
      adds = added_both old mid new so_far.pushed ts so_far.adds printed.2.2;
      reads = goes_on so_far.front (item_at n) count i rest next d (members_at n count at) l printed.1 so_far.reads;
      order = order_more so_far.front so_far.ordered d o so_far.order printed.2.1.1;
      shows = λ more us h.
          let here : ItemsShow (items_of (so_far.ordered ++ o ∷ more)) (so_far.pushed ++ (ts ++ us)) = so_far.shows (o ∷ more) (ts ++ us) (ts, us, printed.2.1.2, h, refl) in
          let named = subst (λ ds. ItemsShow (items_of ds) (so_far.pushed ++ (ts ++ us))) (sym (append_assoc so_far.ordered (o ∷ []) more)) here in
          subst (ItemsShow (items_of ((so_far.ordered ++ o ∷ []) ++ more))) (sym (append_assoc so_far.pushed ts us)) named;
    }

-- all elements and the bracket
pub all_items_printed : (n count : ℕ) (at : List ℕ) (old mid new : Output) (i : ℕ) (rest : List ℕ) → count ≤ i → Adds mid new (Token.end_array ∷ [])
    → ItemsSoFar n count at old mid i rest → PrintsItems n count at old new rest
all_items_printed n count at old mid new i rest l closed so_far =
    let shown = subst (λ ds. ItemsShow (items_of ds) (so_far.pushed ++ Token.end_array ∷ [])) (append-nil so_far.ordered) (so_far.shows [] (Token.end_array ∷ []) refl) in (
      items_of so_far.front,
      is_done so_far.front (item_at n) count i rest (members_at n count at) l so_far.reads,
      (so_far.pushed ++ Token.end_array ∷ [], (so_far.ordered, so_far.order, shown), added_both old mid new so_far.pushed (Token.end_array ∷ []) so_far.adds closed),
    )

-- an element is where its index says
pub item_found : (n count : ℕ) (at : List ℕ) (old new : Output) (i : ℕ) (rest next : List ℕ) (d : Data) → i < count → (h : HasItems n count at) → item_at n rest ≡ Ok (d, next)
    → ItemsSoFar n count at old new i rest → IsItem h.0 i d
item_found n count at old new i rest next d l h e so_far =
    let whole = goes_on so_far.front (item_at n) count i rest next d (members_at n count at) l e so_far.reads ∙ h.2 in
    let m = bind_ok (members_at n (count - (i + 1)) next) (λ x. Ok (before (so_far.front ++ d ∷ []) x.0, x.1)) (h.0, h.1) whole in
    let same : before (so_far.front ++ d ∷ []) m.0.0 ≡ h.0 = ap (λ (x : Items × List ℕ). x.0) (ok_same (before (so_far.front ++ d ∷ []) m.0.0, m.0.1) (h.0, h.1) m.2) in
    let is : before so_far.front (item d m.0.0) ≡ h.0 = sym (before_more so_far.front d m.0.0) ∙ same in
    subst (λ ds. IsItem ds i d) is (subst (λ k. IsItem (before so_far.front (item d m.0.0)) k d) so_far.many (item_before so_far.front d m.0.0))

-- what is neither a list nor a map is in order
leaf_ordered : (f : Front) → Orders (leaf_data f) (leaf_data f)
leaf_ordered fronts.Null = refl
leaf_ordered (fronts.Bool t) = refl
leaf_ordered (fronts.Int i) = refl
leaf_ordered (fronts.Bits64 i) = refl
leaf_ordered (fronts.Bytes s) = refl
leaf_ordered (fronts.Text s) = refl
leaf_ordered (fronts.Link s) = refl
leaf_ordered (fronts.List i) = refl
leaf_ordered (fronts.Map i) = refl

-- an item that is neither a list nor a map was printed
pub leaf_printed : (n : ℕ) (b rest : List ℕ) (f : Front) (old new : Output) → IsLeaf f → own_at b ≡ Ok (own_of_front f, rest) → Appends (Shows (leaf_data f)) old new
    → Prints n b old new rest
leaf_printed n b rest f old new leaf own shown = (leaf_data f, leaf_at n b rest f leaf own, (shown.0, (leaf_data f, leaf_ordered f, shown.1), shown.2))

-- a list was printed after its bracket
pub list_printed : (n : ℕ) (b rest next : List ℕ) (count : ℕ) (old mid new : Output) → 0 < n → own_at b ≡ Ok (list_of count, rest) → Adds old mid (Token.begin_array ∷ [])
    → PrintsItems (n - 1) count rest mid new next → Prints n b old new next
list_printed n b rest next count old mid new l own opened printed =
    let ts = Token.begin_array ∷ printed.2.0 in
    let shown = printed.2.1 in (
      list printed.0,
      list_at b rest count n printed.0 next l own printed.1,
      (ts, (list (items_of shown.0), (shown.0, shown.1, refl), (printed.2.0, shown.2, refl)), added_both old mid new (Token.begin_array ∷ []) printed.2.0 opened printed.2.2),
    )

-- a map after its brace
pub map_printed : (n : ℕ) (b rest next : List ℕ) (count : ℕ) (old mid new : Output) → 0 < n → own_at b ≡ Ok (map_of count, rest) → Adds old mid (Token.begin_object ∷ [])
    → PrintsEntries (n - 1) count rest mid new next → Prints n b old new next
map_printed n b rest next count old mid new l own opened printed =
    let ts = Token.begin_object ∷ printed.2.0 in
    let shown = printed.2.1 in
    let order = shown.1 in (
      map printed.0,
      map_at b rest count n printed.0 next l own printed.1,
      (ts, (map (entries_of shown.0), (shown.0, order.0, order.1, order.2, order.3, refl), (printed.2.0, shown.2, refl)), added_both old mid new (Token.begin_object ∷ []) printed.2.0 opened printed.2.2),
    )

-- what is lacking in its elements is lacking in the list
pub list_lacks : (n : ℕ) (b rest : List ℕ) (count : ℕ) (fault : DagJsonFault) → 0 < n → own_at b ≡ Ok (list_of count, rest) → ItemsLack (n - 1) count rest fault → ItemLacks n b fault
list_lacks n b rest count fault l own lack = (list lack.0, lack.1, list_at b rest count n lack.0 lack.1 l own lack.2, lack.3)

pub map_lacks : (n : ℕ) (b rest : List ℕ) (count : ℕ) (fault : DagJsonFault) → 0 < n → own_at b ≡ Ok (map_of count, rest) → EntriesLack (n - 1) count rest fault → ItemLacks n b fault
map_lacks n b rest count fault l own lack = (map lack.0, lack.1, map_at b rest count n lack.0 lack.1 l own lack.2, lack.3)
