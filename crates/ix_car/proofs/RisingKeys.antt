-- In what a block spells the keys of each map differ: reading rejects a key that isn't above the one before it.
use Rattle.std.proofs.Common.{◌≡◌, ℕ, zero, suc, Bool, true, false, List, [], ◌∷◌, length, refl, sym, ◌∙◌, ap}
use Rattle.std.specs.Prelude.{Option, Some, None, Result, Ok, Err, if◌then◌else◌, bytes_eq, option_and_then, ◌==◌, ◌/◌, ◌%◌}
use Rattle.std.specs.declared.cmp.Ordering.TheVariants.{Less}
use Rattle.std.proofs.lemmas.Bool.{false_from_ne_true}
use Rattle.std.proofs.lemmas.Cmp.{tied_itself}
use Rattle.std.proofs.lemmas.Slice.Eq.{bytes_eq-Decides}
use Rattle.std.specs.Result.{result_ok}
use Rattle.ix_cbor.specs.declared.fault.CborKind.TheVariants.{Tag, Link, KeyKind, KeyOrder}
use Rattle.ix_cbor.specs.Data as nodes
use Rattle.ix_cbor.specs.Data.{Data, Items, Entries, no_items, item, no_entries, entry}
use Rattle.ix_cbor.specs.Spelling.{key_cmp}
use Rattle.ix_cbor.specs.Reading.{Fault, ◌>>=◌, Parse, fails, take_at, string_of_major, rises, key_at, float_at, simple_at, link_of, link_at, Own, leaf, list_of, map_of, own_with, own_after, own_at, argument_at, items_at, entries_at, with_members, item_with, item_at, nothing_after, decoded, data_at}
use Rattle.ix_cbor.proofs.Keys.{less_from_test, key_total, less_not_equal}
use Rattle.ix_store.specs.Store.{Blocks, bytes_of, is_dag_cbor, value_of}

-- ---- keys

-- the key is below each of these
abbrev pub IsBelowAll : List ℕ → Entries → Type 0
IsBelowAll k no_entries = Unit {0}
IsBelowAll k (entry l d es) = (key_cmp k l ≡ Less) × IsBelowAll k es

abbrev mutual
  -- in each map each key is below those after it
  pub HasRisingKeys : Data → Type 0
  HasRisingKeys nodes.null = Unit {0}
  HasRisingKeys (nodes.boolean b) = Unit {0}
  HasRisingKeys (nodes.integer n) = Unit {0}
  HasRisingKeys (nodes.float bits) = Unit {0}
  HasRisingKeys (nodes.bytes b) = Unit {0}
  HasRisingKeys (nodes.text t) = Unit {0}
  HasRisingKeys (nodes.list ds) = HaveRisingKeys ds
  HasRisingKeys (nodes.map es) = AreRisingKeys es
  HasRisingKeys (nodes.link c) = Unit {0}

  pub HaveRisingKeys : Items → Type 0
  HaveRisingKeys no_items = Unit {0}
  HaveRisingKeys (item d ds) = HasRisingKeys d × HaveRisingKeys ds

  pub AreRisingKeys : Entries → Type 0
  AreRisingKeys no_entries = Unit {0}
  AreRisingKeys (entry k d es) = IsBelowAll k es × HasRisingKeys d × AreRisingKeys es

-- a key below another is another
pub below-differs : (k l : List ℕ) → key_cmp k l ≡ Less → bytes_eq k l ≡ false
below-differs k l below =
    false_from_ne_true (bytes_eq k l) (λ same. less_not_equal (sym below ∙ ap (key_cmp k) (sym ((bytes_eq-Decides k l).0 same)) ∙ tied_itself key_total k))

-- a smaller key is below all that a greater one is below
below_all-below : (j k : List ℕ) (es : Entries) → key_cmp j k ≡ Less → IsBelowAll k es → IsBelowAll j es
below_all-below j k no_entries below all = tt
below_all-below j k (entry l d es) below all = (key_total.trans j k l below all.0, below_all-below j k es below all.1)

-- none, or a key below all
abbrev IsBelowAllFrom : Option (List ℕ) → Entries → Type 0
IsBelowAllFrom None es = Unit {0}
IsBelowAllFrom (Some k) es = IsBelowAll k es

-- so is one more key in front
below_all-first : (before : Option (List ℕ)) (k : List ℕ) (d : Data) (es : Entries) → rises before k ≡ true → IsBelowAll k es → IsBelowAllFrom before (entry k d es)
below_all-first None k d es rise all = tt
below_all-first (Some j) k d es rise all =
    let below = less_from_test (key_cmp j k) rise in (below, below_all-below j k es below all)

-- where no entry follows, there is no key to be below
below_all-none : (before : Option (List ℕ)) → IsBelowAllFrom before no_entries
below_all-none None = tt
below_all-none (Some k) = tt

-- ---- reading

-- what is read, if anything, is so
abbrev Reads : {A : Type 0} → (A → Type 0) → Result A Fault → Type 0
Reads P (Ok x) = P x
Reads P (Err e) = Unit {0}

-- what is read from what was read
reads-bind : {A B : Type 0} (P : A → Type 0) (Q : B → Type 0) (r : Result A Fault) (f : A → Result B Fault) → Reads P r → ((x : A) → P x → Reads Q (f x)) → Reads Q (r >>= f)
reads-bind P Q (Ok x) f h next = next x h
reads-bind P Q (Err e) f h next = tt

-- the same, with nothing known of the first
reads-any : {A B : Type 0} (Q : B → Type 0) (r : Result A Fault) (f : A → Result B Fault) → ((x : A) → Reads Q (f x)) → Reads Q (r >>= f)
reads-any Q (Ok x) f next = next x
reads-any Q (Err e) f next = tt

-- under a test
reads-if : {A : Type 0} (P : A → Type 0) (b : Bool) (x y : Result A Fault) → Reads P x → Reads P y → Reads P (if b then x else y)
reads-if P true x y hx hy = hx
reads-if P false x y hx hy = hy

-- or an error if the test fails
reads-passed : {A : Type 0} (P : A → Type 0) (b : Bool) (x : A) (f : Fault) → (b ≡ true → P x) → Reads P (if b then Ok x else Err f)
reads-passed P true x f h = h refl
reads-passed P false x f h = tt

-- an item by its own head
abbrev IsRisingOwn : Own × List ℕ → Type 0
IsRisingOwn (leaf d, b) = HasRisingKeys d
IsRisingOwn (list_of n, b) = Unit {0}
IsRisingOwn (map_of n, b) = Unit {0}

-- data and what follows
abbrev IsRisingData : Data × List ℕ → Type 0
IsRisingData x = HasRisingKeys x.0

-- a float has no keys
float_rising : (at b : List ℕ) → Reads IsRisingData (float_at at b)
float_rising at b = search (reads-if)

-- nor has a simple value
simple_rising : (at : List ℕ) (info : ℕ) (b : List ℕ) → Reads IsRisingData (simple_at at info b)
simple_rising at info b = search (reads-if, float_rising) depth 12

-- nor a link
link_of_rising : (at : List ℕ) (x : List ℕ × List ℕ) → Reads IsRisingData (link_of at x)
link_of_rising at ([], b) = tt
link_of_rising at ((first ∷ c), b) = search (reads-if)

-- nor a tagged item
link_rising : (at : List ℕ) (tag : ℕ) (b : List ℕ) → Reads IsRisingData (link_at at tag b)
link_rising at tag b =
    reads-if IsRisingData (tag == 42) (string_of_major 2 (λ content. fails Link at) b >>= link_of at) (fails Tag at)
    (reads-any IsRisingData (string_of_major 2 (λ content. fails Link at) b) (link_of at) (link_of_rising at)) tt

-- a string or a link, as an item
string_rising : (r : Result (List ℕ × List ℕ) Fault) (as_data : List ℕ → Data) → ((s : List ℕ) → HasRisingKeys (as_data s)) → Reads IsRisingOwn (r >>= (λ s. Ok (leaf (as_data s.0), s.1)))
string_rising r as_data h = reads-any IsRisingOwn r (λ s. Ok (leaf (as_data s.0), s.1)) (λ s. h s.0)

-- nor any leaf
leaf_rising : (r : Result (Data × List ℕ) Fault) → Reads IsRisingData r → Reads IsRisingOwn (r >>= (λ d. Ok (leaf d.0, d.1)))
leaf_rising r h = reads-bind IsRisingData IsRisingOwn r (λ d. Ok (leaf d.0, d.1)) h (λ d rising. rising)

-- so the head of an item is fine, by its major type
own_with_rising : (at : List ℕ) (major n : ℕ) (b : List ℕ) → Reads IsRisingOwn (own_with at major n b)
own_with_rising at major n b =
    let as_bytes = string_rising (take_at n b) (λ s. nodes.bytes s) (λ s. tt) in
    let as_text = string_rising (take_at n b) (λ s. nodes.text s) (λ s. tt) in
    let as_link = leaf_rising (link_at at n b) (link_rising at n b) in
    search (reads-if, as_bytes, as_text, as_link) depth 12

-- by its additional information
after_rising : (at : List ℕ) (major info : ℕ) (b : List ℕ) → Reads IsRisingOwn (own_after at major info b)
after_rising at major info b =
    let simple = leaf_rising (simple_at at info b) (simple_rising at info b) in
    let other = reads-any IsRisingOwn (argument_at at info b) (λ n. own_with at major n.0 n.1) (λ n. own_with_rising at major n.0 n.1) in
    search (reads-if, simple, other)

-- and by its first byte
own_rising : (b : List ℕ) → Reads IsRisingOwn (own_at b)
own_rising [] = tt
own_rising (h ∷ b) = after_rising (h ∷ b) (h / 32) (h % 32) b

-- ---- members

-- the elements that are read have rising keys inside
abbrev AreRisingItems : Items × List ℕ → Type 0
AreRisingItems x = HaveRisingKeys x.0

-- the entries that are read have rising keys, above the key before
abbrev AreRisingFrom : Option (List ℕ) → Entries × List ℕ → Type 0
AreRisingFrom before x = IsBelowAllFrom before x.0 × AreRisingKeys x.0

-- the key that is read is above the one before
abbrev IsAbove : Option (List ℕ) → List ℕ × List ℕ → Type 0
IsAbove before k = rises before k.0 ≡ true

-- reading rejects any other key
key_above : (before : Option (List ℕ)) (b : List ℕ) → Reads (IsAbove before) (key_at before b)
key_above before b =
    reads-any (IsAbove before) (string_of_major 3 (λ at. fails KeyKind at) b) (λ k. if rises before k.0 then Ok k else fails KeyOrder b)
    (λ k. reads-passed (IsAbove before) (rises before k.0) k (record { kind = KeyOrder; left = length b }) (λ e. e))

module _ (read : Parse Data) (rising : (b : List ℕ) → Reads IsRisingData (read b)) where
  -- element by element
  items_rising : (n : ℕ) (b : List ℕ) → Reads AreRisingItems (items_at read n b)
  items_rising zero b = tt
  items_rising (suc n) b =
      reads-bind IsRisingData AreRisingItems (read b) (λ d. items_at read n d.1 >>= (λ ds. Ok (item d.0 ds.0, ds.1))) (rising b)
      (λ d first. reads-bind AreRisingItems AreRisingItems (items_at read n d.1) (λ ds. Ok (item d.0 ds.0, ds.1)) (items_rising n d.1) (λ ds others. (first, others)))

  -- entry by entry
  entries_rising : (n : ℕ) (before : Option (List ℕ)) (b : List ℕ) → Reads (AreRisingFrom before) (entries_at read before n b)
  entries_rising zero before b = (below_all-none before, tt)
  entries_rising (suc n) before b =
      reads-bind (IsAbove before) (AreRisingFrom before) (key_at before b) (λ k. read k.1 >>= (λ d. entries_at read (Some k.0) n d.1 >>= (λ es. Ok (entry k.0 d.0 es.0, es.1)))) (key_above before b)
      (λ k above. reads-bind IsRisingData (AreRisingFrom before) (read k.1) (λ d. entries_at read (Some k.0) n d.1 >>= (λ es. Ok (entry k.0 d.0 es.0, es.1))) (rising k.1)
      (λ d first. reads-bind (AreRisingFrom (Some k.0)) (AreRisingFrom before) (entries_at read (Some k.0) n d.1) (λ es. Ok (entry k.0 d.0 es.0, es.1)) (entries_rising n (Some k.0) d.1)
      (λ es others. (below_all-first before k.0 d.0 es.0 above others.0, (others.0, first, others.1)))))

  -- so what an item has inside is fine
  some_members : (at : List ℕ) (x : Own × List ℕ) → IsRisingOwn x → Reads IsRisingData (with_members (Some read) at x)
  some_members at (leaf d, b) h = h
  some_members at (list_of n, b) h = reads-bind AreRisingItems IsRisingData (items_at read n b) (λ ds. Ok (nodes.list ds.0, ds.1)) (items_rising n b) (λ ds all. all)
  some_members at (map_of n, b) h = reads-bind (AreRisingFrom None) IsRisingData (entries_at read None n b) (λ es. Ok (nodes.map es.0, es.1)) (entries_rising n None b) (λ es all. all.1)

  -- and the item
  some_rising : (b : List ℕ) → Reads IsRisingData (item_with (Some read) b)
  some_rising b = reads-bind IsRisingOwn IsRisingData (own_at b) (with_members (Some read) b) (own_rising b) (some_members b)

-- at the deepest level lists and maps are rejected
none_members : (at : List ℕ) (x : Own × List ℕ) → IsRisingOwn x → Reads IsRisingData (with_members None at x)
none_members at (leaf d, b) h = h
none_members at (list_of n, b) h = tt
none_members at (map_of n, b) h = tt

-- an item at every level
item_rising : (n : ℕ) (b : List ℕ) → Reads IsRisingData (item_at n b)
unfolding item_at
item_rising zero b = reads-bind IsRisingOwn IsRisingData (own_at b) (with_members None b) (own_rising b) (none_members b)
item_rising (suc n) b = some_rising (item_at n) (item_rising n) b

-- ---- blocks

-- bytes after the item are rejected
nothing_after-rising : (x : Data × List ℕ) → IsRisingData x → Reads HasRisingKeys (nothing_after x)
nothing_after-rising (d, []) h = h
nothing_after-rising (d, (x ∷ xs)) h = tt

-- so whatever a block spells has rising keys
block_rising : (n : ℕ) (b : List ℕ) → Reads HasRisingKeys (item_at n b >>= nothing_after)
block_rising n b = reads-bind IsRisingData HasRisingKeys (item_at n b) nothing_after (item_rising n b) nothing_after-rising

-- what is there, if anything, has rising keys
abbrev pub IsRisingIfAny : Option Data → Type 0
IsRisingIfAny None = Unit {0}
IsRisingIfAny (Some d) = HasRisingKeys d

-- by the result of the reading
some_rising_read : (r : Result Data Fault) → Reads HasRisingKeys r → IsRisingIfAny (result_ok r)
some_rising_read (Ok d) h = h
some_rising_read (Err f) h = tt

-- in the form in which the store has it
data_at-rising : (b : List ℕ) → IsRisingIfAny (data_at b)
data_at-rising b = some_rising_read (decoded b) (block_rising 512 b)

-- with bytes or none
bytes-rising : (bytes : Option (List ℕ)) → IsRisingIfAny (option_and_then data_at bytes)
bytes-rising None = tt
bytes-rising (Some b) = data_at-rising b

-- under a test
if-rising : (test : Bool) (o : Option Data) → IsRisingIfAny o → IsRisingIfAny (if test then o else None)
if-rising true o h = h
if-rising false o h = tt

-- the data of a CID has rising keys
pub value_of-rising : (store : Blocks) (c : List ℕ) → IsRisingIfAny (value_of store c)
value_of-rising store c = if-rising (is_dag_cbor c) (option_and_then data_at (bytes_of store c)) (bytes-rising (bytes_of store c))
