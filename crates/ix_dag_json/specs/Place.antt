-- Items in place, in which lists and maps may nest n deep: what begins where, and what is printed of it.
use Rattle.std.specs.Prelude.{◌≡◌, ℕ, ◌≤◌, List, Result, Ok, Err, map as mapped, All, IsPermutation}
use Rattle.std.specs.Ordering.{nat_cmp}
use Rattle.std.specs.Cmp.Lexicographic.{slice_cmp}
use Rattle.std.specs.List.Sorted.{IsSortedByKey}
use Rattle.json.specs.Token.{Token}
use Rattle.ix_cbor.specs.declared.front.Front.{Front}
use Rattle.ix_cbor.specs.declared.front.Front.TheVariants as fronts
use Rattle.ix_cbor.specs.Data.{Data, Items, Entries, null, boolean, integer, float, bytes, text, list, map, link, items_of, entries_of}
use Rattle.ix_cbor.specs.Reading.{Fault, Own, own_at, item_at, members_at, fields_at}
use Rattle.ix_dag_json.specs.declared.fault.DagJsonFault.{DagJsonFault}
use Rattle.ix_dag_json.specs.declared.order.Entry.{Entry}
use Rattle.ix_dag_json.specs.declared.output.Output.{Output}
use Rattle.ix_dag_json.specs.Lack.{IsEntry, IsLack}
use Rattle.ix_dag_json.specs.Order.{Orders, ItemsOrder, MapOrders}
use Rattle.ix_dag_json.specs.Shown.{Shows, ItemsShow, EntriesShow, Appends}

-- an item begins here
abbrev pub HasItem : ℕ → List ℕ → Type 0
HasItem n b = (d : Data) × (rest : List ℕ) × (item_at n b ≡ Ok (d, rest))

-- so many elements of a list begin here
abbrev pub HasItems : ℕ → ℕ → List ℕ → Type 0
HasItems n count b = (ds : Items) × (rest : List ℕ) × (members_at n count b ≡ Ok (ds, rest))

-- so many entries of a map begin here
abbrev pub HasEntries : ℕ → ℕ → List ℕ → Type 0
HasEntries n count b = (es : Entries) × (rest : List ℕ) × (fields_at n count b ≡ Ok (es, rest))

-- an item has a front here
abbrev pub HasFront : List ℕ → Type 0
HasFront b = (own : Own × List ℕ) × (own_at b ≡ Ok own)

-- an item of a block begins here
abbrev pub IsReadable : ℕ → List ℕ → Type 0
IsReadable n b = (n ≤ 512) × HasItem n b

-- so many elements of a list of a block begin here
abbrev pub AreReadable : ℕ → ℕ → List ℕ → Type 0
AreReadable n count b = (n ≤ 512) × HasItems n count b

-- so many entries of a map of a block begin here
abbrev pub HasReadableEntries : ℕ → ℕ → List ℕ → Type 0
HasReadableEntries n count b = (n ≤ 512) × HasEntries n count b

-- these bytes are after the item
abbrev pub IsBehind : ℕ → List ℕ → List ℕ → Type 0
IsBehind n b rest = (d : Data) × (item_at n b ≡ Ok (d, rest))

-- the front of an item that is neither a list nor a map
abbrev pub IsLeaf : Front → Type 0
IsLeaf (fronts.List n) = ⊥
IsLeaf (fronts.Map n) = ⊥
IsLeaf front = Unit {0}

-- the data of such a front; null stands for the others
abbrev pub leaf_data : Front → Data
leaf_data fronts.Null = null
leaf_data (fronts.Bool b) = boolean b
leaf_data (fronts.Int n) = integer n
leaf_data (fronts.Bits64 bits) = float bits
leaf_data (fronts.Bytes b) = bytes b.now
leaf_data (fronts.Text t) = text t.now
leaf_data (fronts.Link c) = link c.now
leaf_data (fronts.List n) = null
leaf_data (fronts.Map n) = null

-- the data that was read, or null
abbrev pub data_read : Result (Data × List ℕ) Fault → Data
data_read (Ok x) = x.0
data_read (Err f) = null

-- the data of an entry's value
abbrev pub value_of : ℕ → Entry → Data
value_of n e = data_read (item_at n e.value.now)

-- an entry in place, as data
abbrev pub entry_of : ℕ → Entry → List ℕ × Data
entry_of n e = (e.key.now, value_of n e)

-- a value begins where each entry says
abbrev pub HaveValues : ℕ → List Entry → Type 0
HaveValues n entries = All (λ e. HasItem n e.value.now) entries

-- a value of a block begins where each entry says
abbrev pub HaveReadableValues : ℕ → List Entry → Type 0
HaveReadableValues n entries = (n ≤ 512) × HaveValues n entries

-- these are the entries that begin here, in their places, and these bytes are after them
pub record AreEntriesAt (n count : ℕ) (b : List ℕ) (entries : List Entry) (rest : List ℕ) : Type 0 where
  pub read : fields_at n count b ≡ Ok (entries_of (mapped (entry_of n) entries), rest)
  pub values : HaveValues n entries

-- the same entries, by the bytes of their keys
pub record AreSorted (entries sorted : List Entry) : Type 0 where
  pub same : IsPermutation entries sorted
  pub rise : IsSortedByKey (λ e. e.key.now) (slice_cmp nat_cmp) sorted

-- the tokens of data, the entries of each map by the bytes of their keys
abbrev pub ShowsSorted : Data → List Token → Type 0
ShowsSorted d ts = (ordered : Data) × Orders d ordered × Shows ordered ts

-- the same of elements
abbrev pub ItemsShowSorted : Items → List Token → Type 0
ItemsShowSorted ds ts = (ordered : List Data) × ItemsOrder ds ordered × ItemsShow (items_of ordered) ts

-- the same of the entries of a map
abbrev pub EntriesShowSorted : Entries → List Token → Type 0
EntriesShowSorted es ts = (sorted : List (List ℕ × Data)) × MapOrders es sorted × EntriesShow (entries_of sorted) ts

-- an entry in place, with the same data as its value, the entries of each map by the bytes of their keys
abbrev pub IsOrdered : ℕ → Entry × Data → Type 0
IsOrdered n e = Orders (value_of n e.0) e.1

-- an entry's key, and the data that is printed
abbrev pub printed_of : Entry × Data → List ℕ × Data
printed_of e = (e.0.key.now, e.1)

-- the tokens of entries in place, as they are given
abbrev pub PlacesShow : ℕ → List Entry → List Token → Type 0
PlacesShow n entries ts =
    (ordered : List (Entry × Data)) × (mapped (λ e. e.0) ordered ≡ entries) × All (IsOrdered n) ordered × EntriesShow (entries_of (mapped printed_of ordered)) ts

-- the item that begins here was printed, and these bytes are after it
abbrev pub Prints : ℕ → List ℕ → Output → Output → List ℕ → Type 0
Prints n b old new rest = (d : Data) × (item_at n b ≡ Ok (d, rest)) × Appends (ShowsSorted d) old new

-- so were the elements, and the bracket
abbrev pub PrintsItems : ℕ → ℕ → List ℕ → Output → Output → List ℕ → Type 0
PrintsItems n count b old new rest = (ds : Items) × (members_at n count b ≡ Ok (ds, rest)) × Appends (ItemsShowSorted ds) old new

-- so were the entries, and the brace
abbrev pub PrintsEntries : ℕ → ℕ → List ℕ → Output → Output → List ℕ → Type 0
PrintsEntries n count b old new rest = (es : Entries) × (fields_at n count b ≡ Ok (es, rest)) × Appends (EntriesShowSorted es) old new

-- DAG-JSON can't express a part of the item that begins here, or memory ran out
abbrev pub ItemLacks : ℕ → List ℕ → DagJsonFault → Type 0
ItemLacks n b fault = (d : Data) × (rest : List ℕ) × (item_at n b ≡ Ok (d, rest)) × IsLack d fault

-- the same of elements, as a part of their list
abbrev pub ItemsLack : ℕ → ℕ → List ℕ → DagJsonFault → Type 0
ItemsLack n count b fault = (ds : Items) × (rest : List ℕ) × (members_at n count b ≡ Ok (ds, rest)) × IsLack (list ds) fault

-- the same of entries, as a part of their map
abbrev pub EntriesLack : ℕ → ℕ → List ℕ → DagJsonFault → Type 0
EntriesLack n count b fault = (es : Entries) × (rest : List ℕ) × (fields_at n count b ≡ Ok (es, rest)) × IsLack (map es) fault

-- the same of entries in place, as a part of each map that has them
abbrev pub PlacesLack : ℕ → List Entry → DagJsonFault → Type 0
PlacesLack n entries fault = (es : Entries) → All (λ e. IsEntry es e.key.now (value_of n e)) entries → IsLack (map es) fault
