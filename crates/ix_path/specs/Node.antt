-- Nodes in place: what bytes are as data.
use Rattle.std.specs.Prelude.{◌≡◌, ℕ, Bool, true, false, List, Option, Some, None, Ok}
use Rattle.ix_cbor.specs.Data.{Data, Items, Entries, null, bytes, link}
use Rattle.ix_cbor.specs.Reading.{decoded, data_at, item_at, items_at, entries_at}

-- the data, or null
abbrev pub or_null : Option Data → Data
or_null None = null
or_null (Some d) = d

-- the data that bytes are: raw ones are a byte string, and others spell it in DAG-CBOR
abbrev pub data_in : Bool → List ℕ → Data
data_in true b = bytes b
data_in false b = or_null (data_at b)

-- raw bytes, or bytes that spell data in DAG-CBOR
abbrev pub IsNode : Bool → List ℕ → Type 0
IsNode true b = Unit {0}
IsNode false b = (d : Data) × (decoded b ≡ Ok d)

-- the CID of a link
abbrev pub link_of : Data → Option (List ℕ)
link_of (link c) = Some c
link_of other = None

-- the data of the item that begins here
abbrev pub IsItemAt : List ℕ → Data → Type 0
IsItemAt b d = (rest : List ℕ) × (item_at 512 b ≡ Ok (d, rest))

-- an item begins here
abbrev pub IsItem : List ℕ → Type 0
IsItem b = (d : Data) × IsItemAt b d

-- so many elements of a list begin here
abbrev pub AreItemsAt : ℕ → List ℕ → Items → Type 0
AreItemsAt count b ds = (rest : List ℕ) × (items_at (item_at 512) count b ≡ Ok (ds, rest))

-- so many entries of a map begin here
abbrev pub AreEntriesAt : ℕ → List ℕ → Entries → Type 0
AreEntriesAt count b es = (rest : List ℕ) × (entries_at (item_at 512) None count b ≡ Ok (es, rest))
