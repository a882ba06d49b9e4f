-- What readings return, apart from where it is in the program.
use Rattle.std.specs.Prelude.{ℕ, List, Option, option_map}
use Rattle.std.specs.Borrow.{Bor}
use Rattle.std.specs.Global.{Vec}
use Rattle.ix_cbor.specs.declared.node.Node.{Node}
use Rattle.ix_cbor.specs.declared.front.Front.{Front}
use Rattle.ix_cbor.specs.Data.{Data, Items, Entries, data_of, node_items, node_entries}
use Rattle.ix_cbor.specs.Reading.{Own}
use Rattle.ix_cbor.specs.Fronts.{own_of_front}

-- the bytes of a key, if there is one
abbrev pub key_bytes : Option (Bor (List ℕ)) → Option (List ℕ)
key_bytes key = option_map (λ k. k.now) key

-- a string and the bytes after it
abbrev pub string_and_rest : Bor (List ℕ) × Bor (List ℕ) → List ℕ × List ℕ
string_and_rest r = (r.0.now, r.1.now)

-- a front and the bytes after it
abbrev pub front_and_rest : Front × Bor (List ℕ) → Own × List ℕ
front_and_rest r = (own_of_front r.0, r.1.now)

-- a node and the bytes after it
abbrev pub node_and_rest : Node × Bor (List ℕ) → Data × List ℕ
node_and_rest r = (data_of r.0, r.1.now)

-- elements and the bytes after them
abbrev pub members_and_rest : Vec Node × Bor (List ℕ) → Items × List ℕ
members_and_rest r = (node_items r.0.items, r.1.now)

-- entries, and the bytes after them
abbrev pub entries_and_rest : Vec (Vec ℕ × Node) × Bor (List ℕ) → Entries × List ℕ
entries_and_rest r = (node_entries r.0.items, r.1.now)
