-- What the readings that build no tree return.
use Rattle.std.specs.Prelude.{◌≡◌, ℕ, ◌-◌, ◌≤◌, List, length, Result, Ok, Err}
use Rattle.ix_cid.specs.Cid.{IsCid}
use Rattle.ix_cbor.specs.declared.fault.CborFault.{CborFault}
use Rattle.ix_cbor.specs.declared.front.Front.{Front}
use Rattle.ix_cbor.specs.declared.front.Front.TheVariants.{Null, Bool, Int, Bits64, Bytes, Text, Link, List as ListOf, Map}
use Rattle.ix_cbor.specs.Data.{null, boolean, integer, float, bytes, text, link}
use Rattle.ix_cbor.specs.Reading.{Fault, ◌>>=◌, Own, leaf, list_of, map_of, item_at, decoded}

-- what an item is by its front
abbrev pub own_of_front : Front → Own
own_of_front Null = leaf null
own_of_front (Bool b) = leaf (boolean b)
own_of_front (Int n) = leaf (integer n)
own_of_front (Bits64 bits) = leaf (float bits)
own_of_front (Bytes b) = leaf (bytes b.now)
own_of_front (Text t) = leaf (text t.now)
own_of_front (Link c) = leaf (link c.now)
own_of_front (ListOf n) = list_of n
own_of_front (Map n) = map_of n

-- the bytes after what is read
abbrev pub behind : {A : Type 0} → A × List ℕ → Result (List ℕ) Fault
behind x = Ok x.1

-- the bytes after an item in which lists and maps may nest n deep, or its first error
abbrev pub after_item : ℕ → List ℕ → Result (List ℕ) Fault
after_item n b = item_at n b >>= behind

-- whether a block decodes, or its first error
abbrev pub judged : List ℕ → Result (Unit {0}) Fault
judged b = decoded b >>= (λ d. Ok tt)

-- the result for these bytes, seen by view, is what the definition gives; an offset is counted from the start
abbrev pub Answers : {X A : Type 0} → (X → A) → List ℕ → Result X CborFault → Result A Fault → Type 0
Answers view b (Ok x) meant = meant ≡ Ok (view x)
Answers view b (Err e) meant = (e.place ≤ length b) × (meant ≡ Err (record { kind = e.kind; left = length b - e.place }))

-- the bytes of a link are a CID
abbrev pub HasCid : Front → Type 0
HasCid (Link c) = IsCid c.now
HasCid front = Unit {0}
