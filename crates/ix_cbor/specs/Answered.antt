-- What the parts of `decode` return.
use Rattle.std.specs.Prelude.{◌≡◌, ℕ, ◌-◌, ◌≤◌, Result, Ok, Err}
use Rattle.ix_cbor.specs.declared.fault.CborKind.{CborKind}
use Rattle.ix_cbor.specs.declared.fault.CborKind.TheVariants.{Memory}
use Rattle.ix_cbor.specs.declared.read.PlacedFault.{PlacedFault}
use Rattle.ix_cbor.specs.declared.read.Own.{Own as RustOwn}
use Rattle.ix_cbor.specs.declared.read.Own.TheVariants.{Leaf, ListOf, MapOf}
use Rattle.ix_cbor.specs.Data.{data_of}
use Rattle.ix_cbor.specs.Reading.{Fault, Own, leaf, list_of, map_of}
use Rattle.ix_cbor.specs.Gives.{FailsAs}

-- what an item is by its own head, in the definition's terms
abbrev pub own_of : RustOwn → Own
own_of (Leaf n) = leaf (data_of n)
own_of (ListOf n) = list_of n
own_of (MapOf n) = map_of n

-- the result of a call that allocates nothing, seen by view, is what the definition gives
abbrev pub Reads : {X A : Type 0} → (X → A) → Result X PlacedFault → Result A Fault → Type 0
Reads view (Ok x) meant = meant ≡ Ok (view x)
Reads view (Err e) meant = meant ≡ Err (record { kind = e.kind; left = e.left })

-- the same of a call that allocates, unless memory ran out
abbrev pub ReadsOrRunsOut : {X A : Type 0} → (X → A) → Result X PlacedFault → Result A Fault → Type 0
ReadsOrRunsOut view (Ok x) meant = meant ≡ Ok (view x)
ReadsOrRunsOut view (Err e) meant = FailsAs e.kind e.left meant

-- the offset of an error is within that many bytes. `Memory` has no offset
abbrev pub LiesWithin : CborKind → ℕ → ℕ → Type 0
LiesWithin Memory left length = Unit {0}
LiesWithin kind left length = left ≤ length

-- an offset counted from the start, which is 0 for `Memory`
abbrev pub placed : CborKind → ℕ → ℕ → ℕ
placed Memory left length = 0
placed kind left length = length - left
