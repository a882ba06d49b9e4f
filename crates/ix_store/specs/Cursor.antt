-- What is ahead of a walk in the bytes of its block.
use Rattle.std.specs.Prelude.{◌≡◌, ℕ, ◌-◌, ◌≤◌, List, ◌++◌, length, Option, Some, None}
use Rattle.ix_cid.specs.Held.{StandsAt}
use Rattle.ix_cbor.specs.declared.front.Front.{Front}
use Rattle.ix_cbor.specs.declared.front.Front.TheVariants.{Link}

-- bytes are in the whole, and end there at a position
abbrev pub EndsAt : List ℕ → ℕ → List ℕ → Type 0
EndsAt whole end bytes = (length bytes ≤ end) × StandsAt whole (end - length bytes) bytes

-- bytes end with others
abbrev pub EndsWith : List ℕ → List ℕ → Type 0
EndsWith bytes rest = (front : List ℕ) × (bytes ≡ front ++ rest)

-- others are in bytes before the rest
abbrev pub HasBefore : List ℕ → List ℕ → List ℕ → Type 0
HasBefore bytes part rest = (front : List ℕ) × (bytes ≡ front ++ (part ++ rest))

-- the CID of a link is in bytes before what follows the link
abbrev pub LinkBefore : List ℕ → Front → List ℕ → Type 0
LinkBefore bytes (Link c) behind = HasBefore bytes c.now behind
LinkBefore bytes front behind = Unit {0}

-- where the walk continues after an open list or map, which ends before these bytes
abbrev pub resumed : Option (List ℕ) → List ℕ → List ℕ
resumed None rest = rest
resumed (Some b) rest = b
