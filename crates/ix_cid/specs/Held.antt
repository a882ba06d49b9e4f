-- The storage of a CID's bytes.
use Rattle.std.specs.Prelude.{◌≡◌, ℕ, List, length, take, drop}
use Rattle.std.specs.Arc.{arc_value}
use Rattle.ix_cid.specs.declared.held.Held.{Held}
use Rattle.ix_cid.specs.declared.held.Held.TheVariants.{Own, Within}

-- the bytes that are stored
abbrev pub content : Held → List ℕ
content (Own bytes size) = take size bytes
content (Within bytes start size) = take size (drop start (arc_value bytes).items)

-- bytes are in the whole from an offset on
abbrev pub StandsAt : List ℕ → ℕ → List ℕ → Type 0
StandsAt whole start bytes = take (length bytes) (drop start whole) ≡ bytes
