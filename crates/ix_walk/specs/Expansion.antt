-- The links in a block.
use Rattle.std.specs.Prelude.{◌≡◌, ℕ, List, Ok}
use Rattle.ix_cbor.specs.Data.{Data}
use Rattle.ix_cbor.specs.Reading.{decoded}
use Rattle.ix_selector.specs.Residual.{Place}
use Rattle.ix_walk.specs.declared.subtree.PendingLink.{PendingLink}
use Rattle.ix_walk.specs.Walking.{links_below}

-- the bytes spell data
abbrev pub IsBlock : List ℕ → Type 0
IsBlock b = (d : Data) × (decoded b ≡ Ok d)

-- these are the links below the data of a block, at this depth with this residual, in preorder
abbrev pub AreLinksIn : List ℕ → List Place → ℕ → List PendingLink → Type 0
AreLinksIn block places depth links = (d : Data) → decoded block ≡ Ok d → links ≡ links_below places depth d
