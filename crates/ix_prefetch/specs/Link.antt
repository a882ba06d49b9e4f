-- What a link of a table stands for.
use Rattle.std.specs.Prelude.{◌≡◌, ℕ, ◌<◌, List, [], length, slice_index_or}
use Rattle.ix_verdict.specs.Needed.{NeedsBlock}
use Rattle.ix_selector.specs.Residual.{Place}
use Rattle.ix_store.specs.Store.{Blocks}
use Rattle.ix_walk.specs.declared.subtree.PendingLink.{PendingLink}
use Rattle.ix_walk.specs.Walking.{waiting}
use Rattle.ix_prefetch.specs.declared.link.Link.{Link}
use Rattle.ix_prefetch.specs.declared.link.Link.TheVariants.{Stored, Written}

-- the CID of the block at a place
abbrev pub cid_at : Blocks → ℕ → List ℕ
cid_at store place = (slice_index_or store place ([], [])).0

-- there is a block at this place, and the verdict on its CID needs one
abbrev pub IsHashedAt : Blocks → ℕ → Type 0
IsHashedAt store place = (place < length store) × NeedsBlock (cid_at store place)

-- the link that a link of a table stands for, by the residuals and the other CIDs of the table
abbrev pub pending_of : Blocks → List (List Place) → List (List ℕ) → Link → PendingLink
pending_of store residuals cids (Stored residual place pair) = waiting (slice_index_or residuals residual []) 0 (cid_at store place)
pending_of store residuals cids (Written residual cid) = waiting (slice_index_or residuals residual []) 0 (slice_index_or cids cid [])

-- its residual and its CID are there
abbrev pub IsLink : Blocks → List (List Place) → List (List ℕ) → Link → Type 0
IsLink store residuals cids (Stored residual place pair) = (residual < length residuals) × IsHashedAt store place
IsLink store residuals cids (Written residual cid) = (residual < length residuals) × (cid < length cids)

-- the block of a CID, the verdict on which needs one, is at this place
pub record IsStoredAt (store : Blocks) (c : List ℕ) (place : ℕ) : Type 0 where
  pub there : IsHashedAt store place
  pub cid : cid_at store place ≡ c
