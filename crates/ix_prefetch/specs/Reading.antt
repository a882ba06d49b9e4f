-- What is read of a block of the store.
use Rattle.std.specs.Prelude.{◌≡◌, ℕ, List, Some, IfSome}
use Rattle.ix_store.specs.Store.{Blocks, position_of, bytes_of, value_of}
use Rattle.ix_walk.specs.Arriving.{IsValue, IsReading}
use Rattle.ix_prefetch.specs.declared.reading.Read.{Read}
use Rattle.ix_verdict.specs.Needed.{NeedsBlock}
use Rattle.ix_prefetch.specs.Link.{cid_at}

-- a DAG-CBOR block at a place, by its CID and its bytes, which spell data
pub record IsBlockAt (store : Blocks) (place : ℕ) (cid bytes : List ℕ) : Type 0 where
  pub there : Some place ≡ position_of store cid
  pub needed : NeedsBlock cid
  pub named : bytes_of store cid ≡ Some bytes
  pub value : IsValue (value_of store cid) (Some bytes)

-- what was read at a place: the bytes of the data there, if there are any, and whether the block is malformed
pub record IsReadAt (store : Blocks) (place : ℕ) (r : Read) : Type 0 where
  pub cid : r.cid ≡ cid_at store place
  pub there : Some place ≡ position_of store r.cid
  pub needed : NeedsBlock r.cid
  pub bytes : IfSome r.bytes (λ b. bytes_of store r.cid ≡ Some b)
  pub reading : IsReading store r.cid r.bytes r.malformed
