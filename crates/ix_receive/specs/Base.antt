-- The base of a receiver: blocks that it has already.
use Rattle.std.specs.Prelude.{◌≡◌, ℕ, true, false, List, ◌++◌}
use Rattle.std.specs.List.{Contains}
use Rattle.ix_store.specs.Store.{Blocks, block_of}
use Rattle.ix_walk.specs.JobMeaning.{JobMeaning}
use Rattle.ix_walk.specs.Once.{cids_of}
use Rattle.ix_walk.specs.Visits.{arrivals_of, is_over_limit}
use Rattle.ix_car.specs.Archive.{is_known, difference_of, known_by}
use Rattle.ix_known.specs.Known.{knows, known_blocks, AreSound}
use Rattle.ix_car.specs.Laws.{once}
use Rattle.ix_receive.specs.Own.{base_known, IsItsOwnWith}

-- the blocks of a base, and after them the sections that have come
abbrev pub store_of : Blocks × Blocks → Blocks
store_of s = s.0 ++ s.1

-- all these blocks are sound
abbrev pub HaveSound : Blocks × Blocks → Type 0
HaveSound s = AreSound (store_of s)

-- the known blocks of a store are sound by themselves, and their CIDs are those that are known to a receiver that has the store
pub record AreKnown (store : Blocks) : Type 0 where
  pub sound : AreSound (known_blocks store)
  pub same : (c : List ℕ) → is_known (base_known (known_blocks store)) c ≡ is_known (known_by store) c

-- so they are for each store
abbrev pub KnownBlocksAreKnown : Type 0
KnownBlocksAreKnown = (store : Blocks) → AreKnown store

-- the blocks of a base that are known, of the CIDs that a job visits in a store, are those of the store
abbrev pub HasWhatIsKnown : Blocks → Blocks → JobMeaning → Type 0
HasWhatIsKnown store base job = (c : List ℕ) → Contains (cids_of (arrivals_of store job)) c → knows base c ≡ true → block_of base c ≡ block_of store c

-- then the archive of a job within its limit without what the base has is its own with it, traversed with link-visit-once
abbrev pub DifferenceIsItsOwn : Type 0
DifferenceIsItsOwn =
    (store base : Blocks) (number : ℕ) (job : JobMeaning) → HasWhatIsKnown store base (once job)
    → is_over_limit store (once job) ≡ false
    → IsItsOwnWith (known_blocks base) number (once job) (difference_of (known_by base) store number (once job))
