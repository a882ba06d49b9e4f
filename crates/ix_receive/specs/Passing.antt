-- Going on with a traversal: past links whose blocks are here, or may be missing.
use Rattle.std.specs.Prelude.{◌≡◌, ℕ, suc, ◌+◌, ◌^◌, ◌<◌, ◌≤◌, Bool, true, false, List, [], ◌∷◌, ◌++◌, ◌||◌, bytes_eq, if◌then◌else◌}
use Rattle.std.specs.Bool.{MatchBool}
use Rattle.std.specs.List.{Contains, count_by}
use Rattle.std.specs.Ordering.{nat_cmp}
use Rattle.std.specs.Cmp.Lexicographic.{slice_cmp}
use Rattle.std.specs.BTreeSet.{BTreeSet, contains}
use Rattle.ix_verdict.specs.AllowMissing.{may_lack}
use Rattle.ix_store.specs.Store.{Blocks}
use Rattle.ix_walk.specs.declared.subtree.PendingLink.{PendingLink}
use Rattle.ix_walk.specs.JobMeaning.{JobMeaning}
use Rattle.ix_walk.specs.Once.{cids_of}
use Rattle.ix_walk.specs.Visits.{arrivals_of, is_over_limit}
use Rattle.ix_car.specs.Laws.{once}
use Rattle.ix_verdict.specs.declared.allow_missing.AllowMissing.{AllowMissing}
use Rattle.ix_receive.specs.declared.fault.ReceiveFault.{ReceiveFault}
use Rattle.ix_receive.specs.declared.fault.ReceiveFault.TheVariants.{Unsound, InBase, Repeated, OutOfOrder, NotAskedFor, Missing, Root, Limit, Ended, Memory}
use Rattle.ix_receive.specs.declared.traversal.Traversal.{Traversal}
use Rattle.ix_receive.specs.declared.traversal.Skips.{Skips}
use Rattle.ix_receive.specs.Missing.{lacks_block, is_unread}
use Rattle.ix_receive.specs.Traversal.{visited, expanded_by, IsTraversed, links_of}
use Rattle.ix_known.specs.Known.{AreSound}

-- a set has a CID
abbrev pub has : BTreeSet (List ℕ) → List ℕ → Bool
has set c = contains (slice_cmp nat_cmp) set c

-- these CIDs that were visited may lack their blocks
abbrev pub MayLack : JobMeaning → AllowMissing → Blocks → List (List ℕ) → Type 0
MayLack job allowed sections cids = (c : List ℕ) → Contains cids c → lacks_block sections c ≡ true → may_lack allowed job.roots c ≡ true

-- what is known after so many visits: the CIDs visited whose blocks are missing, which may be, and how many visits were of these, and
-- of CIDs that aren't read
pub record KnowsSkips (n : ℕ) (job : JobMeaning) (allowed : AllowMissing) (sections : Blocks) (skips : Skips) : Type 0 where
  pub recorded : (c : List ℕ) → Contains (visited n job sections) c → lacks_block sections c ≡ true → has skips.missing c ≡ true
  pub met : (c : List ℕ) → has skips.missing c ≡ true → Contains (visited n job sections) c
  pub may : MayLack job allowed sections (visited n job sections)
  pub count : skips.absent ≡ count_by (lacks_block sections) (visited n job sections)
  pub unread : skips.unread ≡ count_by (is_unread sections) (visited n job sections)

-- a set has one CID more than another
abbrev pub HasAlso : BTreeSet (List ℕ) → List ℕ → BTreeSet (List ℕ) → Type 0
HasAlso new c old = (d : List ℕ) → has new d ≡ (bytes_eq c d || has old d)

-- a visit over sound blocks can be noted: it can be counted
pub record CanNote (sections : Blocks) (skips : Skips) : Type 0 where
  pub sound : AreSound sections
  pub absent : skips.absent + 1 < 2 ^ 32
  pub unread : skips.unread + 1 < 2 ^ 32

-- the visit of a CID whose block is missing was noted, and this may be; or it may not be
abbrev pub IsNotedMissing : AllowMissing → List (List ℕ) → List ℕ → Skips → Skips → Bool → Type 0
IsNotedMissing allowed roots c old new true =
    (may_lack allowed roots c ≡ true) × HasAlso new.missing c old.missing × (new.absent ≡ old.absent + 1) × (new.unread ≡ old.unread)
IsNotedMissing allowed roots c old new false = may_lack allowed roots c ≡ false

-- the visit of a CID that lacks no block was noted if the CID isn't read
pub record IsNotedThere (sections : Blocks) (c : List ℕ) (old new : Skips) : Type 0 where
  pub missing : new.missing ≡ old.missing
  pub absent : new.absent ≡ old.absent
  pub unread : new.unread ≡ old.unread + (if is_unread sections c then 1 else 0)

-- the visit of a CID was noted; or its block is missing and may not be
abbrev pub IsNoted : AllowMissing → List (List ℕ) → Blocks → List ℕ → Skips → Skips → Bool → Type 0
IsNoted allowed roots sections c old new true = MatchBool (lacks_block sections c) (IsNotedMissing allowed roots c old new true) (IsNotedThere sections c old new)
IsNoted allowed roots sections c old new false = (lacks_block sections c ≡ true) × IsNotedMissing allowed roots c old new false

-- a traversal has made its visits
pub record IsPassing (job : JobMeaning) (allowed : AllowMissing) (sections : Blocks) (t : Traversal) : Type 0 where
  pub sound : AreSound sections
  pub traversed : IsTraversed t.visits job sections (expanded_by t.expanded) (links_of job.selector t)
  pub skips : KnowsSkips t.visits job allowed sections t.skips

-- it is before the visit of a link, which is within the limit
pub record IsBefore (job : JobMeaning) (allowed : AllowMissing) (sections : Blocks) (f : PendingLink) (t : Traversal) : Type 0 where
  pub sound : AreSound sections
  pub within : t.visits < job.limit
  pub traversed : IsTraversed t.visits job sections (expanded_by t.expanded) (f ∷ links_of job.selector t)
  pub skips : KnowsSkips t.visits job allowed sections t.skips

-- after so many visits the next is of a CID whose block is missing and may not be, the first of such
pub record IsNeeded (n : ℕ) (job : JobMeaning) (allowed : AllowMissing) (sections : Blocks) (c : List ℕ) : Type 0 where
  pub within : n < job.limit
  pub next : visited (suc n) job sections ≡ visited n job sections ++ c ∷ []
  pub lacks : lacks_block sections c ≡ true
  pub needed : may_lack allowed job.roots c ≡ false
  pub first : MayLack job allowed sections (visited n job sections)

-- a link isn't passed, since its block is missing and may not be
pub record IsStopped (job : JobMeaning) (allowed : AllowMissing) (sections : Blocks) (f : PendingLink) (old : Traversal) (c : List ℕ) : Type 0 where
  pub named : c ≡ f.cid
  pub needed : IsNeeded old.visits job allowed sections c

-- one more visit was made, of this link
pub record IsPassed (job : JobMeaning) (allowed : AllowMissing) (sections : Blocks) (f : PendingLink) (old new : Traversal) : Type 0 where
  pub one : new.visits ≡ old.visits + 1
  pub passing : IsPassing job allowed sections new
  pub last : visited new.visits job sections ≡ visited old.visits job sections ++ f.cid ∷ []

-- a traversal went on to the first visit of a CID, which is that of this link
pub record IsFound (job : JobMeaning) (allowed : AllowMissing) (sections : Blocks) (c : List ℕ) (f : PendingLink) (old new : Traversal) : Type 0 where
  pub later : old.visits ≤ new.visits
  pub few : new.visits + 1 < 2 ^ 32
  pub before : IsBefore job allowed sections f new
  pub named : f.cid ≡ c
  pub first : Contains (visited new.visits job sections) c → ⊥

-- it didn't come to a visit of the CID, for this reason
abbrev pub IsNotFound : JobMeaning → AllowMissing → Blocks → List ℕ → ReceiveFault → Type 0
IsNotFound job allowed sections c (Unsound v) = ⊥
IsNotFound job allowed sections c InBase = ⊥
IsNotFound job allowed sections c Repeated = ⊥
IsNotFound job allowed sections c OutOfOrder = ⊥
IsNotFound job allowed sections c NotAskedFor =
    (is_over_limit sections (once job) ≡ false) × (Contains (cids_of (arrivals_of sections (once job))) c → ⊥)
IsNotFound job allowed sections c (Missing d) =
    (n : ℕ) × IsNeeded n job allowed sections d × (Contains (visited (suc n) job sections) c → ⊥)
IsNotFound job allowed sections c (Root d v) = ⊥
IsNotFound job allowed sections c Limit =
    (is_over_limit sections (once job) ≡ true) × (Contains (visited job.limit job sections) c → ⊥)
IsNotFound job allowed sections c Ended = ⊥
IsNotFound job allowed sections c Memory = Unit {0}

-- a traversal has made all visits
pub record IsAtEnd (job : JobMeaning) (allowed : AllowMissing) (sections : Blocks) (old new : Traversal) : Type 0 where
  pub later : old.visits ≤ new.visits
  pub passing : IsPassing job allowed sections new
  pub ends : links_of job.selector new ≡ []

-- it didn't come to its end, for this reason
abbrev pub IsNotAtEnd : JobMeaning → AllowMissing → Blocks → ReceiveFault → Type 0
IsNotAtEnd job allowed sections (Unsound v) = ⊥
IsNotAtEnd job allowed sections InBase = ⊥
IsNotAtEnd job allowed sections Repeated = ⊥
IsNotAtEnd job allowed sections OutOfOrder = ⊥
IsNotAtEnd job allowed sections NotAskedFor = ⊥
IsNotAtEnd job allowed sections (Missing d) = (n : ℕ) × IsNeeded n job allowed sections d
IsNotAtEnd job allowed sections (Root d v) = ⊥
IsNotAtEnd job allowed sections Limit = is_over_limit sections (once job) ≡ true
IsNotAtEnd job allowed sections Ended = ⊥
IsNotAtEnd job allowed sections Memory = Unit {0}
