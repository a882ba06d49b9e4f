-- A receiver as contracts see it, and what it says of a section and of the end of an archive.
use Rattle.std.specs.Prelude.{◌≡◌, ℕ, suc, ◌<◌, ◌≤◌, Bool, true, false, List, [], ◌∷◌, ◌++◌, length, Some, refl}
use Rattle.std.specs.List.{Contains, count_by}
use Rattle.std.specs.Coded.{Coded, code_by, coded×, coded_ℕ, coded_bool, coded_list}
use Rattle.ix_verdict.specs.Verdict.{verdict_with, is_sound}
use Rattle.ix_store.specs.Store.{Blocks, has_cid}
use Rattle.ix_walk.specs.JobMeaning.{JobMeaning, coded_job}
use Rattle.ix_walk.specs.Once.{cids_of}
use Rattle.ix_walk.specs.Visits.{arrivals_of, is_over_limit}
use Rattle.ix_car.specs.Laws.{once}
use Rattle.ix_verdict.specs.declared.allow_missing.AllowMissing.{AllowMissing}
use Rattle.ix_receive.specs.declared.fault.ReceiveFault.{ReceiveFault}
use Rattle.ix_receive.specs.declared.fault.ReceiveFault.TheVariants.{Unsound, InBase, Repeated, OutOfOrder, NotAskedFor, Missing, Root, Limit, Ended, Memory}
use Rattle.ix_receive.specs.declared.counts.Counts.{Counts}
use Rattle.ix_receive.specs.Own.{AreTheirOwnWith}
use Rattle.ix_receive.specs.Receiving.{AreReceived, IsNextSection}
use Rattle.ix_receive.specs.Missing.{lacks_block, is_unread}
use Rattle.ix_receive.specs.Roots.{RootsPass, IsRootWith}
use Rattle.ix_receive.specs.Traversal.{visited}
use Rattle.ix_receive.specs.Passing.{MayLack, IsPassing, IsNeeded}
use Rattle.ix_receive.specs.declared.traversal.Traversal.{Traversal}

-- a receiver: its base, the job, which blocks may be missing, the sections received, after how many visits, and whether it has ended
pub record Reception : Type 0 where
  pub base : Blocks
  pub job : JobMeaning
  pub allowed : AllowMissing
  pub sections : Blocks
  pub visits : ℕ
  pub ended : Bool

abbrev pub coded_blocks : Coded Blocks
coded_blocks = coded_list (coded× (coded_list coded_ℕ) (coded_list coded_ℕ))

abbrev pub coded_reception : Coded Reception
coded_reception =
    code_by (JobMeaning × ((Bool × Bool) × ((Blocks × Blocks) × (ℕ × Bool)))) (coded× coded_job (coded× (coded× coded_bool coded_bool) (coded× (coded× coded_blocks coded_blocks) (coded× coded_ℕ coded_bool))))
    (λ r. (r.job, ((r.allowed.raw, r.allowed.dag_cbor), ((r.base, r.sections), (r.visits, r.ended)))))
    (λ p. record { base = p.1.1.0.0; job = p.0; allowed = record { raw = p.1.0.0; dag_cbor = p.1.0.1 }; sections = p.1.1.0.1; visits = p.1.1.1.0; ended = p.1.1.1.1 }) (λ _. refl)

-- a receiver with a base of an archive of this job, with these sections
abbrev pub reception_with : Blocks → JobMeaning → AllowMissing → Blocks → ℕ → Bool → Reception
reception_with base job allowed sections visits ended =
    record { base = base; job = job; allowed = allowed; sections = sections; visits = visits; ended = ended }

-- nothing was received
abbrev pub nothing_received_with : Blocks → JobMeaning → AllowMissing → Reception
nothing_received_with base job allowed = reception_with base job allowed [] 0 false

-- by a receiver with no base
abbrev pub nothing_received : JobMeaning → AllowMissing → Reception
nothing_received = nothing_received_with []

-- the blocks that a receiver has: those of its base, and the sections received
abbrev pub all_blocks : Reception → Blocks
all_blocks r = r.base ++ r.sections

-- what a receiver keeps: its sections were received after the visits of its traversal, and after no fewer
pub record IsReceiving (base : Blocks) (job : JobMeaning) (allowed : AllowMissing) (sections : Blocks) (t : Traversal) : Type 0 where
  pub received : AreReceived base t.visits job sections
  pub least : (m : ℕ) → AreReceived base m job sections → t.visits ≤ m
  pub passing : IsPassing job allowed (base ++ sections) t

-- After so many visits a section may be next: they are within the limit, no fewer than before, and lead only to blocks that are here
-- or may be missing.
pub record MayBeNext (base : Blocks) (job : JobMeaning) (allowed : AllowMissing) (sections : Blocks) (visits : ℕ) (p : List ℕ × List ℕ) (n : ℕ) : Type 0 where
  pub later : visits ≤ n
  pub within : n < job.limit
  pub next : IsNextSection base n job sections p
  pub may : MayLack job allowed (base ++ sections) (visited n job (base ++ sections))

-- it was received, by what a receiver keeps before and after
pub record IsReceived (job : JobMeaning) (allowed : AllowMissing) (old : Blocks × Blocks) (visits : ℕ) (p : List ℕ × List ℕ) (new : Blocks × Blocks) (t : Traversal) : Type 0 where
  pub place : ℕ
  pub next : MayBeNext old.0 job allowed old.1 visits p place
  pub base : new.0 ≡ old.0
  pub added : new.1 ≡ old.1 ++ p ∷ []
  pub visits_now : t.visits ≡ suc place
  pub receiving : IsReceiving new.0 job allowed new.1 t

-- a section was received: it is next after some visits, and the last one that is received after its own
pub record Receives (old : Reception) (p : List ℕ × List ℕ) (new : Reception) : Type 0 where
  pub place : ℕ
  pub next : MayBeNext old.base old.job old.allowed old.sections old.visits p place
  pub received : AreReceived old.base (suc place) old.job (old.sections ++ p ∷ [])
  pub after : new ≡ reception_with old.base old.job old.allowed (old.sections ++ p ∷ []) (suc place) false

-- why a section is refused
abbrev pub IsRefused : Reception → List ℕ × List ℕ → ReceiveFault → Type 0
IsRefused r p (Unsound v) = (v ≡ verdict_with p.0 (Some p.1)) × (is_sound v ≡ false)
IsRefused r p InBase = has_cid r.base p.0 ≡ true
IsRefused r p Repeated = has_cid r.sections p.0 ≡ true
IsRefused r p OutOfOrder = (has_cid (all_blocks r) p.0 ≡ false) × Contains (visited r.visits r.job (all_blocks r)) p.0
IsRefused r p NotAskedFor =
    (is_over_limit (all_blocks r) (once r.job) ≡ false) × (Contains (cids_of (arrivals_of (all_blocks r) (once r.job))) p.0 → ⊥)
IsRefused r p (Missing c) =
    (n : ℕ) × IsNeeded n r.job r.allowed (all_blocks r) c × (Contains (visited (suc n) r.job (all_blocks r)) p.0 → ⊥)
IsRefused r p (Root c v) = ⊥
IsRefused r p Limit =
    (is_over_limit (all_blocks r) (once r.job) ≡ true) × (Contains (visited r.job.limit r.job (all_blocks r)) p.0 → ⊥)
IsRefused r p Ended = r.ended ≡ true
IsRefused r p Memory = Unit {0}

-- no sections that are their own begin with those received and this one
abbrev pub BeginsNoOwn : Reception → List ℕ × List ℕ → Type 0
BeginsNoOwn r p = (number : ℕ) (after : Blocks) → AreTheirOwnWith r.base number (once r.job) (r.sections ++ p ∷ after) → ⊥

-- a section may be next nowhere
abbrev pub IsNowhereNext : Reception → List ℕ × List ℕ → Type 0
IsNowhereNext r p = (n : ℕ) → MayBeNext r.base r.job r.allowed r.sections r.visits p n → ⊥

-- the archive can't go on with a section: it may be next nowhere, and no archive that is its own begins so
pub record CantGoOn (r : Reception) (p : List ℕ × List ℕ) : Type 0 where
  pub next : IsNowhereNext r p
  pub own : BeginsNoOwn r p

-- A section is refused only where the archive can't go on with it, or only if a block were missing that may not be, by a receiver
-- that has ended, or out of memory.
abbrev pub IsRightlyRefused : Reception → List ℕ × List ℕ → ReceiveFault → Type 0
IsRightlyRefused r p (Unsound v) = CantGoOn r p
IsRightlyRefused r p InBase = CantGoOn r p
IsRightlyRefused r p Repeated = CantGoOn r p
IsRightlyRefused r p OutOfOrder = CantGoOn r p
IsRightlyRefused r p NotAskedFor = CantGoOn r p
IsRightlyRefused r p (Missing c) = IsNowhereNext r p
IsRightlyRefused r p (Root c v) = ⊥
IsRightlyRefused r p Limit = CantGoOn r p
IsRightlyRefused r p Ended = Unit {0}
IsRightlyRefused r p Memory = Unit {0}

-- The sections are their own archive with the base, each root is sound or inline, and no visit leads to a block that is missing and may
-- not be. The counts are those of the visits over them.
pub record IsWhole (r : Reception) (counts : Counts) : Type 0 where
  pub own : (number : ℕ) → AreTheirOwnWith r.base number (once r.job) r.sections
  pub may : MayLack r.job r.allowed (all_blocks r) (cids_of (arrivals_of (all_blocks r) (once r.job)))
  pub roots : RootsPass (all_blocks r) r.job.roots
  pub visits : counts.visits ≡ length (arrivals_of (all_blocks r) (once r.job))
  pub missing : counts.missing ≡ count_by (lacks_block (all_blocks r)) (cids_of (arrivals_of (all_blocks r) (once r.job)))
  pub unread : counts.unread ≡ count_by (is_unread (all_blocks r)) (cids_of (arrivals_of (all_blocks r) (once r.job)))

-- why the end of an archive is refused
abbrev pub IsUnfinished : Reception → ReceiveFault → Type 0
IsUnfinished r (Unsound v) = ⊥
IsUnfinished r InBase = ⊥
IsUnfinished r Repeated = ⊥
IsUnfinished r OutOfOrder = ⊥
IsUnfinished r NotAskedFor = ⊥
IsUnfinished r (Missing c) = (n : ℕ) × IsNeeded n r.job r.allowed (all_blocks r) c
IsUnfinished r (Root c v) = IsRootWith (all_blocks r) r.job.roots c v
IsUnfinished r Limit = is_over_limit (all_blocks r) (once r.job) ≡ true
IsUnfinished r Ended = r.ended ≡ true
IsUnfinished r Memory = Unit {0}
