-- Laws of archives that are checked.
use Rattle.std.specs.Prelude.{◌≡◌, ℕ, ◌<◌, ◌^◌, true, false, List, length}
use Rattle.ix_selector.specs.Pattern.{IsSelector}
use Rattle.ix_store.specs.Store.{Blocks}
use Rattle.ix_walk.specs.JobMeaning.{JobMeaning}
use Rattle.ix_walk.specs.Visits.{is_over_limit}
use Rattle.ix_car.specs.Archive.{archive_of}
use Rattle.ix_own_archive.specs.declared.fault.ArchiveReason.{ArchiveReason}
use Rattle.ix_own_archive.specs.declared.fault.ArchiveReason.TheVariants.{Header, OtherHeader, Section, Refused, Unfinished, Memory}
use Rattle.ix_own_archive.specs.Checking.{leaves_open, IsRightlyNot}
use Rattle.ix_own_archive.specs.Streaming.{Stream, taken_of, IsGoing}

-- the reason leaves open whether an archive is its own: a block is missing that may not be, a root can't be exported, or memory ran out
abbrev pub LeavesOpen : ArchiveReason → Type 0
LeavesOpen (Header kind) = ⊥
LeavesOpen OtherHeader = ⊥
LeavesOpen (Section kind) = ⊥
LeavesOpen (Refused c fault) = leaves_open fault ≡ true
LeavesOpen (Unfinished fault) = leaves_open fault ≡ true
LeavesOpen Memory = Unit {0}

-- the archive of a job within its limit is rightly refused for no other reason
abbrev pub ExportedIsNotRefused : Type 0
ExportedIsNotRefused =
    (store : Blocks) (number : ℕ) (job : JobMeaning) (reason : ArchiveReason) → IsSelector job.selector → is_over_limit store job ≡ false
    → IsRightlyNot job (archive_of store number job) reason → LeavesOpen reason

-- two streams have the same checked bytes, the same rest, and the same number of sections
pub record AreTheSame (c d x y : List ℕ) (m n : ℕ) : Type 0 where
  pub checked : c ≡ d
  pub rest : x ≡ y
  pub sections : m ≡ n

-- a stream that goes on is the same however it was cut into pieces: what is checked of it depends on its bytes alone
abbrev pub StreamIsOfItsBytes : Type 0
StreamIsOfItsBytes =
    (s t : Stream) → IsGoing s → IsGoing t → s.asked ≡ t.asked → length (taken_of t) < 2 ^ 63 → taken_of s ≡ taken_of t
    → AreTheSame s.checked t.checked s.rest t.rest s.sections t.sections
