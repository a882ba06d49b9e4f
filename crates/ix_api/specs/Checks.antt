-- What a check of an archive finds.
use Rattle.std.specs.Prelude.{◌≡◌, ℕ, Bool, true, false, List, ◌++◌, Option, None, Some, codes}
use Rattle.std.specs.Fmt.{decimal}
use Rattle.ix_walk.specs.JobMeaning.{JobMeaning}
use Rattle.ix_verdict.specs.declared.allow_missing.AllowMissing.{AllowMissing}
use Rattle.ix_receive.specs.declared.fault.ReceiveFault.{ReceiveFault}
use Rattle.ix_receive.specs.declared.fault.ReceiveFault.TheVariants as received
use Rattle.ix_own_archive.specs.declared.fault.ArchiveFault.{ArchiveFault}
use Rattle.ix_own_archive.specs.declared.fault.ArchiveReason.{ArchiveReason}
use Rattle.ix_own_archive.specs.declared.fault.ArchiveReason.TheVariants.{Refused, Unfinished, Memory}
use Rattle.ix_own_archive.specs.Checking.{IsAccepted, IsJobsOwn, IsFaultAt, IsRightlyNot}
use Rattle.ix_own_archive.specs.FaultWords.{reason_words}
use Rattle.ix_api.specs.declared.checked.Checked.{Checked}
use Rattle.ix_api.specs.declared.checked.Checked.TheVariants.{Own, Rejected}
use Rattle.ix_api.specs.declared.checked.Rejection.{Rejection}

-- memory ran out before an archive was judged
abbrev pub is_memory : ReceiveFault → Bool
is_memory received.Memory = true
is_memory fault = false

abbrev pub ran_out : ArchiveReason → Bool
ran_out (Refused c fault) = is_memory fault
ran_out (Unfinished fault) = is_memory fault
ran_out Memory = true
ran_out reason = false

-- the block that is missing, or the root that can't be exported, or else this section
abbrev pub missing_or : Option (List ℕ) → ReceiveFault → Option (List ℕ)
missing_or section (received.Missing c) = Some c
missing_or section (received.Root c v) = Some c
missing_or section fault = section

-- the block that is missing, or the root that can't be exported, or else the section that is refused, if it is one of these
abbrev pub blamed : ArchiveReason → Option (List ℕ)
blamed (Refused c fault) = missing_or (Some c) fault
blamed (Unfinished fault) = missing_or None fault
blamed reason = None

-- the same of what was judged
abbrev pub IsMissingOr : Option (List ℕ) → ReceiveFault → Option (List ℕ) → Type 0
IsMissingOr section fault cid = (cid ≡ missing_or section fault) × (is_memory fault ≡ false)

abbrev pub IsBlamed : ArchiveReason → Option (List ℕ) → Type 0
IsBlamed reason cid = (cid ≡ blamed reason) × (ran_out reason ≡ false)

-- the line for what is wrong with an archive
abbrev pub line_of : ArchiveFault → List ℕ
line_of fault = codes "archive: " ++ (reason_words fault.reason ++ (codes " at " ++ decimal fault.place))

-- what is said of an archive with this fault
pub record IsRejectedBy (fault : ArchiveFault) (rejection : Rejection) : Type 0 where
  pub place : rejection.place ≡ fault.place
  pub cid : IsBlamed fault.reason rejection.cid
  pub line : rejection.line.items ≡ line_of fault

-- an archive isn't accepted, and why
pub record IsRejected (job : JobMeaning) (allowed : AllowMissing) (archive : List ℕ) (rejection : Rejection) : Type 0 where
  pub fault : ArchiveFault
  pub said : IsRejectedBy fault rejection
  pub found : IsFaultAt job allowed archive fault.place fault.reason
  pub rightly : IsRightlyNot job archive fault.reason

-- the archive is the job's own, with no block missing but those that may be, and these are the counts; or it isn't accepted
abbrev pub IsCheckOf : JobMeaning → AllowMissing → List ℕ → Checked → Type 0
IsCheckOf job allowed archive (Own counts) = IsJobsOwn job archive × IsAccepted job allowed archive counts
IsCheckOf job allowed archive (Rejected rejection) = IsRejected job allowed archive rejection
