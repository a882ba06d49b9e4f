-- What is exported isn't refused.
use Rattle.std.proofs.Common.{◌≡◌, ℕ, Bool, true, false, List, refl}
use Rattle.ix_walk.specs.JobMeaning.{JobMeaning}
use Rattle.ix_car.specs.Laws.{once}
use Rattle.ix_receive.specs.Own.{IsItsOwn}
use Rattle.ix_own_archive.specs.declared.fault.ArchiveReason.{ArchiveReason}
use Rattle.ix_own_archive.specs.declared.fault.ArchiveReason.TheVariants.{Header, OtherHeader, Section, Refused, Unfinished, Memory}
use Rattle.ix_own_archive.specs.Checking.{leaves_open, IsRightlyNot}
use Rattle.ix_own_archive.specs.Laws.{LeavesOpen}

-- a test that isn't false
not-false : (t : Bool) → (t ≡ false → ⊥) → t ≡ true
not-false true h = refl
not-false false h = absurd (h refl)

-- an archive that is its own is refused for such a reason alone
pub own-open : (number : ℕ) (job : JobMeaning) (archive : List ℕ) (reason : ArchiveReason) → IsItsOwn number (once job) archive → IsRightlyNot job archive reason → LeavesOpen reason
own-open number job archive (Header kind) own rightly = rightly number own
own-open number job archive OtherHeader own rightly = rightly number own
own-open number job archive (Section kind) own rightly = rightly number own
own-open number job archive (Refused c fault) own rightly = not-false (leaves_open fault) (λ told. rightly told number own)
own-open number job archive (Unfinished fault) own rightly = not-false (leaves_open fault) (λ told. rightly told number own)
own-open number job archive Memory own rightly = tt
