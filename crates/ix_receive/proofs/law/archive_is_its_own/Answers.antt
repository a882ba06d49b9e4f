use Rattle.std.proofs.Common.{◌≡◌, Bool, true, false, refl, sym, ap, ◌∙◌, subst}
use Rattle.std.specs.Prelude.{None}
use Rattle.ix_walk.specs.JobMeaning.{JobMeaning, going_in}
use Rattle.ix_walk.specs.Visits.{is_over_limit}
use Rattle.ix_car.specs.Archive.{archive_of}
use Rattle.ix_car.specs.Laws.{once, every_time}
use Rattle.ix_car.proofs.Restored.{pairs-bytes}
use Rattle.ix_receive.specs.Own.{archive_pairs, IsItsOwn, archive_bytes}
use Rattle.ix_receive.proofs.Again.{own-again}
use Rattle.ix_receive.proofs.law.archive_is_its_own.Goals as goal

pub returns-clause-own : goal.returns-clause-own
returns-clause-own c store number job is within = by job.once refl where
  own : is_over_limit store (once job) ≡ false → archive_of store number job ≡ archive_of store number (once job) → IsItsOwn number (once job) (archive_of store number job)
  own short same = (archive_pairs store number (once job), same ∙ pairs-bytes None store number (once job), own-again store number job short)

  by : (b : Bool) → job.once ≡ b → IsItsOwn number (once job) (archive_of store number job)
  by true e =
      let same : job ≡ once job = ap (λ b. going_in b job) e in
      own (subst (λ (j : JobMeaning). is_over_limit store j ≡ false) same within) (ap (archive_of store number) same)
  by false e =
      let same : job ≡ every_time job = ap (λ b. going_in b job) e in
      let short : is_over_limit store (every_time job) ≡ false = subst (λ (j : JobMeaning). is_over_limit store j ≡ false) same within in
      own (c.going_in_once_writes_the_same.ensures.limit store job short)
      (ap (archive_of store number) same ∙ sym (c.going_in_once_writes_the_same.ensures.whole store number job is short))

pub returns-clause-bytes : goal.returns-clause-bytes
returns-clause-bytes c number job sections own = pairs-bytes None sections number job ∙ ap (archive_bytes job.roots) own.same
