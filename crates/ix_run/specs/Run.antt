-- What a run leaves.
use Rattle.std.specs.Prelude.{◌≡◌, ◌⊎◌, ℕ, ◌+◌, ◌<◌, List, [], ◌∷◌, ◌++◌, length, map, Option, Some, Result, IfOk}
use Rattle.std.specs.Arc.{arc_value}
use Rattle.std.specs.Global.{Global, Vec}
use Rattle.std.specs.declared.sync.Arc.{Arc}
use Rattle.std.specs.Io.KnownBytes.{Keeps}
use Rattle.ix_store.specs.Store.{Blocks}
use Rattle.ix_store.specs.declared.places.PlaceSet.{PlaceSet}
use Rattle.ix_walk.specs.JobMeaning.{JobMeaning, AreFew}
use Rattle.ix_car.specs.declared.sink.Delivery.{Delivery}
use Rattle.ix_car.specs.declared.sink.End.{End}
use Rattle.ix_car.specs.declared.sink.End.TheVariants as ends
use Rattle.ix_car.specs.Events.{delivery, close}
use Rattle.ix_car.specs.Faithful.{IsFaithful}
use Rattle.ix_car.specs.Archive.{Known, known_at, difference_of}
use Rattle.ix_car.specs.ArchiveMeaning.{ArchiveMeaning, known_in, HasArchived, HasWrittenWithout, IsBegun, IsCountOf}
use Rattle.ix_car.specs.Archived.{IsBeginning}
use Rattle.ix_car.specs.Report.{skips_of, counts_of}
use Rattle.ix_jobs.specs.declared.results.JobResult.{JobResult}
use Rattle.ix_jobs.specs.Report.{report_of, status_of}
use Rattle.ix_run.specs.declared.fault.RunFault.{RunFault}
use Rattle.ix_run.specs.declared.fault.RunFault.TheVariants.{Hex, Root, Car, Jobs, Write, Memory}
use Rattle.ix_run.specs.declared.execution.RunOut.{RunOut}

-- a run can be started: there is a writer for each job, and there are at most 1,000
abbrev pub CanRun : {W : Type 0} → List JobMeaning → List W → Type 0
CanRun jobs writers = (length writers ≡ length jobs) × AreFew jobs

-- The end in the report of a job, beside that of its close: the same, or a failed write if the last bytes of a whole archive couldn't be flushed.
abbrev pub IsEndOf : End → End → Type 0
IsEndOf ends.Done told = (told ≡ ends.Done) ⊎ (told ≡ ends.Write)
IsEndOf ends.Limit told = (told ≡ ends.Limit) ⊎ (told ≡ ends.Write)
IsEndOf ends.Memory told = told ≡ ends.Memory
IsEndOf ends.Write told = told ≡ ends.Write
IsEndOf ends.Start told = told ≡ ends.Start

-- The result of the job with this number and the state of its writer, if the writer had no bytes at first. Sections of known CIDs
-- are left out.
pub record IsRun {W : Type 0} (told : W → Option (List ℕ)) (known : Known) (store : Blocks) (number : ℕ) (job : JobMeaning) (before : W) (result : JobResult) (after : W) : Type 0 where
  -- the end of the close, the visits that were delivered with their verdicts, and the failed ones
  pub end : End
  pub delivered : List Delivery
  pub failed : List Delivery
  pub taken : ℕ
  pub faithful : IsFaithful store number job end (record { events = map delivery delivered ++ close end ∷ []; failed = failed })
  pub ended : IsEndOf end result.end
  pub skips : result.skips.items ≡ skips_of delivered
  pub counts : result.counts ≡ counts_of known store delivered taken
  -- the bytes that were counted are those of the writer
  pub counted : told before ≡ Some [] → IsCountOf taken (told after)
  -- the writer has the archive of what was delivered, or after a failed write a part of it
  pub written : told before ≡ Some [] → HasWrittenWithout known (told after) store job.roots delivered failed
  pub whole : told before ≡ Some [] → result.end ≡ ends.Done → told after ≡ Some (difference_of known store number job)
  pub beginning : told before ≡ Some [] → (bytes : List ℕ) → told after ≡ Some bytes → IsBeginning bytes (difference_of known store number job)

module _ {W : Type 0} (told : W → Option (List ℕ)) (known : Known) where
  -- job by job, from a number on
  abbrev pub EachRun : Blocks → ℕ → List JobMeaning → List W → List JobResult → List W → Type 0
  EachRun store n [] [] [] [] = Unit {0}
  EachRun store n (j ∷ js) (b ∷ bs) (r ∷ rs) (a ∷ xs) = IsRun told known store n j b r a × EachRun store (n + 1) js bs rs xs
  EachRun store n js bs rs xs = ⊥

  -- all jobs were run: their results, and their writers
  abbrev pub HaveRun : Blocks → List JobMeaning → List W → Vec JobResult × Vec W → Type 0
  HaveRun store jobs before out = EachRun store 0 jobs before out.0.items out.1.items

  -- an archive for each job and its writer, which has received nothing so far
  abbrev pub EachBegun : Blocks → List JobMeaning → List W → List (ArchiveMeaning W) → Type 0
  EachBegun store [] [] [] = Unit {0}
  EachBegun store (j ∷ js) (w ∷ ws) (a ∷ xs) = (IsBegun a store j.roots × HasArchived told a known store j (told w)) × EachBegun store js ws xs
  EachBegun store js ws xs = ⊥

module _ {W : Type 0} (told : W → Option (List ℕ)) where
  -- the result of an archive, and its writer, which was flushed
  pub record IsEnded (a : ArchiveMeaning W) (end : End) (result : JobResult) (after : W) : Type 0 where
    pub ended : IsEndOf end result.end
    pub skips : result.skips.items ≡ skips_of a.deliveries
    pub counts : result.counts ≡ counts_of (known_in a) a.store a.deliveries a.taken
    pub flushed : Keeps (told a.writer) (told after)

  abbrev pub EachEnded : List (ArchiveMeaning W) → List End → List JobResult → List W → Type 0
  EachEnded [] [] [] [] = Unit {0}
  EachEnded (a ∷ xs) (e ∷ es) (r ∷ rs) (w ∷ ws) = IsEnded a e r w × EachEnded xs es rs ws
  EachEnded xs es rs ws = ⊥

-- the result of a run whose jobs have these results
pub record IsLeftOf {W : Type 0} (jobs : List JobMeaning) (results : List JobResult) (out : RunOut W) : Type 0 where
  pub report : out.report.items ≡ report_of jobs results
  pub status : out.status ≡ status_of results
  -- what is returned of each is what the report says
  pub told_of : out.results.items ≡ results

-- each job was run, and the report and the status are those of the results
pub record HasRun {W : Type 0} (told : W → Option (List ℕ)) (known : Known) (store : Blocks) (jobs : List JobMeaning) (before : List W) (out : RunOut W) : Type 0 where
  pub results : List JobResult
  pub ran : EachRun told known store 0 jobs before results out.writers.items
  pub left : IsLeftOf jobs results out

-- a run that isn't rejected leaves this, without the sections of the blocks at known positions
abbrev pub RunsTo : {W : Type 0} → (W → Option (List ℕ)) → Option PlaceSet → Arc Blocks Global → Arc (Vec JobMeaning) Global → List W → Result (RunOut W) RunFault → Type 0
RunsTo told known store jobs before result = IfOk result (λ out. HasRun told (known_at (arc_value store) known) (arc_value store) (arc_value jobs).items before out)

-- the header of one of the jobs can't be written, or memory ran out
abbrev pub IsRunRefusal : List JobMeaning → RunFault → Type 0
IsRunRefusal jobs (Write number) = number < length jobs
IsRunRefusal jobs Memory = Unit {0}
IsRunRefusal jobs Hex = ⊥
IsRunRefusal jobs (Root fault) = ⊥
IsRunRefusal jobs (Car fault) = ⊥
IsRunRefusal jobs (Jobs fault) = ⊥
