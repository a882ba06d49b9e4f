-- What an export of one job leaves.
use Rattle.std.specs.Prelude.{◌≡◌, ℕ, [], ◌∷◌, Some}
use Rattle.std.specs.Global.{Vec}
use Rattle.ix_store.specs.Store.{Blocks}
use Rattle.ix_walk.specs.JobMeaning.{JobMeaning}
use Rattle.ix_car.specs.declared.sink.End.TheVariants.{Done}
use Rattle.ix_car.specs.Archive.{Known, difference_of}
use Rattle.ix_car.specs.Archived.{IsBeginning}
use Rattle.ix_jobs.specs.declared.results.JobResult.{JobResult}
use Rattle.ix_jobs.specs.Report.{report_of}
use Rattle.ix_run.specs.Run.{IsRun}
use Rattle.ix_api.specs.declared.exported.Exported.{Exported}

-- the result of a job that runs alone without the sections of known CIDs, and what was written to memory, from nothing on
abbrev pub IsRunOfOne : Known → Blocks → JobMeaning → JobResult → Vec ℕ → Type 0
IsRunOfOne known store job result archive =
    (empty : Vec ℕ) × (empty.items ≡ []) × IsRun (λ v. Some v.items) known store 0 job empty result archive

-- the same with the report of a run of the job alone
abbrev pub HasExported : Known → Blocks → JobMeaning → Exported → Type 0
HasExported known store job out =
    IsRunOfOne known store job out.result out.archive × (out.report.items ≡ report_of (job ∷ []) (out.result ∷ []))

-- where the job is done, the archive is that of the job without those sections
abbrev pub IsWholeAtDone : Known → Blocks → JobMeaning → Exported → Type 0
IsWholeAtDone known store job out = out.result.end ≡ Done → out.archive.items ≡ difference_of known store 0 job

-- however it ended, the archive is a prefix of that
abbrev pub IsBegun : Known → Blocks → JobMeaning → Exported → Type 0
IsBegun known store job out = IsBeginning out.archive.items (difference_of known store 0 job)
