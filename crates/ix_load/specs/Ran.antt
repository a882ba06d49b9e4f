-- What a run reports.
use Rattle.std.specs.Prelude.{◌≡◌, ℕ, List, Option}
use Rattle.ix_store.specs.Store.{Blocks}
use Rattle.ix_walk.specs.JobMeaning.{JobMeaning}
use Rattle.ix_car.specs.Archive.{Known}
use Rattle.ix_run.specs.declared.execution.RunOut.{RunOut}
use Rattle.ix_run.specs.Run.{HasRun}
use Rattle.ix_cli_io.specs.declared.archive_buffers.ArchiveWriter.{ArchiveWriter}
use Rattle.ix_load.specs.declared.threads.RunReport.{RunReport}

-- the jobs were run over these blocks, without the sections of known CIDs, and this is what the run left
pub record HasReported {W : Type 0} (told : W → Option (List ℕ)) (known : Known) (store : Blocks) (jobs : List JobMeaning) (before : List W) (ran : RunReport) : Type 0 where
  pub out : RunOut W
  pub has_run : HasRun told known store jobs before out
  pub report : ran.report.items ≡ out.report.items
  pub status : ran.status ≡ out.status
  pub results : ran.results.items ≡ out.results.items

-- the same of a run to files, of whose bytes nothing is known
pub record HasReportedToFiles (known : Known) (store : Blocks) (jobs : List JobMeaning) (ran : RunReport) : Type 0 where
  pub told : ArchiveWriter → Option (List ℕ)
  pub before : List ArchiveWriter
  pub reported : HasReported told known store jobs before ran
