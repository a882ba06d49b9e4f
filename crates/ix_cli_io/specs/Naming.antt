-- Jobs that found nothing but their roots, and the notes on renamed outputs.
use Rattle.std.specs.Prelude.{◌≡◌, Bool, true, false, not, ◌&&◌, ◌==◌, List, length, String, Option, None, Some, Result, Ok, Err, IfErr}
use Rattle.std.specs.List.{filter}
use Rattle.std.specs.Global.{Global}
use Rattle.ix_car.specs.declared.archive.Skip.{Skip}
use Rattle.ix_car.specs.declared.sink.End.{End}
use Rattle.ix_car.specs.declared.sink.End.TheVariants as ends
use Rattle.ix_walk.specs.JobMeaning.{JobMeaning}
use Rattle.ix_verdict.specs.declared.allow_missing.AllowMissing.{AllowMissing}
use Rattle.ix_jobs.specs.declared.results.JobResult.{JobResult}
use Rattle.ix_jobs.specs.Missing.{is_absent}
use Rattle.ix_run.specs.Complete.{is_complete}
use Rattle.ix_run.specs.declared.fault.RunFault.TheVariants.{Memory}
use Rattle.ix_cli_io.specs.declared.fault.Failure.{Failure}
use Rattle.ix_cli_io.specs.declared.fault.Failure.TheVariants.{Fault}
use Rattle.ix_cli_io.specs.declared.naming.Naming.{Naming}
use Rattle.ix_cli_io.specs.declared.naming.NamingRule.{NamingRule}
use Rattle.ix_cli_io.specs.declared.naming.Naming.TheVariants.{Ended, Complete, Whole}
use Rattle.ix_cli_io.specs.declared.output.Published.{Published}

-- the job is complete, and each of its visits is one of a root
abbrev pub met_roots_alone : JobMeaning → JobResult → Bool
met_roots_alone job told = is_complete job told && (told.counts.visits == length job.roots)

-- the job is done, and nothing was skipped
abbrev pub is_whole : JobMeaning → JobResult → Bool
is_whole job told = is_complete job told && (length told.skips.items == 0)

-- the job ended with done or limit
abbrev pub has_ended : End → Bool
has_ended ends.Done = true
has_ended ends.Limit = true
has_ended other = false

-- the archive of the job is renamed
abbrev pub is_named_by : Naming → JobMeaning → JobResult → Bool
is_named_by Ended job told = has_ended told.end
is_named_by Complete job told = is_complete job told
is_named_by Whole job told = is_whole job told

-- a skip that counts: all do, but for those of blocks that may be missing
abbrev pub counts : Option AllowMissing → JobMeaning → Skip → Bool
counts None job skip = true
counts (Some which) job skip = not (is_absent which job skip)

-- the decision at the close of a job, by its end and its skips, is that over its result, which has the skips that count
abbrev pub NamesAsReported : NamingRule → JobMeaning → End → List Skip → Bool → Type 0
NamesAsReported rule job end skips answer = (told : JobResult) → told.end ≡ end → told.skips.items ≡ filter (counts rule.allowed job) skips → answer ≡ is_named_by rule.naming job told

-- the archive of the job has all that was asked for
abbrev pub has_all_asked : Naming → JobMeaning → JobResult → Bool
has_all_asked Ended job told = is_complete job told
has_all_asked Complete job told = is_complete job told
has_all_asked Whole job told = is_whole job told

-- the first failure is kept; without one, only memory can run out
abbrev pub Joins : Result (String Global) Failure → Result Published Failure → Result (String Global) Failure → Type 0
Joins (Err failure) _ both = both ≡ Err failure
Joins (Ok _) (Err failure) both = both ≡ Err failure
Joins (Ok _) (Ok _) both = IfErr both (λ failure. failure ≡ Fault Memory)
