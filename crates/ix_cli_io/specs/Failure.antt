-- The failures of the program, for errors of the library, of files and of the arguments.
use Rattle.std.specs.Prelude.{◌≡◌, ◌≢◌, ℕ, ◌≤◌, List, ◌++◌, length, map, String, ◌⊎◌, string_bytes, codes, Contains}
use Rattle.std.specs.Prelude.{Option, IfSome, Result, Ok, Err, IfOk, IfErr}
use Rattle.std.specs.Global.{Global, Vec}
use Rattle.std.specs.IoError.{error_kind}
use Rattle.std.specs.declared.io.Error as io
use Rattle.std.specs.declared.io.ErrorKind.TheVariants as kinds
use Rattle.clap.specs.Values.{kind_of}
use Rattle.clap.specs.declared.error.Error.{Error}
use Rattle.clap.specs.declared.error.kind.ErrorKind.TheVariants.{OutOfMemory, DisplayHelp, DisplayVersion}
use Rattle.ix_walk.specs.JobMeaning.{JobMeaning}
use Rattle.ix_run.specs.FaultLine as run_lines
use Rattle.ix_jobs.specs.ListFaultLine as list_lines
use Rattle.ix_selector_json.specs.FaultWords as selector_lines
use Rattle.ix_cli_io.specs.declared.fault.Failure.{Failure}
use Rattle.ix_cli_io.specs.declared.fault.Failure.TheVariants.{Usage, Words, Fault, Explained, InFile, Known, Selector, CannotRead, TooLarge, CannotWrite, OutOfMemory, Stopped}
use Rattle.ix_run.specs.declared.fault.RunFault.TheVariants.{Memory}

-- an error on a file that says that memory ran out
abbrev pub WantsMemory : io.Error → Type 0
WantsMemory error = error_kind error ≡ kinds.OutOfMemory

-- clap's error is reported as it is, unless memory ran out
pub record IsUsageOf (error : Error) (failure : Failure) : Type 0 where
  pub memory : kind_of error ≡ OutOfMemory → failure ≡ Fault Memory
  pub usage : kind_of error ≢ OutOfMemory → failure ≡ Usage error

-- the failure for arguments that can't be read: one isn't UTF-8, unless memory ran out
pub record IsWordsOf (wants_memory : Type 0) (argument : String Global) (failure : Failure) : Type 0 where
  pub memory : wants_memory → failure ≡ Fault Memory
  pub words : (wants_memory → ⊥) → failure ≡ Words argument

-- the failure names this path, with some cause
pub record NamesPath (told : String Global → io.Error → Failure) (path : List ℕ) (failure : Failure) : Type 0 where
  pub name : String Global
  pub cause : io.Error
  pub named : string_bytes name ≡ path
  pub told_is : failure ≡ told name cause

-- a failure that names a path, or memory ran out
abbrev pub Names : (String Global → io.Error → Failure) → List ℕ → Failure → Type 0
Names told path failure = (failure ≡ Fault Memory) ⊎ NamesPath told path failure

-- the same for an error on a file, which is its cause, unless memory ran out
pub record NamesFile (told : String Global → io.Error → Failure) (path : List ℕ) (error : io.Error) (failure : Failure) : Type 0 where
  pub names : Names told path failure
  pub memory : WantsMemory error → failure ≡ Fault Memory
  pub caused : (name : String Global) (cause : io.Error) → failure ≡ told name cause → cause ≡ error

-- the failure names this path as that of an input that is too large, or memory ran out
pub record NamesLarge (path : List ℕ) (failure : Failure) : Type 0 where
  pub name : String Global
  pub cause : String Global
  pub named : string_bytes name ≡ path
  pub told_is : failure ≡ TooLarge name cause

abbrev pub IsTooLarge : List ℕ → Failure → Type 0
IsTooLarge path failure = (failure ≡ Fault Memory) ⊎ NamesLarge path failure

-- memory ran out
abbrev pub IsNoMemory : Failure → Type 0
IsNoMemory (Fault Memory) = Unit {0}
IsNoMemory (OutOfMemory cause) = Unit {0}
IsNoMemory other = ⊥

-- the same failure, which says at what it was if memory ran out
abbrev pub IsAt : Failure → Failure → Type 0
IsAt (Fault Memory) at = IsNoMemory at
IsAt failure at = at ≡ failure

-- an input at this path can't be read or is too large, or memory ran out
abbrev pub IsInputFailure : List ℕ → Failure → Type 0
IsInputFailure path failure = Names CannotRead path failure ⊎ IsTooLarge path failure

-- what is read from this path has at most so many bytes, or else it is rejected
abbrev pub IsRead : ℕ → List ℕ → Result (Vec ℕ) Failure → Type 0
IsRead most path (Ok input) = length input.items ≤ most
IsRead most path (Err failure) = IsInputFailure path failure

-- the same for what a reader gives: all that it has, if that is known
pub record IsReadFrom (known : Option (List ℕ)) (most : ℕ) (path : List ℕ) (result : Result (Vec ℕ) Failure) : Type 0 where
  pub whole : IfOk result (λ input. IfSome known (λ bytes. input.items ≡ bytes))
  pub read : IsRead most path result

-- the path of the output of a job of this name
abbrev pub output_path : List ℕ → List ℕ → List ℕ
output_path folder name = folder ++ (codes "/" ++ (name ++ codes ".car"))

-- the paths of the outputs of jobs
abbrev pub paths_of : List ℕ → List JobMeaning → List (List ℕ)
paths_of folder jobs = map (λ job. output_path folder job.name) jobs

-- the failure names an output of one of these paths, or memory ran out
pub record NamesOutput (paths : List (List ℕ)) (failure : Failure) : Type 0 where
  pub path : List ℕ
  pub among : Contains paths path
  pub names : Names CannotWrite path failure

-- an output of this path can't be created, or memory ran out
abbrev pub IsPathFailure : List ℕ → Failure → Type 0
IsPathFailure path failure = Names CannotWrite path failure

-- the same for the output of a job
abbrev pub IsFailureOf : List ℕ → JobMeaning → Failure → Type 0
IsFailureOf folder job failure = IsPathFailure (output_path folder job.name) failure

-- the same for an output of one of these paths
abbrev pub IsOutputFailure : List (List ℕ) → Failure → Type 0
IsOutputFailure paths failure = (failure ≡ Fault Memory) ⊎ NamesOutput paths failure

-- the output of this path is rejected
abbrev pub RefusesPath : {A : Type 0} → List ℕ → Result A Failure → Type 0
RefusesPath path result = IfErr result (IsPathFailure path)

-- the output of this job
abbrev pub RefusesOutputOf : {A : Type 0} → List ℕ → JobMeaning → Result A Failure → Type 0
RefusesOutputOf folder job result = IfErr result (IsFailureOf folder job)

-- the output of one of these paths
abbrev pub RefusesOutputs : {A : Type 0} → List (List ℕ) → Result A Failure → Type 0
RefusesOutputs paths result = IfErr result (IsOutputFailure paths)

-- the line that is printed for a failure; a usage error has clap's text instead
abbrev pub IsLineOf : Failure → List ℕ → Type 0
IsLineOf (Usage error) line = Unit {0}
IsLineOf (Words argument) line = line ≡ codes "error: an argument is not UTF-8: " ++ string_bytes argument
IsLineOf (Fault fault) line = line ≡ run_lines.line_of fault
IsLineOf (Explained fault name cause) line = line ≡ run_lines.line_of fault
IsLineOf (InFile fault name cause) line = line ≡ run_lines.line_of fault ++ (codes " in " ++ string_bytes name)
IsLineOf (Known fault cause) line = line ≡ list_lines.line_of fault
IsLineOf (Selector fault) line = line ≡ selector_lines.line_of fault
IsLineOf (CannotRead name cause) line = line ≡ codes "cannot read " ++ string_bytes name
IsLineOf (TooLarge name cause) line = line ≡ codes "too large " ++ string_bytes name
IsLineOf (CannotWrite name cause) line = line ≡ codes "cannot write " ++ string_bytes name
IsLineOf (OutOfMemory cause) line = line ≡ codes "memory"
IsLineOf (Stopped stop) line = line ≡ string_bytes stop.line

-- the exit status: 2, or that of what stopped the command
abbrev pub status_of : Failure → ℕ
status_of (Stopped stop) = stop.status
status_of failure = 2

-- this text is neither a help nor a version: it is an error
abbrev pub IsMistake : Error → Type 0
IsMistake error = (kind_of error ≢ DisplayHelp) × (kind_of error ≢ DisplayVersion)
