-- Outputs and their paths.
use Rattle.std.specs.Prelude.{◌≡◌, ℕ, List, length, map, Result, IfOk, string_bytes}
use Rattle.std.specs.Global.{Vec}
use Rattle.ix_walk.specs.JobMeaning.{JobMeaning}
use Rattle.ix_cli_io.specs.declared.fault.Failure.{Failure}
use Rattle.ix_cli_io.specs.declared.output.Output.{Output}
use Rattle.ix_cli_io.specs.Failure.{paths_of, RefusesOutputs}

-- the path to which an output is renamed
abbrev pub path_of : Output → List ℕ
path_of output = string_bytes output.path

-- an output is created for each of these jobs, under its path, or that of one of them is rejected
pub record MakesOutputs (folder : List ℕ) (jobs : List JobMeaning) (result : Result (Vec Output) Failure) : Type 0 where
  pub each : IfOk result (λ outputs. length outputs.items ≡ length jobs)
  pub paths : IfOk result (λ outputs. map path_of outputs.items ≡ paths_of folder jobs)
  pub refused : RefusesOutputs (paths_of folder jobs) result
