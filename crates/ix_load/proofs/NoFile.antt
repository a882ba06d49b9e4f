-- Failures that name no file.
use Rattle.std.proofs.Common.{◌≡◌, ◌∙◌, List, ℕ, true≢false, refl, sym, ap}
use Rattle.std.specs.Prelude.{Option, Some}
use Rattle.std.specs.Option.{is_some}
use Rattle.ix_run.specs.declared.fault.RunFault.{RunFault}
use Rattle.ix_cli_io.specs.declared.fault.Failure.{Failure}
use Rattle.ix_cli_io.specs.declared.fault.Failure.TheVariants.{Fault, OutOfMemory}
use Rattle.ix_cli_io.specs.Failure.{IsNoMemory}
use Rattle.ix_load.specs.Refusals.{NamesNone, file_error}

-- one of memory that ran out
no-memory-names-none : (failure : Failure) → IsNoMemory failure → NamesNone failure
no-memory-names-none (Fault fault) h = refl
no-memory-names-none (OutOfMemory cause) h = refl
no-memory-names-none other h = elim h [ ]

-- so none that has an error of a file
pub no-file-of-memory : (failure : Failure) (error : RunFault × List ℕ) → IsNoMemory failure → file_error failure ≡ Some error → ⊥
no-file-of-memory failure error h is = true≢false (ap (λ (o : Option (RunFault × List ℕ)). is_some o) (sym is ∙ no-memory-names-none failure h))
