-- Which file a failure names, and with which error.
use Rattle.std.specs.Prelude.{◌≡◌, ℕ, List, map, Option, Some, None, slice_get, string_bytes}
use Rattle.std.specs.Borrow.{Bor}
use Rattle.std.specs.Global.{Vec}
use Rattle.ix_sections.specs.declared.fault.CarFault.{CarFault}
use Rattle.ix_run.specs.declared.fault.RunFault.{RunFault}
use Rattle.ix_run.specs.declared.fault.RunFault.TheVariants.{Car}
use Rattle.ix_cli_io.specs.declared.fault.Failure.{Failure}
use Rattle.ix_cli_io.specs.declared.fault.Failure.TheVariants.{Explained, InFile}
use Rattle.ix_sections.specs.declared.files.fault.FileFault.{FileFault}
use Rattle.ix_sections.specs.declared.files.store.Reading.{Reading}
use Rattle.ix_sections.specs.Files.{IsFirstFault}

-- the paths of files
abbrev pub paths_in : Vec (Bor (List ℕ)) → List (List ℕ)
paths_in paths = map (λ (path : Bor (List ℕ)). path.now) paths.items

-- the error of a file that a failure has, and the file's path
abbrev pub file_error : Failure → Option (RunFault × List ℕ)
file_error (Explained fault path cause) = Some (fault, string_bytes path)
file_error (InFile fault path cause) = Some (fault, string_bytes path)
file_error other = None

-- a failure has no error of a file
abbrev pub NamesNone : Failure → Type 0
NamesNone failure = file_error failure ≡ None

-- an error of a file in a failure is this one, of the file at this path
abbrev pub NamesCarFault : List ℕ → CarFault → Failure → Type 0
NamesCarFault path e failure = (error : RunFault × List ℕ) → file_error failure ≡ Some error → error ≡ (Car e, path)

-- it is this one, of the file of its number
abbrev pub NamesFault : List (List ℕ) → FileFault → Failure → Type 0
NamesFault paths e failure = (error : RunFault × List ℕ) → file_error failure ≡ Some error → (error.0 ≡ Car e.fault) × (slice_get paths e.file ≡ Some error.1)

-- it is the first of the files at these paths, unless memory ran out
abbrev pub NamesFirst : List (List ℕ) → Reading → List (Vec ℕ) → Failure → Type 0
NamesFirst paths reading files failure =
    (error : RunFault × List ℕ) → file_error failure ≡ Some error
    → (e : FileFault) × IsFirstFault reading files e × (error.0 ≡ Car e.fault) × (slice_get paths e.file ≡ Some error.1)
