-- The fields of a line, one after another.
use Rattle.std.specs.Prelude.{ℕ, List, [], ◌∷◌, ◌==◌, if◌then◌else◌, Result, Ok, Err}
use Rattle.std.specs.List.{slice_split}
use Rattle.ix_jobs.specs.declared.fault.JobErrorKind.{JobErrorKind}
use Rattle.ix_jobs.specs.declared.fault.JobErrorKind.TheVariants.{Fields}
use Rattle.ix_jobs.specs.Jobs.{is_empty}

-- the pieces of a text between spaces
abbrev pub pieces : List ℕ → List (List ℕ)
pieces text = slice_split (λ b. b == 32) text

-- a field that isn't empty, and the pieces after it, of which there is one at least
abbrev pub first_field : List (List ℕ) → Result (List ℕ × List (List ℕ)) JobErrorKind
first_field [] = Err Fields
first_field (a ∷ []) = Err Fields
first_field (a ∷ b ∷ more) = if is_empty a then Err Fields else Ok (a, b ∷ more)

-- the one field that is left
abbrev pub last_field : List (List ℕ) → Result (List ℕ) JobErrorKind
last_field [] = Err Fields
last_field (a ∷ []) = if is_empty a then Err Fields else Ok a
last_field (a ∷ b ∷ more) = Err Fields
