-- A have-list: the CIDs of its lines, or the first faulty line with the first test that fails.
use Rattle.std.specs.Prelude.{ℕ, ◌+◌, List, [], ◌∷◌, ◌++◌, ◌==◌, if◌then◌else◌, Result, Ok, Err}
use Rattle.std.specs.List.{slice_split}
use Rattle.std.specs.Str.Lines.{strip_carriage_return}
pub use Rattle.ix_cid.specs.Results.{◌>>=◌}
use Rattle.ix_cid.specs.CidText.{cid_of_text}
use Rattle.ix_jobs.specs.Jobs.{is_ignored, is_text}
use Rattle.ix_jobs.specs.declared.list_fault.ListErrorKind.{ListErrorKind}
use Rattle.ix_jobs.specs.declared.list_fault.ListErrorKind.TheVariants.{Text, Cid}

-- the same, with any error reported as this one
abbrev pub or_fault : {A E : Type 0} → ListErrorKind → Result A E → Result A ListErrorKind
or_fault kind (Ok x) = Ok x
or_fault kind (Err e) = Err kind

abbrev pub text_in : List ℕ → Result (List ℕ) ListErrorKind
text_in line = if is_text line then Ok line else Err Text

-- the CIDv1 that a text spells in base32
abbrev pub cid_in : List ℕ → Result (List ℕ) ListErrorKind
cid_in text = or_fault Cid (cid_of_text text)

abbrev pub line_cid : List ℕ → Result (List ℕ) ListErrorKind
line_cid line = text_in line >>= cid_in

-- the CIDs with that of a line, if it is neither empty nor a comment
abbrev pub with_line : List (List ℕ) → List ℕ → Result (List (List ℕ)) ListErrorKind
with_line before line = if is_ignored line then Ok before else line_cid line >>= (λ c. Ok (before ++ c ∷ []))

-- the same of a line as it is in a file, with or without a carriage return at its end
abbrev pub with_file_line : List (List ℕ) → List ℕ → Result (List (List ℕ)) ListErrorKind
with_file_line before line = with_line before (strip_carriage_return line)

-- a fault and its line
abbrev pub at_line : {A : Type 0} → ℕ → Result A ListErrorKind → Result A (ListErrorKind × ℕ)
at_line line (Ok x) = Ok x
at_line line (Err kind) = Err (kind, line)

-- the CIDs of the lines from a number on, after those before
abbrev pub cids_from : ℕ → List (List ℕ) → List (List ℕ) → Result (List (List ℕ)) (ListErrorKind × ℕ)
cids_from line before [] = Ok before
cids_from line before (l ∷ ls) = at_line line (with_file_line before l) >>= (λ cids. cids_from (line + 1) cids ls)

-- the CIDs of a have-list in their order, or the first faulty line
abbrev pub cids_of : List ℕ → Result (List (List ℕ)) (ListErrorKind × ℕ)
cids_of b = cids_from 1 [] (slice_split (λ b. b == 10) b)
