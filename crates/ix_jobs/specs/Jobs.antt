-- The job file: its jobs, or the first faulty line with the first test that fails.
use Rattle.std.specs.Prelude.{ℕ, ◌+◌, Bool, true, not, ◌&&◌, List, [], ◌∷◌, ◌++◌, length, nat_le, nat_lt, ◌==◌, if◌then◌else◌, bytes_eq, Result, Ok, Err, false}
use Rattle.std.specs.List.{list_all, list_any, slice_split}
use Rattle.std.specs.Str.{all_ascii_digits}
use Rattle.std.specs.Str.Lines.{strip_carriage_return}
use Rattle.std.specs.Str.Parse.{digits_value}
use Rattle.hex.specs.Hex.{decode_of}
pub use Rattle.ix_cid.specs.Results.{◌>>=◌}
use Rattle.ix_cid.specs.CidText.{cid_of_text}
use Rattle.ix_cbor.specs.Data.{Data}
use Rattle.ix_cbor.specs.Reading.{decoded}
use Rattle.ix_selector.specs.Pattern.{Pattern}
use Rattle.ix_selector.specs.Reading.{selector_of}
use Rattle.ix_walk.specs.JobMeaning.{JobMeaning, is_name}
use Rattle.ix_jobs.specs.declared.fault.JobErrorKind.{JobErrorKind}
use Rattle.ix_jobs.specs.declared.fault.JobErrorKind.TheVariants.{Fields, Name, Root, Limit, Hex, Selector, Repeated, TooMany, Text}

-- the same, with any error reported as this one
abbrev pub or_fault : {A E : Type 0} → JobErrorKind → Result A E → Result A JobErrorKind
or_fault kind (Ok x) = Ok x
or_fault kind (Err e) = Err kind

-- empty or a comment
abbrev pub is_ignored : List ℕ → Bool
is_ignored [] = true
is_ignored (x ∷ xs) = x == 35

abbrev pub is_text : List ℕ → Bool
is_text = list_all (λ b. nat_le 32 b && nat_le b 126)

abbrev pub text_in : List ℕ → Result (List ℕ) JobErrorKind
text_in line = if is_text line then Ok line else Err Text

abbrev pub name_in : List ℕ → Result (List ℕ) JobErrorKind
name_in name = if is_name name then Ok name else Err Name

-- decimal digits without a leading zero, from 1 to the greatest limit
abbrev pub limit_in : ℕ → List ℕ → Result ℕ JobErrorKind
limit_in greatest [] = Err Limit
limit_in greatest (d ∷ ds) =
    if (all_ascii_digits (d ∷ ds) && not (d == 48)) && nat_le (digits_value 10 (d ∷ ds)) greatest then Ok (digits_value 10 (d ∷ ds)) else Err Limit

abbrev pub root_in : List ℕ → Result (List ℕ) JobErrorKind
root_in text = or_fault Root (cid_of_text text)

-- the CIDs of texts, each of a CIDv1
abbrev pub cids_in : List (List ℕ) → Result (List (List ℕ)) JobErrorKind
cids_in [] = Ok []
cids_in (t ∷ ts) = root_in t >>= (λ c. cids_in ts >>= (λ cs. Ok (c ∷ cs)))

-- the texts between commas
abbrev pub root_texts : List ℕ → List (List ℕ)
root_texts text = slice_split (λ b. b == 44) text

-- the CIDs of one to 64 texts with one comma between
abbrev pub roots_in : List ℕ → Result (List (List ℕ)) JobErrorKind
roots_in text = if nat_lt 64 (length (root_texts text)) then Err Root else cids_in (root_texts text)

-- an even number of hex digits, in either case
abbrev pub bytes_in : List ℕ → Result (List ℕ) JobErrorKind
bytes_in digits = or_fault Hex (decode_of digits)

abbrev pub data_in : List ℕ → Result Data JobErrorKind
data_in bytes = or_fault Selector (decoded bytes)

-- the selector that bytes in hex spell
abbrev pub selector_in : List ℕ → Result Pattern JobErrorKind
selector_in digits = bytes_in digits >>= (λ bytes. data_in bytes >>= (λ d. or_fault Selector (selector_of d)))

-- the job of four fields, with a limit up to the greatest
abbrev pub job_of_fields : ℕ → List ℕ → List ℕ → List ℕ → List ℕ → Result JobMeaning JobErrorKind
job_of_fields greatest name roots limit selector =
    name_in name >>= (λ n. roots_in roots >>= (λ r. limit_in greatest limit >>= (λ l. selector_in selector >>= (λ s.
    Ok (record { name = n; roots = r; selector = s; limit = l; once = false })))))

abbrev pub is_empty : List ℕ → Bool
is_empty field = length field == 0

-- four fields, none empty
abbrev pub four_fields : List (List ℕ) → Result (List ℕ × List ℕ × List ℕ × List ℕ) JobErrorKind
four_fields (a ∷ b ∷ c ∷ d ∷ []) = if list_any is_empty (a ∷ b ∷ c ∷ d ∷ []) then Err Fields else Ok (a, b, c, d)
four_fields other = Err Fields

-- the fields with one space between
abbrev pub fields_in : List ℕ → Result (List ℕ × List ℕ × List ℕ × List ℕ) JobErrorKind
fields_in text = four_fields (slice_split (λ b. b == 32) text)

abbrev pub line_job : ℕ → List ℕ → Result JobMeaning JobErrorKind
line_job greatest line = text_in line >>= (λ text. fields_in text >>= (λ f. job_of_fields greatest f.0 f.1 f.2 f.3))

-- whether one of the jobs has the name
abbrev pub is_taken : List JobMeaning → List ℕ → Bool
is_taken jobs name = list_any (λ j. bytes_eq j.name name) jobs

-- the jobs, of which there may be so many, with one that may join them
abbrev pub joined : ℕ → List JobMeaning → JobMeaning → Result (List JobMeaning) JobErrorKind
joined most before job =
    if is_taken before job.name then Err Repeated else (if nat_le most (length before) then Err TooMany else Ok (before ++ job ∷ []))

-- the jobs with that of a line, if it isn't ignored
abbrev pub with_line : ℕ → ℕ → List JobMeaning → List ℕ → Result (List JobMeaning) JobErrorKind
with_line greatest most before line = if is_ignored line then Ok before else line_job greatest line >>= joined most before

-- the same of a line as it is in a file, with or without a carriage return at its end
abbrev pub with_file_line : ℕ → ℕ → List JobMeaning → List ℕ → Result (List JobMeaning) JobErrorKind
with_file_line greatest most before line = with_line greatest most before (strip_carriage_return line)

-- a fault and its line
abbrev pub at_line : {A : Type 0} → ℕ → Result A JobErrorKind → Result A (JobErrorKind × ℕ)
at_line line (Ok x) = Ok x
at_line line (Err kind) = Err (kind, line)

-- the jobs of the lines from a number on, after those before
abbrev pub jobs_from : ℕ → ℕ → ℕ → List JobMeaning → List (List ℕ) → Result (List JobMeaning) (JobErrorKind × ℕ)
jobs_from greatest most line before [] = Ok before
jobs_from greatest most line before (l ∷ ls) = at_line line (with_file_line greatest most before l) >>= (λ jobs. jobs_from greatest most (line + 1) jobs ls)

-- the jobs of a file that may have so many, with limits up to the greatest, or the first faulty line
abbrev pub jobs_up_to : ℕ → ℕ → List ℕ → Result (List JobMeaning) (JobErrorKind × ℕ)
jobs_up_to greatest most b = jobs_from greatest most 1 [] (slice_split (λ b. b == 10) b)

-- the jobs of a job file, or the first faulty line
abbrev pub jobs_of : List ℕ → Result (List JobMeaning) (JobErrorKind × ℕ)
jobs_of b = jobs_up_to 1000000 1000 b
