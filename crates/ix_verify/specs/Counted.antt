-- The reports on sections, one by one.
use Rattle.std.specs.Prelude.{◌≡◌, ℕ, List, [], ◌∷◌, ◌++◌, length, if◌then◌else◌, Ok}
use Rattle.ix_verdict.specs.declared.verdict.Verdict.{Verdict}
use Rattle.ix_sections.specs.declared.reader.sections.Section.{Section}
use Rattle.ix_verdict.specs.Verdict.{is_sound}
use Rattle.ix_sections.specs.Sections.{SectionMeaning, section_list, roots_of}
use Rattle.ix_verify.specs.Outcome.{section_finding}
use Rattle.ix_verify.specs.Noting.{IsNoted}
use Rattle.ix_verify.specs.Found.{unsound_of}
use Rattle.ix_verify.specs.declared.reach.Reached.{Reached}
use Rattle.ix_verify.specs.declared.found.Unsound.{Unsound}
use Rattle.ix_verify.specs.declared.found.Findings.{Findings}
use Rattle.ix_verify.specs.declared.file.Judged.{Judged}

-- a section with its verdict, unless it is sound
abbrev pub told_if : Section → Verdict → List Unsound
told_if s verdict = if is_sound verdict then [] else record { place = s.place; cid = s.cid; verdict = verdict } ∷ []

-- the same of each section with its verdict
abbrev pub told_among : List Section → List Verdict → List Unsound
told_among [] vs = []
told_among (s ∷ ss) [] = []
told_among (s ∷ ss) (v ∷ vs) = told_if s v ++ told_among ss vs

-- what is found of the sections of a file, and its roots
pub record IsJudgedOf (b : List ℕ) (most : ℕ) (j : Judged) : Type 0 where
  pub sections : List SectionMeaning
  pub read : section_list b ≡ Ok sections
  pub count : j.sections ≡ length sections
  pub unsound : IsNoted section_finding most (unsound_of sections) j.unsound
  pub roots : j.roots.items ≡ roots_of b

-- what is found of the sections of a file, what was met from its roots on, and how many blocks are a later copy
abbrev pub findings_of : Judged → Reached → ℕ → Findings
findings_of j r later = record { sections = j.sections; unsound = j.unsound; skips = r.skips; absent = r.absent; is_over_limit = r.is_over_limit; later_count = later }
