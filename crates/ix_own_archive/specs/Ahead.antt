-- What is found of sections before they are taken.
use Rattle.std.specs.Prelude.{◌≡◌, ℕ, ◌<◌, List, length, drop, slice_index_or, IfSome, Some, Ok}
use Rattle.ix_verdict.specs.declared.verdict.Verdict.{Verdict}
use Rattle.ix_verdict.specs.Verdict.{verdict_with}
use Rattle.ix_sections.specs.Reading.{section_at}
use Rattle.ix_own_archive.specs.declared.stream_ahead.Judged.{Judged}

-- the verdict on the section at the front of bytes, if they begin with one
abbrev pub IsFrontVerdict : List ℕ → Verdict → Type 0
IsFrontVerdict b v = (s : (List ℕ × List ℕ) × List ℕ) → section_at b ≡ Ok s → v ≡ verdict_with s.0.0 (Some s.0.1)

-- what is found of the section at an offset is the verdict on it
abbrev pub IsJudgedIn : List ℕ → Judged → Type 0
IsJudgedIn b j = IfSome j.verdict (IsFrontVerdict (drop j.place b))

-- each of these is
abbrev pub AreJudgedIn : List ℕ → List Judged → Type 0
AreJudgedIn b found = (i : ℕ) (d : Judged) → i < length found → IsJudgedIn b (slice_index_or found i d)
