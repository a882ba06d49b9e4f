-- What findings make of a file.
use Rattle.std.specs.Prelude.{ℕ, List, [], ◌∷◌, codes, if◌then◌else◌, Bool}
use Rattle.ix_verdict.specs.declared.verdict.Verdict.{Verdict}
use Rattle.ix_verdict.specs.declared.verdict.Verdict.TheVariants.{Codec, Hash, Missing, Damaged, Malformed, Sound as SoundBlock, Inline}
use Rattle.ix_car.specs.declared.archive.Skip.{Skip}
use Rattle.ix_verify.specs.declared.found.Unsound.{Unsound}
use Rattle.ix_verify.specs.declared.found.Outcome.{Outcome}
use Rattle.ix_verify.specs.declared.found.Outcome.TheVariants.{Sound, Incomplete, Unsupported, Broken}

-- What one verdict makes of a file. A block that is there and isn't what its CID names breaks it. Of a hash function that is
-- unknown, or a codec that isn't read, nothing is known to be wrong. A link to a block that isn't there leads out of the file
abbrev pub outcome_on : Verdict → Outcome
outcome_on Codec = Unsupported
outcome_on Hash = Unsupported
outcome_on Missing = Incomplete
outcome_on Damaged = Broken
outcome_on Malformed = Broken
outcome_on SoundBlock = Sound
outcome_on Inline = Sound

-- the worse of two: broken, then unsupported, then incomplete, then sound
abbrev pub worse : Outcome → Outcome → Outcome
worse Sound other = other
worse Broken other = Broken
worse Incomplete Sound = Incomplete
worse Incomplete Incomplete = Incomplete
worse Incomplete Unsupported = Unsupported
worse Incomplete Broken = Broken
worse Unsupported Sound = Unsupported
worse Unsupported Incomplete = Unsupported
worse Unsupported Unsupported = Unsupported
worse Unsupported Broken = Broken

-- what verdicts make of a file: the worst counts
abbrev pub worst_of : List Verdict → Outcome
worst_of [] = Sound
worst_of (v ∷ vs) = worse (outcome_on v) (worst_of vs)

-- a walk that ends at its limit has links that weren't followed
abbrev pub outcome_at_limit : Bool → Outcome
outcome_at_limit over = if over then Unsupported else Sound

-- the verdicts of findings
abbrev pub section_finding : Unsound → Verdict
section_finding u = u.verdict

abbrev pub link_finding : Skip → Verdict
link_finding s = s.verdict

-- the word for an outcome, in ASCII
abbrev pub outcome_word : Outcome → List ℕ
outcome_word Sound = codes "sound"
outcome_word Incomplete = codes "incomplete"
outcome_word Unsupported = codes "unsupported"
outcome_word Broken = codes "broken"
