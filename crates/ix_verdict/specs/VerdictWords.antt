-- The words for verdicts.
use Rattle.std.specs.Prelude.{ℕ, List, codes}
use Rattle.ix_verdict.specs.declared.verdict.Verdict.{Verdict}
use Rattle.ix_verdict.specs.declared.verdict.Verdict.TheVariants.{Codec, Hash, Missing, Damaged, Malformed, Sound, Inline}

-- the word for a verdict, in ASCII
abbrev pub verdict_word : Verdict → List ℕ
verdict_word Codec = codes "codec"
verdict_word Hash = codes "hash"
verdict_word Missing = codes "missing"
verdict_word Damaged = codes "damaged"
verdict_word Malformed = codes "malformed"
verdict_word Sound = codes "sound"
verdict_word Inline = codes "inline"
