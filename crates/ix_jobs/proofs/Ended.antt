-- The hex of a selector ends with a line end.
use Rattle.std.proofs.Common.{◌≡◌, ℕ, List, [], ◌∷◌, ◌++◌}
use Rattle.ix_jobs.specs.declared.selector_word.SelectorWord.{SelectorWord}
use Rattle.ix_jobs.specs.declared.selector_word.SelectorWord.TheVariants.{Everything, Json, Hex}
use Rattle.ix_jobs.specs.JobWords.{everything_hex, IsSpelledBy}

-- the line of a selector is its hex and a line end
pub IsSpelledBy-ended : (selector : SelectorWord) (line : List ℕ) → IsSpelledBy selector line → (hex : List ℕ) × (line ≡ hex ++ 10 ∷ [])
IsSpelledBy-ended Everything line h = (everything_hex, h)
IsSpelledBy-ended (Json text) line h = (_, h.printed)
IsSpelledBy-ended (Hex text) line h = (text.now, h)
