-- The words for verdicts.
pub use Rattle.ix_verdict.specs.VerdictWords.{verdict_word}
