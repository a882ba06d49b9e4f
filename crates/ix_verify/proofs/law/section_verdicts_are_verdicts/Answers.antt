use Rattle.ix_verify.proofs.SoundSections.{section_verdict-with, section_verdict-digest}
use Rattle.ix_verify.proofs.law.section_verdicts_are_verdicts.Goals as goal

pub returns : goal.returns
returns c = record { verdicts = section_verdict-with; digests = section_verdict-digest }
