use Rattle.ix_pipeline.proofs.Finished.{good_pairs}
use Rattle.ix_pipeline.proofs.law.good_is_checked_once.Goals as goal

pub returns-clause-once : goal.returns-clause-once
returns-clause-once c = λ store jobs got good. (good_pairs store jobs got good).0

pub returns-clause-within : goal.returns-clause-within
returns-clause-within c = λ store jobs got job seq good h. (good_pairs store jobs got good).1 job seq h
