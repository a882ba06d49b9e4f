use Rattle.ix_cid.proofs.VarintLaws as varints
use Rattle.ix_cid.proofs.law.varint_has_one_spelling.Goals as goal

pub returns-clause-spelled : goal.returns-clause-spelled
returns-clause-spelled c = varints.IsVarint-varint_of

pub returns-clause-one : goal.returns-clause-one
returns-clause-one c = λ b n h. (varints.IsVarint-below b n h, varints.IsVarint-is b n h)
