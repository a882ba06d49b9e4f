use Rattle.ix_cid.proofs.VarintLaws as varints
use Rattle.ix_cid.proofs.law.no_varint_begins_another.Goals as goal

pub returns : goal.returns
returns c = varints.no_beginning
