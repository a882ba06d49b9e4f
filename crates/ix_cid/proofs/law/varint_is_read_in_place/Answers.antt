use Rattle.ix_cid.proofs.VarintLaws as varints
use Rattle.ix_cid.proofs.law.varint_is_read_in_place.Goals as goal

pub returns-clause-read : goal.returns-clause-read
returns-clause-read c = varints.varint_at-append

pub returns-clause-only : goal.returns-clause-only
returns-clause-only c = varints.varint_at-varint
