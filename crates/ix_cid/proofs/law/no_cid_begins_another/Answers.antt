use Rattle.ix_cid.proofs.CidLaws as cids
use Rattle.ix_cid.proofs.law.no_cid_begins_another.Goals as goal

pub returns-clause-prefix : goal.returns-clause-prefix
returns-clause-prefix c = cids.nothing_follows

pub returns-clause-one_parts : goal.returns-clause-one_parts
returns-clause-one_parts c = cids.one_parts
