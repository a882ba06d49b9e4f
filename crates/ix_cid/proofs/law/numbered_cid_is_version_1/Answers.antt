use Rattle.ix_cid.proofs.CidLaws as cids
use Rattle.ix_cid.proofs.law.numbered_cid_is_version_1.Goals as goal

pub returns-clause-read : goal.returns-clause-read
returns-clause-read c = cids.numbered_again

pub returns-clause-only : goal.returns-clause-only
returns-clause-only c = cids.numbered_read
