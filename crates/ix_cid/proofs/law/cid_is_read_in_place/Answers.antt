use Rattle.ix_cid.specs.CidForm.{parts_spelling}
use Rattle.ix_cid.proofs.CidLaws as cids
use Rattle.ix_cid.proofs.law.cid_is_read_in_place.Goals as goal

pub returns-clause-read : goal.returns-clause-read
returns-clause-read c = cids.parts_again

pub returns-clause-only : goal.returns-clause-only
returns-clause-only c = λ b p rest bytes h. let is = cids.parts_read b p rest bytes h in (parts_spelling p, is.0, is.1)

pub returns-clause-front : goal.returns-clause-front
returns-clause-front c = λ b c k bytes. (cids.cid_read b c k bytes, cids.cid_front b c k)

pub returns-clause-whole : goal.returns-clause-whole
returns-clause-whole c = λ c bytes. (cids.is_cid c bytes, λ h. cids.cid_is c h.0 h.1)
