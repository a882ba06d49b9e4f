use Rattle.std.proofs.Common.{ap}
use Rattle.ix_cid.specs.Cid.{Parts}
use Rattle.ix_cid.proofs.CidLaws as cids
use Rattle.ix_cid.proofs.law.cid_has_its_parts.Goals as goal

pub returns-clause-version : goal.returns-clause-version
returns-clause-version c = λ a p h. ap (λ (q : Parts). q.version) (cids.parts_are a p h)

pub returns-clause-codec : goal.returns-clause-codec
returns-clause-codec c = λ a p h. ap (λ (q : Parts). q.codec) (cids.parts_are a p h)

pub returns-clause-hash_code : goal.returns-clause-hash_code
returns-clause-hash_code c = λ a p h. ap (λ (q : Parts). q.hash_code) (cids.parts_are a p h)

pub returns-clause-digest : goal.returns-clause-digest
returns-clause-digest c = λ a p h. ap (λ (q : Parts). q.digest) (cids.parts_are a p h)
