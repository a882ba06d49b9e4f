use Rattle.ix_cbor.proofs.Laws.{spelled-once, data-once, spelling-prefix, decoded-iff, data_at-iff}
use Rattle.ix_cbor.proofs.law.spelling_is_unique.Goals as goal

pub returns-clause-one : goal.returns-clause-one
returns-clause-one c = spelled-once

pub returns-clause-same : goal.returns-clause-same
returns-clause-same c = data-once

pub returns-clause-prefix : goal.returns-clause-prefix
returns-clause-prefix c d e rest d_is e_is is = (spelling-prefix d e rest d_is e_is is).1

pub returns-clause-prefix_same : goal.returns-clause-prefix_same
returns-clause-prefix_same c d e rest d_is e_is is = (spelling-prefix d e rest d_is e_is is).0

pub returns-clause-read : goal.returns-clause-read
returns-clause-read c = decoded-iff

pub returns-clause-found : goal.returns-clause-found
returns-clause-found c = data_at-iff
