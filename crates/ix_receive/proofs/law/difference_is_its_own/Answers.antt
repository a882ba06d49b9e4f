use Rattle.ix_receive.proofs.Bases.{are-known}
use Rattle.ix_receive.proofs.Differences.{difference-own}
use Rattle.ix_receive.proofs.law.difference_is_its_own.Goals as goal

pub returns-clause-known : goal.returns-clause-known
returns-clause-known c store = are-known store

pub returns-clause-own : goal.returns-clause-own
returns-clause-own c store base number job has within = difference-own store base number job has within
