use Rattle.ix_cbor.proofs.Refusals.{decoded-fault_iff, fault-once, spelled-no_fault, spelled-or_fault}
use Rattle.ix_cbor.proofs.law.fault_is_unique.Goals as goal

pub returns-clause-read : goal.returns-clause-read
returns-clause-read c = decoded-fault_iff

pub returns-clause-one : goal.returns-clause-one
returns-clause-one c = fault-once

pub returns-clause-apart : goal.returns-clause-apart
returns-clause-apart c = spelled-no_fault

pub returns-clause-either : goal.returns-clause-either
returns-clause-either c = spelled-or_fault
