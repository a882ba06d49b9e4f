use Rattle.ix_receive.proofs.Received.{none-at-first, received-stay, received-own, next-received, next-same-visits, own-received}
use Rattle.ix_receive.proofs.law.received_one_by_one.Goals as goal

pub returns-clause-none : goal.returns-clause-none
returns-clause-none c base job = none-at-first base job

pub returns-clause-stay : goal.returns-clause-stay
returns-clause-stay c base n m job sections h is = received-stay base job sections n is m h

pub returns-clause-next : goal.returns-clause-next
returns-clause-next c base n job sections p is next = (next-received base job sections p n is next, next-same-visits base job sections p n is next)

pub returns-clause-own : goal.returns-clause-own
returns-clause-own c base n number job sections low is within = received-own base job sections n is number low within

pub returns-clause-each : goal.returns-clause-each
returns-clause-each c base number job before after p own = own-received base number job before after p own
