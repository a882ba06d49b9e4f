use Rattle.ix_selector.proofs.Onward.{left-entered, rest-tested, same-rest}
use Rattle.ix_selector.proofs.law.residual_is_the_rest.Goals as goal

pub returns-clause-rest : goal.returns-clause-rest
returns-clause-rest c s p q is = rest-tested s is p q

pub returns-clause-same : goal.returns-clause-same
returns-clause-same c s p q is same r = same-rest s is p q same r

pub returns-clause-left : goal.returns-clause-left
returns-clause-left c s p is = left-entered s is p
