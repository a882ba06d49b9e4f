use Rattle.ix_prefetch.proofs.Adding.{some_same}
use Rattle.ix_prefetch.proofs.expansions.Expansions.append.Goals as goal

pub returns : goal.returns
returns c = some_same c.args.self.now c.append_pair.new.self c.push_pair.new.self c.in_ok-pair.ensures.some c.push_pair.ensures
