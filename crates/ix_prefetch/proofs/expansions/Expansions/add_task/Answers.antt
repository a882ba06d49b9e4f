use Rattle.std.proofs.Common.{[]}
use Rattle.ix_prefetch.proofs.Adding.{some_after, some_same}
use Rattle.ix_prefetch.proofs.expansions.Expansions.add_task.Goals as goal

pub returns-in_ok-pair-in-Some-2 : goal.returns-in_ok-pair-in-Some-2
returns-in_ok-pair-in-Some-2 c =
    let old = c.args.self.now in
    some_same old c.push_read.new.self c.push_pair.new.self (some_after old c.number_of.new.self c.push_read.new.self [] c.in_ok-residual.ensures.adds c.in_ok-pair-in-Some-2.ensures.some) c.push_pair.ensures
