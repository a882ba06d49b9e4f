use Rattle.ix_prefetch.proofs.Adding.{table_still}
use Rattle.ix_prefetch.proofs.levels.adds_task.Goals as goal

pub returns : goal.returns
returns c = table_still c.args.table.now c.args.part.now c.add_task-outcome.new.self c.add_task-outcome.ensures.0 c.requires c.add_task-outcome.ensures.1
