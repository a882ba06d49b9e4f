use Rattle.ix_trace.proofs.Found.{all_found}
use Rattle.ix_trace.proofs.expansion.expand.Goals as goal

pub returns : goal.returns
returns c = λ d e. all_found c.args.block.now d c.empty-found.result c.push_item.new.found c.in_ok-push_item.field-0.now e c.empty-found.ensures.links c.empty-found.ensures.steps c.in_ok-push_item.ensures
