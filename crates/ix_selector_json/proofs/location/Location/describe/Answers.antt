use Rattle.std.proofs.lemmas.Result.{IfOk-weaker}
use Rattle.ix_selector_json.proofs.location.Location.describe.Goals as goal

pub returns-then-is_empty : goal.returns-then-is_empty
returns-then-is_empty c = IfOk-weaker c.format.result _ _ (λ said e. (_, e)) c.format.ensures.ok

pub returns-else-is_empty : goal.returns-else-is_empty
returns-else-is_empty c = IfOk-weaker c.format-else-is_empty.result _ _ (λ said e. (_, e)) c.format-else-is_empty.ensures.ok
