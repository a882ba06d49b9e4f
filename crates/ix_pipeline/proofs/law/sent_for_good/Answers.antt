use Rattle.ix_pipeline.proofs.Sending.{good_of_taken}
use Rattle.ix_pipeline.proofs.law.sent_for_good.Goals as goal

pub returns : goal.returns
returns c = λ store jobs taken sent good answers. good_of_taken store jobs taken sent good answers
