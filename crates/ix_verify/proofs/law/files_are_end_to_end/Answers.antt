use Rattle.ix_verify.proofs.EndToEnd.{files-end}
use Rattle.ix_verify.proofs.law.files_are_end_to_end.Goals as goal

pub returns : goal.returns
returns c store files = files-end store files
