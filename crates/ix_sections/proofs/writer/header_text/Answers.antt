use Rattle.std.proofs.Common.{rules}
use Rattle.ix_sections.proofs.writer.header_text.Goals as goal

pub returns : goal.returns
returns c = search rules
