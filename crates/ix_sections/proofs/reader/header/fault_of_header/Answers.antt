use Rattle.std.proofs.Common.{sym, ap, ◌∙◌}
use Rattle.ix_sections.specs.Reading.{header_fault}
use Rattle.ix_sections.proofs.HeaderParts.{block_stands, block_fails}
use Rattle.ix_sections.proofs.reader.header.fault_of_header.Goals as goal

pub returns-in-Ok : goal.returns-in-Ok
returns-in-Ok c = let x = block_stands c.args.text.now c.in-Ok.ensures in c.fault_of_block.ensures x.0 x.1 ∙ ap header_fault (sym x.2)

pub returns-in-Err : goal.returns-in-Err
returns-in-Err c = ap header_fault (sym (block_fails c.args.text.now _ c.in-Err.ensures.1))
