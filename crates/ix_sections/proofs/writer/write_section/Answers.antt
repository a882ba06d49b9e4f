use Rattle.ix_sections.proofs.Growth.{appends-section}
use Rattle.ix_sections.proofs.writer.write_section.Goals as goal

pub returns-clause-grown : goal.returns-clause-grown
returns-clause-grown g c =
    appends-section (g.W.Write.contents c.args.writer.now) (g.W.Write.contents c.write_text-taken.new.writer) (g.W.Write.contents c.write_text.new.writer) c.write_text-taken.result c.write_text.result c.args.head.now c.args.block.now c.write_text-taken.ensures.within
    c.if-taken-head.false c.write_text-taken.ensures.grown c.write_text.ensures.grown
