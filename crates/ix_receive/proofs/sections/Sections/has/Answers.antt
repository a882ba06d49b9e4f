use Rattle.std.proofs.Common.{sym, ◌∙◌}
use Rattle.ix_receive.proofs.Bases.{either-has, or-has}
use Rattle.ix_receive.proofs.sections.Sections.has.Goals as goal

pub returns-then-is_in_base : goal.returns-then-is_in_base
returns-then-is_in_base c = c.if-is_in_base.true ∙ either-has c.args.self.now c.args.cid.now (sym c.is_in_base.ensures ∙ c.if-is_in_base.true)

pub returns-else-is_in_base : goal.returns-else-is_in_base
returns-else-is_in_base c = c.has_come.ensures ∙ or-has c.args.self.now c.args.cid.now (sym c.is_in_base.ensures ∙ c.if-is_in_base.false)
