use Rattle.std.proofs.Common.{sym, ◌∙◌, ap}
use Rattle.ix_verdict.specs.Needed.{needed_of}
use Rattle.ix_receive.specs.Base.{store_of}
use Rattle.ix_receive.proofs.Verdicts.{verdict-missing, verdict-sound}
use Rattle.ix_receive.proofs.sections.Sections.verdict.Goals as goal

pub returns-then-has : goal.returns-then-has
returns-then-has c = verdict-sound (store_of c.args.self.now) c.args.cid.now c.requires (sym c.has.ensures ∙ c.if-has.true)

pub returns-else-has : goal.returns-else-has
returns-else-has c =
    verdict-missing (store_of c.args.self.now) c.args.cid.now c.in-Block.field-0 (c.in-Block.ensures ∙ ap needed_of c.parts.ensures) (sym c.has.ensures ∙ c.if-has.false)
