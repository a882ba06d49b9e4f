use Rattle.std.proofs.Common.{ap, sym, ◌∙◌}
use Rattle.std.specs.Option.{option_flatten}
use Rattle.ix_pipeline.proofs.Slots.{slot-get}
use Rattle.ix_pipeline.proofs.ring.is_taken.Goals as goal

pub returns-in-Some-Some : goal.returns-in-Some-Some
returns-in-Some-Some g c = (c.in-Some-Some.field-0-0, slot-get c.args.window.now.items c.args.index ∙ (ap option_flatten (sym c.in-Some-Some.ensures) ∙ c.in-Some-Some.field-0-is))

pub returns-in-Some-None : goal.returns-in-Some-None
returns-in-Some-None g c = slot-get c.args.window.now.items c.args.index ∙ (ap option_flatten (sym c.in-Some-None.ensures) ∙ c.in-Some-None.field-0-is)

pub returns-in-None : goal.returns-in-None
returns-in-None g c = slot-get c.args.window.now.items c.args.index ∙ ap option_flatten (sym c.in-None.ensures)
