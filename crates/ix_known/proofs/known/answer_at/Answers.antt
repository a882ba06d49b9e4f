use Rattle.std.proofs.Common.{ap, ◌∙◌, sym}
use Rattle.std.specs.Prelude.{Some}
use Rattle.ix_known.proofs.KnownIn.{answer-there}
use Rattle.ix_known.proofs.known.answer_at.Goals as goal

pub returns-in-Ok : goal.returns-in-Ok
returns-in-Ok c = answer-there c.args.store.now c.args.base.now c.args.place c.in-Ok.cid c.in-Ok.ensures ∙ ap Some (sym c.knows.ensures)
