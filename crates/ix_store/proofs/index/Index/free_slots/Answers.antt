use Rattle.std.proofs.Common.{◌∙◌, refl, ap}
use Rattle.ix_store.specs.Room.{taken_in}
use Rattle.ix_store.proofs.Room.{taken-emptied}
use Rattle.ix_store.proofs.index.Index.free_slots.Goals as goal

pub returns-clause-free : goal.returns-clause-free
returns-clause-free c =
    ap taken_in c.in_ok-resize.ensures.items ∙ taken-emptied c.args.size _ _ _ refl c.clear.ensures.items c.clear.ensures.len
