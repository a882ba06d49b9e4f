use Rattle.std.proofs.Common.{subst}
use Rattle.std.specs.Arc.{arc_value}
use Rattle.ix_store.specs.Store.{Blocks}
use Rattle.ix_sections.specs.Gives.{IsFaultOf}
use Rattle.ix_sections.specs.Reading.{blocks_after}
use Rattle.ix_sections.proofs.reader.store.load_shared.Goals as goal

pub returns-in-Err : goal.returns-in-Err
returns-in-Err g c =
    let file = (arc_value c.args.file.now).items in
    subst (λ (before : Blocks). IsFaultOf file c.in-Err.fault (blocks_after before file)) c.new.ensures c.in-Err.ensures.gives
