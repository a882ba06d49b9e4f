use Rattle.std.proofs.Common.{◌∙◌}
use Rattle.ix_cbor.proofs.Laws.{data-once}
use Rattle.ix_path.proofs.segments.copy_of.Goals as goal

pub returns-in-Ok : goal.returns-in-Ok
returns-in-Ok c = λ canonical.
    data-once c.as_slice.result.now c.in-Ok.copy c.args.tree.now c.in-Ok.ensures.found (record { canonical = canonical; spelled = c.as_slice.ensures.value ∙ c.in_ok-block.ensures })
