use Rattle.std.proofs.Common.{◌∙◌, ap}
use Rattle.ix_verdict.specs.Needed.{needed_of}
use Rattle.ix_prefetch.proofs.Readings.{stored_is}
use Rattle.ix_prefetch.proofs.reading.stored_at.Goals as goal

pub returns-in_ok-to_cid-in-Block : goal.returns-in_ok-to_cid-in-Block
returns-in_ok-to_cid-in-Block c =
    stored_is c.args.store.now c.args.cid.now c.in_ok-to_cid-in-Block.field-0 c.find-found.result c.numbered.result c.in-Block.field-0 c.numbered.ensures c.find-found.ensures c.in_ok-to_cid-in-Block.ensures.same
    (c.in-Block.ensures ∙ ap needed_of c.parts-parts.ensures)
