use Rattle.std.proofs.Common.{refl}
use Rattle.ix_store.specs.Store.{value_of}
use Rattle.ix_trace.proofs.Traced.{is_inside}
use Rattle.ix_trace.proofs.tracer.inside_of.Goals as goal

pub returns-clause-inside : goal.returns-clause-inside
returns-clause-inside c =
    let store = c.args.store.now in
    let cid = c.args.place.cid in
    is_inside store (record { cid = cid; expansion = c.in_ok-expansion.expansion }) (value_of store cid) refl (c.in_ok-expansion.ensures (value_of store cid) c.read_block-bytes.ensures.reading.0)
