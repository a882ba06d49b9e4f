use Rattle.std.proofs.Common.{sym, ◌∙◌, ap}
use Rattle.ix_cid.specs.Cid.{Parts}
use Rattle.ix_walk.proofs.Readings.{dag_cbor_is, known_dag_cbor, read_value, checked_item}
use Rattle.ix_walk.proofs.visiting.read_block.Goals as goal

pub returns-in-Some-default-false-clause-reading : goal.returns-in-Some-default-false-clause-reading
returns-in-Some-default-false-clause-reading c =
    let dag_cbor = dag_cbor_is c.args.cid.now c.parts.result.codec (ap (λ (p : Parts). p.codec) c.parts.ensures) c.if-parts-ne-DAG_CBOR.false in
    read_value c.args.store.now c.args.cid.now c.in-Some-default-false.bytes dag_cbor
    (known_dag_cbor c.args.store.now c.args.cid.now dag_cbor ∙ sym c.in-Some-default-false.ensures.bytes) (sym c.in-Some-default-false.ensures.fault ∙ c.in-Some-default-false.field-0-1-test)

pub returns-in-Some-default-false-clause-item : goal.returns-in-Some-default-false-clause-item
returns-in-Some-default-false-clause-item c = checked_item c.in-Some-default-false.bytes (sym c.in-Some-default-false.ensures.fault ∙ c.in-Some-default-false.field-0-1-test)
