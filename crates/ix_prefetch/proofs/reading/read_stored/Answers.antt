use Rattle.std.proofs.Common.{sym, ◌∙◌, ap}
use Rattle.ix_cid.specs.Cid.{Parts}
use Rattle.ix_store.proofs.Blocks.{place_within, fault_of}
use Rattle.ix_walk.proofs.Readings.{dag_cbor_is, read_value, checked_item}
use Rattle.ix_prefetch.proofs.Readings.{absent_value, stored_bytes, faulty_value}
use Rattle.ix_prefetch.proofs.reading.read_stored.Goals as goal

pub returns-in_default-clause-reading : goal.returns-in_default-clause-reading
returns-in_default-clause-reading c =
    absent_value c.args.store.now c.args.cid.now (dag_cbor_is c.args.cid.now c.parts.result.codec (ap (λ (p : Parts). p.codec) c.parts.ensures) c.if-parts-ne-DAG_CBOR.false) c.requires.needed (sym c.in_default.is ∙ c.requires.block)

pub cursor-bytes-requires : goal.cursor-bytes-requires
cursor-bytes-requires c = place_within c.in-Some.place c.args.store.now c.args.cid.now (sym c.in-Some.is ∙ c.requires.block)

pub returns-then-is_malformed-clause-reading : goal.returns-then-is_malformed-clause-reading
returns-then-is_malformed-clause-reading c =
    let store = c.args.store.now in
    let cid = c.args.cid.now in
    let place = c.in-Some.place in
    let there = sym c.in-Some.is ∙ c.requires.block in
    let dag = dag_cbor_is cid c.parts.result.codec (ap (λ (p : Parts). p.codec) c.parts.ensures) c.if-parts-ne-DAG_CBOR.false in
    faulty_value store cid c.cursor-bytes.result dag (stored_bytes store cid place c.cursor-bytes.result dag c.requires.needed there c.cursor-bytes.ensures)
    (sym (fault_of store place c.cursor-bytes.result c.is_malformed.result (place_within place store cid there) c.cursor-bytes.ensures c.is_malformed.ensures) ∙ c.if-is_malformed.true)

pub returns-clause-bytes : goal.returns-clause-bytes
returns-clause-bytes c =
    let dag = dag_cbor_is c.args.cid.now c.parts.result.codec (ap (λ (p : Parts). p.codec) c.parts.ensures) c.if-parts-ne-DAG_CBOR.false in
    stored_bytes c.args.store.now c.args.cid.now c.in-Some.place c.cursor-bytes.result dag c.requires.needed (sym c.in-Some.is ∙ c.requires.block) c.cursor-bytes.ensures

pub returns-clause-reading : goal.returns-clause-reading
returns-clause-reading c =
    let store = c.args.store.now in
    let cid = c.args.cid.now in
    let place = c.in-Some.place in
    let there = sym c.in-Some.is ∙ c.requires.block in
    let dag = dag_cbor_is cid c.parts.result.codec (ap (λ (p : Parts). p.codec) c.parts.ensures) c.if-parts-ne-DAG_CBOR.false in
    read_value store cid c.cursor-bytes.result dag (stored_bytes store cid place c.cursor-bytes.result dag c.requires.needed there c.cursor-bytes.ensures)
    (sym (fault_of store place c.cursor-bytes.result c.is_malformed.result (place_within place store cid there) c.cursor-bytes.ensures c.is_malformed.ensures) ∙ c.if-is_malformed.false)

pub returns-clause-item : goal.returns-clause-item
returns-clause-item c =
    let there = sym c.in-Some.is ∙ c.requires.block in
    checked_item c.cursor-bytes.result
    (sym (fault_of c.args.store.now c.in-Some.place c.cursor-bytes.result c.is_malformed.result (place_within c.in-Some.place c.args.store.now c.args.cid.now there) c.cursor-bytes.ensures c.is_malformed.ensures) ∙ c.if-is_malformed.false)
