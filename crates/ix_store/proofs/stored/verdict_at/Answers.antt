use Rattle.std.proofs.Common.{◌≡◌, List, ℕ, false, sym, ap, ◌∙◌}
use Rattle.std.specs.Prelude.{is_none}
use Rattle.std.proofs.lemmas.Bool.{ne_eqb}
use Rattle.std.proofs.lemmas.Option.{same_Some}
use Rattle.ix_cid.specs.Cid.{Parts, codec_of}
use Rattle.ix_cbor.specs.Reading.{data_at}
use Rattle.ix_store.specs.Memo.{hash_matches, is_malformed}
use Rattle.ix_store.proofs.Stores.{asked-there}
use Rattle.ix_verdict.specs.Needed.{needed_of}
use Rattle.ix_store.proofs.Verdicts.{verdict-absent, verdict-judged, no-data-yes, no-data-no}
use Rattle.ix_store.proofs.stored.verdict_at.Goals.{then-parts-eq-DAG_CBOR-2, else-parts-eq-DAG_CBOR-2}
use Rattle.ix_store.proofs.stored.verdict_at.Goals as goal

pub returns-in-None : goal.returns-in-None
returns-in-None c =
    verdict-absent c.args.store.now c.args.cid.now c.in-Block.field-0 (c.in-Block.ensures ∙ ap needed_of c.parts-parts.ensures) (sym c.in-None.is ∙ c.requires)

pub returns-after-parts-eq-DAG_CBOR-2 : goal.returns-after-parts-eq-DAG_CBOR-2
returns-after-parts-eq-DAG_CBOR-2 c =
    let store = c.args.store.now in
    let cid = c.args.cid.now in
    let place = sym c.in-Some.is ∙ c.requires in
    let there = asked-there hash_matches store c.in-Some.place cid c.hash_matches.result false place c.hash_matches.ensures in
    let codec : c.parts-parts.result.codec ≡ codec_of cid = ap (λ (p : Parts). p.codec) c.parts-parts.ensures in
    c.of_block.ensures
    ∙ verdict-judged store cid c.in-Block.field-0 (c.in-Block.ensures ∙ ap needed_of c.parts-parts.ensures) there.0 c.hash_matches.result c.if-parts-eq-DAG_CBOR-2.of_block there.1 there.2 (elim c.if-parts-eq-DAG_CBOR-2.branch [
      | then-parts-eq-DAG_CBOR-2 w ↦
          let fails = asked-there is_malformed store c.in-Some.place cid w.is_malformed.result false place w.is_malformed.ensures in
          let same = same_Some fails.0 there.0 (sym fails.1 ∙ there.1) in
          w.of_block-is ∙ fails.2 ∙ ap (λ (b : List ℕ). is_none (data_at b)) same ∙ no-data-yes cid there.0 c.parts-parts.result.codec codec w.if-parts-eq-DAG_CBOR-2.true
      | else-parts-eq-DAG_CBOR-2 w ↦
          let other = ne_eqb _ _ w.if-parts-eq-DAG_CBOR-2.false in w.of_block-is ∙ other ∙ no-data-no cid there.0 c.parts-parts.result.codec codec other
    ])
