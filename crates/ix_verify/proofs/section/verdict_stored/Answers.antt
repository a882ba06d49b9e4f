use Rattle.std.proofs.Common.{◌≡◌, true, false, ◌∙◌, ap}
use Rattle.std.proofs.lemmas.Bool.{ne_eqb}
use Rattle.ix_cid.specs.Cid.{Parts, codec_of, hash_function_of}
use Rattle.ix_store.specs.Memo.{hash_matches, is_malformed}
use Rattle.ix_verify.specs.Judged.{section_pair}
use Rattle.ix_store.proofs.Verdicts.{no-data-yes, no-data-no}
use Rattle.ix_verify.proofs.Stored.{none-by, asked-here, section-stored, section-unknown}
use Rattle.ix_verify.proofs.section.verdict_stored.Goals as goal
use Rattle.ix_verify.proofs.section.verdict_stored.Goals.{then-parts-eq-DAG_CBOR, else-parts-eq-DAG_CBOR}

pub returns-then-is_none : goal.returns-then-is_none
returns-then-is_none c =
    let section = c.args.section.now in
    section-unknown section.cid section.block.now c.hash_function.result (none-by c.hash_function.result c.is_none.result true c.is_none.ensures c.if-is_none.true) (c.hash_function.ensures ∙ ap hash_function_of c.parts-parts.ensures)

pub returns : goal.returns
returns c =
    let cid = c.args.section.now.cid in
    let block = c.args.section.now.block.now in
    let pair = section_pair c.args.section.now in
    let codec : c.parts-parts.result.codec ≡ codec_of cid = ap (λ (p : Parts). p.codec) c.parts-parts.ensures in
    let agreed = asked-here hash_matches c.args.store.now c.args.place pair c.hash_matches.result false c.requires c.hash_matches.ensures in
    c.of_block.ensures
    ∙ section-stored cid block c.hash_function.result c.hash_matches.result c.if-parts-eq-DAG_CBOR.of_block (none-by c.hash_function.result c.is_none.result false c.is_none.ensures c.if-is_none.false) (c.hash_function.ensures ∙ ap hash_function_of c.parts-parts.ensures) agreed (elim c.if-parts-eq-DAG_CBOR.branch [
      | then-parts-eq-DAG_CBOR w ↦
          w.of_block-is ∙ asked-here is_malformed c.args.store.now c.args.place pair w.is_malformed.result false c.requires w.is_malformed.ensures ∙ no-data-yes cid block c.parts-parts.result.codec codec w.if-parts-eq-DAG_CBOR.true
      | else-parts-eq-DAG_CBOR w ↦
          let other = ne_eqb _ _ w.if-parts-eq-DAG_CBOR.false in w.of_block-is ∙ other ∙ no-data-no cid block c.parts-parts.result.codec codec other
    ])
