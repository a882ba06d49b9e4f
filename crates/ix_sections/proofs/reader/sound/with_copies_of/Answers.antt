use Rattle.std.proofs.Common.{◌≡◌, ◌<◌, ◌≤◌, ◌+◌, ◌-◌, ◌++◌, ◌∷◌, [], ◌∙◌, List, ℕ, length, arith, rules, sym, ap, subst}
use Rattle.std.specs.Arc.{arc_value}
use Rattle.std.proofs.lemmas.List.{length-append}
use Rattle.std.proofs.lemmas.Result.{err_from_is_err_and}
use Rattle.ix_store.specs.Store.{Blocks}
use Rattle.ix_store.specs.Table.{section_in}
use Rattle.ix_sections.specs.Reads.{IsEnd}
use Rattle.ix_sections.specs.Sections.{sections_in}
use Rattle.ix_sections.specs.Copies.{with_copies}
use Rattle.ix_sections.proofs.Sections.{end-of-end, end-behind, end-within, PartsStand, parts-stand, HasFile, file-taken, section-of}
use Rattle.ix_sections.proofs.SectionLists.{FailsAs-of}
use Rattle.ix_sections.proofs.CopyLists.{CopiesGoOn, CopiesGoOn-first, CopiesGoOn-more, CopiesGoOn-fails, CopiesGoOn-last}
use Rattle.ix_sections.proofs.reader.sound.with_copies_of.Goals as goal

pub loop-rest-init : goal.loop-rest-init
loop-rest-init c = record {
  within = omega arith;
  end = c.requires;
  file = file-taken c.args.builder.files c.take_file.new.self.files c.in-Ok.number (arc_value c.args.file.now).items (ap (λ t. t.files) c.in-Ok.ensures.taken) c.in-Ok.ensures.number;
  goes_on = λ size. subst (λ (l : Blocks). CopiesGoOn c.args.builder.pairs l size c.args.sections.now (sections_in size c.args.sections.now)) (sym (ap (λ t. t.pairs) c.in-Ok.ensures.taken)) (CopiesGoOn-first c.args.builder.pairs size c.args.sections.now);
}

pub returns-in_err-cid : goal.returns-in_err-cid
returns-in_err-cid c size =
    let p = err_from_is_err_and c.from_residual.result c.from_residual.ensures.1 in
    let whole = sections_in size c.args.sections.now in
    let some : 0 < length c.loop-rest.rest.now = search rules in
    rw (p.1, p.2) (
      FailsAs-of c.in_err-cid.field-0.0.kind c.in_err-cid.field-0.0.left (with_copies c.args.builder.pairs whole)
          (CopiesGoOn-fails c.args.builder.pairs c.loop-rest.builder.pairs size c.loop-rest.rest.now whole some (c.loop-rest.invariant.goes_on size) _ c.in_err-cid.ensures.reads),
      omega (arith, c.in_err-cid.ensures.within, c.loop-rest.invariant.within),
    )

pub overflow_sub-place-in-loop-rest : goal.overflow_sub-place-in-loop-rest
overflow_sub-place-in-loop-rest c =
    let file = (arc_value c.args.file.now).items in
    let block = c.in_ok-cid.block.now in
    let after = c.in_ok-cid.after.now in
    let long : c.len.result ≡ length file = search rules in
    let lies = end-of-end (c.in_ok-cid.cid ++ (block ++ after)) c.loop-rest.rest.now file c.in_ok-cid.ensures.end c.loop-rest.invariant.end in
    omega (arith, long, end-within c.in_ok-cid.cid (block ++ after) file lies, length-append block after)

pub overflow_sub-place-in-loop-rest-2 : goal.overflow_sub-place-in-loop-rest-2
overflow_sub-place-in-loop-rest-2 c =
    let file = (arc_value c.args.file.now).items in
    let block = c.in_ok-cid.block.now in
    let after = c.in_ok-cid.after.now in
    let long : c.len.result ≡ length file = search rules in
    let size : length c.as_bytes-cid_size.result.now ≡ length c.in_ok-cid.cid = ap length c.as_bytes-cid_size.ensures.bytes in
    let lies = end-of-end (c.in_ok-cid.cid ++ (block ++ after)) c.loop-rest.rest.now file c.in_ok-cid.ensures.end c.loop-rest.invariant.end in
    omega (arith, long, size, end-within c.in_ok-cid.cid (block ++ after) file lies, length-append block after)

pub add_section-requires : goal.add_section-requires
add_section-requires c =
    let file = (arc_value c.args.file.now).items in
    let block = c.in_ok-cid.block.now in
    let after = c.in_ok-cid.after.now in
    let place = c.len.result - length after - length block - length c.as_bytes-cid_size.result.now in
    let long : c.len.result ≡ length file = search rules in
    let size : length c.as_bytes-cid_size.result.now ≡ length c.in_ok-cid.cid = ap length c.as_bytes-cid_size.ensures.bytes in
    let is : place ≡ length file - length after - length block - length c.in_ok-cid.cid = omega (arith, long, size) in
    let lies = end-of-end (c.in_ok-cid.cid ++ (block ++ after)) c.loop-rest.rest.now file c.in_ok-cid.ensures.end c.loop-rest.invariant.end in
    let stands : PartsStand c.in_ok-cid.cid block file place = parts-stand c.in_ok-cid.cid block after file place is lies in (
      c.loop-rest.invariant.file.0,
      subst (λ (f : List ℕ). place + length c.as_bytes-cid_size.result.now + length block ≤ length f) (sym c.loop-rest.invariant.file.1) (omega (arith, size, stands.within)),
    )

pub loop-rest-preserved : goal.loop-rest-preserved
loop-rest-preserved c =
    let some : 0 < length c.loop-rest.rest.now = search rules in
    let file = (arc_value c.args.file.now).items in
    let cid = c.in_ok-cid.cid in
    let block = c.in_ok-cid.block.now in
    let after = c.in_ok-cid.after.now in
    let files = c.loop-rest.builder.files in
    let copies = c.loop-rest.builder.pairs in
    let place = c.len.result - length after - length block - length c.as_bytes-cid_size.result.now in
    let long : c.len.result ≡ length file = search rules in
    let size : length c.as_bytes-cid_size.result.now ≡ length cid = ap length c.as_bytes-cid_size.ensures.bytes in
    let is : place ≡ length file - length after - length block - length cid = omega (arith, long, size) in
    let lies : IsEnd (cid ++ (block ++ after)) file = end-of-end (cid ++ (block ++ after)) c.loop-rest.rest.now file c.in_ok-cid.ensures.end c.loop-rest.invariant.end in
    let stands : PartsStand cid block file place = parts-stand cid block after file place is lies in
    let pair : section_in files c.in-Ok.number place (length c.as_bytes-cid_size.result.now) (length block) ≡ (cid, block) =
    ap (λ (n : ℕ). section_in files c.in-Ok.number place n (length block)) size ∙ section-of files c.in-Ok.number place cid block file c.loop-rest.invariant.file stands in
    let added : c.add_section.new.self.pairs ≡ copies ++ (cid, block) ∷ [] =
    c.in-Ok-add_section.ensures.added ∙ ap (λ (p : List ℕ × List ℕ). copies ++ p ∷ []) pair in
    record {
      within = omega (arith, c.in_ok-cid.ensures.shorter, c.loop-rest.invariant.within);
      end = end-behind block after file (end-behind cid (block ++ after) file lies);
      file = subst (λ (l : List (List ℕ)). HasFile l c.in-Ok.number file) (sym c.in-Ok-add_section.ensures.files) c.loop-rest.invariant.file;
      goes_on = λ n. CopiesGoOn-more c.args.builder.pairs copies c.add_section.new.self.pairs n c.loop-rest.rest.now (sections_in n c.args.sections.now) ((cid, block), after) some c.in_ok-cid.ensures.reads added (c.loop-rest.invariant.goes_on n);
    }

pub returns : goal.returns
returns c size =
    let none : length c.loop-rest.rest.now ≡ 0 = search rules in
    (CopiesGoOn-last c.args.builder.pairs c.loop-rest.builder.pairs size c.loop-rest.rest.now (sections_in size c.args.sections.now) none (c.loop-rest.invariant.goes_on size), tt)
