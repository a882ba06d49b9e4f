use Rattle.std.proofs.Common.{◌≡◌, ◌-◌, ◌<◌, ◌++◌, ◌∷◌, [], ℕ, List, length, length-append, sym, ◌∙◌, ap, arith, rules}
use Rattle.std.specs.Prelude.{Result}
use Rattle.std.proofs.lemmas.Result.{err_from_is_err_and}
use Rattle.ix_sections.specs.Reading.{Fault, ◌>>=◌}
use Rattle.ix_sections.specs.Sections.{section_list, sections_in}
use Rattle.ix_sections.specs.SectionView.{section_of}
use Rattle.ix_sections.proofs.Sections.{section_at-shorter}
use Rattle.ix_sections.proofs.SectionLists.{ListGoesOn-first, ListGoesOn-more, ListGoesOn-fails, ListGoesOn-last, FailsAs-of}
use Rattle.ix_verify.proofs.summary.tallied.Goals as goal

pub loop-rest-init : goal.loop-rest-init
loop-rest-init c =
    let size = length c.args.bytes.now in
    let read = c.in_ok-sections.ensures in (
      [],
      c.empty-summary.ensures,
      omega (arith, read.shorter),
      λ n h. ListGoesOn-first size c.in_ok-sections.sections.now n h ∙ sym (ap (λ (r : Result (List ℕ) Fault). r >>= (λ rest. sections_in size rest)) read.rest),
    )

pub returns-in_err-section-clause-refused : goal.returns-in_err-section-clause-refused
returns-in_err-section-clause-refused c =
    let size = length c.args.bytes.now in
    let p = err_from_is_err_and c.from_residual-in_err-section.result c.from_residual-in_err-section.ensures.1 in
    let fault = c.in_err-section.ensures.refused in
    let some : 0 < length c.loop-rest.rest.now = search rules in
    let e = c.in_err-section.field-0.0 in
    let so_far = c.loop-rest.invariant in
    rw (p.1, p.2) (fault.0, FailsAs-of e.kind (size - e.place) (section_list c.args.bytes.now) (ListGoesOn-fails size so_far.0 c.loop-rest.rest.now (section_list c.args.bytes.now) some so_far.3 _ fault.1))

pub loop-rest-smaller : goal.loop-rest-smaller
loop-rest-smaller c =
    let section = c.in_ok-section.section in
    section_at-shorter c.loop-rest.rest.now ((section.cid, section.block.now), c.in_ok-section.after.now) c.in_ok-section.ensures.section.read

pub loop-rest-preserved : goal.loop-rest-preserved
loop-rest-preserved c =
    let size = length c.args.bytes.now in
    let section = c.in_ok-section.section in
    let read = c.in_ok-section.ensures.section in
    let some : 0 < length c.loop-rest.rest.now = search rules in
    let so_far = c.loop-rest.invariant in
    let s : (List ℕ × List ℕ) × List ℕ = ((section.cid, section.block.now), c.in_ok-section.after.now) in
    let shorter = section_at-shorter c.loop-rest.rest.now s read.read in (
      so_far.0 ++ section_of section ∷ [],
      c.in-Ok.ensures so_far.0 so_far.1,
      omega (arith, length-append so_far.0 (section_of section ∷ []), shorter, so_far.2),
      rw read.place (ListGoesOn-more size so_far.0 c.loop-rest.rest.now (section_list c.args.bytes.now) s some read.read so_far.3),
    )

pub returns-clause-tallied : goal.returns-clause-tallied
returns-clause-tallied c =
    let so_far = c.loop-rest.invariant in
    let none : length c.loop-rest.rest.now ≡ 0 = search rules in
    (so_far.0, ListGoesOn-last (length c.args.bytes.now) so_far.0 c.loop-rest.rest.now (section_list c.args.bytes.now) none so_far.3, so_far.1)
