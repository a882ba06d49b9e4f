use Rattle.std.proofs.Common.{◌≡◌, ◌<◌, ◌++◌, ◌∷◌, ◌-◌, [], ℕ, List, length, map, arith, rules}
use Rattle.std.proofs.lemmas.Result.{err_from_is_err_and}
use Rattle.std.proofs.lemmas.List.{map_push}
use Rattle.ix_sections.specs.Sections.{placed, sections_after}
use Rattle.ix_sections.specs.SectionView.{section_of}
use Rattle.ix_sections.proofs.SectionLists.{ListGoesOn-first, ListGoesOn-more, ListGoesOn-fails, ListGoesOn-last, FailsAs-of}
use Rattle.ix_sections.proofs.reader.sections.sections_after.Goals as goal

pub loop-rest-init : goal.loop-rest-init
loop-rest-init c = record { within = omega arith; goes_on = rw c.new-sections.ensures.items (ListGoesOn-first c.args.size c.args.bytes.now) }

pub returns-in_err-cid : goal.returns-in_err-cid
returns-in_err-cid c =
    let p = err_from_is_err_and c.from_residual.result c.from_residual.ensures.1 in
    let whole = sections_after c.args.size (length c.args.bytes.now) [] c.args.bytes.now in
    let some : 0 < length c.loop-rest.rest.now = search rules in
    rw (p.1, p.2) (
      FailsAs-of c.in_err-cid.field-0.0.kind c.in_err-cid.field-0.0.left whole
          (ListGoesOn-fails c.args.size (map section_of c.loop-rest.sections.items) c.loop-rest.rest.now whole some c.loop-rest.invariant.goes_on _ c.in_err-cid.ensures.reads),
      omega (arith, c.in_err-cid.ensures.within, c.loop-rest.invariant.within),
    )

pub loop-rest-preserved : goal.loop-rest-preserved
loop-rest-preserved c =
    let whole = sections_after c.args.size (length c.args.bytes.now) [] c.args.bytes.now in
    let some : 0 < length c.loop-rest.rest.now = search rules in
    let s : (List ℕ × List ℕ) × List ℕ = ((c.in_ok-cid.cid, c.in_ok-cid.block.now), c.in_ok-cid.after.now) in
    let e : map section_of c.push.new.self.items ≡ map section_of c.loop-rest.sections.items ++ placed (c.args.size - length c.loop-rest.rest.now) s.0 ∷ [] = rw c.in-Ok.ensures.items (map_push section_of c.loop-rest.sections.items _) in
    record {
      within = omega (arith, c.in_ok-cid.ensures.shorter);
      goes_on = rw e (ListGoesOn-more c.args.size (map section_of c.loop-rest.sections.items) c.loop-rest.rest.now whole s some c.in_ok-cid.ensures.reads c.loop-rest.invariant.goes_on);
    }

pub returns : goal.returns
returns c =
    let whole = sections_after c.args.size (length c.args.bytes.now) [] c.args.bytes.now in
    let none : length c.loop-rest.rest.now ≡ 0 = search rules in
    (ListGoesOn-last c.args.size (map section_of c.loop-rest.sections.items) c.loop-rest.rest.now whole none c.loop-rest.invariant.goes_on, tt)
