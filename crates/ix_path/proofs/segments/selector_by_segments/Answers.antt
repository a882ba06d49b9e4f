use Rattle.std.proofs.Common.{◌≡◌, List, ℕ, ◌∷◌, ◌++◌, sym, ◌∙◌, ap, subst}
use Rattle.std.proofs.lemmas.Result.{err_from_is_err_and}
use Rattle.ix_path.specs.Resolution.{segments_in}
use Rattle.ix_path.specs.Segments.{pattern_by_segments, IsBlockOf, HasNoSelectorBySegments}
use Rattle.ix_path.proofs.BySegments.{segments-block, refused-by-segments, segments-split, segments-gone}
use Rattle.ix_path.proofs.segments.selector_by_segments.Goals as goal

pub returns-in_err-tree-2-clause-refused : goal.returns-in_err-tree-2-clause-refused
returns-in_err-tree-2-clause-refused c =
    let failed = err_from_is_err_and c.from_residual-in_err-tree-2.result c.from_residual-in_err-tree-2.ensures.1 in
    let i = c.loop-segment.invariant in
    let before = segments_in c.in-Some.before.now in
    let fault = c.in_err-tree-2.field-0.0 in
    let whole : before ++ c.as_slice.result.now ∷ i.1 ≡ segments_in c.args.segments.now =
    ap (λ (g : List ℕ). before ++ g ∷ i.1) c.as_slice.ensures.value ∙ sym (segments-split c.in-Some.before.now c.in-Some.segment.now i.1)
    ∙ ap (λ left. segments_in left ++ i.1) (sym c.in-Some.ensures.cases.0) ∙ i.2 in
    let deep = c.in_err-tree-2.ensures.refused (pattern_by_segments i.1 i.0) i.4 in
    rw (failed.1, failed.2)
    (subst (λ gs. HasNoSelectorBySegments gs c.args.end fault) whole (refused-by-segments before (c.as_slice.result.now ∷ i.1) c.args.end i.0 fault i.3 deep))

pub returns-clause-selector : goal.returns-clause-selector
returns-clause-selector c =
    let i = c.loop-segment.invariant in
    let block = c.in_ok-encode.field-0.items in
    let whole : i.1 ≡ segments_in c.args.segments.now = segments-gone c.loop-segment.left.now i.1 (segments_in c.args.segments.now) c.in_default.ensures.cases i.2 in
    record {
      selector = i.0;
      at_end = i.3;
      is_block = subst (λ gs. IsBlockOf (pattern_by_segments gs i.0) block) whole (segments-block i.1 c.args.end i.0 c.loop-segment.tree block i.3 i.4 c.in_ok-encode.ensures);
    }
