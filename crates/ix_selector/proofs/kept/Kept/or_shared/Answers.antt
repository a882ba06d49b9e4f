use Rattle.std.proofs.Common.{◌≡◌, sym, ap, ◌∙◌}
use Rattle.std.specs.Arc.{arc_value}
use Rattle.ix_selector.proofs.Same.{states-equal}
use Rattle.ix_selector.proofs.kept.Kept.or_shared.Goals as goal

pub returns-then-is_same : goal.returns-then-is_same
returns-then-is_same c =
    let same = states-equal c.as_slice.result.now c.as_slice-in-Shared.result.now (sym c.eq-is_same.ensures ∙ c.if-is_same.true) in
    let shared : (arc_value c.in_ok-try_clone.field-0).items ≡ c.as_slice.result.now = ap (λ p. p.items) (c.in_ok-try_clone.ensures ∙ sym c.deref.ensures) ∙ sym c.as_slice.ensures in
    shared ∙ same ∙ c.as_slice-in-Shared.ensures
