use Rattle.std.proofs.Common.{arith, subst}
use Rattle.ix_pipeline.specs.Numbered.{Numbered, IsHeldWithin}
use Rattle.ix_pipeline.proofs.Slots.{entry_held, window_at}
use Rattle.ix_pipeline.proofs.ring.Ring.next.Goals as goal

pub returns-clause-held : goal.returns-clause-held
returns-clause-held g c =
    let n = c.self.inside.next in
    let xs = c.self.inside.window.items in
    let inside : IsHeldWithin (window_at n xs) =
    λ k x e. let h = entry_held n xs k x e in (h.0, omega (arith, h.1, c.self.invariant)) in
    subst (λ (r : Numbered g.row.T.Denot). IsHeldWithin r) c.self.view_is inside
