use Rattle.std.proofs.Common.{◌≡◌, ℕ, List, refl, subst, sym, ◌∙◌}
use Rattle.std.specs.Prelude.{None, Ok}
use Rattle.ix_cbor.specs.Fronts.{own_of_front}
use Rattle.ix_cbor.specs.Reading.{own_at}
use Rattle.ix_selector.specs.Residual.{step_of}
use Rattle.ix_walk.specs.Descent.{IsChild}
use Rattle.ix_walk.proofs.Parts.{child_flat}
use Rattle.ix_walk.proofs.descent.child_at.Goals as goal

pub returns : goal.returns
returns c =
    let at = c.args.at.now in
    let front = c.front_at-read.result.0 in
    let behind = c.front_at-read.result.1.now in
    let own : own_at at ≡ Ok (own_of_front front, behind) = subst (λ (l : List ℕ). own_at l ≡ Ok (own_of_front front, behind)) c.bytes.ensures c.front_at-read.ensures.exact in (
      subst (λ (l : List ℕ). IsChild c.args.residual.now (step_of c.args.step.now) at c.args.depth None l) (sym c.seek.ensures)
          (child_flat front c.args.residual.now (step_of c.args.step.now) c.args.depth at behind own (sym c.may_hold_links.ensures ∙ c.if-may_hold_links.false)),
      refl,
    )
