use Rattle.std.proofs.Common.{◌≡◌, ℕ, List, [], subst, sym}
use Rattle.std.specs.Prelude.{None, Ok, IfSome, IfNone}
use Rattle.ix_cbor.specs.Data.{Data}
use Rattle.ix_cbor.specs.Reading.{item_at}
use Rattle.ix_selector.specs.Residual.{step_of, ResidualEnters}
use Rattle.ix_selector.specs.Behind.{residual_after}
use Rattle.ix_walk.specs.Descent.{IsChild}
use Rattle.ix_walk.proofs.Parts.{some_entered, child_entered, child_apart}
use Rattle.ix_walk.proofs.descent.step_into.Goals as goal

pub returns-in-Some : goal.returns-in-Some
returns-in-Some c =
    let places = c.args.residual.now in
    let step = step_of c.args.step.now in
    let at = c.args.at.now in
    let behind = c.args.read.1.now in (
      subst (λ (l : List ℕ). IsChild places step at c.args.depth c.entered_by-entered.result l) (sym c.seek.ensures)
          (subst (λ o. IsChild places step at c.args.depth o behind) (sym c.entered_by-entered.ensures)
          (child_entered c.args.read.0 places c.in-Some.residual step c.args.depth at behind c.requires.exact (some_entered c.in-Some.residual (subst (λ o. IfSome o (λ r. ResidualEnters r [])) c.in-Some.is c.in_ok-residual.ensures.entered))
          (subst (λ o. IfSome o (λ r. r ≡ residual_after places step)) c.in-Some.is c.in_ok-residual.ensures.exact))),
      c.step.ensures.same,
    )

pub returns-in-None : goal.returns-in-None
returns-in-None c =
    let places = c.args.residual.now in
    let step = step_of c.args.step.now in
    let at = c.args.at.now in
    let end = c.end_of-end.result.now in
    let ends : (d : Data) (rest : List ℕ) → item_at 512 at ≡ Ok (d, rest) → end ≡ rest = subst (λ (l : List ℕ). (d : Data) (rest : List ℕ) → item_at 512 l ≡ Ok (d, rest) → end ≡ rest) c.bytes.ensures c.end_of-end.ensures.exact in
    (subst (λ (l : List ℕ). IsChild places step at c.args.depth None l) (sym c.seek-in-None.ensures) (child_apart places step c.args.depth at end ends (subst (λ o. IfNone o (residual_after places step ≡ [])) c.in-None.is c.in_ok-residual.ensures.stays_out)), c.step.ensures.same)
