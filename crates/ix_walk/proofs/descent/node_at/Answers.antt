use Rattle.std.proofs.Common.{◌≡◌, ℕ, List, subst, sym}
use Rattle.std.specs.Prelude.{Ok}
use Rattle.ix_cbor.specs.Fronts.{own_of_front}
use Rattle.ix_cbor.specs.Reading.{own_at}
use Rattle.ix_walk.specs.Descent.{IsNode}
use Rattle.ix_walk.proofs.Parts.{node_enters}
use Rattle.ix_walk.proofs.descent.node_at.Goals as goal

pub returns : goal.returns
returns c =
    let at = c.args.at.now in
    let front = c.front_at.result.0 in
    let behind = c.front_at.result.1.now in
    let own : own_at at ≡ Ok (own_of_front front, behind) = subst (λ (l : List ℕ). own_at l ≡ Ok (own_of_front front, behind)) c.bytes.ensures c.front_at.ensures.exact in
    subst (λ (l : List ℕ). IsNode c.args.residual at c.args.depth c.entered_by-entered.result l) (sym c.seek.ensures)
    (subst (λ o. IsNode c.args.residual at c.args.depth o behind) (sym c.entered_by-entered.ensures) (node_enters front c.args.residual c.args.depth at behind own))
