use Rattle.std.proofs.Common.{◌<◌, ap, ◌∙◌, arith}
use Rattle.ix_stages.specs.declared.claim_rule.ClaimView.{ClaimView}
use Rattle.ix_stages.proofs.Claiming.{deals}
use Rattle.ix_stages.proofs.claims.deal.Goals as goal

pub split_seat-seat-requires : goal.split_seat-seat-requires
split_seat-seat-requires g c =
    let h = c.loop.invariant in
    let one = c.requires.table.1 in
    let left : 0 < c.loop.maker.me.0.parts = (let a = ap (λ (v : ClaimView g.row.T.Denot). v.parts) h.1 in let b = c.loop-test.true in omega (arith, a, b)) in (
      h.0 ∙ c.requires.table.0,
      omega (arith, one),
      deals _ _ _ _ left (ap (λ (v : ClaimView g.row.T.Denot). v.places) h.1 ∙ c.requires.view.1) (ap (λ (v : ClaimView g.row.T.Denot). v.refusals) h.1 ∙ c.requires.view.2),
    )
