use Rattle.std.proofs.Common.{arith}
use Rattle.ix_stages.proofs.Claiming.{draws}
use Rattle.ix_stages.proofs.claims.draw.Goals as goal

pub fetch_add-requires : goal.fetch_add-requires
fetch_add-requires g c =
    let w = c.requires.seat.1 in
    (c.requires.seat.0, omega (arith, w), draws _ _ _ _ _ c.requires.view.0 c.requires.view.1)
