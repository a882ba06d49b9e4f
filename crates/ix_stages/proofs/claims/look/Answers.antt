use Rattle.std.proofs.Common.{arith}
use Rattle.ix_stages.proofs.Claiming.{looks}
use Rattle.ix_stages.proofs.claims.look.Goals as goal

pub load-requires : goal.load-requires
load-requires g c =
    let w = c.requires.seat.1 in
    (c.requires.seat.0, omega (arith, w), looks _ _ _ _ _)
