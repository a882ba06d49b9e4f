use Rattle.std.proofs.Common.{arith}
use Rattle.ix_stages.proofs.Claiming.{claims-begin}
use Rattle.ix_stages.proofs.claims.Claims.settle.Goals as goal

pub load_new_seat-joined-requires : goal.load_new_seat-joined-requires
load_new_seat-joined-requires g c =
    let one = c.self.invariant.0 in
    (omega (arith, one), claims-begin _ _ _)
