use Rattle.std.proofs.Common.{arith, length}
use Rattle.ix_cbor.specs.Reading.{own_at}
use Rattle.ix_cbor.proofs.Places.{answered}
use Rattle.ix_cbor.proofs.Within.{own_within, err_within}
use Rattle.ix_cbor.proofs.front.read_front.Goals as goal

pub within-requires : goal.within-requires
within-requires c = let b = c.args.bytes.now in err_within (length b) (own_at b) _ (own_within (length b) b (omega arith)) c.in-Err.ensures.exact

pub returns-in-Err-clause-exact : goal.returns-in-Err-clause-exact
returns-in-Err-clause-exact c =
    let b = c.args.bytes.now in
    answered (length b) (own_at b) c.in-Err.fault.kind c.in-Err.fault.left c.within.result (err_within (length b) (own_at b) _ (own_within (length b) b (omega arith)) c.in-Err.ensures.exact) c.within.ensures c.in-Err.ensures.exact
