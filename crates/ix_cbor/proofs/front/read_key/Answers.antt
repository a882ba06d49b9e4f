use Rattle.std.proofs.Common.{arith, length}
use Rattle.std.specs.Prelude.{option_map}
use Rattle.ix_cbor.specs.Reading.{key_at}
use Rattle.ix_cbor.proofs.Places.{answered}
use Rattle.ix_cbor.proofs.Within.{key_within, err_within}
use Rattle.ix_cbor.proofs.front.read_key.Goals as goal

pub within-requires : goal.within-requires
within-requires c =
    let b = c.args.bytes.now in
    let before = option_map (λ k. k.now) c.args.before in
    err_within (length b) (key_at before b) _ (key_within (length b) before b (omega arith)) c.in-Err.ensures

pub returns-in-Err : goal.returns-in-Err
returns-in-Err c =
    let b = c.args.bytes.now in
    let before = option_map (λ k. k.now) c.args.before in
    answered (length b) (key_at before b) c.in-Err.fault.kind c.in-Err.fault.left c.within.result (err_within (length b) (key_at before b) _ (key_within (length b) before b (omega arith)) c.in-Err.ensures) c.within.ensures c.in-Err.ensures
