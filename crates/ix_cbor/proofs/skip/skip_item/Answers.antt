use Rattle.std.proofs.Common.{rules, length}
use Rattle.ix_cbor.specs.Fronts.{after_item}
use Rattle.ix_cbor.proofs.Places.{answered}
use Rattle.ix_cbor.proofs.Skips.{skip_within}
use Rattle.ix_cbor.proofs.skip.skip_item.Goals as goal

pub within-requires : goal.within-requires
within-requires c = skip_within c.args.bytes.now _ c.in-Err.ensures

pub returns-in-Err : goal.returns-in-Err
returns-in-Err c =
    let b = c.args.bytes.now in
    answered (length b) (after_item 512 b) c.in-Err.fault.kind c.in-Err.fault.left c.within.result (skip_within b _ c.in-Err.ensures) c.within.ensures c.in-Err.ensures

pub returns-in-Ok : goal.returns-in-Ok
returns-in-Ok c = search rules
