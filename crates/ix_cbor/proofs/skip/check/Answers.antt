use Rattle.std.proofs.Common.{◌≤◌, ◌≡◌, length, subst, sym}
use Rattle.std.specs.Prelude.{Err}
use Rattle.ix_cbor.specs.declared.read.PlacedFault.{PlacedFault}
use Rattle.ix_cbor.specs.Fronts.{judged}
use Rattle.ix_cbor.proofs.Places.{answered}
use Rattle.ix_cbor.proofs.Skips.{skip_within, rest_is_within, judged_more, judged_fault}
use Rattle.ix_cbor.proofs.skip.check.Goals as goal

pub within-requires : goal.within-requires
within-requires c =
    subst (λ (s : PlacedFault). s.left ≤ length c.args.bytes.now) (sym c.at.ensures) (rest_is_within c.args.bytes.now c.in-Ok.rest.now c.in-Ok.ensures)

pub within-requires-in-Err : goal.within-requires-in-Err
within-requires-in-Err c = skip_within c.args.bytes.now _ c.in-Err.ensures

pub returns-in-Ok : goal.returns-in-Ok
returns-in-Ok c =
    let b = c.args.bytes.now in
    let within = subst (λ (s : PlacedFault). s.left ≤ length b) (sym c.at.ensures) (rest_is_within b c.in-Ok.rest.now c.in-Ok.ensures) in
    let fails = subst (λ (s : PlacedFault). judged b ≡ Err (record { kind = s.kind; left = s.left })) (sym c.at.ensures) (judged_more b c.in-Ok.rest.now c.in-Ok.ensures c.in-Ok.len_at_least) in
    answered (length b) (judged b) c.at.result.kind c.at.result.left c.within.result within c.within.ensures fails

pub returns-in-Err : goal.returns-in-Err
returns-in-Err c =
    let b = c.args.bytes.now in
    answered (length b) (judged b) c.in-Err.fault.kind c.in-Err.fault.left c.within-in-Err.result (skip_within b _ c.in-Err.ensures) c.within-in-Err.ensures (judged_fault b _ c.in-Err.ensures)
