use Rattle.std.proofs.Common.{rules, ◌<◌, ◌^◌, arith}
use Rattle.std.specs.Prelude.{◌≢◌}
use Rattle.ix_cbor.specs.declared.fault.CborKind.TheVariants.{Memory}
use Rattle.std.proofs.lemmas.List.Elements.{All-from_get_or}
use Rattle.ix_cid.specs.Bytes.{AreBytes}
use Rattle.ix_dag_json.proofs.Items.{checked_block, checked_fault}
use Rattle.ix_dag_json.proofs.text.text_of_block.Goals as goal

pub text_of_checked-requires : goal.text_of_checked-requires
text_of_checked-requires c =
    let bytes : AreBytes c.args.block.now = All-from_get_or (λ x. x < 2 ^ 8) c.args.block.now 0 (λ i _. omega (arith, c.type_inv.block i)) in
    checked_block c.args.block.now bytes c.in-Ok.ensures

pub returns-in-Err-2-clause-refused : goal.returns-in-Err-2-clause-refused
returns-in-Err-2-clause-refused c =
    let bytes : AreBytes c.args.block.now = All-from_get_or (λ x. x < 2 ^ 8) c.args.block.now 0 (λ i _. omega (arith, c.type_inv.block i)) in
    let other : c.in-Err-2.fault.kind ≢ Memory = search rules in
    rw (c.in-Err-2.fault-is) (checked_fault c.args.block.now c.in-Err-2.fault bytes other c.in-Err-2.ensures, other)
