use Rattle.std.proofs.Common.{◌<◌, ◌^◌, arith}
use Rattle.std.proofs.lemmas.List.Elements.{All-from_get_or}
use Rattle.ix_cid.specs.Bytes.{AreBytes}
use Rattle.ix_path.proofs.Causes.{first_in}
use Rattle.ix_path.proofs.malformed.fault_in.Goals as goal

pub returns-in-Err : goal.returns-in-Err
returns-in-Err c =
    let bytes : AreBytes c.args.bytes.now = All-from_get_or (λ x. x < 2 ^ 8) c.args.bytes.now 0 (λ i _. omega (arith, c.type_inv.bytes i)) in
    first_in c.args.bytes.now c.in-Err.fault bytes c.in-Err.ensures
