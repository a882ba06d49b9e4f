use Rattle.std.proofs.Common.{pos, negsuc, ◌-ℤ◌, nat_abs, to_z, of_z, arith, ◌≡◌, ◌<ℤ◌}
use Rattle.std.proofs.lemmas.Int.{ints}
use mir.Syntax.{w128}
use Rattle.ix_cbor.proofs.Pushed.{negative-pushed}
use Rattle.ix_cbor.proofs.write.push_int.Goals as goal

pub returns-else-n-ge0 : goal.returns-else-n-ge0
returns-else-n-ge0 c =
    let below : c.args.n <ℤ pos 0 = omega (arith, ints) in
    let argument = nat_abs (to_z w128 (of_z w128 (negsuc 0 -ℤ to_z w128 (of_z w128 c.args.n)))) in
    let is : pos argument ≡ negsuc 0 -ℤ c.args.n = omega (arith, ints) in
    record { ok = negative-pushed c.push_head-else-n-ge0.result c.args.n argument c.args.out.now.items c.push_head-else-n-ge0.new.out.items below is c.push_head-else-n-ge0.ensures.ok }
