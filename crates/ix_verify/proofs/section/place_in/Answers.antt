use Rattle.std.proofs.Common.{◌∙◌, sym}
use Rattle.ix_store.proofs.Blocks.{place_within}
use Rattle.ix_verify.proofs.Stored.{pair-here}
use Rattle.ix_verify.proofs.section.place_in.Goals as goal

pub bytes-requires : goal.bytes-requires
bytes-requires c = place_within _ _ _ c.in-Some.ensures

pub returns-in-Some : goal.returns-in-Some
returns-in-Some c =
    let section = c.args.section.now in
    pair-here c.args.store.now c.in-Some.place _ section.cid c.bytes.result.now section.block.now c.in-Some.ensures c.in-Ok.ensures.same c.bytes.ensures (sym c.eq.ensures ∙ c.if-eq.true)
