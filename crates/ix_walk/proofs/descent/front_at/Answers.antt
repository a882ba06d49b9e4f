use Rattle.std.proofs.Common.{sym, ◌∙◌, arith}
use Rattle.ix_cbor.proofs.Steps.{no_ok}
use Rattle.ix_store.proofs.Ends.{front_end, link_end}
use Rattle.ix_walk.proofs.Parts.{item_has_front}
use Rattle.ix_walk.proofs.descent.front_at.Goals as goal

pub unreachable-requires : goal.unreachable-requires
unreachable-requires c =
    let own = item_has_front c.args.at.now c.requires.0 c.requires.1 in no_ok _ own.0 (sym c.in-Err.ensures.exact.1 ∙ own.1)

pub returns : goal.returns
returns c = record {
  item = c.requires;
  exact = c.in-Ok.ensures.exact;
  cid = c.in-Ok.ensures.cid;
  end = front_end c.in-Ok.read.0 c.args.at.now c.in-Ok.read.1.now (λ i. omega (arith, c.type_inv.at i)) c.in-Ok.ensures.exact;
  link = link_end c.in-Ok.read.0 c.args.at.now c.in-Ok.read.1.now (λ i. omega (arith, c.type_inv.at i)) c.in-Ok.ensures.exact;
}
