use Rattle.std.proofs.Common.{sym, ◌∙◌, ap}
use Rattle.ix_store.proofs.Blocks.{place_within, fault_of}
use Rattle.ix_verdict.specs.Needed.{needed_of}
use Rattle.ix_walk.proofs.Readings.{bytes_absent, bytes_at}
use Rattle.ix_walk.proofs.visiting.bytes_of.Goals as goal

pub returns-in_err-place-in-Block : goal.returns-in_err-place-in-Block
returns-in_err-place-in-Block c = rw c.from_residual.ensures (record {
  bytes = bytes_absent c.args.store.now c.args.cid.now c.in-Block.field-0 (c.in-Block.ensures ∙ ap needed_of c.parts-parts.ensures) (sym c.in_err-place-in-Block.was ∙ c.requires);
  fault = tt;
})

pub cursor-requires : goal.cursor-requires
cursor-requires c = place_within c.in_ok-place-in-Block.place c.args.store.now c.args.cid.now (sym c.in_ok-place-in-Block.was ∙ c.requires)

pub returns-in_ok-place-in-Block : goal.returns-in_ok-place-in-Block
returns-in_ok-place-in-Block c =
    let place = c.in_ok-place-in-Block.place in
    let there = sym c.in_ok-place-in-Block.was ∙ c.requires in
    record {
      bytes = bytes_at c.args.store.now c.args.cid.now c.in-Block.field-0 (c.in-Block.ensures ∙ ap needed_of c.parts-parts.ensures) place c.cursor.result there c.cursor.ensures;
      fault = fault_of c.args.store.now place c.cursor.result c.is_malformed.result (place_within place c.args.store.now c.args.cid.now there) c.cursor.ensures c.is_malformed.ensures;
    }
