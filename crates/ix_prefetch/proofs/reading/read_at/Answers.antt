use Rattle.std.proofs.Common.{ℕ, sym, ◌∙◌, ap, arith}
use Rattle.std.specs.Prelude.{Some}
use Rattle.ix_verdict.specs.Needed.{needed_of}
use Rattle.ix_prefetch.proofs.Tables.{cid_is}
use Rattle.ix_prefetch.proofs.reading.read_at.Goals as goal

pub read_stored-bytes-requires-clause-needed : goal.read_stored-bytes-requires-clause-needed
read_stored-bytes-requires-clause-needed c = (c.in-Block.field-0, c.in-Block.ensures ∙ ap needed_of c.parts.ensures)

pub returns : goal.returns
returns c = record {
  cid = cid_is c.args.store.now c.args.place c.in_ok-cid.cid (omega (arith, c.len.ensures, c.if-place-len.false)) c.in_ok-cid.ensures;
  there = ap (λ (n : ℕ). Some n) (sym c.if-found-place.false) ∙ c.in-Some.ensures;
  needed = (c.in-Block.field-0, c.in-Block.ensures ∙ ap needed_of c.parts.ensures);
  bytes = c.read_stored-bytes.ensures.bytes;
  reading = c.read_stored-bytes.ensures.reading;
}
