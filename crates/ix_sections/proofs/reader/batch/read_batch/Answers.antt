use Rattle.std.proofs.Common.{◌<◌, ◌-◌, ◌∷◌, [], length, length-append, ap, arith, rules}
use Rattle.std.proofs.lemmas.Result.{err_from_is_err_and}
use Rattle.ix_sections.proofs.Sections.{section_at-shorter}
use Rattle.ix_sections.proofs.Batches.{reads-first, reads-more, reads-fault}
use Rattle.ix_sections.proofs.reader.batch.read_batch.Goals as goal

pub loop-batch-init : goal.loop-batch-init
loop-batch-init c = record {
  room = omega (arith, ap length c.clear.ensures.items);
  reads_on = rw c.clear.ensures.items (reads-first c.args.size c.args.bytes.now);
}

pub returns-in_err-section-clause-refused : goal.returns-in_err-section-clause-refused
returns-in_err-section-clause-refused c =
    let p = err_from_is_err_and c.from_residual.result c.from_residual.ensures.1 in
    let fault = c.in_err-section.ensures.refused in
    let some : 0 < length c.loop-batch.rest.now = search rules in
    rw (p.1, p.2) (
      fault.0,
      reads-fault c.args.size c.args.bytes.now c.loop-batch.batch.items c.loop-batch.rest.now c.in_err-section.field-0.0.kind (c.args.size - c.in_err-section.field-0.0.place) some fault.1 c.loop-batch.invariant.reads_on,
    )

pub loop-batch-smaller : goal.loop-batch-smaller
loop-batch-smaller c =
    let section = c.in_ok-section.section in
    section_at-shorter c.loop-batch.rest.now ((section.cid, section.block.now), c.in_ok-section.after.now) c.in_ok-section.ensures.section.read

pub loop-batch-preserved : goal.loop-batch-preserved
loop-batch-preserved c =
    let section = c.in_ok-section.section in
    let read = c.in_ok-section.ensures.section in
    let some : 0 < length c.loop-batch.rest.now = search rules in
    let shorter : length c.in_ok-section.after.now < length c.loop-batch.rest.now = section_at-shorter c.loop-batch.rest.now ((section.cid, section.block.now), c.in_ok-section.after.now) read.read in
    record {
      room = omega (arith, ap length c.in-Ok.ensures.items, length-append c.loop-batch.batch.items (section ∷ []), shorter, c.loop-batch.invariant.room);
      reads_on = rw c.in-Ok.ensures.items (reads-more c.args.size c.args.bytes.now c.loop-batch.batch.items section c.loop-batch.rest.now c.in_ok-section.after.now some read.read read.place c.loop-batch.invariant.reads_on);
    }
