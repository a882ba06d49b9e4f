use Rattle.std.proofs.Common.{◌≡◌, ◌≤◌, ◌<◌, ◌-◌, ◌^◌, length, ap, ◌∙◌, arith}
use Rattle.ix_sections.specs.Writing.{header_of}
use Rattle.ix_car.specs.ArchiveMeaning.{borrowed}
use Rattle.ix_car.proofs.Delivered.{begins-in_part, begins-archived}
use Rattle.ix_car.proofs.archive.Archive.without.Goals as goal

pub returns-then-taken-len-clause-refused : goal.returns-then-taken-len-clause-refused
returns-then-taken-len-clause-refused g c =
    let header = c.as_slice.result.now in
    let roots = c.args.job.now.roots in
    let is : header ≡ header_of roots = c.as_slice.ensures.value ∙ c.in-Ok.ensures ∙ ap header_of c.roots.ensures in
    let short : c.write_text-taken.result < length header = omega (arith, c.if-taken-len.true, c.len.ensures, c.as_slice.ensures.len) in
    begins-in_part g.W.Write.contents c.args.writer c.write_text-taken.new.writer roots header c.write_text-taken.result is short c.write_text-taken.ensures.grown

pub returns-clause-guarantee : goal.returns-clause-guarantee
returns-clause-guarantee g c =
    let header = c.as_slice.result.now in
    let same = ap (λ j. j.roots) c.of.ensures in
    let is : header ≡ header_of c.args.job.now.roots = c.as_slice.ensures.value ∙ c.in-Ok.ensures ∙ ap header_of c.roots.ensures in
    let whole : length header ≤ c.write_text-taken.result = omega (arith, c.if-taken-len.false, c.len.ensures, c.as_slice.ensures.len) in
    let fits : c.write_text-taken.result ≤ 2 ^ 64 - 1 = omega (arith, c.write_text-taken.type_inv) in
    begins-archived g.W.Write.contents c.args.writer c.write_text-taken.new.writer c.args.store.now c.args.job.now c.of.result.value.roots (borrowed c.args.known) header c.new.result c.write_text-taken.result same is c.new.ensures c.write_text-taken.ensures.within whole fits
    c.write_text-taken.ensures.grown
