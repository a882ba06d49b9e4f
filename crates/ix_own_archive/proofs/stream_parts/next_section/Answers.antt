use Rattle.std.proofs.Common.{◌≡◌, ◌<◌, ◌^◌, true, ◌++◌, length, ap, arith, rules, length-append}
use Rattle.std.specs.Prelude.{Some, Ok}
use Rattle.ix_sections.specs.Writing.{section_with}
use Rattle.ix_own_archive.specs.Fronts.{is_whole}
use Rattle.ix_own_archive.proofs.Fronts.{whole-within}
use Rattle.ix_own_archive.proofs.stream_parts.next_section.Goals as goal

pub returns-in-Ok-clause-next : goal.returns-in-Ok-clause-next
returns-in-Ok-clause-next c =
    let b = c.args.bytes.now in
    let has = c.in-Ok.ensures.received in
    let p = has.section in
    let rest = c.in-Ok.rest.now in
    let small : length b < 2 ^ 63 = search rules in
    let whole : is_whole c.args.limit b ≡ Ok true = cc (c.in-Ok-true.ensures, c.in-Ok-true.field-0-test) in
    record {
      rest = rest;
      received = has;
      size = omega (arith, ap length has.written, length-append (section_with p.0 (Some p.1)) rest);
      short = whole-within c.args.limit b (p.0 ++ p.1) rest small has.written whole;
    }
