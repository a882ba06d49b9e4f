use Rattle.std.proofs.Common.{sym, ap, ◌∙◌, codes}
use Rattle.std.specs.Prelude.{Some, option_map}
use Rattle.ix_cbor.specs.Data.{integer}
use Rattle.ix_sections.specs.Reading.{value_at, version_fault, header_fault}
use Rattle.ix_sections.proofs.HeaderParts.{map_stands, has_no_map, version_told}
use Rattle.ix_sections.proofs.reader.header.fault_of_block.Goals as goal

pub returns-in_default : goal.returns-in_default
returns-in_default c = λ d h. (has_no_map d (c.in_default.ensures d h)).0

pub returns : goal.returns
returns c = λ d h.
    let x = map_stands (c.in-Some.count, c.in-Some.entries) d (c.in-Some.ensures d h) in
    let version = c.integer_at-version.ensures (value_at (codes "version") x.0) (c.value_at.ensures x.0 x.2) in
    let roots = c.has_roots-has_roots.ensures (value_at (codes "roots") x.0) (c.value_at-2.ensures x.0 x.2) in
    c.fault_of_version.ensures ∙ ap (λ v. version_fault (option_map integer v) c.has_roots-has_roots.result) version
    ∙ version_told (value_at (codes "version") x.0) c.has_roots-has_roots.result
    ∙ ap (version_fault (value_at (codes "version") x.0)) roots
    ∙ ap (λ y. header_fault (Some y)) (sym x.1)
