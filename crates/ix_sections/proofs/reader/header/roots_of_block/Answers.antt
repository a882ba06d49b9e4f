use Rattle.std.proofs.Common.{sym, ap, ◌∙◌, codes}
use Rattle.std.specs.Prelude.{Some}
use Rattle.std.proofs.lemmas.Result.{IfOk-weaker}
use Rattle.ix_sections.specs.Reading.{value_at}
use Rattle.ix_sections.specs.Sections.{roots_in}
use Rattle.ix_sections.proofs.HeaderParts.{map_stands, has_no_map}
use Rattle.ix_sections.proofs.reader.header.roots_of_block.Goals as goal

pub returns-in-Some : goal.returns-in-Some
returns-in-Some c =
    IfOk-weaker c.links_of.result _ _
    (λ roots told d h.
    let x = map_stands (c.in-Some.count, c.in-Some.entries) d (c.in-Some.ensures d h) in
    told (value_at (codes "roots") x.0) (c.value_at.ensures x.0 x.2) ∙ ap (λ y. roots_in (Some y)) (sym x.1))
    c.links_of.ensures

pub returns-in-None : goal.returns-in-None
returns-in-None c = λ d h. c.new.ensures.items ∙ (has_no_map d (c.in-None.ensures d h)).1
