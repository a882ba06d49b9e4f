use Rattle.std.proofs.Common.{subst, ◌∙◌}
use Rattle.std.proofs.lemmas.Result.{IfOk-weaker}
use Rattle.ix_sections.specs.Standing.{ValueIsAt}
use Rattle.ix_sections.proofs.HeaderParts.{links_listed, roots_missing}
use Rattle.ix_sections.proofs.reader.header.links_of.Goals as goal

pub returns-in-Some-list_at : goal.returns-in-Some-list_at
returns-in-Some-list_at c =
    IfOk-weaker c.links_in.result _ _
    (λ links told d h. links_listed c.in-Some.value (c.in-Some-list_at.count, c.in-Some-list_at.members) c.in-Some-list_at.ensures links.items told d (subst (λ v. ValueIsAt v d) c.in-Some.is h))
    c.links_in.ensures

pub returns-in-None : goal.returns-in-None
returns-in-None c = λ d h. c.new-in-None.ensures.items ∙ (roots_missing c.in-Some.value c.in-None.ensures d (subst (λ v. ValueIsAt v d) c.in-Some.is h)).1
