use Rattle.std.proofs.Common.{subst}
use Rattle.ix_sections.specs.Standing.{ValueIsAt}
use Rattle.ix_sections.proofs.HeaderParts.{roots_told, roots_missing}
use Rattle.ix_sections.proofs.reader.header.has_roots.Goals as goal

pub returns-in-Some-list_at : goal.returns-in-Some-list_at
returns-in-Some-list_at c = λ d h.
    roots_told c.in-Some.value (c.in-Some-list_at.count, c.in-Some-list_at.members) c.in-Some-list_at.ensures c.are_links.result c.are_links.ensures d (subst (λ v. ValueIsAt v d) c.in-Some.is h)

pub returns-in-None : goal.returns-in-None
returns-in-None c = λ d h. (roots_missing c.in-Some.value c.in-None.ensures d (subst (λ v. ValueIsAt v d) c.in-Some.is h)).0
