use Rattle.std.proofs.Common.{◌∙◌, subst}
use Rattle.ix_cbor.specs.Fronts.{own_of_front}
use Rattle.ix_sections.specs.Standing.{ValueIsAt}
use Rattle.ix_sections.proofs.HeaderParts.{integer_found, value_headed}
use Rattle.ix_sections.proofs.reader.header.integer_at.Goals as goal

pub returns-in_default : goal.returns-in_default
returns-in_default c = λ d h. absurd (value_headed c.in_ok-value.field-0 _ c.in_default.ensures.exact.1 d (subst (λ v. ValueIsAt v d) c.in_ok-value.was h))

pub returns : goal.returns
returns c = λ d h. c.integer_of.ensures ∙ integer_found c.in_ok-value.field-0 (own_of_front c.in-Ok.front) _ c.in-Ok.ensures.exact d (subst (λ v. ValueIsAt v d) c.in_ok-value.was h)
