use Rattle.std.proofs.Common.{refl, arith}
use Rattle.ix_cbor.specs.Fronts.{own_of_front}
use Rattle.ix_sections.proofs.HeaderParts.{has_head, list_found, no_list}
use Rattle.ix_sections.proofs.reader.header.list_at.Goals as goal

pub returns-in_default : goal.returns-in_default
returns-in_default c = λ d h. absurd (has_head 511 c.args.value.now d _ (omega arith) c.in_default.ensures.exact.1 h)

pub returns-in-Some : goal.returns-in-Some
returns-in-Some c = list_found c.args.value.now (own_of_front c.in-Ok.front) c.in-Ok.rest.now (c.in-Some.count, c.in-Ok.rest) c.in-Ok.ensures.exact c.in-Some.ensures refl

pub returns-in-None : goal.returns-in-None
returns-in-None c = no_list c.args.value.now c.in-Ok.front c.in-Ok.rest.now c.in-Ok.ensures.exact c.in-None.ensures
