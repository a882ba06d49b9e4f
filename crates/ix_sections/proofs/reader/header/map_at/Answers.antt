use Rattle.std.proofs.Common.{refl, arith}
use Rattle.ix_cbor.specs.Fronts.{own_of_front}
use Rattle.ix_sections.proofs.HeaderParts.{has_head, map_found, no_map}
use Rattle.ix_sections.proofs.reader.header.map_at.Goals as goal

pub returns-in_default : goal.returns-in_default
returns-in_default c = λ d h. absurd (has_head 512 c.args.block.now d _ (omega arith) c.in_default.ensures.exact.1 h)

pub returns-in-Some : goal.returns-in-Some
returns-in-Some c = map_found c.args.block.now (own_of_front c.in-Ok.front) c.in-Ok.rest.now (c.in-Some.count, c.in-Ok.rest) c.in-Ok.ensures.exact c.in-Some.ensures refl

pub returns-in-None : goal.returns-in-None
returns-in-None c = no_map c.args.block.now c.in-Ok.front c.in-Ok.rest.now c.in-Ok.ensures.exact c.in-None.ensures
