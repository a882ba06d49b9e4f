use Rattle.std.proofs.Common.{sym, ap, ◌∙◌}
use Rattle.std.specs.Arc.{arc_value}
use Rattle.ix_cid.specs.Held.{content}
use Rattle.ix_cid.proofs.Helds.{taken-stands}
use Rattle.ix_cid.proofs.cid.Cid.by_ref.Goals as goal

pub within-requires-clause-place : goal.within-requires-clause-place
within-requires-clause-place c =
    let place = c.in-Within in
    taken-stands (arc_value place.bytes).items place.start place.size c.as_bytes-cid.result.now (sym (c.as_bytes-cid.ensures.bytes ∙ sym c.self.view_is ∙ ap content place.is))
