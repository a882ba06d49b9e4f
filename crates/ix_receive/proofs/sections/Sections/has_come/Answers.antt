use Rattle.std.proofs.Common.{ap, ◌∙◌}
use Rattle.std.specs.Prelude.{is_some}
use Rattle.ix_store.specs.Store.{Blocks, has_cid}
use Rattle.ix_receive.proofs.Keeping.{has-come}
use Rattle.ix_receive.proofs.sections.Sections.has_come.Goals as goal

pub returns : goal.returns
returns c =
    let s = c.self.inside in
    has-come s.kept s.history c.args.cid.now c.is_some.result c.self.invariant (c.is_some.ensures ∙ ap is_some c.find.ensures) ∙ ap (λ (ps : Blocks × Blocks). has_cid ps.1 c.args.cid.now) c.self.view_is
