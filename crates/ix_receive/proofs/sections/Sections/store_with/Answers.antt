use Rattle.std.proofs.Common.{ap, ◌∙◌}
use Rattle.ix_store.specs.Store.{Blocks, value_of}
use Rattle.ix_receive.specs.Base.{store_of}
use Rattle.ix_receive.proofs.Bases.{section-value}
use Rattle.ix_receive.proofs.Keeping.{same-value}
use Rattle.ix_receive.proofs.sections.Sections.store_with.Goals as goal

pub returns-in-Some : goal.returns-in-Some
returns-in-Some c = c.in-Some.ensures.1 c.self.inside.history ∙ ap (λ (s : Blocks × Blocks). value_of (store_of s) c.args.cid.now) c.self.view_is

pub returns-in-None : goal.returns-in-None
returns-in-None c =
    let s = c.self.inside in
    let cid = c.args.cid.now in
    ap (λ (ps : Blocks). value_of ps cid) c.self.invariant ∙ same-value s.history cid ∙ section-value s.base s.history cid c.in-None.ensures
    ∙ ap (λ (s : Blocks × Blocks). value_of (store_of s) cid) c.self.view_is
