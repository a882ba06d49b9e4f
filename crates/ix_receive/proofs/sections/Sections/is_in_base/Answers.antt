use Rattle.std.proofs.Common.{◌≡◌, ◌++◌, ap, ◌∙◌}
use Rattle.std.specs.Borrow.{Bor}
use Rattle.ix_store.specs.Store.{Blocks, has_cid, value_of}
use Rattle.ix_receive.proofs.Bases.{found-if}
use Rattle.ix_receive.proofs.sections.Sections.is_in_base.Goals as goal

pub returns : goal.returns
returns c =
    let base = c.self.inside.base in
    let cid = c.args.cid.now in
    c.is_some.ensures ∙ found-if (λ (s : Bor Blocks). (more : Blocks) → value_of s.now cid ≡ value_of (base ++ more) cid) c.store_with.result (has_cid base cid) c.store_with.ensures
    ∙ ap (λ (s : Blocks × Blocks). has_cid s.0 cid) c.self.view_is
