use Rattle.std.proofs.Common.{ℕ, List, [], ◌∷◌, ◌++◌, map, sym, ap, ◌∙◌}
use Rattle.ix_store.specs.Store.{Blocks, has_cid, with_block}
use Rattle.ix_receive.specs.Keeping.{kept_of}
use Rattle.ix_receive.proofs.Keeping.{added-one}
use Rattle.ix_receive.proofs.sections.Sections.add.Goals as goal

pub invariant_of-self-2 : goal.invariant_of-self-2
invariant_of-self-2 c =
    let s = c.self.inside in
    let p : List ℕ × List ℕ = (c.args.cid, c.args.block.now) in
    added-one s.history s.kept c.add_copy.new.self p c.self.invariant (ap (λ (ps : Blocks × Blocks). has_cid ps.1 c.args.cid) c.self.view_is ∙ c.requires) (c.in_ok-add_copy.ensures.added ∙ ap (with_block s.kept) c.kept_bytes-bytes.ensures)
    ∙ ap (map kept_of) (sym (c.push.ensures ∙ ap (λ (q : List ℕ × List ℕ). s.history ++ q ∷ []) c.of-section.ensures))
