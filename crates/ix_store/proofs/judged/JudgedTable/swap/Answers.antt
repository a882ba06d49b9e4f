use Rattle.std.proofs.Common.{◌∙◌, ◌<◌, List, [], ap, sym, subst, map, length}
use Rattle.std.specs.List.{swap}
use Rattle.ix_verdict.specs.declared.verdict.Verdict.{Verdict}
use Rattle.ix_store.specs.Sound.{verdict_of_copy}
use Rattle.ix_store.specs.Table.{TableMeaning}
use Rattle.ix_store.proofs.Tables.{map-swap}
use Rattle.ix_store.proofs.judged.JudgedTable.swap.Goals as goal

pub invariant_of-self : goal.invariant_of-self
invariant_of-self c =
    let pairs = c.self.inside.blocks.pairs in
    let first : c.args.first < length pairs = subst (λ (t : TableMeaning). c.args.first < length t.pairs) (sym c.self.view_is) c.requires.first in
    let second : c.args.second < length pairs = subst (λ (t : TableMeaning). c.args.second < length t.pairs) (sym c.self.view_is) c.requires.second in
    c.swap-2.ensures.items
    ∙ ap (λ (l : List Verdict). swap l c.args.first c.args.second) c.self.invariant
    ∙ sym (map-swap verdict_of_copy pairs c.args.first c.args.second ([], []) first second)
    ∙ ap (λ (t : TableMeaning). map verdict_of_copy t.pairs) (sym c.swap.ensures)
