use Rattle.std.proofs.Common.{◌∙◌, List, ap, sym, map, take}
use Rattle.std.proofs.lemmas.List.{take-map}
use Rattle.ix_verdict.specs.declared.verdict.Verdict.{Verdict}
use Rattle.ix_store.specs.Sound.{verdict_of_copy}
use Rattle.ix_store.specs.Table.{TableMeaning}
use Rattle.ix_store.proofs.judged.JudgedTable.truncate.Goals as goal

pub invariant_of-self : goal.invariant_of-self
invariant_of-self c =
    c.truncate-2.ensures.items
    ∙ ap (λ (l : List Verdict). take c.args.count l) c.self.invariant
    ∙ take-map verdict_of_copy c.args.count c.self.inside.blocks.pairs
    ∙ ap (λ (t : TableMeaning). map verdict_of_copy t.pairs) (sym c.truncate.ensures)
