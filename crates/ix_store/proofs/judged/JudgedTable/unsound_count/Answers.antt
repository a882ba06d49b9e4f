use Rattle.std.proofs.Common.{◌∙◌, List, length, ap}
use Rattle.std.specs.List.{filter}
use Rattle.ix_verdict.specs.declared.verdict.Verdict.{Verdict}
use Rattle.ix_store.specs.Sound.{fails, unsound_count}
use Rattle.ix_store.proofs.SoundFirst.{count-verdicts}
use Rattle.ix_store.proofs.judged.JudgedTable.unsound_count.Goals as goal

pub returns : goal.returns
returns c =
    c.failing.ensures
    ∙ ap (λ (l : List Verdict). length (filter fails l)) (c.as_slice.ensures.value ∙ c.self.invariant)
    ∙ count-verdicts c.self.inside.blocks.pairs
    ∙ ap (λ t. unsound_count t.pairs) c.self.view_is
