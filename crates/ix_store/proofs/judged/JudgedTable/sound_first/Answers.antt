use Rattle.std.proofs.Common.{◌≡◌, ◌∙◌, List, ap, sym, map}
use Rattle.ix_verdict.specs.declared.verdict.Verdict.{Verdict}
use Rattle.ix_store.specs.Sound.{verdict_of_copy, sound_first, passing_first}
use Rattle.ix_store.specs.Table.{TableMeaning}
use Rattle.ix_store.proofs.SoundFirst.{sorted-sound, sorted-verdicts}
use Rattle.ix_store.proofs.judged.JudgedTable.sound_first.Goals as goal

pub invariant_of-result : goal.invariant_of-result
invariant_of-result c =
    let pairs = c.self.inside.blocks.pairs in
    let sorted : c.sort_passing_first.new.self.pairs ≡ sound_first pairs =
    c.in_ok-sort_passing_first.ensures ∙ ap (λ (l : List Verdict). passing_first l pairs) (c.as_slice.ensures.value ∙ c.self.invariant) ∙ sorted-sound pairs in
    c.in_ok-verdicts.ensures
    ∙ ap (λ (l : List Verdict). passing_first l c.as_slice-3.result.now) (c.as_slice-2.ensures.value ∙ c.self.invariant)
    ∙ ap (λ (l : List Verdict). passing_first (map verdict_of_copy pairs) l) (c.as_slice-3.ensures.value ∙ c.self.invariant)
    ∙ sorted-verdicts pairs
    ∙ ap (map verdict_of_copy) (sym sorted)

pub returns : goal.returns
returns c =
    let pairs = c.self.inside.blocks.pairs in
    c.in_ok-sort_passing_first.ensures
    ∙ ap (λ (l : List Verdict). passing_first l pairs) (c.as_slice.ensures.value ∙ c.self.invariant)
    ∙ sorted-sound pairs
    ∙ ap (λ (t : TableMeaning). sound_first t.pairs) c.self.view_is
