use Rattle.std.proofs.Common.{◌≡◌, ◌∙◌, List, ℕ, slice_get, Some}
use Rattle.ix_store.proofs.Judging.{words-more}
use Rattle.ix_store.proofs.memo.words_of.Goals as goal

pub loop-place-preserved : goal.loop-place-preserved
loop-place-preserved c =
    let pairs = c.args.entries.now in
    let e : List ℕ × List ℕ = (c.at.result.0.now, c.at.result.1.now) in
    let at : slice_get pairs c.loop-place.place ≡ Some e = c.at.ensures in
    c.in_ok-push.ensures.items
    ∙ words-more pairs c.args.verdicts.now c.loop-place.place e c.loop-place.words.items c.word_of.result _ c.requires at c.loop-place.invariant c.word_of.ensures
