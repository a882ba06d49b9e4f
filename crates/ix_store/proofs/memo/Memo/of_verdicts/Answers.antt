use Rattle.std.proofs.Common.{◌≡◌, ◌∙◌, ap, sym, subst, map}
use Rattle.ix_store.specs.Memo.{AllTrue}
use Rattle.ix_store.specs.Sound.{judged_word}
use Rattle.ix_store.proofs.Judging.{all_true}
use Rattle.ix_store.proofs.memo.Memo.of_verdicts.Goals as goal

pub of_words-requires : goal.of_words-requires
of_words-requires c =
    let pairs = c.args.blocks.now.pairs in
    let words : c.as_slice.result.now ≡ map judged_word pairs = c.as_slice.ensures.value ∙ c.in_ok-words.ensures ∙ ap (map judged_word) c.entries.ensures in
    subst (AllTrue pairs) (sym words) (all_true pairs)
