use Rattle.std.proofs.Common.{◌≡◌, map, take}
use Rattle.ix_store.specs.Sound.{judged_word}
use Rattle.ix_store.proofs.memo.words_of.Given as goal

abbrev pub invariant-loop-place : goal.invariant-loop-place
invariant-loop-place l = l.words.items ≡ map judged_word (take l.place l.entries)
