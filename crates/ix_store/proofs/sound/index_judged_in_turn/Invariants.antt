use Rattle.std.proofs.Common.{length}
use Rattle.ix_store.specs.Sound.{first_copies}
use Rattle.ix_store.proofs.Gathered.{InTurn}
use Rattle.ix_store.proofs.sound.index_judged_in_turn.Given as goal

abbrev pub invariant-loop-place : goal.invariant-loop-place
invariant-loop-place l = InTurn (first_copies l.fn.blocks.pairs) (length l.fn.blocks.pairs) l.kept l.place l.blocks.pairs l.index
