use Rattle.std.proofs.Common.{◌≡◌, length}
use Rattle.ix_store.specs.Table.{pairs_counted}
use Rattle.ix_store.proofs.Gathered.{InTurn}
use Rattle.ix_store.proofs.builder.index_in_turn.Given as goal

abbrev pub invariant-loop-place : goal.invariant-loop-place
invariant-loop-place l =
    InTurn (pairs_counted l.fn.indexed l.fn.blocks.pairs) (length l.fn.blocks.pairs) l.kept l.place l.blocks.pairs l.index × (l.blocks.files ≡ l.fn.blocks.files)
