use Rattle.ix_store.specs.Index.{AreSeen}
use Rattle.ix_store.proofs.verify.check_share.Given as goal

abbrev pub invariant-loop-place : goal.invariant-loop-place
invariant-loop-place l = AreSeen l.slots l.entries l.from l.place l.places.items
