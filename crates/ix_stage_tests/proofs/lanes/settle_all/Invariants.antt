use Rattle.std.proofs.Common.{◌≡◌, ◌++◌, All}
use Rattle.std.specs.Vec.Iter.{into_iter_items}
use Rattle.ix_stage_tests.proofs.lanes.settle_all.Given as goal

abbrev pub invariant-loop-claimed : goal.invariant-loop-claimed
invariant-loop-claimed l = All (λ s. s.of ≡ l.claims) l.seats.items × (l.fn.all.items ≡ l.yielded ++ into_iter_items l.claimed-iterator)
