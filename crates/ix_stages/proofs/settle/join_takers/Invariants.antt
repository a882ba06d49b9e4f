use Rattle.std.proofs.Common.{◌≡◌, [], map, ◌++◌, All}
use Rattle.std.specs.Vec.Iter.{into_iter_items}
use Rattle.ix_stages.specs.Settled.{AbsorbsAll}
use Rattle.ix_stages.proofs.settle.join_takers.Given as goal

abbrev pub invariant-loop-seat : goal.invariant-loop-seat
invariant-loop-seat l =
    AbsorbsAll l.fn.pass (map (λ s. s.pass) l.yielded) l.pass
    × (l.fn.seats.items ≡ l.yielded ++ into_iter_items l.seat-iterator)
    × All (λ s. s.pass.put ≡ []) l.yielded
