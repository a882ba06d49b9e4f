use Rattle.std.proofs.Common.{◌≡◌, ◌++◌}
use Rattle.std.specs.Vec.Iter.{into_iter_items}
use Rattle.ix_stages.specs.ClaimsJoined.{HasJoined}
use Rattle.ix_stages.proofs.claims.join_all.Given as goal

abbrev pub invariant-loop-seat : goal.invariant-loop-seat
invariant-loop-seat g l =
    (l.joined.table_id ≡ l.fn.joined.table_id)
    × HasJoined l.claims l.yielded l.joined.me.0
    × (l.fn.seats.items ≡ l.yielded ++ into_iter_items l.seat-iterator)
