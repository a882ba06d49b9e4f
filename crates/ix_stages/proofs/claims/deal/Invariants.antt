use Rattle.std.proofs.Common.{◌≡◌, ◌-◌, replicate}
use Rattle.ix_stages.specs.ClaimRule.{claimer}
use Rattle.ix_stages.specs.Claims.{new_seat}
use Rattle.ix_stages.proofs.claims.deal.Given as goal

abbrev pub invariant-loop : goal.invariant-loop
invariant-loop g l =
    let v = l.fn.maker.me.0 in
    (l.maker.table_id ≡ l.fn.maker.table_id)
    × (l.maker.me.0 ≡ claimer (l.seats - l.counter) v.seats v.values v.places v.refusals)
    × (l.all.items ≡ replicate l.counter (new_seat record { table = l.row.shared.table_id; values = v.values; seats = v.seats }))
