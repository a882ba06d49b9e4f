use Rattle.std.proofs.Common.{◌≡◌, ◌+◌, replicate}
use Rattle.crossbeam_queue.specs.Passes.{view, IsSamePass}
use Rattle.ix_stages.specs.Seats.{maker_pass, new_taker}
use Rattle.ix_stages.proofs.parts.take_seats.Given as goal

abbrev pub invariant-loop : goal.invariant-loop
invariant-loop l =
    let v = view l.fn.pass in
    IsSamePass l.fn.pass l.pass × (view l.pass ≡ maker_pass v.course v.all (l.jobs + l.counter))
    × (l.seats.items ≡ replicate l.counter (new_taker l.ruled.table.shared.table_id v.course v.all))
