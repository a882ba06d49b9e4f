use Rattle.std.proofs.Common.{◌≡◌, map}
use Rattle.crossbeam_queue.specs.Passes.{view, IsSamePass}
use Rattle.ix_stages.specs.Items.{count_up}
use Rattle.ix_stages.specs.Seats.{maker_pass, new_job}
use Rattle.ix_stages.proofs.parts.job_seats.Given as goal

abbrev pub invariant-loop-job : goal.invariant-loop-job
invariant-loop-job l =
    let v = view l.fn.pass in
    IsSamePass l.fn.pass l.pass × (view l.pass ≡ maker_pass v.course v.all l.job)
    × (l.seats.items ≡ map (new_job l.ruled.table.shared.table_id v.course v.all) (count_up 0 l.job))
