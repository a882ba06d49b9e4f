use Rattle.std.proofs.Common.{◌≡◌, ◌≤◌, ◌*◌, ◌^◌, take}
use Rattle.ix_jobs.specs.Report.{skip_count}
use Rattle.ix_json_report.proofs.total.skip_count.Given as goal

-- the count so far, which is bounded by that of the results so far
abbrev pub invariant-loop-outcome : goal.invariant-loop-outcome
invariant-loop-outcome l = (l.count ≡ skip_count (take l.outcome-index l.results)) × (l.count ≤ 2 ^ 64 * l.outcome-index)
