use Rattle.std.proofs.Common.{◌≡◌, ◌≤◌, All, length}
use Rattle.ix_fixtures.proofs.jobs.jobs_of.Given as goal

abbrev pub invariant-loop : goal.invariant-loop
invariant-loop l = All (λ job. job.limit ≤ 4294967295) l.jobs.items × (length l.jobs.items ≡ l.counter)
