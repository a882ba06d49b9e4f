use Rattle.std.proofs.Common.{◌≡◌, length, vec_len, vec_capacity}
use Rattle.ix_stages.specs.JobWalks.{AreTablesOf}
use Rattle.ix_stages.proofs.job_walks.tables_of.Given as goal

abbrev pub invariant-loop-job : goal.invariant-loop-job
invariant-loop-job g l = record {
  tables : AreTablesOf l.store l.jobs l.tables.items;
  room : vec_capacity l.tables ≡ length l.jobs;
  counted : vec_len l.tables ≡ l.job-index;
}
