use Rattle.std.proofs.Common.{◌≡◌, length}
use Rattle.std.specs.Slice.Iter.{iter_rest}
use Rattle.std.specs.Vec.Iter.{into_iter_items, into_iter_len}
use Rattle.ix_jobs.proofs.AbsentSkips.{Remains}
use Rattle.ix_jobs.proofs.absent.separate_absent.Given as goal

abbrev pub invariant-loop-job : goal.invariant-loop-job
invariant-loop-job l = record {
  can_next : goal.iterator-loop-job.can_next l.job-iterator;
  finite : goal.iterator-loop-job.is_finite l.job-iterator;
  sized : into_iter_len l.job-iterator.b ≡ length (into_iter_items l.job-iterator.b);
  told : Remains l.which l.jobs l.fn.results.items (iter_rest l.job-iterator.a) (into_iter_items l.job-iterator.b) l.left.items l.absent.items;
}
