use Rattle.std.proofs.Common.{◌≡◌, length, map, ◌++◌, Bor}
use Rattle.std.specs.Slice.Iter.{iter_rest}
use Rattle.std.specs.Vec.Iter.{into_iter_items, into_iter_len}
use Rattle.ix_walk.specs.JobMeaning.{JobMeaning}
use Rattle.ix_car.specs.Archive.{known_at}
use Rattle.ix_car.specs.ArchiveMeaning.{borrowed}
use Rattle.ix_run.specs.Run.{EachBegun}
use Rattle.ix_run.proofs.execution.start_archives.Given as goal

abbrev pub invariant-loop-job : goal.invariant-loop-job
invariant-loop-job g l = record {
  can_next : (goal.iterator-loop-job g).can_next l.job-iterator;
  finite : (goal.iterator-loop-job g).is_finite l.job-iterator;
  jobs : l.fn.jobs ≡ map (λ (p : Bor JobMeaning × g.row.W.Denot). p.0.now) l.yielded ++ iter_rest l.job-iterator.a;
  writers : l.fn.writers.items ≡ map (λ (p : Bor JobMeaning × g.row.W.Denot). p.1) l.yielded ++ into_iter_items l.job-iterator.b;
  sized : into_iter_len l.job-iterator.b ≡ length (into_iter_items l.job-iterator.b);
  begun : EachBegun g.W.Write.contents (known_at l.fn.store (borrowed l.fn.known)) l.fn.store (map (λ (p : Bor JobMeaning × g.row.W.Denot). p.0.now) l.yielded) (map (λ (p : Bor JobMeaning × g.row.W.Denot). p.1) l.yielded) l.archives.items;
}
