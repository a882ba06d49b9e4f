use Rattle.std.proofs.Common.{◌≡◌, length, map, ◌++◌, Bor}
use Rattle.std.specs.Slice.Iter.{iter_rest}
use Rattle.std.specs.Vec.Iter.{into_iter_items, into_iter_len}
use Rattle.ix_car.specs.declared.sink.End.{End}
use Rattle.ix_car.specs.ArchiveMeaning.{ArchiveMeaning}
use Rattle.ix_run.specs.Run.{EachEnded}
use Rattle.ix_run.proofs.execution.finish_archives.Given as goal

abbrev pub invariant-loop-archive : goal.invariant-loop-archive
invariant-loop-archive g l = record {
  can_next : (goal.iterator-loop-archive g).can_next l.archive-iterator;
  finite : (goal.iterator-loop-archive g).is_finite l.archive-iterator;
  archives : l.fn.archives.items ≡ map (λ (p : ArchiveMeaning g.row.W.Denot × Bor End). p.0) l.yielded ++ into_iter_items l.archive-iterator.a;
  ends : l.fn.ends ≡ map (λ (p : ArchiveMeaning g.row.W.Denot × Bor End). p.1.now) l.yielded ++ iter_rest l.archive-iterator.b;
  sized : into_iter_len l.archive-iterator.a ≡ length (into_iter_items l.archive-iterator.a);
  ended : EachEnded g.W.Write.contents (map (λ (p : ArchiveMeaning g.row.W.Denot × Bor End). p.0) l.yielded) (map (λ (p : ArchiveMeaning g.row.W.Denot × Bor End). p.1.now) l.yielded) l.results.items l.writers.items;
}
