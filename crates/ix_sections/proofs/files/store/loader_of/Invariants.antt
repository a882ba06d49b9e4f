use Rattle.std.proofs.Common.{◌≡◌, length}
use Rattle.std.specs.Vec.Iter.{into_iter_items, into_iter_len}
use Rattle.ix_sections.specs.Files.{with_files, read_of}
use Rattle.ix_sections.specs.Loader.{copies_in, blocks_in}
use Rattle.ix_sections.proofs.files.store.loader_of.Given as goal

-- what was read so far, and then the files that are left, are all
abbrev pub invariant-loop-number : goal.invariant-loop-number
invariant-loop-number g l = record {
  can_next : (goal.iterator-loop-number g).can_next l.number-iterator;
  finite : (goal.iterator-loop-number g).is_finite l.number-iterator;
  sized : into_iter_len l.number-iterator.iter ≡ length (into_iter_items l.number-iterator.iter);
  copies : copies_in l.loader ≡ l.reading.copies;
  read : with_files l.reading l.number-iterator.count (blocks_in l.loader) (into_iter_items l.number-iterator.iter) ≡ read_of l.reading l.fn.files.items;
}
