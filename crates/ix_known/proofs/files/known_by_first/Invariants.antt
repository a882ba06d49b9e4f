use Rattle.std.proofs.Common.{◌≡◌, length}
use Rattle.std.specs.Vec.Iter.{into_iter_items, into_iter_len}
use Rattle.ix_store.specs.Store.{Blocks}
use Rattle.ix_known.specs.Base.{IsOfBase}
use Rattle.ix_sections.specs.declared.files.loader.Copies.TheVariants.{First}
use Rattle.ix_sections.specs.Files.{with_files, read_of}
use Rattle.ix_known.proofs.files.known_by_first.Given as goal

-- the base has the blocks that were read so far, and these and those of the files that are left are all
abbrev pub invariant-loop-number : goal.invariant-loop-number
invariant-loop-number g l = record {
  can_next : (goal.iterator-loop-number g).can_next l.number-iterator;
  finite : (goal.iterator-loop-number g).is_finite l.number-iterator;
  sized : into_iter_len l.number-iterator.iter ≡ length (into_iter_items l.number-iterator.iter);
  store : l.base.store ≡ l.store;
  read : (blocks : Blocks) × IsOfBase l.base blocks
      × (with_files (record { carv2 = l.carv2; copies = First }) l.number-iterator.count blocks (into_iter_items l.number-iterator.iter)
      ≡ read_of (record { carv2 = l.carv2; copies = First }) l.fn.files.items);
}
