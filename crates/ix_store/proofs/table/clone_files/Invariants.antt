use Rattle.std.proofs.Common.{◌≡◌, map, take}
use Rattle.ix_store.specs.Table.{file_bytes}
use Rattle.ix_store.proofs.table.clone_files.Given as goal

abbrev pub invariant-loop-file : goal.invariant-loop-file
invariant-loop-file l = map file_bytes l.copies.items ≡ map file_bytes (take l.file-index l.files)
