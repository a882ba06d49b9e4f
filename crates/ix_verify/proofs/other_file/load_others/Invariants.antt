use Rattle.std.proofs.Common.{◌≡◌, drop}
use Rattle.ix_verify.specs.Found.{with_files}
use Rattle.ix_verify.proofs.other_file.load_others.Given as goal

-- the blocks so far, and then those of the files that are left, are all
abbrev pub invariant-loop-other : goal.invariant-loop-other
invariant-loop-other g l = with_files l.loader (drop l.other-index l.others) ≡ with_files l.fn.loader l.others
