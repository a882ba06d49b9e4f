use Rattle.std.proofs.Common.{◌≡◌, drop}
use Rattle.ix_verify.specs.Beside.{with_copies_in}
use Rattle.ix_verify.proofs.other_file.load_sound_others.Given as goal

-- the copies so far, and then those in the files that are left, are all
abbrev pub invariant-loop-other : goal.invariant-loop-other
invariant-loop-other g l = with_copies_in l.loader (drop l.other-index l.others) ≡ with_copies_in l.fn.loader l.others
