use Rattle.std.proofs.Common.{ℕ, ◌<◌, [], get_or}
use Rattle.ix_cid.specs.Cid.{IsCid}
use Rattle.ix_own_archive.proofs.check.roots_are_cids.Given as goal

abbrev pub invariant-loop-root : goal.invariant-loop-root
invariant-loop-root l = (k : ℕ) → k < l.root-index → IsCid (get_or l.roots k [])
