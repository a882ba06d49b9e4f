use Rattle.std.proofs.Common.{◌≡◌}
use Rattle.ix_verify.specs.Walked.{roots_as_blocks}
use Rattle.ix_verify.proofs.Distinct.{AreFirst}
use Rattle.ix_verify.proofs.reach.distinct_roots.Given as goal

-- those so far, and the first ones of those that are left, are all, and the set has those so far
abbrev pub invariant-loop-root : goal.invariant-loop-root
invariant-loop-root l = AreFirst l.roots l.seen l.root-index l.distinct.items × (l.seen ≡ roots_as_blocks l.distinct.items)
