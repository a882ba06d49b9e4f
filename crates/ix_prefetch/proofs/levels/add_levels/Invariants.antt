use Rattle.ix_prefetch.specs.Expansions.{IsTableOf}
use Rattle.ix_prefetch.proofs.levels.add_levels.Given as goal

abbrev pub invariant-loop-level : goal.invariant-loop-level
invariant-loop-level g l = IsTableOf l.fn.table l.table
