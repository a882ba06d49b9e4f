use Rattle.ix_prefetch.specs.Expansions.{IsTableOf}
use Rattle.ix_prefetch.proofs.levels.merge_parts.Given as goal

abbrev pub invariant-loop-index : goal.invariant-loop-index
invariant-loop-index l = IsTableOf l.fn.table l.table
