use Rattle.ix_prefetch.specs.Expansions.{IsTableOf}
use Rattle.ix_prefetch.proofs.levels.make_part.Given as goal

abbrev pub invariant-loop-row : goal.invariant-loop-row
invariant-loop-row l = IsTableOf l.table l.part
