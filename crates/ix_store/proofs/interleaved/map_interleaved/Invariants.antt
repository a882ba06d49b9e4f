use Rattle.std.proofs.Common.{◌≡◌, length}
use Rattle.std.specs.Fork.{GivesEach}
use Rattle.ix_store.proofs.interleaved.map_interleaved.Given as goal

-- a result for each number so far
abbrev pub invariant-loop-number : goal.invariant-loop-number
invariant-loop-number g l = (length l.found.items ≡ l.number) × GivesEach g.F.Fn l.f l.number l.found.items
