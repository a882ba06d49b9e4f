use Rattle.std.proofs.Common.{take}
use Rattle.ix_selector.specs.Merging.{AreMerged}
use Rattle.ix_selector.proofs.Merging.{Merged}
use Rattle.ix_selector.proofs.merge.joined_by_place.Given as goal

abbrev pub invariant-loop-state : goal.invariant-loop-state
invariant-loop-state l = Merged l.merged.items (take l.state-index l.state-items) × AreMerged l.merged.items (take l.state-index l.state-items)
