-- An end of a lane stays the same.
use Rattle.std.proofs.Common.{◌∙◌}
use Rattle.ix_stages.specs.declared.lanes.LaneIn.{LaneIn}
use Rattle.ix_stages.specs.Lanes.{SameIn}

-- being the same sender is transitive
pub same_again : (a b c : LaneIn) → SameIn a b → SameIn b c → SameIn a c
same_again a b c l s = ((s.0.0 ∙ l.0.0, s.0.1 ∙ l.0.1, s.0.2 ∙ l.0.2, s.0.3 ∙ l.0.3), s.1 ∙ l.1)
