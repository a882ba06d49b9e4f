-- The states of a residual.
use Rattle.std.specs.Prelude.{List}
use Rattle.std.specs.Arc.{arc_value}
use Rattle.ix_selector.specs.declared.state.State.{State}
use Rattle.ix_selector.specs.declared.kept.Kept.{Kept}
use Rattle.ix_selector.specs.declared.kept.Kept.TheVariants.{Own, Shared}

-- the states that are kept
abbrev pub kept_states : Kept → List State
kept_states (Own states) = states.items
kept_states (Shared states) = (arc_value states).items
