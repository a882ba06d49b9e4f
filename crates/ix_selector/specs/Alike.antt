-- Residuals that are the same after each step.
use Rattle.std.specs.Prelude.{List, [], ◌∷◌, Some}
use Rattle.ix_selector.specs.declared.selector_node.SelectorNode.{SelectorNode}
use Rattle.ix_selector.specs.declared.state.State.{State}
use Rattle.ix_selector.specs.Pattern.{Pattern, matcher, all, fields, index, range, recursive, union, edge}
use Rattle.ix_selector.specs.Enters.{Step}
use Rattle.ix_selector.specs.Residual.{Place, ResidualEnters, EntersAfter, IsAfter}
use Rattle.ix_selector.specs.Places.{seen}
use Rattle.ix_selector.specs.States.{selector_at}
use Rattle.ix_selector.specs.Behind.{IsLeftAfter}

-- the selector continues the same after each step
abbrev pub LooksAtNoStep : Pattern → Type 0
LooksAtNoStep matcher = Unit {0}
LooksAtNoStep (all s) = Unit {0}
LooksAtNoStep (fields fs) = ⊥
LooksAtNoStep (index i s) = ⊥
LooksAtNoStep (range i j s) = ⊥
LooksAtNoStep (recursive limit s) = ⊥
LooksAtNoStep (union ss) = ⊥
LooksAtNoStep edge = ⊥

-- so does the selector of a node, whatever the places before it
abbrev pub NodeLooksAtNoStep : SelectorNode → Type 0
NodeLooksAtNoStep x = (places : List Pattern) → LooksAtNoStep (seen places x)

-- each of them does
abbrev pub LookAtNoStep : List Place → Type 0
LookAtNoStep [] = Unit {0}
LookAtNoStep (x ∷ xs) = LooksAtNoStep x.selector × LookAtNoStep xs

-- so does the selector of a state
abbrev pub StateLooksAtNoStep : List SelectorNode → State → Type 0
StateLooksAtNoStep nodes x = LooksAtNoStep (selector_at nodes x)

-- each step from the places leaves r
pub record EachStepLeaves (places r : List Place) : Type 0 where
  pub entered : ResidualEnters r []
  pub below : (t : Step) → EntersAfter places t r
  pub tested : (t : Step) → IsAfter places t (Some r)
  pub exact : (t : Step) → IsLeftAfter places t r
