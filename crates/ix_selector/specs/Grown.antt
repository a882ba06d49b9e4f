-- How the table of a selector's places grows.
use Rattle.std.specs.Prelude.{◌≡◌, ◌++◌, List, length}
use Rattle.ix_selector.specs.declared.selector_node.SelectorNode.{SelectorNode}
use Rattle.ix_selector.specs.Pattern.{Pattern}
use Rattle.ix_selector.specs.Ordered.{IsOrdered}
use Rattle.ix_selector.specs.Places.{AreNodes, AreNamedOnce, AreFrom}

-- the places of a selector, whose names rise, can be appended to these nodes: each node names places before it alone, and no
-- two name one place
pub record CanPut (old : List SelectorNode) (s : Pattern) : Type 0 where
  pub ordered : IsOrdered s
  pub nodes : AreNodes 0 old
  pub once : AreNamedOnce old

-- nodes were appended to those that were there: they name places before them alone, none of those that were there, and none
-- that another names
pub record Grows (old new : List SelectorNode) : Type 0 where
  pub more : List SelectorNode
  pub grown : new ≡ old ++ more
  pub from : AreFrom (length old) more
  pub nodes : AreNodes 0 new
  pub once : AreNamedOnce new
