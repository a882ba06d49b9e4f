-- States that are merged, as places.
use Rattle.std.specs.Prelude.{◌≡◌, List}
use Rattle.ix_selector.specs.declared.selector_node.SelectorNode.{SelectorNode}
use Rattle.ix_selector.specs.declared.state.State.{State}
use Rattle.ix_selector.specs.States.{place_of, seen_states}
use Rattle.ix_selector.specs.Behind.{put, merged}

-- they are these, merged, whatever the table
abbrev pub AreMerged : List State → List State → Type 0
AreMerged rs xs = (nodes : List SelectorNode) → seen_states nodes rs ≡ merged (seen_states nodes xs)

-- they are these with one more put among them, whatever the table
abbrev pub ArePut : List State → List State → State → Type 0
ArePut rs xs x = (nodes : List SelectorNode) → seen_states nodes rs ≡ put (place_of nodes x) (seen_states nodes xs)
