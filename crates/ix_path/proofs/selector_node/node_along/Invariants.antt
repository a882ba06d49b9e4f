use Rattle.std.proofs.Common.{◌≡◌, ◌≤◌, length, drop}
use Rattle.ix_cbor.specs.Data.{data_of}
use Rattle.ix_cbor.specs.Spelling.{IsSpellable}
use Rattle.ix_path.specs.Along.{data_along, path_of}
use Rattle.ix_path.proofs.selector_node.node_along.Given as goal

abbrev pub invariant-loop-left : goal.invariant-loop-left
invariant-loop-left l = record {
  left : l.left ≤ length l.steps;
  exact : data_of l.node ≡ data_along (path_of (drop l.left l.steps)) (data_of l.fn.end);
  spellable : IsSpellable (data_of l.fn.end) → IsSpellable (data_of l.node);
}

abbrev pub decreases-loop-left : goal.decreases-loop-left
decreases-loop-left l = l.left
