use Rattle.ix_cbor.specs.Data.{data_of}
use Rattle.ix_path.specs.Segments.{number_of}
use Rattle.ix_path.proofs.BySegments.{segment-tree, segment-deep}
use Rattle.ix_path.proofs.segments.tree_before.Goals as goal

pub returns-clause-tree : goal.returns-clause-tree
returns-clause-tree c = λ s h.
    let g = c.args.segment.now in
    let made = c.selector_tree.ensures in
    segment-tree g (number_of g) c.args.next (data_of c.in_ok-node.node) s c.selector_tree.result h c.in_ok-node.ensures.exact made.tree made.canonical made.read

pub returns-clause-refused : goal.returns-clause-refused
returns-clause-refused c = λ s h.
    let g = c.args.segment.now in
    segment-deep g (number_of g) c.args.next (data_of c.in_ok-node.node) s c.selector_tree.result h c.in_ok-node.ensures.exact c.in_ok-node.ensures.spellable c.selector_tree.ensures.refused
