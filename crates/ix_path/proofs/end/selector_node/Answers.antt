use Rattle.std.proofs.Common.{sym, ◌∙◌, ap}
use Rattle.ix_cbor.specs.Data.{data_of}
use Rattle.ix_selector.specs.Reading.{without_envelope}
use Rattle.ix_path.proofs.Ends.{tree_end, replaced_end}
use Rattle.ix_path.proofs.end.selector_node.Goals as goal

pub returns-then-branch-clause-node : goal.returns-then-branch-clause-node
returns-then-branch-clause-node c =
    tree_end c.args.tree (data_of c.without_envelope.result) c.in-Ok.selector c.in-Ok.ensures.exact c.in-Ok.ensures.selector (sym c.in_ok-enters_its_place-in-Ok.ensures ∙ c.if-branch.true)
    c.into_root.ensures.canonical (c.without_envelope.ensures ∙ ap without_envelope c.into_root.ensures.root)

pub returns-in-Ok-clause-node : goal.returns-in-Ok-clause-node
returns-in-Ok-clause-node c =
    replaced_end c.args.tree (data_of c.in_ok-matcher_node-in-Ok.field-0) c.in-Ok.selector c.in-Ok.ensures.exact (sym c.in_ok-enters_its_place-in-Ok.ensures ∙ c.if-branch.false)
    c.in_ok-matcher_node-in-Ok.ensures
