use Rattle.std.proofs.Common.{◌∙◌}
use Rattle.std.proofs.lemmas.Result.{err_from_is_err_and}
use Rattle.ix_cbor.specs.Data.{data_of}
use Rattle.ix_path.specs.Along.{path_of}
use Rattle.ix_path.proofs.Ends.{made_along, refused_along}
use Rattle.ix_path.proofs.selector.selector_along.Goals as goal

pub returns-in_err-tree-clause-refused : goal.returns-in_err-tree-clause-refused
returns-in_err-tree-clause-refused c =
    let failed = err_from_is_err_and c.from_residual-in_err-tree.result c.from_residual-in_err-tree.ensures.1 in
    rw (failed.1, failed.2)
    (refused_along (path_of c.args.steps.now) c.args.end (data_of c.in_ok-inner.inner) (data_of c.in_ok-node.node) c.in_err-tree.field-0.0 c.in_ok-inner.ensures.node c.in_ok-node.ensures.exact
    c.in_ok-node.ensures.spellable c.in_err-tree.ensures.refused)

pub returns-clause-selector : goal.returns-clause-selector
returns-clause-selector c =
    made_along (path_of c.args.steps.now) c.args.end (data_of c.in_ok-inner.inner) c.in_ok-tree.tree c.in_ok-encode.field-0.items c.in_ok-inner.ensures.node
    (c.in_ok-tree.ensures.tree ∙ c.in_ok-node.ensures.exact) c.in_ok-tree.ensures.read c.in_ok-tree.ensures.canonical c.in_ok-encode.ensures
