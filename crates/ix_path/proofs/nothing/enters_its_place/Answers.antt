use Rattle.std.proofs.Common.{◌∙◌, ap}
use Rattle.std.specs.Prelude.{not}
use Rattle.ix_selector.specs.Behind.{residual_of}
use Rattle.ix_path.proofs.EmptyUnion.{enters_by_residual}
use Rattle.ix_path.proofs.nothing.enters_its_place.Goals as goal

pub returns : goal.returns
returns c =
    ap not c.is_same.ensures
    ∙ enters_by_residual c.args.selector.now c.in_ok-left.left c.in_ok-none.none c.requires c.in_ok-left.ensures.exact (c.in_ok-none.ensures.exact ∙ ap residual_of c.in_ok-nothing.ensures)
