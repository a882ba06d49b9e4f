use Rattle.std.proofs.Common.{rules, tests, ◌∙◌}
use Rattle.std.specs.Prelude.{bytes_eq}
use Rattle.std.proofs.lemmas.Iterator.{YieldsList-from_slice}
use Rattle.std.proofs.lemmas.Iterator.Search.{any_from_yields_List}
use Rattle.ix_selector.proofs.Parts.{any_key}
use Rattle.ix_selector.proofs.read.has_key.Goals as goal

pub returns : goal.returns
returns c =
    any_from_yields_List (λ e. bytes_eq e.0.items c.args.key.now) _ _ c.any.result c.any.ensures.ran (YieldsList-from_slice c.args.entries.now cc) (λ x b q k. search (rules, tests))
    ∙ any_key c.args.key.now c.args.entries.now
