use Rattle.std.proofs.Common.{◌∙◌, ◌++◌, ◌∷◌, [], List, ap, subst}
use Rattle.ix_selector.specs.Pattern.{IsSelector}
use Rattle.ix_selector.specs.Residual.{Place}
use Rattle.ix_selector.specs.Behind.{residual_of}
use Rattle.ix_prefetch.proofs.Tables.{empty_kept}
use Rattle.ix_prefetch.proofs.expansions.Expansions.new.Goals as goal

pub invariant_of-result : goal.invariant_of-result
invariant_of-result c =
    empty_kept c.args.store.now c.args.job.now _ _ _ _ c.in_ok-start.field-0 (subst IsSelector c.selector.ensures c.selector_is_one.ensures)
    (c.in_ok-push.ensures.items ∙ ap (λ (l : List (List Place)). l ++ c.in_ok-start.field-0 ∷ []) c.new-residuals.ensures.items)
    (c.in_ok-start.ensures.exact ∙ ap residual_of c.selector-2.ensures) c.new-2.ensures.items c.new-3.ensures.items c.new-4.ensures.items
