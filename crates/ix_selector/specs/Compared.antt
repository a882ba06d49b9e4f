-- The comparisons of what is left of selectors keep the laws of comparisons. No clause cites it.
use Rattle.std.specs.Prelude.{◌≡◌, ℕ, List, refl, nat_eq, Option, Some, None}
use Rattle.std.specs.Option.{option_eq, option_cmp}
use Rattle.std.specs.Ordering.{nat_cmp, eq_by_cmp, as_partial_cmp}
use Rattle.std.specs.Cmp.{IsPartialEquivalence, IsEquivalence, IsTotalOrder, IsPartialOrder, partial_equiv_from_equiv, po, both_tied, unsigned_ties, then_total, on_total, nat_cmp_total, and_equiv, on_equiv, nat_eq_equiv}
use Rattle.std.specs.Cmp.Lexicographic.{lists_ties, lists_total, options_total, lists_equiv, options_equiv}
use Rattle.ix_selector.specs.Residual.{Place}
use Rattle.ix_selector.specs.Behind.{depths, same_place, place_order, same_residual, residual_order}

pub residual_equivalence : IsEquivalence same_residual
unfolding same_residual
residual_equivalence =
    lists_equiv (and_equiv (on_equiv (λ x. x.number) nat_eq_equiv) (and_equiv (on_equiv (λ x. x.sequence) (options_equiv nat_eq_equiv)) (on_equiv (λ x. depths x.around) (lists_equiv (options_equiv nat_eq_equiv)))))

pub residual_partial : IsPartialEquivalence same_residual
residual_partial = partial_equiv_from_equiv residual_equivalence

pub residual_total : IsTotalOrder residual_order
unfolding residual_order
residual_total =
    lists_total (then_total (on_total (λ x. x.number) nat_cmp_total) (then_total (on_total (λ x. x.sequence) (options_total nat_cmp_total)) (on_total (λ x. depths x.around) (lists_total (options_total nat_cmp_total)))))

limit_ties : (a b : Option ℕ) → option_eq nat_eq a b ≡ eq_by_cmp (option_cmp nat_cmp) a b
limit_ties None None = refl
limit_ties None (Some b) = refl
limit_ties (Some a) None = refl
limit_ties (Some a) (Some b) = unsigned_ties a b

place_ties : (x y : Place) → same_place x y ≡ eq_by_cmp place_order x y
place_ties x y =
    both_tied _ _ _ _ (unsigned_ties x.number y.number)
    (both_tied _ _ _ _ (limit_ties x.sequence y.sequence) (lists_ties (option_cmp nat_cmp) limit_ties (depths x.around) (depths y.around)))

-- what is in no order is the same
pub residual_ties : (xs ys : List Place) → same_residual xs ys ≡ eq_by_cmp residual_order xs ys
unfolding same_residual residual_order
residual_ties xs ys = lists_ties place_order place_ties xs ys

pub residual_partial_order : IsPartialOrder same_residual (as_partial_cmp residual_order)
residual_partial_order = po residual_total residual_ties
