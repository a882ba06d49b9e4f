use Rattle.std.proofs.Common.{rules, ◌≡◌, ◌+◌, Bool, true, false, List, length, get_or, refl, sym, subst}
use Rattle.std.specs.List.{AllAdjacentBelow, IsAllAdjacentAnswer}
use Rattle.std.specs.List.Sorted.{IsSortedBy}
use Rattle.std.specs.Ordering.{is_lt}
use Rattle.std.proofs.lemmas.Fn.{always_returns_same}
use Rattle.std.proofs.lemmas.List.Sorted.{ranks_by}
use Rattle.ix_cbor.specs.Spelling.{key_cmp}
use Rattle.ix_cbor.proofs.Keys.{key_total, less_from_test}
use Rattle.ix_selector_json.specs.Saying.{key_of}
use Rattle.ix_selector_json.proofs.KeyOrder.{tied, found_twice}
use Rattle.ix_selector_json.proofs.Sayings.{Entry}
use Rattle.ix_selector_json.proofs.read.in_order.Goals as goal

-- the test by which the entries are sorted
abbrev below : Entry → Entry → Bool
below a b = is_lt (key_cmp (key_of a) (key_of b))

pub returns-then-rise-clause-sorted : goal.returns-then-rise-clause-sorted
returns-then-rise-clause-sorted c =
    let sorted = c.sort_unstable_by.new.self.items in
    let answered : IsAllAdjacentAnswer (λ x y b. b ≡ below x y) c.as_slice.result.now true = c.if-rise.ensures.cases below (always_returns_same _ _ _ (λ a r f called. search rules)) in
    let rises : AllAdjacentBelow (λ x y. true ≡ below x y) sorted (length sorted) =
    subst (λ (es : List Entry). AllAdjacentBelow (λ x y. true ≡ below x y) es (length es)) c.as_slice.ensures.value answered in
    record {
      same = c.sort_unstable_by.ensures.permutation;
      rise = λ k d l. less_from_test (key_cmp (key_of (get_or sorted k d)) (key_of (get_or sorted (k + 1) d))) (sym (rises k d l));
    }

pub returns-else-rise-clause-refused : goal.returns-else-rise-clause-refused
returns-else-rise-clause-refused c =
    let sorted = c.sort_unstable_by.new.self.items in
    let answered : IsAllAdjacentAnswer (λ x y b. b ≡ below x y) c.as_slice.result.now false = c.if-rise.ensures.cases below (always_returns_same _ _ _ (λ a r f called. search rules)) in
    let found = subst (λ (es : List Entry). IsAllAdjacentAnswer (λ x y b. b ≡ below x y) es false) c.as_slice.ensures.value answered in
    let up : IsSortedBy below sorted = c.sort_unstable_by.ensures.sorted below (ranks_by key_total key_of) (always_returns_same _ _ _ (λ a r f called. search rules)) in (
      refl,
      found_twice c.args.entries.items sorted found.0 c.sort_unstable_by.ensures.permutation found.1
          (λ d. tied (key_of (get_or sorted found.0 d)) (key_of (get_or sorted (found.0 + 1) d)) (up found.0 d (search rules) found.1) (sym (found.2 d))),
    )
