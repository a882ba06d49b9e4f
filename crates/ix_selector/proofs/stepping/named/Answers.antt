use Rattle.std.proofs.Common.{ℕ, rules, get_or, sym, subst}
use Rattle.std.specs.Global.{Vec}
use Rattle.std.specs.List.Sorted.{IsBinarySearchResult}
use Rattle.std.proofs.lemmas.Fn.{always_returns_same}
use Rattle.ix_cbor.specs.Spelling.{key_cmp}
use Rattle.ix_selector.specs.Enters.{key}
use Rattle.ix_selector.specs.Named.{HasName, HasNoName}
use Rattle.ix_selector.specs.Residual.{step_of}
use Rattle.ix_selector.proofs.Named.{names_searchable, found_name, not_found}
use Rattle.ix_selector.proofs.stepping.named.Goals as goal

pub returns-in-Ok-clause-some : goal.returns-in-Ok-clause-some
returns-in-Ok-clause-some c =
    let l = c.in-Key.key.now in
    let by_key : IsBinarySearchResult (λ (y : Vec ℕ × ℕ). key_cmp y.0.items l) c.args.names.now c.binary_search_by.result =
    c.binary_search_by.ensures.position (λ (y : Vec ℕ × ℕ). key_cmp y.0.items l) (always_returns_same _ _ _ (λ a r f called. search rules)) in
    subst (λ t. HasName c.args.names.now (step_of t) (get_or c.args.names.now c.in-Ok.found c.index-names-found.result).1) (sym c.in-Key.is)
    (subst (λ (x : Vec ℕ × ℕ). HasName c.args.names.now (key l) x.1) c.index-names-found.is (found_name c.args.names.now l c.in-Ok.found c.index-names-found.result (search rules) c.index-names-found.is (subst (IsBinarySearchResult (λ (y : Vec ℕ × ℕ). key_cmp y.0.items l) c.args.names.now) c.in-Ok.is by_key)))

pub returns-in-Err-clause-none : goal.returns-in-Err-clause-none
returns-in-Err-clause-none c =
    let l = c.in-Key.key.now in
    let by_key : IsBinarySearchResult (λ (y : Vec ℕ × ℕ). key_cmp y.0.items l) c.args.names.now c.binary_search_by.result =
    c.binary_search_by.ensures.position (λ (y : Vec ℕ × ℕ). key_cmp y.0.items l) (always_returns_same _ _ _ (λ a r f called. search rules)) in
    subst (λ t. HasNoName c.args.names.now (step_of t)) (sym c.in-Key.is)
    (not_found c.args.names.now l c.in-Err.field-0
    (let parted = subst (IsBinarySearchResult (λ (y : Vec ℕ × ℕ). key_cmp y.0.items l) c.args.names.now) c.in-Err.is by_key in parted (names_searchable c.args.names.now l c.requires)))
