-- The links of a header.
use Rattle.std.proofs.Common.{◌≡◌, ℕ, ◌+◌, ◌≤◌, List, [], ◌∷◌, ◌++◌, length, drop, refl, sym, ap, ◌∙◌, append-nil, append_assoc, add-one}
use Rattle.std.proofs.lemmas.List.{drop_all}
use Rattle.ix_cbor.specs.Data.{list}
use Rattle.ix_cbor.specs.Spelling.{head_of, item_count, items_spelling, spelling_of}
use Rattle.ix_sections.specs.Writing.{links_to}

-- as many as there are roots
item_count-links : (roots : List (List ℕ)) → item_count (links_to roots) ≡ length roots
item_count-links [] = refl
item_count-links (c ∷ cs) = ap (λ n. n + 1) (item_count-links cs) ∙ add-one (length cs)

-- a list of them is spelled once its head is pushed, and then each
pub links-pushed : (roots : List (List ℕ)) (n : ℕ) (old mid new : List ℕ) → mid ≡ old ++ head_of 4 (length roots)
    → new ++ items_spelling (links_to (drop n roots)) ≡ mid ++ items_spelling (links_to roots) → length roots ≤ n → new ≡ old ++ spelling_of (list (links_to roots))
links-pushed roots n old mid new head pushed all =
    sym (append-nil new)
    ∙ ap (λ l. new ++ items_spelling (links_to l)) (sym (drop_all n roots all))
    ∙ pushed
    ∙ ap (λ m. m ++ items_spelling (links_to roots)) (head ∙ ap (λ k. old ++ head_of 4 k) (sym (item_count-links roots)))
    ∙ append_assoc old (head_of 4 (item_count (links_to roots))) (items_spelling (links_to roots))
