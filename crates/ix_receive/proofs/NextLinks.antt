-- Links that are put before others.
use Rattle.std.proofs.Common.{◌≡◌, List, [], ◌∷◌, ◌++◌, map, reverse, sym, ◌∙◌, ap, append_assoc}
use Rattle.std.proofs.lemmas.List.{map-append}
use Rattle.ix_walk.specs.declared.subtree.PendingLink.{PendingLink}
use Rattle.ix_walk.proofs.Stands.{reversed_push}
use Rattle.ix_receive.specs.declared.traversal.WaitingLink.{WaitingLink}
use Rattle.ix_receive.specs.Traversal.{as_pending}

-- links with one more at the end are one more link
pushed : (before after : List WaitingLink) (w : WaitingLink) → after ≡ before ++ w ∷ [] → map as_pending after ≡ map as_pending before ++ as_pending w ∷ []
pushed before after w put = ap (map as_pending) put ∙ map-append as_pending before (w ∷ [])

-- which comes first
first-link : (before after : List WaitingLink) (w : WaitingLink) → after ≡ before ++ w ∷ [] → reverse (map as_pending after) ≡ as_pending w ∷ reverse (map as_pending before)
first-link before after w put = reversed_push (map as_pending after) (map as_pending before) (as_pending w) (pushed before after w put)

-- one more link is put before others
pub one-put : (all now later : List PendingLink) (before after : List WaitingLink) (x : PendingLink) (w : WaitingLink) → now ++ reverse (map as_pending before) ≡ all → now ≡ later ++ x ∷ [] → after ≡ before ++ w ∷ [] → as_pending w ≡ x
    → later ++ reverse (map as_pending after) ≡ all
one-put all now later before after x w is taken put same =
    ap (λ z. later ++ z) (first-link before after w put ∙ ap (λ f. f ∷ reverse (map as_pending before)) same)
    ∙ sym (append_assoc later (x ∷ []) (reverse (map as_pending before))) ∙ ap (λ z. z ++ reverse (map as_pending before)) (sym taken) ∙ is
