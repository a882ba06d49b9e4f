-- The residuals at the links of a block, and the same links at another depth.
use Rattle.std.proofs.Common.{◌≡◌, ℕ, ◌+◌, List, [], ◌∷◌, ◌++◌, map, refl, sym, ◌∙◌, ap}
use Rattle.std.specs.Prelude.{All}
use Rattle.std.proofs.lemmas.List.{map-append}
use Rattle.std.proofs.lemmas.List.Elements.{All-append, All-cons, All-nil}
use Rattle.ix_cbor.specs.Data as nodes
use Rattle.ix_cbor.specs.Data.{Data, Items, Entries, null, boolean, integer, float, bytes, text, list, link, no_items, item, no_entries, entry}
use Rattle.ix_selector.specs.Enters.{key, nth, Step}
use Rattle.ix_selector.specs.Pattern.{Pattern}
use Rattle.ix_selector.specs.Residual.{Place}
use Rattle.ix_selector.specs.Behind.{residual_after}
use Rattle.ix_walk.specs.Arrivals.{behind}
use Rattle.ix_walk.specs.declared.subtree.PendingLink.{PendingLink}
use Rattle.ix_walk.specs.Walking.{waiting, when_entered, links_below, links_in_items, links_in_entries}
use Rattle.ix_walk.proofs.Starts.{IsFollowed}
use Rattle.ix_prefetch.specs.Expansions.{IsMet}
use Rattle.ix_prefetch.specs.Growing.{at_depth}

abbrev pub HaveRests : Pattern → List PendingLink → Type 0
HaveRests s links = All (λ f. IsMet s f.residual) links

rests_append : (s : Pattern) (xs ys : List PendingLink) → HaveRests s xs → HaveRests s ys → HaveRests s (xs ++ ys)
rests_append s xs ys h k = All-append (λ f. IsMet s f.residual) xs ys h k

rests_entered : (s : Pattern) (r : List Place) (links : List PendingLink) → HaveRests s links → HaveRests s (when_entered r links)
rests_entered s [] links h = All-nil (λ f. IsMet s f.residual)
rests_entered s (x ∷ xs) links h = h

module _ (s : Pattern) (is : IsFollowed s) (depth : ℕ) where
  rest_behind : (r : List Place) (t : Step) → IsMet s r → IsMet s (residual_after r t)
  rest_behind r t h = (behind h.0 t, ap (λ (x : List Place). residual_after x t) h.1 ∙ sym (is.goes h.0 t))

  mutual
    pub rests_below : (r : List Place) (d : Data) → IsMet s r → HaveRests s (links_below r depth d)
    rests_below r null h = All-nil (λ f. IsMet s f.residual)
    rests_below r (boolean b) h = All-nil (λ f. IsMet s f.residual)
    rests_below r (integer n) h = All-nil (λ f. IsMet s f.residual)
    rests_below r (float bits) h = All-nil (λ f. IsMet s f.residual)
    rests_below r (bytes b) h = All-nil (λ f. IsMet s f.residual)
    rests_below r (text t) h = All-nil (λ f. IsMet s f.residual)
    rests_below r (list ds) h = rests_in_items r 0 ds h
    rests_below r (nodes.map es) h = rests_in_entries r es h
    rests_below r (link c) h = All-cons (λ f. IsMet s f.residual) (waiting r depth c) [] h (All-nil (λ f. IsMet s f.residual))

    rests_in_items : (r : List Place) (n : ℕ) (ds : Items) → IsMet s r → HaveRests s (links_in_items r depth n ds)
    rests_in_items r n no_items h = All-nil (λ f. IsMet s f.residual)
    rests_in_items r n (item d ds) h =
        rests_append s (when_entered (residual_after r (nth n)) (links_below (residual_after r (nth n)) depth d)) (links_in_items r depth (n + 1) ds)
        (rests_entered s (residual_after r (nth n)) (links_below (residual_after r (nth n)) depth d) (rests_below (residual_after r (nth n)) d (rest_behind r (nth n) h))) (rests_in_items r (n + 1) ds h)

    rests_in_entries : (r : List Place) (es : Entries) → IsMet s r → HaveRests s (links_in_entries r depth es)
    rests_in_entries r no_entries h = All-nil (λ f. IsMet s f.residual)
    rests_in_entries r (entry k d es) h =
        rests_append s (when_entered (residual_after r (key k)) (links_below (residual_after r (key k)) depth d)) (links_in_entries r depth es)
        (rests_entered s (residual_after r (key k)) (links_below (residual_after r (key k)) depth d) (rests_below (residual_after r (key k)) d (rest_behind r (key k) h))) (rests_in_entries r es h)

-- ---- the same links at another depth

module _ (from depth : ℕ) where
  moved_entered : (r : List Place) (xs ys : List PendingLink) → ys ≡ map (at_depth depth) xs → when_entered r ys ≡ map (at_depth depth) (when_entered r xs)
  moved_entered [] xs ys e = refl
  moved_entered (x ∷ r) xs ys e = e

  moved_both : (xs ys vs ws : List PendingLink) → vs ≡ map (at_depth depth) xs → ws ≡ map (at_depth depth) ys → vs ++ ws ≡ map (at_depth depth) (xs ++ ys)
  moved_both xs ys vs ws e f = ap (λ z. z ++ ws) e ∙ ap (λ z. map (at_depth depth) xs ++ z) f ∙ sym (map-append (at_depth depth) xs ys)

  mutual
    pub moved_below : (r : List Place) (d : Data) → links_below r depth d ≡ map (at_depth depth) (links_below r from d)
    moved_below r null = refl
    moved_below r (boolean b) = refl
    moved_below r (integer n) = refl
    moved_below r (float bits) = refl
    moved_below r (bytes b) = refl
    moved_below r (text t) = refl
    moved_below r (list ds) = moved_in_items r 0 ds
    moved_below r (nodes.map es) = moved_in_entries r es
    moved_below r (link c) = refl

    moved_in_items : (r : List Place) (n : ℕ) (ds : Items) → links_in_items r depth n ds ≡ map (at_depth depth) (links_in_items r from n ds)
    moved_in_items r n no_items = refl
    moved_in_items r n (item d ds) =
        moved_both (when_entered (residual_after r (nth n)) (links_below (residual_after r (nth n)) from d)) (links_in_items r from (n + 1) ds) _ _
        (moved_entered (residual_after r (nth n)) _ _ (moved_below (residual_after r (nth n)) d)) (moved_in_items r (n + 1) ds)

    moved_in_entries : (r : List Place) (es : Entries) → links_in_entries r depth es ≡ map (at_depth depth) (links_in_entries r from es)
    moved_in_entries r no_entries = refl
    moved_in_entries r (entry k d es) =
        moved_both (when_entered (residual_after r (key k)) (links_below (residual_after r (key k)) from d)) (links_in_entries r from es) _ _
        (moved_entered (residual_after r (key k)) _ _ (moved_below (residual_after r (key k)) d)) (moved_in_entries r es)
