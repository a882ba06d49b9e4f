-- Many blocks, added one after the other.
use Rattle.std.proofs.Common.{◌≡◌, ℕ, zero, suc, ◌+◌, ◌<◌, ◌≤◌, true, false, cond, List, [], ◌∷◌, ◌++◌, length, take, drop, get_or, refl, sym, ap, subst, ◌∙◌, ⊎_elim, arith}
use Rattle.std.specs.List.{swap}
use Rattle.std.proofs.Math.ListN.{set, drop_of_length-le}
use Rattle.std.proofs.lemmas.List.{drop_more, take_all, take_more_set, take-set-le, drop-set-lt, length-set, take-append-le, drop-append-le}
use Rattle.std.proofs.lemmas.List.Edits.{swap_is, length-swap}
use Rattle.std.proofs.lemmas.Option.{slice_get_cases}
use Rattle.ix_store.specs.Store.{Blocks, has_cid, with_block, with_blocks, HasDistinctCids}
use Rattle.std.specs.Prelude.{Result, Ok, Err, OnOk}
use Rattle.ix_store.specs.Table.{TableMeaning, pairs_counted}
use Rattle.ix_store.specs.Index.{IsIndexed}
use Rattle.ix_store.specs.declared.index.Index.{Index}
use Rattle.ix_store.proofs.Stores.{entries-more, entries-before, less-or-same}

-- one more after them
pub with_blocks-push : (store ps : Blocks) (p : List ℕ × List ℕ) → with_blocks store (ps ++ p ∷ []) ≡ with_block (with_blocks store ps) p
with_blocks-push store [] p = refl
with_blocks-push store (q ∷ ps) p = with_blocks-push (with_block store q) ps p

-- a new CID is added
pub made-entered : (entries : Blocks) (kept place : ℕ) (x : List ℕ × List ℕ) → place < length entries → x ≡ get_or entries place x → has_cid (take kept entries) x.0 ≡ false
    → with_blocks ((take kept entries) ++ x ∷ []) (drop (place + 1) entries) ≡ with_blocks (take kept entries) (drop place entries)
made-entered entries kept place x within at new =
    let rest : drop place entries ≡ x ∷ drop (place + 1) entries = drop_more entries place x within ∙ ap (λ (y : List ℕ × List ℕ). y ∷ drop (place + 1) entries) (sym at) in
    sym (ap (λ (l : Blocks). with_blocks (take kept entries) l) rest
    ∙ ap (λ v. with_blocks (cond v (take kept entries) ((take kept entries) ++ x ∷ [])) (drop (place + 1) entries)) new)

-- one that is there isn't
pub made-held : (entries : Blocks) (kept place : ℕ) (x : List ℕ × List ℕ) → place < length entries → x ≡ get_or entries place x → has_cid (take kept entries) x.0 ≡ true
    → with_blocks (take kept entries) (drop (place + 1) entries) ≡ with_blocks (take kept entries) (drop place entries)
made-held entries kept place x within at held =
    let rest : drop place entries ≡ x ∷ drop (place + 1) entries = drop_more entries place x within ∙ ap (λ (y : List ℕ × List ℕ). y ∷ drop (place + 1) entries) (sym at) in
    sym (ap (λ (l : Blocks). with_blocks (take kept entries) l) rest
    ∙ ap (λ v. with_blocks (cond v (take kept entries) ((take kept entries) ++ x ∷ [])) (drop (place + 1) entries)) held)

-- if no CID occurs twice, all are
made-past : (entries : Blocks) (k : ℕ) → length entries ≤ k → pairs_counted k entries ≡ entries
made-past entries k past =
    ap (λ (l : Blocks). with_blocks (take k entries) l) (drop_of_length-le entries past) ∙ (take_all k entries past)

-- pairs that are distinct are all kept
pub made-all : (more : ℕ) (entries : Blocks) (k : ℕ) → length entries ≤ k + more → HasDistinctCids entries → pairs_counted k entries ≡ entries
made-all zero entries k far h = made-past entries k (omega (arith, far))
made-all (suc more) entries k far h =
    ⊎_elim
    (λ here.
    let x = here.0 in
    let at : x ≡ get_or entries k x = sym here.3 in
    sym (made-entered entries k k x here.1 at (entries-before entries k x here.1 at h))
    ∙ ap (λ (l : Blocks). with_blocks l (drop (k + 1) entries)) (sym (entries-more entries k x here.1 at))
    ∙ made-all more entries (k + 1) (omega (arith, far)) h)
    (λ past. made-past entries k (omega (arith, past.0)))
    (slice_get_cases entries k).1

-- an element that is appended to those that are kept
pub take-swap : (xs : Blocks) (k p : ℕ) (d : List ℕ × List ℕ) → k ≤ p → p < length xs → take (k + 1) (swap xs k p) ≡ take k xs ++ get_or xs p d ∷ []
take-swap xs k p d before within =
    ap (λ (l : Blocks). take (k + 1) l) (sym (swap_is xs k p d (omega (arith, before, within)) within)) ∙ ⊎_elim
    (λ (less : k < p). take-set-le (k + 1) (set xs k (get_or xs p d)) p (get_or xs k d) (omega (arith, less)) ∙ take_more_set xs k (get_or xs p d) (omega (arith, before, within)))
    (λ (same : k ≡ p). subst (λ (q : ℕ). take (k + 1) (set (set xs k (get_or xs q d)) q (get_or xs k d)) ≡ take k xs ++ get_or xs q d ∷ []) same (at-itself (get_or xs k d)))
    (less-or-same k p (omega (arith, before))) where
      at-itself : (c : List ℕ × List ℕ) → take (k + 1) (set (set xs k c) k c) ≡ take k xs ++ c ∷ []
      at-itself c = take_more_set (set xs k c) k c (omega (arith, length-set xs k c, before, within)) ∙ ap (λ (l : Blocks). l ++ c ∷ []) (take-set-le k xs k c (omega arith))

-- what is after it stays
pub drop-swap : (xs : Blocks) (k p : ℕ) (d : List ℕ × List ℕ) → k ≤ p → p < length xs → drop (p + 1) (swap xs k p) ≡ drop (p + 1) xs
drop-swap xs k p d before within =
    ap (λ (l : Blocks). drop (p + 1) l) (sym (swap_is xs k p d (omega (arith, before, within)) within))
    ∙ drop-set-lt (p + 1) (set xs k (get_or xs p d)) p (get_or xs k d) (omega arith)
    ∙ drop-set-lt (p + 1) xs k (get_or xs p d) (omega (arith, before))

-- entries that are indexed one by one: those that are kept are indexed, and with those that are left they make the whole
pub record InTurn (whole : Blocks) (count kept place : ℕ) (entries : Blocks) (index : Index) : Type 0 where
  pub before : kept ≤ place
  pub long : length entries ≡ count
  pub indexed : IsIndexed index (take kept entries)
  pub makes : with_blocks (take kept entries) (drop place entries) ≡ whole

-- one of a new CID is appended to those that are kept
pub in-turn-kept : (whole : Blocks) (count kept place : ℕ) (entries later : Blocks) (index next : Index) (x : List ℕ × List ℕ) → InTurn whole count kept place entries index → place < count → x ≡ get_or entries place x → has_cid (take kept entries) x.0 ≡ false
    → later ≡ swap entries kept place → IsIndexed next ((take kept entries) ++ x ∷ []) → InTurn whole count (kept + 1) (place + 1) later next
in-turn-kept whole count kept place entries later index next x h less at new swapped indexed =
    let within : place < length entries = omega (arith, less, h.long) in
    let more : take (kept + 1) later ≡ take kept entries ++ x ∷ [] =
    ap (λ (l : Blocks). take (kept + 1) l) swapped
    ∙ (take-swap entries kept place x h.before within ∙ ap (λ (y : List ℕ × List ℕ). take kept entries ++ y ∷ []) (sym at)) in
    record {
      before = omega (arith, h.before);
      long = ap (λ (l : Blocks). length l) swapped ∙ length-swap entries kept place ∙ h.long;
      indexed = subst (λ (l : Blocks). IsIndexed next l) (sym more) indexed;
      makes = ap (λ (l : Blocks). with_blocks l (drop (place + 1) later)) more
          ∙ ap (λ (l : Blocks). with_blocks ((take kept entries) ++ x ∷ []) l) (ap (λ (l : Blocks). drop (place + 1) l) swapped ∙ drop-swap entries kept place x h.before within)
          ∙ made-entered entries kept place x within at new
          ∙ h.makes;
    }

-- one whose CID is kept is left out
pub in-turn-held : (whole : Blocks) (count kept place : ℕ) (entries : Blocks) (index next : Index) (x : List ℕ × List ℕ) → InTurn whole count kept place entries index → place < count → x ≡ get_or entries place x → has_cid (take kept entries) x.0 ≡ true
    → IsIndexed next (take kept entries) → InTurn whole count kept (place + 1) entries next
in-turn-held whole count kept place entries index next x h less at held indexed = record {
  before = omega (arith, h.before);
  long = h.long;
  indexed = indexed;
  makes = made-held entries kept place x (omega (arith, less, h.long)) at held ∙ h.makes;
}

-- the builder with one entry more
pub made-push : (entries later : Blocks) (k : ℕ) (x : List ℕ × List ℕ) → k ≤ length entries → later ≡ entries ++ x ∷ [] → pairs_counted k later ≡ with_block (pairs_counted k entries) x
made-push entries later k x within is =
    ap (λ (l : Blocks). pairs_counted k l) is
    ∙ ap (λ (l : Blocks). with_blocks l (drop k (entries ++ x ∷ []))) (take-append-le k entries (x ∷ []) within)
    ∙ ap (λ (l : Blocks). with_blocks (take k entries) l) (drop-append-le k entries (x ∷ []) within)
    ∙ with_blocks-push (take k entries) (drop k entries) x

-- a builder's pairs with that of a section
pub added-in : {T E : Type 0} (r : Result T E) (files : List (List ℕ)) (pairs later : Blocks) (k : ℕ) (section : List (List ℕ) → List ℕ × List ℕ) (now : TableMeaning)
    → record { files = files; pairs = pairs_counted k pairs } ≡ now → k ≤ length pairs → OnOk r (later ≡ pairs ++ section files ∷ [])
    → OnOk r (pairs_counted k later ≡ with_block now.pairs (section now.files))
added-in (Ok v) files pairs later k section now view within pushed =
    made-push pairs later k (section files) within pushed ∙ ap (λ (t : TableMeaning). with_block t.pairs (section t.files)) view
added-in (Err e) files pairs later k section now view within pushed = tt
