-- A turn of the loop that keeps each root where it is named first.
use Rattle.std.proofs.Common.{◌≡◌, ℕ, ◌+◌, ◌<◌, Bool, true, false, not, ◌||◌, ◌&&◌, inl, inr, List, [], ◌∷◌, ◌++◌, length, drop, filter, get_or, refl, sym, ◌∙◌, ap, append_assoc}
use Rattle.std.specs.List.{list_any}
use Rattle.std.specs.Prelude.{Option, is_some, bytes_eq, if◌then◌else◌}
use Rattle.std.proofs.lemmas.List.{map_push}
use Rattle.std.proofs.lemmas.Slice.Eq.{bytes_eq-Decides}
use Rattle.std.proofs.lemmas.Bool.{not-true, not-false}
use Rattle.std.proofs.lemmas.Bool.Decides.{same_from_decides}
use Rattle.std.proofs.Math.Bool.{or-false}
use Rattle.ix_verdict.specs.AllowMissing.{allows_cid, may_lack}
use Rattle.ix_cid.proofs.Lists.{drop_read}
use Rattle.ix_store.specs.Store.{Blocks, has_cid, with_block, position_of}
use Rattle.ix_store.proofs.Indexes.{has-by}
use Rattle.ix_walk.specs.Once.{first_ones}
use Rattle.ix_verdict.specs.declared.allow_missing.AllowMissing.{AllowMissing}
use Rattle.ix_verify.specs.Walked.{roots_as_blocks}
use Rattle.ix_walk.proofs.Firsts.{filter-both, unseen, unseen-seen, unseen-none}

-- a CID is the one that was added, or it was there
has_cid-added : (seen : Blocks) (c b e : List ℕ) → has_cid (seen ++ (c, b) ∷ []) e ≡ (has_cid seen e || bytes_eq e c)
has_cid-added [] c b e =
    or-false (bytes_eq c e) ∙ same_from_decides (bytes_eq c e) (bytes_eq e c) (bytes_eq-Decides c e) (λ h. sym ((bytes_eq-Decides e c).0 h), λ same. (bytes_eq-Decides e c).1 (sym same))
has_cid-added (p ∷ seen) c b e = on_first (bytes_eq p.0 e) (has_cid-added seen c b e) where
  on_first : (same : Bool) → has_cid (seen ++ (c, b) ∷ []) e ≡ (has_cid seen e || bytes_eq e c) → (same || has_cid (seen ++ (c, b) ∷ []) e) ≡ ((same || has_cid seen e) || bytes_eq e c)
  on_first true more = refl
  on_first false more = more

-- neither this CID nor one that was seen
neither-here : (there same : Bool) → (not same && not there) ≡ not (there || same)
neither-here true true = refl
neither-here true false = refl
neither-here false true = refl
neither-here false false = refl

-- a CID that wasn't seen comes first, and is seen from then on
unseen-new : (seen : Blocks) (c b : List ℕ) (cs : List (List ℕ)) → has_cid seen c ≡ false → unseen (has_cid seen) (c ∷ cs) ≡ c ∷ unseen (has_cid (seen ++ (c, b) ∷ [])) cs
unseen-new seen c b cs isnt =
    let others = filter (λ e. not (has_cid seen e)) (filter (λ e. not (bytes_eq e c)) (first_ones cs)) in
    ap (λ (t : Bool). if not t then c ∷ others else others) isnt
    ∙ ap (λ (l : List (List ℕ)). c ∷ l)
    (filter-both (λ e. not (has_cid seen e)) (λ e. not (bytes_eq e c)) (λ e. not (has_cid (seen ++ (c, b) ∷ []) e))
    (λ e. neither-here (has_cid seen e) (bytes_eq e c) ∙ ap not (sym (has_cid-added seen c b e)))
    (first_ones cs))

-- those so far, and the first ones of those that are left, are all
abbrev pub AreFirst : List (List ℕ) → Blocks → ℕ → List (List ℕ) → Type 0
AreFirst roots seen i distinct = distinct ++ unseen (has_cid seen) (drop i roots) ≡ first_ones roots

-- before any root is read, no root is kept
pub first-none : (roots : List (List ℕ)) → AreFirst roots [] 0 []
first-none roots = unseen-none roots

-- one that wasn't named before
pub first-new : (roots : List (List ℕ)) (seen later : Blocks) (i : ℕ) (x : List ℕ) (old new : List (List ℕ)) → i < length roots → x ≡ get_or roots i x → true ≡ not (has_cid seen x) → later ≡ with_block seen (x, []) → new ≡ old ++ x ∷ []
    → AreFirst roots seen i old → AreFirst roots later (i + 1) new
first-new roots seen later i x old new lt is fresh added pushed so_far =
    let isnt : has_cid seen x ≡ false = not-true (has_cid seen x) (sym fresh) in
    let now : later ≡ seen ++ (x, []) ∷ [] = added ∙ ap (λ (t : Bool). if t then seen else seen ++ (x, []) ∷ []) isnt in
    let rest = unseen (has_cid (seen ++ (x, []) ∷ [])) (drop (i + 1) roots) in
    ap (λ (s : Blocks). new ++ unseen (has_cid s) (drop (i + 1) roots)) now
    ∙ ap (λ (l : List (List ℕ)). l ++ rest) pushed
    ∙ append_assoc old (x ∷ []) rest
    ∙ ap (λ (l : List (List ℕ)). old ++ l) (sym (unseen-new seen x [] (drop (i + 1) roots) isnt))
    ∙ ap (λ (l : List (List ℕ)). old ++ unseen (has_cid seen) l) (sym (drop_read roots i x lt is))
    ∙ so_far

-- one that was
pub first-again : (roots : List (List ℕ)) (seen later : Blocks) (i : ℕ) (x : List ℕ) (distinct : List (List ℕ)) → i < length roots → x ≡ get_or roots i x → false ≡ not (has_cid seen x) → later ≡ with_block seen (x, [])
    → AreFirst roots seen i distinct → AreFirst roots later (i + 1) distinct
first-again roots seen later i x distinct lt is named added so_far =
    let there : has_cid seen x ≡ true = not-false (has_cid seen x) (sym named) in
    let now : later ≡ seen = added ∙ ap (λ (t : Bool). if t then seen else seen ++ (x, []) ∷ []) there in
    ap (λ (s : Blocks). distinct ++ unseen (has_cid s) (drop (i + 1) roots)) now
    ∙ ap (λ (l : List (List ℕ)). distinct ++ l) (sym (unseen-seen (has_cid seen) (x ∷ []) (drop (i + 1) roots) (λ c at. elim at [ inl e ↦ ap (has_cid seen) (sym e) ∙ there | inr h ↦ absurd h ])))
    ∙ ap (λ (l : List (List ℕ)). distinct ++ unseen (has_cid seen) l) (sym (drop_read roots i x lt is))
    ∙ so_far

-- ---- the set of roots

-- one that wasn't named before
pub set-new : (seen later : Blocks) (x : List ℕ) (old new : List (List ℕ)) → true ≡ not (has_cid seen x) → later ≡ with_block seen (x, []) → new ≡ old ++ x ∷ [] → seen ≡ roots_as_blocks old → later ≡ roots_as_blocks new
set-new seen later x old new fresh added pushed so_far =
    added
    ∙ ap (λ (t : Bool). if t then seen else seen ++ (x, []) ∷ []) (not-true (has_cid seen x) (sym fresh))
    ∙ ap (λ (s : Blocks). s ++ (x, []) ∷ []) so_far
    ∙ sym (map_push (λ (root : List ℕ). (root, [])) old x)
    ∙ ap roots_as_blocks (sym pushed)

-- one that was
pub set-again : (seen later : Blocks) (x : List ℕ) (distinct : List (List ℕ)) → false ≡ not (has_cid seen x) → later ≡ with_block seen (x, []) → seen ≡ roots_as_blocks distinct → later ≡ roots_as_blocks distinct
set-again seen later x distinct named added so_far =
    added ∙ ap (λ (t : Bool). if t then seen else seen ++ (x, []) ∷ []) (not-false (has_cid seen x) (sym named)) ∙ so_far

-- what is in the set is a root
in-set : (roots : List (List ℕ)) (c : List ℕ) → has_cid (roots_as_blocks roots) c ≡ list_any (λ root. bytes_eq root c) roots
in-set [] c = refl
in-set (root ∷ roots) c = ap (λ (t : Bool). bytes_eq root c || t) (in-set roots c)

-- so what may be lacking is the same by the set and by the roots
pub lack-by-set : (allowed : AllowMissing) (set : Blocks) (roots : List (List ℕ)) → set ≡ roots_as_blocks roots → (λ (c : List ℕ). allows_cid allowed c && not (has_cid set c)) ≡ may_lack allowed roots
lack-by-set allowed set roots is =
    let same : (c : List ℕ) → has_cid set c ≡ list_any (λ root. bytes_eq root c) roots = λ c. ap (λ (s : Blocks). has_cid s c) is ∙ in-set roots c in
    λ i c. allows_cid allowed c && not (same c i)

-- a CID that isn't found in the set, and whose codec allows for it, may be lacking
pub may-lack : (allowed : AllowMissing) (set : Blocks) (c : List ℕ) (allows none : Bool) (o : Option ℕ) → allows ≡ allows_cid allowed c → allows ≡ true → o ≡ position_of set c → is_some o ≡ not none
    → none ≡ (allows_cid allowed c && not (has_cid set c))
may-lack allowed set c allows none o is on found some =
    let there : has_cid set c ≡ not none = has-by set c o (sym found) ∙ some in
    sym (not-twice none) ∙ ap not (sym there) ∙ sym (ap (λ (t : Bool). t && not (has_cid set c)) (sym is ∙ on))
  where
    not-twice : (t : Bool) → not (not t) ≡ t
    not-twice true = refl
    not-twice false = refl
