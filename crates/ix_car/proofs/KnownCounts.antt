-- What is counted of known CIDs, with one more delivery.
use Rattle.std.proofs.Common.{◌≡◌, ℕ, ◌+◌, ◌-◌, ◌^◌, true, false, not, List, [], ◌∷◌, ◌++◌, length, refl, ap, ◌∙◌, arith}
use Rattle.std.specs.Prelude.{Option, Some, None, if◌then◌else◌, filter, min, option_map}
use Rattle.std.proofs.lemmas.Bool.{false≢true}
use Rattle.std.proofs.lemmas.List.{append-nil, length-append}
use Rattle.std.proofs.lemmas.List.Elements.{filter-append}
use Rattle.ix_store.specs.Store.{Blocks}
use Rattle.ix_car.specs.declared.sink.Delivery.{Delivery}
use Rattle.ix_car.specs.Archive.{Known, is_known, sections_of, new_sections}
use Rattle.ix_car.specs.Archiving.{unwritten_block}
use Rattle.ix_car.specs.Report.{at_most, known_count}
use Rattle.ix_car.proofs.FirstSound.{sections-more}

-- a count that stops, one higher
pub count-more : (most n m k : ℕ) → k ≡ min n most → m ≡ n + 1 → min (k + 1) most ≡ min m most
count-more most n m k h e = omega arith

-- the same sections are as many that aren't known
pub new-same : (known : Known) (store : Blocks) (ks ls : List Delivery) → sections_of store ls ≡ sections_of store ks → new_sections known store ls ≡ new_sections known store ks
new-same None store ks ls same = same
new-same (Some known) store ks ls same = ap (filter (λ d. not (known d.visit.cid))) same

-- and as many that are
pub known-same : (known : Known) (store : Blocks) (ks ls : List Delivery) → sections_of store ls ≡ sections_of store ks → known_count known store ls ≡ known_count known store ks
known-same None store ks ls same = refl
known-same (Some known) store ks ls same = ap (λ l. Some (at_most 32 (length (filter (λ d. known d.visit.cid) l)))) same

-- a block that is due and isn't known is one more of those
pub new-due : (known : Known) (store : Blocks) (ks : List Delivery) (d : Delivery) (place : ℕ) → unwritten_block store ks d ≡ Some place → is_known known d.visit.cid ≡ false → length (new_sections known store (ks ++ d ∷ [])) ≡ length (new_sections known store ks) + 1
new-due None store ks d place due new = ap length (sections-more store ks d place due) ∙ length-append (sections_of store ks) (d ∷ [])
new-due (Some known) store ks d place due new =
    ap length
    (ap (filter (λ e. not (known e.visit.cid))) (sections-more store ks d place due)
    ∙ filter-append (λ e. not (known e.visit.cid)) (sections_of store ks) (d ∷ [])
    ∙ ap (λ b. filter (λ e. not (known e.visit.cid)) (sections_of store ks) ++ (if not b then d ∷ [] else [])) new)
    ∙ length-append (filter (λ e. not (known e.visit.cid)) (sections_of store ks)) (d ∷ [])

-- and no more is known
pub known-unmoved : (known : Known) (store : Blocks) (ks : List Delivery) (d : Delivery) (place : ℕ) → unwritten_block store ks d ≡ Some place → is_known known d.visit.cid ≡ false → known_count known store (ks ++ d ∷ []) ≡ known_count known store ks
known-unmoved None store ks d place due new = refl
known-unmoved (Some known) store ks d place due new =
    ap (λ l. Some (at_most 32 (length l)))
    (ap (filter (λ e. known e.visit.cid)) (sections-more store ks d place due)
    ∙ filter-append (λ e. known e.visit.cid) (sections_of store ks) (d ∷ [])
    ∙ ap (λ b. filter (λ e. known e.visit.cid) (sections_of store ks) ++ (if b then d ∷ [] else [])) new
    ∙ append-nil (filter (λ e. known e.visit.cid) (sections_of store ks)))

-- one that is known is none of the others
pub new-unmoved : (known : Known) (store : Blocks) (ks : List Delivery) (d : Delivery) (place : ℕ) → unwritten_block store ks d ≡ Some place → is_known known d.visit.cid ≡ true → new_sections known store (ks ++ d ∷ []) ≡ new_sections known store ks
new-unmoved None store ks d place due has = absurd (false≢true has)
new-unmoved (Some known) store ks d place due has =
    ap (filter (λ e. not (known e.visit.cid))) (sections-more store ks d place due)
    ∙ filter-append (λ e. not (known e.visit.cid)) (sections_of store ks) (d ∷ [])
    ∙ ap (λ b. filter (λ e. not (known e.visit.cid)) (sections_of store ks) ++ (if not b then d ∷ [] else [])) has
    ∙ append-nil (filter (λ e. not (known e.visit.cid)) (sections_of store ks))

-- and is one more of those that are known
pub known-due : (known : Known) (store : Blocks) (ks : List Delivery) (d : Delivery) (place : ℕ) → unwritten_block store ks d ≡ Some place → is_known known d.visit.cid ≡ true → (count : Option ℕ) → count ≡ known_count known store ks → option_map (λ n. at_most 32 (n + 1)) count ≡ known_count known store (ks ++ d ∷ [])
known-due None store ks d place due has count is = absurd (false≢true has)
known-due (Some known) store ks d place due has count is =
    let before = filter (λ e. known e.visit.cid) (sections_of store ks) in
    let more : length (filter (λ e. known e.visit.cid) (sections_of store (ks ++ d ∷ []))) ≡ length before + 1 =
    ap length
    (ap (filter (λ e. known e.visit.cid)) (sections-more store ks d place due)
    ∙ filter-append (λ e. known e.visit.cid) (sections_of store ks) (d ∷ [])
    ∙ ap (λ b. before ++ (if b then d ∷ [] else [])) has)
    ∙ length-append before (d ∷ []) in
    ap (option_map (λ n. at_most 32 (n + 1))) is
    ∙ ap Some (count-more (2 ^ 32 - 1) (length before) (length (filter (λ e. known e.visit.cid) (sections_of store (ks ++ d ∷ [])))) (at_most 32 (length before)) refl more)
