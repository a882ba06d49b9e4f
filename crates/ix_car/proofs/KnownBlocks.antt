-- Known positions in a store, and the CIDs that a base knows.
use Rattle.std.proofs.Common.{◌≡◌, ℕ, Bool, true, false, not, List, [], ◌∷◌, ◌++◌, refl, sym, ap, ◌∙◌}
use Rattle.std.specs.Prelude.{Option, Some, None, is_some, filter, flat_map, length, if◌then◌else◌}
use Rattle.ix_store.specs.Store.{Blocks, block_of, position_of}
use Rattle.ix_store.specs.declared.places.PlaceSet.{PlaceSet}
use Rattle.ix_sections.specs.Writing.{header_of, section_with}
use Rattle.ix_car.specs.declared.sink.Delivery.{Delivery}
use Rattle.ix_car.specs.Kept.{kept}
use Rattle.ix_car.specs.Archive.{is_known_place, known_at, first_sound, section_of, new_section, new_sections, archive_without, known_by}
use Rattle.ix_known.specs.Known.{knows, IsKnownIn}
use Rattle.ix_car.specs.Report.{at_most, known_count, counts_of}
use Rattle.ix_car.proofs.FirstSound.{block-none}

-- one more element, which may pass
filter-step : {A : Type 0} (p q : A → Bool) (x : A) (b : Bool) (ys : List A) → (b ≡ true → p x ≡ q x) → filter p ys ≡ filter q ys → filter p (if b then x ∷ ys else ys) ≡ filter q (if b then x ∷ ys else ys)
filter-step p q x false ys same rest = rest
filter-step p q x true ys same rest = ap (λ b. if b then x ∷ filter p ys else filter p ys) (same refl) ∙ ap (λ l. if q x then x ∷ l else l) rest

-- equal tests of what passes another filter
filter-same : {A : Type 0} (p q r : A → Bool) (xs : List A) → ((x : A) → r x ≡ true → p x ≡ q x) → filter p (filter r xs) ≡ filter q (filter r xs)
filter-same p q r [] same = refl
filter-same p q r (x ∷ xs) same = filter-step p q x (r x) (filter r xs) (same x) (filter-same p q r xs same)

module _ (store base : Blocks) (places : PlaceSet) (of_base : IsKnownIn store base places) where
  -- of a CID whose block is in the store, both say the same
  known-there : (c : List ℕ) (place : Option ℕ) → position_of store c ≡ place → is_some (block_of store c) ≡ true → is_known_place (Some places) (position_of store c) ≡ knows base c
  known-there c None at there = absurd (let none : is_some (block_of store c) ≡ false = ap is_some (block-none 0 store c at) in let bad : true ≡ false = sym there ∙ none in cc)
  known-there c (Some place) at there = ap (is_known_place (Some places)) at ∙ of_base c place at

  -- the section of a delivery is left out by both, or by none
  section-same : (d : Delivery) → new_section (known_at store (Some places)) store d ≡ new_section (known_by base) store d
  section-same d = by (position_of store d.visit.cid) refl where
    by : (place : Option ℕ) → position_of store d.visit.cid ≡ place → new_section (known_at store (Some places)) store d ≡ new_section (known_by base) store d
    by None at =
        let none : section_of store d ≡ [] = ap (λ o. section_with d.visit.cid o) (block-none 0 store d.visit.cid at) in
        nothing (is_known_place (Some places) (position_of store d.visit.cid)) none ∙ sym (nothing (knows base d.visit.cid) none) where
          nothing : (b : Bool) → section_of store d ≡ [] → (if b then [] else section_of store d) ≡ []
          nothing true e = refl
          nothing false e = e
    by (Some place) at = ap (λ b. if b then [] else section_of store d) (ap (is_known_place (Some places)) at ∙ of_base d.visit.cid place at)

  texts-same : (ds : List Delivery) → flat_map (new_section (known_at store (Some places)) store) ds ≡ flat_map (new_section (known_by base) store) ds
  texts-same [] = refl
  texts-same (d ∷ ds) = ap (λ l. l ++ flat_map (new_section (known_at store (Some places)) store) ds) (section-same d) ∙ ap (λ l. new_section (known_by base) store d ++ l) (texts-same ds)

  -- so the same sections remain
  new-kept : (ks : List Delivery) → new_sections (known_at store (Some places)) store ks ≡ new_sections (known_by base) store ks
  new-kept ks =
      filter-same (λ d. not (is_known_place (Some places) (position_of store d.visit.cid))) (λ d. not (knows base d.visit.cid)) (λ d. is_some (block_of store d.visit.cid)) (first_sound ks)
      (λ d there. ap not (known-there d.visit.cid (position_of store d.visit.cid) refl there))

  -- and the same are counted
  known-counted : (ks : List Delivery) → known_count (known_at store (Some places)) store ks ≡ known_count (known_by base) store ks
  known-counted ks =
      ap (λ l. Some (at_most 32 (length l)))
      (filter-same (λ d. is_known_place (Some places) (position_of store d.visit.cid)) (λ d. knows base d.visit.cid) (λ d. is_some (block_of store d.visit.cid)) (first_sound ks)
      (λ d there. known-there d.visit.cid (position_of store d.visit.cid) refl there))

  counts-same : (ds : List Delivery) (taken : ℕ) → counts_of (known_at store (Some places)) store ds taken ≡ counts_of (known_by base) store ds taken
  counts-same ds taken = λ i.
      record {
        visits = at_most 32 (length ds);
        kept = at_most 32 (length (kept ds));
        sections = at_most 32 (length (new-kept (kept ds) i));
        bytes = at_most 64 taken;
        known = known-counted (kept ds) i;
      }

-- the law `PlacesAreOfTheBase`
pub places-of-base : (store base : Blocks) (places : PlaceSet) → IsKnownIn store base places → (roots : List (List ℕ)) (ds : List Delivery)
    → (archive_without (known_at store (Some places)) store roots ds ≡ archive_without (known_by base) store roots ds)
    × ((taken : ℕ) → counts_of (known_at store (Some places)) store ds taken ≡ counts_of (known_by base) store ds taken)
places-of-base store base places of_base roots ds = (
  ap (λ l. header_of roots ++ l) (texts-same store base places of_base (first_sound ds)),
  λ taken. counts-same store base places of_base ds taken,
)
