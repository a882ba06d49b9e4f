-- The sections of a list of deliveries with one more at its end.
use Rattle.std.proofs.Common.{◌≡◌, ℕ, ◌+◌, Bool, true, false, not, ◌&&◌, ◌||◌, List, [], ◌∷◌, ◌++◌, map, refl, sym, ap, ◌∙◌}
use Rattle.std.specs.Prelude.{Option, Some, None, is_some, if◌then◌else◌, bytes_eq, filter, flat_map}
use Rattle.std.proofs.lemmas.Bool.Decides.{same_from_decides}
use Rattle.std.proofs.lemmas.Slice.Eq.{bytes_eq-Decides}
use Rattle.std.proofs.lemmas.List.{append-nil, append_assoc, map-append}
use Rattle.std.proofs.lemmas.List.Concat.{flat_map-append}
use Rattle.std.proofs.lemmas.List.Elements.{filter-append}
use Rattle.std.proofs.lemmas.List.Folds.{list_any-append}
use Rattle.std.proofs.Math.Bool.{or-false}
use Rattle.ix_check.specs.Verdict.{passes}
use Rattle.ix_verdict.specs.declared.verdict.Verdict.{Verdict}
use Rattle.ix_verdict.specs.declared.verdict.Verdict.TheVariants.{Codec, Hash, Missing, Damaged, Malformed, Sound, Inline}
use Rattle.ix_store.specs.Store.{Blocks, block_of, position_after, position_of}
use Rattle.ix_store.specs.declared.places.PlaceSet.{PlaceSet}
use Rattle.ix_car.specs.declared.archive.Skip.{Skip}
use Rattle.ix_car.specs.declared.sink.Delivery.{Delivery}
use Rattle.ix_car.specs.Kept.{is_below, kept}
use Rattle.ix_sections.specs.Writing.{header_of, section_with, with_length}
use Rattle.ix_car.specs.Archive.{first_sound, section_of, new_section, Known, is_known, is_known_place, known_at, sections_of, archive_without}
use Rattle.ix_verdict.specs.Verdict.{is_sound}
use Rattle.ix_car.specs.Archiving.{cut_behind, is_told, unwritten_block, text_after, text_due}
use Rattle.ix_car.proofs.Pruning.{kept-append, cut_after-append}

-- what is sound passes
pub sound_passes : (v : Verdict) → is_sound v ≡ true → passes v ≡ true
sound_passes Codec sound = sound
sound_passes Hash sound = sound
sound_passes Missing sound = sound
sound_passes Damaged sound = sound
sound_passes Malformed sound = sound
sound_passes Sound sound = refl
sound_passes Inline sound = refl

-- what doesn't pass isn't sound
pub refused_unsound : (v : Verdict) → passes v ≡ false → is_sound v ≡ false
refused_unsound Codec refused = refl
refused_unsound Hash refused = refl
refused_unsound Missing refused = refl
refused_unsound Damaged refused = refl
refused_unsound Malformed refused = refl
refused_unsound Sound refused = refused
refused_unsound Inline refused = refl

-- comparing bytes is symmetric
bytes_eq-flips : (a b : List ℕ) → bytes_eq a b ≡ bytes_eq b a
bytes_eq-flips a b =
    same_from_decides (bytes_eq a b) (bytes_eq b a) (bytes_eq-Decides a b) (λ h. sym ((bytes_eq-Decides b a).0 h), λ e. (bytes_eq-Decides b a).1 (sym e))

-- what one more delivery adds to the first sound ones
abbrev pub first_of : List Delivery → Delivery → List Delivery
first_of ks d = if is_sound d.verdict then (if is_told ks d.visit.cid then [] else d ∷ []) else []

-- one step of leaving out what was written
passed-over : (p : Delivery → Bool) (sound told same : Bool) (d : Delivery) → p d ≡ not same → filter p (if sound then (if told then [] else d ∷ []) else []) ≡ (if sound then (if same || told then [] else d ∷ []) else [])
passed-over p false told same d h = refl
passed-over p true true true d h = refl
passed-over p true true false d h = refl
passed-over p true false true d h = ap (λ b. if b then d ∷ [] else []) h
passed-over p true false false d h = ap (λ b. if b then d ∷ [] else []) h

-- one more delivery has a section if it is sound and new
pub first_sound-push : (ks : List Delivery) (d : Delivery) → first_sound (ks ++ d ∷ []) ≡ first_sound ks ++ first_of ks d
first_sound-push [] d = refl
first_sound-push (k ∷ ks) d =
    let other : Delivery → Bool = λ e. not (bytes_eq e.visit.cid k.visit.cid) in
    elim (is_sound k.verdict) as (λ b. (if b then k ∷ filter (λ e. not (bytes_eq e.visit.cid k.visit.cid)) (first_sound (ks ++ d ∷ [])) else first_sound (ks ++ d ∷ []))
    ≡ (if b then k ∷ filter (λ e. not (bytes_eq e.visit.cid k.visit.cid)) (first_sound ks) else first_sound ks) ++ (if is_sound d.verdict then (if (b && bytes_eq k.visit.cid d.visit.cid) || is_told ks d.visit.cid then [] else d ∷ []) else [])) [
      | true ↦ ap (λ l. k ∷ l)
          (ap (λ l. filter other l) (first_sound-push ks d) ∙ filter-append other (first_sound ks) (first_of ks d)
          ∙ ap (λ l. filter other (first_sound ks) ++ l) (passed-over other (is_sound d.verdict) (is_told ks d.visit.cid) (bytes_eq k.visit.cid d.visit.cid) d (ap not (bytes_eq-flips d.visit.cid k.visit.cid))))
      | false ↦ first_sound-push ks d
    ]

-- which CIDs were delivered, with one more delivery
pub told-push : (ks : List Delivery) (d : Delivery) (c : List ℕ) → is_told (ks ++ d ∷ []) c ≡ (is_told ks c || (is_sound d.verdict && bytes_eq d.visit.cid c))
told-push ks d c =
    list_any-append (λ e. is_sound e.verdict && bytes_eq e.visit.cid c) ks (d ∷ []) ∙ ap (λ b. is_told ks c || b) (or-false (is_sound d.verdict && bytes_eq d.visit.cid c))

-- its text, by the same tests
first-text : (f : Delivery → List ℕ) (sound told : Bool) (d : Delivery) → flat_map f (if sound then (if told then [] else d ∷ []) else []) ≡ (if sound then (if told then [] else f d) else [])
first-text f false told d = refl
first-text f true true d = refl
first-text f true false d = append-nil (f d)

-- one more kept delivery writes its text at the end of the archive
pub archive-push : (known : Known) (store : Blocks) (roots : List (List ℕ)) (ks : List Delivery) (d : Delivery) → archive_without known store roots (ks ++ d ∷ []) ≡ archive_without known store roots ks ++ text_after known store ks d
archive-push known store roots ks d =
    ap (λ l. header_of roots ++ flat_map (new_section known store) l) (first_sound-push ks d)
    ∙ ap (λ l. header_of roots ++ l)
    (flat_map-append (new_section known store) (first_sound ks) (first_of ks d)
    ∙ ap (λ l. flat_map (new_section known store) (first_sound ks) ++ l) (first-text (new_section known store) (is_sound d.verdict) (is_told ks d.visit.cid) d))
    ∙ sym (append_assoc (header_of roots) (flat_map (new_section known store) (first_sound ks)) (text_after known store ks d))

-- what is kept with one more delivery
pub kept-push : (ds : List Delivery) (d : Delivery) → kept (ds ++ d ∷ []) ≡ (if is_below (cut_behind ds) d.visit.depth then kept ds else kept ds ++ d ∷ [])
kept-push ds d =
    kept-append (λ e. e.visit.depth) (λ e. passes e.verdict) None ds (d ∷ [])
    ∙ elim (is_below (cut_behind ds) d.visit.depth) as (λ b. kept ds ++ (if b then [] else d ∷ []) ≡ (if b then kept ds else kept ds ++ d ∷ [])) [ true ↦ append-nil (kept ds) | false ↦ refl ]

-- where the list is cut with one more delivery
pub cut-push : (ds : List Delivery) (d : Delivery) → cut_behind (ds ++ d ∷ []) ≡ (if is_below (cut_behind ds) d.visit.depth then cut_behind ds else (if passes d.verdict then None else Some d.visit.depth))
cut-push ds d = cut_after-append (λ e. e.visit.depth) (λ e. passes e.verdict) None ds (d ∷ [])

-- one more delivery writes what is due at the end of the archive
pub archive-due : (known : Known) (store : Blocks) (roots : List (List ℕ)) (ds : List Delivery) (d : Delivery) → archive_without known store roots (kept (ds ++ d ∷ [])) ≡ archive_without known store roots (kept ds) ++ text_due known store ds d
archive-due known store roots ds d =
    ap (λ ks. archive_without known store roots ks) (kept-push ds d)
    ∙ elim (is_below (cut_behind ds) d.visit.depth) as (λ b. archive_without known store roots (if b then kept ds else kept ds ++ d ∷ []) ≡ archive_without known store roots (kept ds) ++ (if b then [] else text_after known store (kept ds) d))
    [ true ↦ sym (append-nil (archive_without known store roots (kept ds))) | false ↦ archive-push known store roots (kept ds) d ]

-- the skips of kept deliveries
abbrev pub skips_in : List Delivery → List Skip
skips_in ks = map (λ d. record { seq = d.visit.seq; cid = d.visit.cid; verdict = d.verdict }) (filter (λ d. not (passes d.verdict)) ks)

-- one that passes is no skip
pub skips-passing : (ks : List Delivery) (d : Delivery) → passes d.verdict ≡ true → skips_in (ks ++ d ∷ []) ≡ skips_in ks
skips-passing ks d passing =
    ap (λ l. map (λ e. record { seq = e.visit.seq; cid = e.visit.cid; verdict = e.verdict }) l)
    (filter-append (λ e. not (passes e.verdict)) ks (d ∷ [])
    ∙ ap (λ b. filter (λ e. not (passes e.verdict)) ks ++ (if not b then d ∷ [] else [])) passing
    ∙ append-nil (filter (λ e. not (passes e.verdict)) ks))

-- one that doesn't pass is the last skip
pub skips-refused : (ks : List Delivery) (d : Delivery) → passes d.verdict ≡ false → skips_in (ks ++ d ∷ []) ≡ skips_in ks ++ record { seq = d.visit.seq; cid = d.visit.cid; verdict = d.verdict } ∷ []
skips-refused ks d refused =
    ap (λ l. map (λ e. record { seq = e.visit.seq; cid = e.visit.cid; verdict = e.verdict }) l)
    (filter-append (λ e. not (passes e.verdict)) ks (d ∷ []) ∙ ap (λ b. filter (λ e. not (passes e.verdict)) ks ++ (if not b then d ∷ [] else [])) refused)
    ∙ map-append (λ e. record { seq = e.visit.seq; cid = e.visit.cid; verdict = e.verdict }) (filter (λ e. not (passes e.verdict)) ks) (d ∷ [])

-- the sections with one more kept delivery
sections-push : (store : Blocks) (ks : List Delivery) (d : Delivery) → sections_of store (ks ++ d ∷ []) ≡ sections_of store ks ++ filter (λ e. is_some (block_of store e.visit.cid)) (first_of ks d)
sections-push store ks d =
    ap (λ l. filter (λ e. is_some (block_of store e.visit.cid)) l) (first_sound-push ks d)
    ∙ filter-append (λ e. is_some (block_of store e.visit.cid)) (first_sound ks) (first_of ks d)

-- whether a CID has a block, and whether it has a place
pub block-none : (n : ℕ) (store : Blocks) (c : List ℕ) → position_after n store c ≡ None → block_of store c ≡ None
block-none n [] c h = refl
block-none n (e ∷ es) c h =
    elim (bytes_eq e.0 c) as (λ b. (if b then Some n else position_after (n + 1) es c) ≡ None → (if b then Some e.1 else block_of es c) ≡ None) [ true ↦ (λ k. cc) | false ↦ (λ k. block-none (n + 1) es c k) ] h

-- a CID with a position has a block
pub block-some : (n place : ℕ) (store : Blocks) (c : List ℕ) → position_after n store c ≡ Some place → is_some (block_of store c) ≡ true
block-some n place [] c h = cc
block-some n place (e ∷ es) c h =
    elim (bytes_eq e.0 c) as (λ b. (if b then Some n else position_after (n + 1) es c) ≡ Some place → is_some (if b then Some e.1 else block_of es c) ≡ true) [ true ↦ (λ k. refl) | false ↦ (λ k. block-some (n + 1) place es c k) ] h

-- a delivery that isn't sound has no section
pub sections-unsound : (store : Blocks) (ks : List Delivery) (d : Delivery) → is_sound d.verdict ≡ false → sections_of store (ks ++ d ∷ []) ≡ sections_of store ks
sections-unsound store ks d unsound =
    sections-push store ks d
    ∙ ap (λ b. sections_of store ks ++ filter (λ e. is_some (block_of store e.visit.cid)) (if b then (if is_told ks d.visit.cid then [] else d ∷ []) else [])) unsound
    ∙ append-nil (sections_of store ks)

-- nor has one with no place that is due
no-place : (sound told : Bool) (place : Option ℕ) (d : Delivery) (p : Delivery → Bool) → (place ≡ None → p d ≡ false) → (if sound then (if told then None else place) else None) ≡ None → filter p (if sound then (if told then [] else d ∷ []) else []) ≡ []
no-place false told place d p h none = refl
no-place true true place d p h none = refl
no-place true false place d p h none = ap (λ b. if b then d ∷ [] else []) (h none)

-- a delivery that writes no section adds none
pub sections-repeat : (store : Blocks) (ks : List Delivery) (d : Delivery) → unwritten_block store ks d ≡ None → sections_of store (ks ++ d ∷ []) ≡ sections_of store ks
sections-repeat store ks d none =
    sections-push store ks d
    ∙ ap (λ l. sections_of store ks ++ l)
    (no-place (is_sound d.verdict) (is_told ks d.visit.cid) (position_of store d.visit.cid) d (λ e. is_some (block_of store e.visit.cid)) (λ h. ap is_some (block-none 0 store d.visit.cid h)) none)
    ∙ append-nil (sections_of store ks)

-- a position that is due belongs to a sound delivery of a CID that wasn't delivered
pub due-told : (store : Blocks) (ks : List Delivery) (d : Delivery) (place : ℕ) → unwritten_block store ks d ≡ Some place → (is_sound d.verdict ≡ true) × (is_told ks d.visit.cid ≡ false) × (position_of store d.visit.cid ≡ Some place)
due-told store ks d place due =
    elim (is_sound d.verdict) as (λ s. (if s then (if is_told ks d.visit.cid then None else position_of store d.visit.cid) else None) ≡ Some place → (s ≡ true) × (is_told ks d.visit.cid ≡ false) × (position_of store d.visit.cid ≡ Some place)) [
      | true ↦ elim (is_told ks d.visit.cid) as (λ b. (if b then None else position_of store d.visit.cid) ≡ Some place → (true ≡ true) × (b ≡ false) × (position_of store d.visit.cid ≡ Some place)) [ true ↦ (λ h. cc) | false ↦ (λ h. (refl, refl, h)) ]
      | false ↦ (λ h. cc)
    ] due

-- and one that does adds itself
pub sections-more : (store : Blocks) (ks : List Delivery) (d : Delivery) (place : ℕ) → unwritten_block store ks d ≡ Some place → sections_of store (ks ++ d ∷ []) ≡ sections_of store ks ++ d ∷ []
sections-more store ks d place due =
    let found = due-told store ks d place due in
    let has : is_some (block_of store d.visit.cid) ≡ true = block-some 0 place store d.visit.cid found.2 in
    sections-push store ks d
    ∙ ap (λ b. sections_of store ks ++ filter (λ e. is_some (block_of store e.visit.cid)) (if b then (if is_told ks d.visit.cid then [] else d ∷ []) else [])) found.0
    ∙ ap (λ b. sections_of store ks ++ filter (λ e. is_some (block_of store e.visit.cid)) (if b then [] else d ∷ [])) found.1
    ∙ ap (λ b. sections_of store ks ++ (if b then d ∷ [] else [])) has

-- a delivery that isn't cut off writes what it writes after the kept ones
due-kept : (known : Known) (store : Blocks) (ds : List Delivery) (d : Delivery) → is_below (cut_behind ds) d.visit.depth ≡ false → text_due known store ds d ≡ text_after known store (kept ds) d
due-kept known store ds d uncut = ap (λ b. if b then [] else text_after known store (kept ds) d) uncut

-- what doesn't pass writes nothing
pub due-refused : (known : Known) (store : Blocks) (ds : List Delivery) (d : Delivery) → is_below (cut_behind ds) d.visit.depth ≡ false → passes d.verdict ≡ false → text_due known store ds d ≡ []
due-refused known store ds d uncut refused =
    due-kept known store ds d uncut ∙ ap (λ b. if b then (if is_told (kept ds) d.visit.cid then [] else new_section known store d) else []) (refused_unsound d.verdict refused)

-- nor does what has no place that is due
no-text : (sound told : Bool) (place : Option ℕ) (text : List ℕ) → (place ≡ None → text ≡ []) → (if sound then (if told then None else place) else None) ≡ None → (if sound then (if told then [] else text) else []) ≡ []
no-text false told place text h none = refl
no-text true true place text h none = refl
no-text true false place text h none = h none

-- nor does a CID without a block, known or not
no-section : (known : Bool) (store : Blocks) (c : List ℕ) → position_of store c ≡ None → (if known then [] else section_with c (block_of store c)) ≡ []
no-section true store c h = refl
no-section false store c h = ap (λ o. section_with c o) (block-none 0 store c h)

-- nothing, if its CID has a section
pub due-repeat : (known : Known) (store : Blocks) (ds : List Delivery) (d : Delivery) → is_below (cut_behind ds) d.visit.depth ≡ false → unwritten_block store (kept ds) d ≡ None → text_due known store ds d ≡ []
due-repeat known store ds d uncut none =
    due-kept known store ds d uncut
    ∙ no-text (is_sound d.verdict) (is_told (kept ds) d.visit.cid) (position_of store d.visit.cid) (new_section known store d) (no-section (is_known known d.visit.cid) store d.visit.cid) none

-- no text, by the same tests
no-more : (sound told : Bool) → ◌≡◌ {A = List ℕ} (if sound then (if told then [] else []) else []) []
no-more false told = refl
no-more true true = refl
no-more true false = refl

-- a known CID writes nothing
pub due-known : (known : Known) (store : Blocks) (ds : List Delivery) (d : Delivery) → is_below (cut_behind ds) d.visit.depth ≡ false → is_known known d.visit.cid ≡ true → text_due known store ds d ≡ []
due-known known store ds d uncut has =
    due-kept known store ds d uncut
    ∙ ap (λ b. if is_sound d.verdict then (if is_told (kept ds) d.visit.cid then [] else (if b then [] else section_of store d)) else []) has
    ∙ no-more (is_sound d.verdict) (is_told (kept ds) d.visit.cid)

-- and another its section
pub due-section : (known : Known) (store : Blocks) (ds : List Delivery) (d : Delivery) (place : ℕ) (block : List ℕ) → is_below (cut_behind ds) d.visit.depth ≡ false → unwritten_block store (kept ds) d ≡ Some place → is_known known d.visit.cid ≡ false → block_of store d.visit.cid ≡ Some block
    → text_due known store ds d ≡ with_length (d.visit.cid ++ block)
due-section known store ds d place block uncut due new at =
    let found = due-told store (kept ds) d place due in
    due-kept known store ds d uncut ∙ ap (λ b. if b then (if is_told (kept ds) d.visit.cid then [] else new_section known store d) else []) found.0
    ∙ ap (λ b. if b then [] else new_section known store d) found.1
    ∙ ap (λ b. if b then [] else section_of store d) new
    ∙ ap (λ o. section_with d.visit.cid o) at

-- whether the CID of a block that is due is known, by its position
pub known-place : (places : Option PlaceSet) (store : Blocks) (ks : List Delivery) (d : Delivery) (place : ℕ) → unwritten_block store ks d ≡ Some place → is_known (known_at store places) d.visit.cid ≡ is_known_place places (Some place)
known-place None store ks d place due = refl
known-place (Some places) store ks d place due = ap (λ o. is_known_place (Some places) o) (due-told store ks d place due).2
