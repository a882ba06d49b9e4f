-- The archive of everything below roots, of which nothing was skipped, has all that its roots call for.
use Rattle.std.proofs.Common.{◌≡◌, ℕ, zero, suc, ◌+◌, ◌<◌, ◌≤◌, Bool, true, false, ◌&&◌, ◌||◌, List, [], ◌∷◌, ◌++◌, length, take, refl, sym, ◌∙◌, ap, subst, arith, ltb}
use Rattle.std.specs.Prelude.{Option, Some, None, map, filter, not, if◌then◌else◌, bytes_eq, option_and_then}
use Rattle.std.specs.List.{AllByRecursion, list_any}
use Rattle.std.proofs.lemmas.List.{take_all}
use Rattle.std.proofs.lemmas.Bool.{le-leb, le-ltb, ltb-false, or_right}
use Rattle.std.proofs.lemmas.Slice.Eq.{bytes_eq-Decides}
use Rattle.sha2.specs.Sha256.{sha256}
use Rattle.sha2.specs.Sha512.{sha512}
use Rattle.std.proofs.Math.Nat.{le_trans}
use Rattle.ix_cid.specs.Cid.{parts_of, digest_of, hash_function_of}
use Rattle.ix_cid.specs.declared.hash_function.HashFunction.{HashFunction}
use Rattle.ix_cid.specs.declared.hash_function.HashFunction.TheVariants.{Identity, Sha2_256, Sha2_512}
use Rattle.ix_cbor.specs.Data.{Data}
use Rattle.ix_cbor.specs.Reading.{data_at}
use Rattle.ix_selector.specs.Enters.{Path}
use Rattle.ix_selector.specs.IsEntered.{is_entered}
use Rattle.ix_selector.specs.Behind.{residual_at, same_residual}
use Rattle.ix_selector.specs.Pattern.{Pattern, everything}
use Rattle.ix_store.specs.Store.{Blocks, has_cid, with_block, block_of, bytes_by, is_dag_cbor}
use Rattle.ix_walk.specs.JobMeaning.{JobMeaning}
use Rattle.ix_walk.specs.Arrivals.{Arrival, Inside, when_some}
use Rattle.ix_walk.specs.Visits.{arrivals_of, visit_of, visits_from, is_over_limit}
use Rattle.ix_walk.specs.Once.{links_below, roots_from, was_expanded, expanded_at, expanded_after, once, bytes_match_by, sound_value}
use Rattle.ix_walk.proofs.Links.{all-weaker, all-both}
use Rattle.ix_check.specs.Verdict.{has_codec, is_no_data, verdict_under, verdict_by, verdict_of, passes}
use Rattle.ix_verdict.specs.declared.verdict.Verdict.{Verdict}
use Rattle.ix_verdict.specs.declared.verdict.Verdict.TheVariants.{Codec, Hash, Damaged, Malformed, Sound}
use Rattle.ix_car.specs.declared.archive.Skip.{Skip}
use Rattle.ix_car.specs.declared.sink.Delivery.{Delivery}
use Rattle.ix_sections.specs.Writing.{header_of}
use Rattle.ix_car.specs.Archive.{first_sound, section_of}
use Rattle.ix_verdict.specs.Verdict.{is_sound}
use Rattle.ix_car.specs.Report.{skips_of}
use Rattle.ix_sections.specs.Sections.{SectionMeaning, with_sections}
use Rattle.ix_car.specs.Verified.{judged, verified, judged_visits}
use Rattle.ix_car.proofs.Numbers.{kept-verified}
use Rattle.ix_verify.specs.Roots.{holder_of}
use Rattle.ix_verify.specs.Found.{job_below, verified_job, roots_job, skip_of, is_absent, skips_below}
use Rattle.ix_verify.specs.Written.{section_where, sections_from, written_sections}

-- ---- the store of an archive's sections

-- the first of two that is there
abbrev pub first_of : Option (List ℕ) → Option (List ℕ) → Option (List ℕ)
first_of (Some x) o = Some x
first_of None o = o

-- nothing after an option leaves it
pub first_of-none : (o : Option (List ℕ)) → first_of o None ≡ o
first_of-none (Some x) = refl
first_of-none None = refl

-- the first of three does not depend on the grouping
pub first_of-twice : (a b c : Option (List ℕ)) → first_of (first_of a b) c ≡ first_of a (first_of b c)
first_of-twice (Some x) b c = refl
first_of-twice None b c = refl

-- a block, where the test holds
abbrev pub block_if : Bool → List ℕ → Option (List ℕ)
block_if same block = if same then Some block else None

-- a CID is looked up in the first store, and then in the second
block-append : (xs ys : Blocks) (c : List ℕ) → block_of (xs ++ ys) c ≡ first_of (block_of xs c) (block_of ys c)
block-append [] ys c = refl
block-append (e ∷ xs) ys c = on_first (bytes_eq e.0 c) (block-append xs ys c) where
  on_first : (same : Bool) → block_of (xs ++ ys) c ≡ first_of (block_of xs c) (block_of ys c)
      → (if same then Some e.1 else block_of (xs ++ ys) c) ≡ first_of (if same then Some e.1 else block_of xs c) (block_of ys c)
  on_first true more = refl
  on_first false more = more

-- a store that has a CID has a block under it
block-there : (store : Blocks) (c : List ℕ) → has_cid store c ≡ true → (block : List ℕ) × (block_of store c ≡ Some block)
block-there [] c h = absurd cc
block-there (e ∷ store) c h = on_first (bytes_eq e.0 c) h (block-there store c) where
  on_first : (same : Bool) → (same || has_cid store c) ≡ true → (has_cid store c ≡ true → (block : List ℕ) × (block_of store c ≡ Some block))
      → (block : List ℕ) × ((if same then Some e.1 else block_of store c) ≡ Some block)
  on_first true h more = (e.1, refl)
  on_first false h more = more h

-- of blocks with one CID the first counts
pub block-with : (store : Blocks) (p : List ℕ × List ℕ) (c : List ℕ) → block_of (with_block store p) c ≡ first_of (block_of store c) (block_if (bytes_eq p.0 c) p.1)
block-with store p c = on_there (has_cid store p.0) refl where
  same_there : (same : Bool) → bytes_eq p.0 c ≡ same → has_cid store p.0 ≡ true → block_of store c ≡ first_of (block_of store c) (block_if same p.1)
  same_there true is there =
      let block = block-there store c (ap (has_cid store) (sym ((bytes_eq-Decides p.0 c).0 is)) ∙ there) in
      block.1 ∙ sym (ap (λ (o : Option (List ℕ)). first_of o (Some p.1)) block.1)
  same_there false is there = sym (first_of-none (block_of store c))

  on_there : (there : Bool) → has_cid store p.0 ≡ there → block_of (if there then store else store ++ p ∷ []) c ≡ first_of (block_of store c) (block_if (bytes_eq p.0 c) p.1)
  on_there true is = same_there (bytes_eq p.0 c) refl is
  on_there false is = block-append store (p ∷ []) c

-- the block of the first section with a CID
abbrev block_in : List SectionMeaning → List ℕ → Option (List ℕ)
block_in [] c = None
block_in (s ∷ ss) c = first_of (block_if (bytes_eq s.cid c) s.block) (block_in ss c)

block-sections : (store : Blocks) (ss : List SectionMeaning) (c : List ℕ) → block_of (with_sections store ss) c ≡ first_of (block_of store c) (block_in ss c)
block-sections store [] c = sym (first_of-none (block_of store c))
block-sections store (s ∷ ss) c =
    block-sections (with_block store (s.cid, s.block)) ss c
    ∙ ap (λ (o : Option (List ℕ)). first_of o (block_in ss c)) (block-with store (s.cid, s.block) c)
    ∙ first_of-twice (block_of store c) (block_if (bytes_eq s.cid c) s.block) (block_in ss c)

-- a CID is one of these deliveries'
abbrev is_among : List Delivery → List ℕ → Bool
is_among ds c = list_any (λ d. bytes_eq d.visit.cid c) ds

block-written : (store : Blocks) (c block : List ℕ) → block_of store c ≡ Some block → (ds : List Delivery) (place : ℕ) → is_among ds c ≡ true → block_in (sections_from store place ds) c ≡ Some block
block-written store c block there [] place among = absurd cc
block-written store c block there (d ∷ ds) place among =
    on_same (bytes_eq d.visit.cid c) refl among (block-written store c block there ds (place + length (section_of store d))) where
      another : (o : Option (List ℕ)) → bytes_eq d.visit.cid c ≡ false → block_in (section_where place d.visit.cid o ++ sections_from store (place + length (section_of store d)) ds) c ≡ block_in (sections_from store (place + length (section_of store d)) ds) c
      another None is = refl
      another (Some b) is = ap (λ (t : Bool). first_of (block_if t b) (block_in (sections_from store (place + length (section_of store d)) ds) c)) is

      on_same : (same : Bool) → bytes_eq d.visit.cid c ≡ same → (same || is_among ds c) ≡ true
          → (is_among ds c ≡ true → block_in (sections_from store (place + length (section_of store d)) ds) c ≡ Some block)
          → block_in (section_where place d.visit.cid (block_of store d.visit.cid) ++ sections_from store (place + length (section_of store d)) ds) c ≡ Some block
      on_same true is h more =
          let here : block_of store d.visit.cid ≡ Some block = ap (block_of store) ((bytes_eq-Decides d.visit.cid c).0 is) ∙ there in
          ap (λ (o : Option (List ℕ)). block_in (section_where place d.visit.cid o ++ sections_from store (place + length (section_of store d)) ds) c) here
          ∙ ap (λ (t : Bool). first_of (block_if t block) (block_in (sections_from store (place + length (section_of store d)) ds) c)) is
      on_same false is h more = another (block_of store d.visit.cid) is ∙ more h

others-among : (c k : List ℕ) → bytes_eq k c ≡ false → (ds : List Delivery) → is_among ds c ≡ true → is_among (filter (λ e. not (bytes_eq e.visit.cid k)) ds) c ≡ true
others-among c k apart [] h = absurd cc
others-among c k apart (e ∷ ds) h = on_tests (bytes_eq e.visit.cid k) (bytes_eq e.visit.cid c) refl refl h (others-among c k apart ds) where
  on_tests : (same here : Bool) → bytes_eq e.visit.cid k ≡ same → bytes_eq e.visit.cid c ≡ here → (here || is_among ds c) ≡ true
      → (is_among ds c ≡ true → is_among (filter (λ d. not (bytes_eq d.visit.cid k)) ds) c ≡ true)
      → is_among (if not same then e ∷ filter (λ d. not (bytes_eq d.visit.cid k)) ds else filter (λ d. not (bytes_eq d.visit.cid k)) ds) c ≡ true
  on_tests true true is at h more =
      let both : bytes_eq k c ≡ true = (bytes_eq-Decides k c).1 (sym ((bytes_eq-Decides e.visit.cid k).0 is) ∙ (bytes_eq-Decides e.visit.cid c).0 at) in absurd cc
  on_tests true false is at h more = more h
  on_tests false true is at h more = ap (λ (b : Bool). b || is_among (filter (λ d. not (bytes_eq d.visit.cid k)) ds) c) at
  on_tests false false is at h more = ap (λ (b : Bool). b || is_among (filter (λ d. not (bytes_eq d.visit.cid k)) ds) c) at ∙ more h

-- a sound delivery with this CID
abbrev is_sound_of : List ℕ → Delivery → Bool
is_sound_of c d = is_sound d.verdict && bytes_eq d.visit.cid c

sound-among : (ds : List Delivery) (c : List ℕ) → list_any (is_sound_of c) ds ≡ true → is_among (first_sound ds) c ≡ true
sound-among [] c h = absurd cc
sound-among (d ∷ ds) c h = on_sound (is_sound d.verdict) (bytes_eq d.visit.cid c) refl h (sound-among ds c) where
  on_sound : (sound same : Bool) → bytes_eq d.visit.cid c ≡ same → ((sound && same) || list_any (is_sound_of c) ds) ≡ true → (list_any (is_sound_of c) ds ≡ true → is_among (first_sound ds) c ≡ true)
      → is_among (if sound then d ∷ filter (λ e. not (bytes_eq e.visit.cid d.visit.cid)) (first_sound ds) else first_sound ds) c ≡ true
  on_sound true true is h more = ap (λ (b : Bool). b || is_among (filter (λ e. not (bytes_eq e.visit.cid d.visit.cid)) (first_sound ds)) c) is
  on_sound true false is h more = ap (λ (b : Bool). b || is_among (filter (λ e. not (bytes_eq e.visit.cid d.visit.cid)) (first_sound ds)) c) is ∙ others-among c d.visit.cid is (first_sound ds) (more h)
  on_sound false same is h more = more h

-- the walk visits a CID
abbrev is_met : List Arrival → List ℕ → Bool
is_met arrivals c = list_any (λ a. bytes_eq a.cid c) arrivals

met-sound : (store : Blocks) (number n : ℕ) (xs : List Arrival) (c : List ℕ) → is_sound (verdict_of store c) ≡ true → is_met xs c ≡ true → list_any (is_sound_of c) (map (judged store) (visits_from store number n xs)) ≡ true
met-sound store number n [] c sound h = absurd cc
met-sound store number n (x ∷ xs) c sound h = on_same (bytes_eq x.cid c) refl h (met-sound store number (n + 1) xs c sound) where
  on_same : (same : Bool) → bytes_eq x.cid c ≡ same → (same || is_met xs c) ≡ true
      → (is_met xs c ≡ true → list_any (is_sound_of c) (map (judged store) (visits_from store number (n + 1) xs)) ≡ true)
      → ((is_sound (verdict_of store x.cid) && bytes_eq x.cid c) || list_any (is_sound_of c) (map (judged store) (visits_from store number (n + 1) xs))) ≡ true
  on_same true is h more =
      let here : is_sound (verdict_of store x.cid) ≡ true = ap (λ (k : List ℕ). is_sound (verdict_of store k)) ((bytes_eq-Decides x.cid c).0 is) ∙ sound in
      ap (λ (b : Bool). (b && bytes_eq x.cid c) || list_any (is_sound_of c) (map (judged store) (visits_from store number (n + 1) xs))) here
      ∙ ap (λ (b : Bool). b || list_any (is_sound_of c) (map (judged store) (visits_from store number (n + 1) xs))) is
  on_same false is h more = or_right (is_sound (verdict_of store x.cid) && bytes_eq x.cid c) (list_any (is_sound_of c) (map (judged store) (visits_from store number (n + 1) xs))) (more h)

each-met : (xs : List Arrival) → AllByRecursion (λ a. is_met xs a.cid ≡ true) xs
each-met [] = tt
each-met (x ∷ xs) = (
  ap (λ (b : Bool). b || is_met xs x.cid) ((bytes_eq-Decides x.cid x.cid).1 refl),
  all-weaker (λ a. is_met xs a.cid ≡ true) (λ a. is_met (x ∷ xs) a.cid ≡ true) (λ a h. or_right (bytes_eq x.cid a.cid) (is_met xs a.cid) h) xs (each-met xs),
)

-- ---- what passes in a store, in one with the same sound blocks

abbrev verdict_by_codec : Option HashFunction → List ℕ → Option (List ℕ) → Verdict
verdict_by_codec f c o = if has_codec c then verdict_by f c o else Codec

abbrev value_by : Option HashFunction → List ℕ → Option (List ℕ) → Option Data
value_by f c o = if bytes_match_by f (digest_of c) o then (if is_dag_cbor c then option_and_then data_at (bytes_by f (digest_of c) o) else None) else None

-- verdict and value are the same
abbrev IsSame : Option HashFunction → List ℕ → Option (List ℕ) → Option (List ℕ) → Type 0
IsSame f c o p = (verdict_by_codec f c p ≡ verdict_by_codec f c o) × (value_by f c p ≡ value_by f c o)

-- a verdict that passes is sound, if a block may only be malformed
sound-if : (bad : Bool) → passes (if bad then Malformed else Sound) ≡ true → is_sound (if bad then Malformed else Sound) ≡ true
sound-if true h = absurd cc
sound-if false h = refl

-- the same if its hash may differ too
sound-on : (hash_matches bad : Bool) → passes (if hash_matches then (if bad then Malformed else Sound) else Damaged) ≡ true → is_sound (if hash_matches then (if bad then Malformed else Sound) else Damaged) ≡ true
sound-on true bad h = sound-if bad h
sound-on false bad h = absurd cc

-- the same by the CID's codec
sound-under : (hash : List ℕ → List ℕ) (c : List ℕ) (codec : Bool) (o : Option (List ℕ)) → passes (if codec then verdict_under hash c o else Codec) ≡ true
    → (block : List ℕ) × (o ≡ Some block) × (is_sound (if codec then verdict_under hash c o else Codec) ≡ true)
sound-under hash c false o h = absurd cc
sound-under hash c true None h = absurd cc
sound-under hash c true (Some block) h = (block, refl, sound-on (bytes_eq (hash block) (digest_of c)) (is_no_data c block) h)

-- without a hash function no verdict passes
no-function : (codec : Bool) → passes (if codec then Hash else Codec) ≡ true → ⊥
no-function true h = cc
no-function false h = cc

same-by : (f : Option HashFunction) (c : List ℕ) (o p : Option (List ℕ)) → passes (verdict_by_codec f c o) ≡ true
    → ((block : List ℕ) → o ≡ Some block → is_sound (verdict_by_codec f c o) ≡ true → p ≡ Some block) → IsSame f c o p
same-by None c o p h there = absurd (no-function (has_codec c) h)
same-by (Some Identity) c o p h there = (refl, refl)
same-by (Some Sha2_256) c o p h there =
    let sound = sound-under sha256 c (has_codec c) o h in
    let same : p ≡ o = there sound.0 sound.1 sound.2 ∙ sym sound.1 in
    (ap (verdict_by_codec (Some Sha2_256) c) same, ap (value_by (Some Sha2_256) c) same)
same-by (Some Sha2_512) c o p h there =
    let sound = sound-under sha512 c (has_codec c) o h in
    let same : p ≡ o = there sound.0 sound.1 sound.2 ∙ sym sound.1 in
    (ap (verdict_by_codec (Some Sha2_512) c) same, ap (value_by (Some Sha2_512) c) same)

-- ---- going in once

module _ {R : Type 0} (enters : Path → Bool) (rest : Path → R) (same : R → R → Bool) where
  -- if the same is expanded at each visit, the visits are the same
  once-inside : (inside other : Inside) (n : ℕ) (expanded : List (List ℕ × R)) (waiting : List Arrival)
      → AllByRecursion (λ a. other a.cid ≡ inside a.cid) (once enters rest same inside n expanded waiting) → once enters rest same other n expanded waiting ≡ once enters rest same inside n expanded waiting
  once-inside inside other zero expanded waiting h = refl
  once-inside inside other (suc n) expanded [] h = refl
  once-inside inside other (suc n) expanded (a ∷ more) h =
      let here : Option Data → Option Data = λ o. if was_expanded enters rest same inside expanded a then None else o in
      let behind : Option Data → List Arrival = λ o. a ∷ once enters rest same other n (expanded_after enters rest same inside (here o) a expanded) (when_some (here o) (λ d. links_below enters d a) ++ more) in
      ap behind h.0
      ∙ ap (λ (l : List Arrival). a ∷ l) (once-inside inside other n (expanded_after enters rest same inside (here (inside a.cid)) a expanded) (when_some (here (inside a.cid)) (λ d. links_below enters d a) ++ more) h.1)

  -- if all were visited, a greater bound adds nothing
  once-enough : (inside : Inside) (n m : ℕ) (expanded : List (List ℕ × R)) (waiting : List Arrival) → n ≤ m → length (once enters rest same inside n expanded waiting) < n
      → once enters rest same inside m expanded waiting ≡ once enters rest same inside n expanded waiting
  once-enough inside zero m expanded waiting le short = absurd (omega (arith, short))
  once-enough inside (suc n) zero expanded waiting le short = absurd (omega (arith, le))
  once-enough inside (suc n) (suc m) expanded [] le short = refl
  once-enough inside (suc n) (suc m) expanded (a ∷ more) le short =
      let o = expanded_at enters rest same inside expanded a in
      ap (λ (l : List Arrival). a ∷ l)
      (once-enough inside n m (expanded_after enters rest same inside o a expanded) (when_some o (λ d. links_below enters d a) ++ more) (omega (arith, le)) (omega (arith, short)))

-- ---- skips

abbrev skips_among : Blocks → ℕ → ℕ → List Arrival → List Skip
skips_among store number n xs = map skip_of (filter (λ d. not (passes d.verdict)) (map (judged store) (visits_from store number n xs)))

all-pass : (store : Blocks) (number n : ℕ) (xs : List Arrival) → skips_among store number n xs ≡ [] → AllByRecursion (λ a. passes (verdict_of store a.cid) ≡ true) xs
all-pass store number n [] h = tt
all-pass store number n (x ∷ xs) h = on_pass (passes (verdict_of store x.cid)) refl h (all-pass store number (n + 1) xs) where
  on_pass : (pass : Bool) → passes (verdict_of store x.cid) ≡ pass
      → map skip_of (if not pass then judged store (visit_of store number n x) ∷ filter (λ d. not (passes d.verdict)) (map (judged store) (visits_from store number (n + 1) xs)) else filter (λ d. not (passes d.verdict)) (map (judged store) (visits_from store number (n + 1) xs))) ≡ []
      → (skips_among store number (n + 1) xs ≡ [] → AllByRecursion (λ a. passes (verdict_of store a.cid) ≡ true) xs)
      → (passes (verdict_of store x.cid) ≡ true) × AllByRecursion (λ a. passes (verdict_of store a.cid) ≡ true) xs
  on_pass true is h more = (is, more h)
  on_pass false is h more = absurd cc

-- what is reported of visits, except for what may be lacking
abbrev told_among : (List ℕ → Bool) → Blocks → ℕ → ℕ → List Arrival → List Skip
told_among lack store number n xs = map skip_of (filter (λ d. not (passes d.verdict || is_absent lack d)) (map (judged store) (visits_from store number n xs)))

none-skipped : (lack : List ℕ → Bool) (store : Blocks) (number n : ℕ) (xs : List Arrival) → AllByRecursion (λ a. passes (verdict_of store a.cid) ≡ true) xs → told_among lack store number n xs ≡ []
none-skipped lack store number n [] h = refl
none-skipped lack store number n (x ∷ xs) h =
    let here = judged store (visit_of store number n x) in
    let others = filter (λ d. not (passes d.verdict || is_absent lack d)) (map (judged store) (visits_from store number (n + 1) xs)) in
    ap (λ (b : Bool). map skip_of (if not (b || is_absent lack here) then here ∷ others else others)) h.0 ∙ none-skipped lack store number (n + 1) xs h.1

-- ---- the archive of what a selector enters below roots

-- no more roots than a job may have are taken as they are
pub as-they-are : (roots : List (List ℕ)) → length roots ≤ 64 → roots_job roots ≡ verified_job everything roots
as-they-are roots short = ap (λ (t : Bool). verified_job everything (if t then roots else holder_of roots ∷ [])) (le-leb (length roots) 64 short)

module _ (store : Blocks) (number : ℕ) (selector : Pattern) (name : List ℕ) (limit : ℕ) (roots : List (List ℕ)) (few : limit ≤ 4294967295)
    (within : is_over_limit store (job_below selector name limit roots) ≡ false) (none : skips_of (judged_visits store number (job_below selector name limit roots)) ≡ []) where
  abbrev told : List Delivery
  told = verified store number (job_below selector name limit roots)

  abbrev met : List Arrival
  met = arrivals_of store (job_below selector name limit roots)

  -- the store of the archive's sections
  abbrev kept_store : Blocks
  kept_store = with_sections [] (written_sections store roots told)

  pass-each : AllByRecursion (λ a. passes (verdict_of store a.cid) ≡ true) met
  pass-each = all-pass store number 0 met (ap (λ (ds : List Delivery). map skip_of (filter (λ d. not (passes d.verdict)) ds)) (sym (kept-verified store number (job_below selector name limit roots) within)) ∙ none)

  same-at : (c : List ℕ) → passes (verdict_of store c) ≡ true → is_met met c ≡ true → (verdict_of kept_store c ≡ verdict_of store c) × (sound_value kept_store c ≡ sound_value store c)
  same-at c pass h =
      same-by (hash_function_of (parts_of c)) c (block_of store c) (block_of kept_store c) pass
      (λ block there sound. block-sections [] (written_sections store roots told) c
      ∙ block-written store c block there (first_sound told) (length (header_of roots)) (sound-among told c (met-sound store number 0 met c sound h)))

  each-same : AllByRecursion (λ a. (verdict_of kept_store a.cid ≡ verdict_of store a.cid) × (sound_value kept_store a.cid ≡ sound_value store a.cid)) met
  each-same =
      all-weaker (λ a. (passes (verdict_of store a.cid) ≡ true) × (is_met met a.cid ≡ true)) (λ a. (verdict_of kept_store a.cid ≡ verdict_of store a.cid) × (sound_value kept_store a.cid ≡ sound_value store a.cid))
      (λ a h. same-at a.cid h.0 h.1) met (all-both (λ a. passes (verdict_of store a.cid) ≡ true) (λ a. is_met met a.cid ≡ true) met pass-each (each-met met))

  met-few : length met ≤ limit
  met-few = ltb-false limit (length met) within

  -- the job that verifies
  abbrev again : JobMeaning
  again = verified_job selector roots

  met-again : arrivals_of kept_store again ≡ met
  met-again =
      let enters = is_entered selector in
      let rest = residual_at selector in
      let starts = roots_from 0 roots in
      let same : once enters rest same_residual (sound_value kept_store) (suc limit) [] starts ≡ met =
      once-inside enters rest same_residual (sound_value store) (sound_value kept_store) (suc limit) [] starts
      (all-weaker (λ a. (verdict_of kept_store a.cid ≡ verdict_of store a.cid) × (sound_value kept_store a.cid ≡ sound_value store a.cid)) (λ a. sound_value kept_store a.cid ≡ sound_value store a.cid) (λ a h. h.1) met each-same) in
      once-enough enters rest same_residual (sound_value kept_store) (suc limit) (suc 4294967295) [] starts (omega (arith, few)) (omega (arith, met-few, ap length same)) ∙ same

  pub finished : is_over_limit kept_store (verified_job selector roots) ≡ false
  finished =
      subst (λ (xs : List Arrival). ltb 4294967295 (length xs) ≡ false) (sym met-again) (le-ltb 4294967295 (length met) (le_trans met-few few))

  pub nothing-skipped : (lack : List ℕ → Bool) → skips_below lack kept_store (verified_job selector roots) ≡ []
  nothing-skipped lack =
      ap (λ (xs : List Arrival). told_among lack kept_store 0 0 (take 4294967295 xs)) met-again
      ∙ ap (λ (xs : List Arrival). told_among lack kept_store 0 0 xs) (take_all 4294967295 met (le_trans met-few few))
      ∙ none-skipped lack kept_store 0 0 met
      (all-weaker (λ a. ((verdict_of kept_store a.cid ≡ verdict_of store a.cid) × (sound_value kept_store a.cid ≡ sound_value store a.cid)) × (passes (verdict_of store a.cid) ≡ true)) (λ a. passes (verdict_of kept_store a.cid) ≡ true)
      (λ a h. ap passes h.0.0 ∙ h.1) met (all-both (λ a. (verdict_of kept_store a.cid ≡ verdict_of store a.cid) × (sound_value kept_store a.cid ≡ sound_value store a.cid)) (λ a. passes (verdict_of store a.cid) ≡ true) met each-same pass-each))
