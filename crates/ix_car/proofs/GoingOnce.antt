-- The archive of a traversal with link-visit-once.
use Rattle.std.proofs.Common.{◌≡◌, ℕ, suc, ◌+◌, ◌≤◌, Bool, true, false, not, ◌&&◌, List, [], ◌∷◌, ◌++◌, length, take, drop, map, filter, flat_map, refl, sym, ap, ◌∙◌, subst, arith, ltb-false, take-append-drop, append_assoc}
use Rattle.std.specs.Prelude.{◌↔◌, Option, Some, None, is_some, if◌then◌else◌, bytes_eq}
use Rattle.std.specs.List.{AllByRecursion, Contains}
use Rattle.std.proofs.lemmas.Bool.{le-ltb}
use Rattle.std.proofs.lemmas.List.{take_all}
use Rattle.std.proofs.lemmas.List.Folds.{flat_map-map}
use Rattle.std.proofs.lemmas.Slice.Eq.{bytes_eq-Decides}
use Rattle.ix_cid.specs.Cid.{parts_of, digest_of, hash_function_of}
use Rattle.ix_cid.specs.declared.hash_function.HashFunction.{HashFunction}
use Rattle.ix_cid.specs.declared.hash_function.HashFunction.TheVariants.{Identity, Sha2_256, Sha2_512}
use Rattle.ix_selector.specs.Enters.{Path}
use Rattle.ix_selector.specs.IsEntered.{is_entered}
use Rattle.ix_walk.specs.JobMeaning.{JobMeaning, going_in}
use Rattle.ix_store.specs.Store.{Blocks, block_of, value_of}
use Rattle.ix_walk.specs.Arrivals.{Arrival, arrivals_from}
use Rattle.ix_walk.specs.Visits.{believed, is_over_limit, visit_of, visits_from}
use Rattle.ix_walk.specs.Once.{roots_from, TellsRests, EndsBefore, cids_of, first_ones, sound_value, once_from, once_arrivals, is_over_limit_once}
use Rattle.ix_walk.proofs.Firsts.{In, filter-both, filter-in, in-filter, first_ones-in, in-first_ones}
use Rattle.ix_walk.proofs.Links.{cid_of, Ends, roots-by_depth, roots-by_length}
use Rattle.ix_walk.proofs.GoingOnce.{once-same, once-fewer_from, once-goes_on}
use Rattle.ix_walk.proofs.Reaches.{contains-in, in-contains, limit-cids, once-reaches}
use Rattle.ix_check.specs.Verdict.{is_no_data, verdict_by, has_codec, verdict_with, verdict_of}
use Rattle.ix_verdict.specs.declared.verdict.Verdict.TheVariants.{Codec, Malformed, Inline}
use Rattle.ix_car.specs.declared.sink.Delivery.{Delivery}
use Rattle.ix_car.specs.Kept.{is_below, cut_at, kept_after}
use Rattle.ix_car.specs.Verified.{is_good, verified_arrivals, number_among, judged, verified}
use Rattle.ix_sections.specs.Writing.{section_with, header_of}
use Rattle.ix_known.specs.Known.{knows}
use Rattle.ix_car.specs.Archive.{first_sound, sections_of, archive_with, archive_of}
use Rattle.ix_verdict.specs.Verdict.{is_sound}
use Rattle.ix_car.specs.Archived.{IsBeginning}
use Rattle.ix_car.proofs.Archives.{archive-beginning}
use Rattle.ix_car.proofs.Pruning.{pruning}
use Rattle.ix_car.proofs.SoundValues.{passing-sound}
use Rattle.ix_car.proofs.KeptOnce.{judged_once}

-- ---- an archive is of the CIDs of its deliveries

-- the CID of a delivery
abbrev pub cid_told : Delivery → List ℕ
cid_told d = d.visit.cid

-- each has the verdict that the store gives
abbrev pub AreJudged : Blocks → List Delivery → Type 0
AreJudged store = AllByRecursion (λ d. d.verdict ≡ verdict_of store d.visit.cid)

-- filtering by CID before or after mapping to CIDs
pub map-filter : (q : List ℕ → Bool) (ds : List Delivery) → map cid_told (filter (λ d. q d.visit.cid) ds) ≡ filter q (map cid_told ds)
map-filter q [] = refl
map-filter q (d ∷ ds) =
    elim (q d.visit.cid) as (λ b. map cid_told (if b then d ∷ filter (λ e. q e.visit.cid) ds else filter (λ e. q e.visit.cid) ds) ≡ (if b then d.visit.cid ∷ filter q (map cid_told ds) else filter q (map cid_told ds)))
    [ true ↦ ap (λ l. d.visit.cid ∷ l) (map-filter q ds) | false ↦ map-filter q ds ]

-- conjunction is symmetric
and-flips : (a b : Bool) → (a && b) ≡ (b && a)
and-flips true true = refl
and-flips true false = refl
and-flips false true = refl
and-flips false false = refl

-- so filters may change places
filters-flip : (p q : List ℕ → Bool) (cs : List (List ℕ)) → filter p (filter q cs) ≡ filter q (filter p cs)
filters-flip p q cs =
    filter-both p q (λ c. p c && q c) (λ c. and-flips (q c) (p c)) cs ∙ sym (filter-both q p (λ c. p c && q c) (λ c. refl) cs)

-- nothing that is sound is left out with one that isn't
other-sound : (same sound : Bool) → (same ≡ true → sound ≡ false) → (not same && sound) ≡ sound
other-sound true sound h = sym (h refl)
other-sound false sound h = refl

-- the sections' CIDs are the sound ones of the first occurrences
pub first_sound-cids : (store : Blocks) (ds : List Delivery) → AreJudged store ds → map cid_told (first_sound ds) ≡ filter (knows store) (first_ones (map cid_told ds))
first_sound-cids store [] h = refl
first_sound-cids store (d ∷ ds) h =
    let c : List ℕ = d.visit.cid in
    let behind : map cid_told (first_sound ds) ≡ filter (knows store) (first_ones (map cid_told ds)) = first_sound-cids store ds h.1 in
    ap (λ v. map cid_told (if is_sound v then d ∷ filter (λ e. not (bytes_eq e.visit.cid c)) (first_sound ds) else first_sound ds)) h.0
    ∙ (elim (knows store c) as (λ b. knows store c ≡ b → map cid_told (if b then d ∷ filter (λ e. not (bytes_eq e.visit.cid c)) (first_sound ds) else first_sound ds)
    ≡ (if b then c ∷ filter (knows store) (filter (λ e. not (bytes_eq e c)) (first_ones (map cid_told ds))) else filter (knows store) (filter (λ e. not (bytes_eq e c)) (first_ones (map cid_told ds))))) [
      | true ↦ λ _. ap (λ l. c ∷ l) (map-filter (λ e. not (bytes_eq e c)) (first_sound ds) ∙ ap (filter (λ e. not (bytes_eq e c))) behind ∙ filters-flip (λ e. not (bytes_eq e c)) (knows store) (first_ones (map cid_told ds)))
      | false ↦ λ isnt. behind ∙ sym (filter-both (knows store) (λ e. not (bytes_eq e c)) (knows store) (λ e. other-sound (bytes_eq e c) (knows store e) (λ is. ap (knows store) ((bytes_eq-Decides e c).0 is) ∙ isnt)) (first_ones (map cid_told ds)))
    ]) refl

-- the archive of CIDs, each where it comes first
abbrev pub archive_by : Blocks → List (List ℕ) → List (List ℕ) → List ℕ
archive_by store roots cs = header_of roots ++ flat_map (λ c. section_with c (block_of store c)) (filter (knows store) cs)

-- so an archive depends on the first occurrences alone
pub archive-cids : (store : Blocks) (roots : List (List ℕ)) (ds : List Delivery) → AreJudged store ds → archive_with store roots ds ≡ archive_by store roots (first_ones (map cid_told ds))
archive-cids store roots ds h =
    ap (λ l. header_of roots ++ l) (sym (flat_map-map (λ c. section_with c (block_of store c)) cid_told (first_sound ds)))
    ∙ ap (λ l. header_of roots ++ flat_map (λ c. section_with c (block_of store c)) l) (first_sound-cids store ds h)

-- what is sound has a block
unsound-without : (c : List ℕ) (known : Bool) (f : Option HashFunction) → is_sound (if known then verdict_by f c None else Codec) ≡ false
unsound-without c false f = refl
unsound-without c true None = refl
unsound-without c true (Some Identity) = elim (is_no_data c (digest_of c)) as (λ b. is_sound (if b then Malformed else Inline) ≡ false) [ true ↦ refl | false ↦ refl ]
unsound-without c true (Some Sha2_256) = refl
unsound-without c true (Some Sha2_512) = refl

-- a sound verdict means that there is a block
pub sound-block : (c : List ℕ) (block : Option (List ℕ)) → is_sound (verdict_with c block) ≡ true → is_some block ≡ true
sound-block c None sound = absurd (cc (sound, unsound-without c (has_codec c) (hash_function_of (parts_of c))))
sound-block c (Some b) sound = refl

-- ---- the deliveries of arrivals

-- visits have their CIDs
pub visits-cids : (store : Blocks) (number n : ℕ) (xs : List Arrival) → map cid_told (map (judged store) (visits_from store number n xs)) ≡ map cid_of xs
visits-cids store number n [] = refl
visits-cids store number n (x ∷ xs) = ap (λ l. x.cid ∷ l) (visits-cids store number (n + 1) xs)

-- and the store's verdicts
pub visits-judged : (store : Blocks) (number n : ℕ) (xs : List Arrival) → AreJudged store (map (judged store) (visits_from store number n xs))
visits-judged store number n [] = tt
visits-judged store number n (x ∷ xs) = (refl, visits-judged store number (n + 1) xs)

-- the same, however they are numbered
pub numbered-cids : (store : Blocks) (number : ℕ) (number_of : Arrival → ℕ) (xs : List Arrival) → map cid_told (map (λ a. judged store (visit_of store number (number_of a) a)) xs) ≡ map cid_of xs
numbered-cids store number number_of [] = refl
numbered-cids store number number_of (x ∷ xs) = ap (λ l. x.cid ∷ l) (numbered-cids store number number_of xs)

-- the same, however they are numbered
pub numbered-judged : (store : Blocks) (number : ℕ) (number_of : Arrival → ℕ) (xs : List Arrival) → AreJudged store (map (λ a. judged store (visit_of store number (number_of a) a)) xs)
numbered-judged store number number_of [] = tt
numbered-judged store number number_of (x ∷ xs) = (refl, numbered-judged store number number_of xs)

-- more visits only append deliveries
visits-append : (store : Blocks) (number n : ℕ) (xs ys : List Arrival) → (more : List Delivery) × (map (judged store) (visits_from store number n xs) ++ more ≡ map (judged store) (visits_from store number n (xs ++ ys)))
visits-append store number n [] ys = (map (judged store) (visits_from store number n ys), refl)
visits-append store number n (x ∷ xs) ys = let r = visits-append store number (n + 1) xs ys in (r.0, ap (λ l. judged store (visit_of store number n x) ∷ l) r.1)

-- the deliveries of the first of some arrivals begin those of all
visits-begin : (store : Blocks) (number m k : ℕ) (xs ys : List Arrival)
    → (more : List Delivery) × (take m (map (judged store) (visits_from store number 0 (take k xs))) ++ more ≡ map (judged store) (visits_from store number 0 (xs ++ ys)))
visits-begin store number m k xs ys =
    let few = map (judged store) (visits_from store number 0 (take k xs)) in
    let r = visits-append store number 0 (take k xs) (drop k xs ++ ys) in (
      drop m few ++ r.0,
      sym (append_assoc (take m few) (drop m few) r.0) ∙ ap (λ l. l ++ r.0) (take-append-drop m few) ∙ r.1
          ∙ ap (λ l. map (judged store) (visits_from store number 0 l)) (sym (append_assoc (take k xs) (drop k xs) ys) ∙ ap (λ l. l ++ ys) (take-append-drop k xs)),
    )

-- the archive of visits, and that of a job
pub archive-visits : (store : Blocks) (roots : List (List ℕ)) (number : ℕ) (xs : List Arrival) → archive_with store roots (map (judged store) (visits_from store number 0 xs)) ≡ archive_by store roots (first_ones (map cid_of xs))
archive-visits store roots number xs =
    archive-cids store roots (map (judged store) (visits_from store number 0 xs)) (visits-judged store number 0 xs) ∙ ap (λ l. archive_by store roots (first_ones l)) (visits-cids store number 0 xs)

-- so the archive of a job is that of the CIDs of its verified traversal
archive-verified : (store : Blocks) (number : ℕ) (job : JobMeaning) → archive_of store number (going_in false job) ≡ archive_by store job.roots (first_ones (map cid_of (verified_arrivals store job)))
archive-verified store number job =
    let number_of : Arrival → ℕ = number_among 0 (believed store job) in
    archive-cids store job.roots (verified store number (going_in false job)) (numbered-judged store number number_of (verified_arrivals store job)) ∙ ap (λ l. archive_by store job.roots (first_ones l)) (numbered-cids store number number_of (verified_arrivals store job))

-- ---- going in once

-- the verified traversal expands what is sound
pub verified-sound : (store : Blocks) (job : JobMeaning) → verified_arrivals store job ≡ arrivals_from (is_entered job.selector) (sound_value store) job.limit 0 job.roots
verified-sound store job = λ i. arrivals_from (is_entered job.selector) (λ c. passing-sound store c i) job.limit 0 job.roots

-- what is kept isn't more
kept-length : {X : Type 0} (depth : X → ℕ) (pass : X → Bool) (cut : Option ℕ) (xs : List X) → length (kept_after depth pass cut xs) ≤ length xs
kept-length depth pass cut [] = omega arith
kept-length depth pass cut (x ∷ xs) =
    elim (is_below cut (depth x)) as (λ b. length (if b then kept_after depth pass cut xs else x ∷ kept_after depth pass (cut_at depth pass x) xs) ≤ suc (length xs))
    [ true ↦ (let h = kept-length depth pass cut xs in omega (arith, h)) | false ↦ (let h = kept-length depth pass (cut_at depth pass x) xs in omega (arith, h)) ]

-- where a job is within its limit, so is its verified traversal
verified-within : (store : Blocks) (job : JobMeaning) → is_over_limit store (going_in false job) ≡ false → length (arrivals_from (is_entered job.selector) (sound_value store) job.limit 0 job.roots) ≤ job.limit
verified-within store job within =
    let all : length (believed store job) ≤ job.limit = ltb-false job.limit (length (believed store job)) within in
    let kept = kept-length (λ a. a.depth) (λ a. is_good store a.cid) None (believed store job) in
    let size : length (kept_after (λ a. a.depth) (λ a. is_good store a.cid) None (believed store job)) ≡ length (arrivals_from (is_entered job.selector) (sound_value store) job.limit 0 job.roots) =
    ap length (pruning (is_good store) (is_entered job.selector) (value_of store) job.limit 0 job.roots ∙ verified-sound store job) in
    omega (arith, all, kept, size)

module _ {R : Type 0} (rest : Path → R) (same : R → R → Bool) (store : Blocks) (number : ℕ) (job : JobMeaning) where
  -- if it is within its limit, all its visits are delivered
  pub told-all : length (once_arrivals store job rest same) ≤ job.limit → judged_once store number job rest same ≡ map (judged store) (visits_from store number 0 (once_arrivals store job rest same))
  told-all short = ap (λ l. map (judged store) (visits_from store number 0 l)) (take_all job.limit (once_arrivals store job rest same) short)

  -- the arrivals of the verified traversal, where at most n links are crossed
  abbrev sound_arrivals : ℕ → List Arrival
  sound_arrivals n = arrivals_from (is_entered job.selector) (sound_value store) n 0 job.roots

  -- within its limit the traversal has at most so many visits
  pub once-limited : is_over_limit_once store job rest same ≡ false → length (once_arrivals store job rest same) ≤ job.limit
  once-limited within = ltb-false job.limit (length (once_arrivals store job rest same)) within

  -- the first ones are the same, where the traversal ends
  archive-once : TellsRests (is_entered job.selector) rest same → (n : ℕ) → AllByRecursion (Ends (is_entered job.selector) (sound_value store) n) (roots_from 0 job.roots) → length (once_arrivals store job rest same) ≤ job.limit
      → archive_with store job.roots (judged_once store number job rest same) ≡ archive_of store number (going_in false job)
  archive-once tells n ends short =
      ap (archive_with store job.roots) (told-all short)
      ∙ archive-visits store job.roots number (once_arrivals store job rest same)
      ∙ ap (archive_by store job.roots)
      (once-same (is_entered job.selector) rest same (sound_value store) tells n job.limit job.roots ends short
      ∙ ap first_ones (sym (limit-cids (is_entered job.selector) rest same (sound_value store) tells job.limit job.roots short n ends) ∙ ap (map cid_of) (sym (verified-sound store job))))
      ∙ sym (archive-verified store number job)

  -- the law `OnceArchivesTheEnded`
  pub once-ended : TellsRests (is_entered job.selector) rest same → (n : ℕ) → EndsBefore (is_entered job.selector) (sound_value store) n job.roots → is_over_limit_once store job rest same ≡ false
      → archive_with store job.roots (judged_once store number job rest same) ≡ archive_of store number (going_in false job)
  once-ended tells n ends within = archive-once tells n (roots-by_depth (is_entered job.selector) (sound_value store) n job.roots ends) (once-limited within)

  -- whatever the limit, the first of its deliveries write a beginning of the archive of the traversal that ends
  pub once-begun : TellsRests (is_entered job.selector) rest same → (n : ℕ) → EndsBefore (is_entered job.selector) (sound_value store) n job.roots
      → (m : ℕ) → IsBeginning (archive_with store job.roots (take m (judged_once store number job rest same))) (archive_with store job.roots (map (judged store) (visits_from store number 0 (sound_arrivals n))))
  once-begun tells n ends m =
      let many = job.limit + length (sound_arrivals n) in
      let fit = roots-by_depth (is_entered job.selector) (sound_value store) n job.roots ends in
      let fewer = once-fewer_from (is_entered job.selector) rest same (sound_value store) n (suc many) job.roots fit in
      let all = once_from (is_entered job.selector) rest same (sound_value store) (suc many) job.roots in
      let on = once-goes_on (is_entered job.selector) rest same (sound_value store) (suc job.limit) (suc many) (omega arith) [] (roots_from 0 job.roots) in
      let first = visits-begin store number m job.limit (once_arrivals store job rest same) on.0 in
      let whole : archive_with store job.roots (map (judged store) (visits_from store number 0 all)) ≡ archive_with store job.roots (map (judged store) (visits_from store number 0 (sound_arrivals n))) =
      archive-visits store job.roots number all
      ∙ ap (archive_by store job.roots) (once-same (is_entered job.selector) rest same (sound_value store) tells n many job.roots fit (omega (arith, fewer)))
      ∙ sym (archive-visits store job.roots number (sound_arrivals n)) in
      subst (IsBeginning (archive_with store job.roots (take m (judged_once store number job rest same)))) whole
      (archive-beginning None store job.roots (take m (judged_once store number job rest same)) first.0 (map (judged store) (visits_from store number 0 all)) (first.1 ∙ ap (λ l. map (judged store) (visits_from store number 0 l)) on.1))

  -- a job within its limit at every link is within it with link-visit-once
  once-short : is_over_limit store (going_in false job) ≡ false → length (once_arrivals store job rest same) ≤ job.limit
  once-short within =
      let all = verified-within store job within in
      let fewer = once-fewer_from (is_entered job.selector) rest same (sound_value store) job.limit (suc job.limit) job.roots (roots-by_length (is_entered job.selector) (sound_value store) job.limit job.roots all) in
      omega (arith, all, fewer)

  -- a job within its limit at every arrival is within it once
  pub once-within : is_over_limit store (going_in false job) ≡ false → is_over_limit_once store job rest same ≡ false
  once-within within = le-ltb job.limit (length (once_arrivals store job rest same)) (once-short within)

  -- and has the same archive: the law `OnceArchivesTheSame`
  pub once-whole : TellsRests (is_entered job.selector) rest same → is_over_limit store (going_in false job) ≡ false → archive_with store job.roots (judged_once store number job rest same) ≡ archive_of store number (going_in false job)
  once-whole tells within =
      archive-once tells job.limit (roots-by_length (is_entered job.selector) (sound_value store) job.limit job.roots (verified-within store job within)) (once-short within)

  -- ---- the sections, also where CIDs lead back to themselves

  -- the CIDs of the visits with link-visit-once
  abbrev once_cids : List (List ℕ)
  once_cids = cids_of (once_arrivals store job rest same)

  -- the CIDs of the sections
  abbrev sections : List (List ℕ)
  sections = map cid_told (sections_of store (judged_once store number job rest same))

  -- whether the store has a block under a CID
  abbrev has_block : List ℕ → Bool
  has_block c = is_some (block_of store c)

  -- the sections' CIDs are the sound ones with a block among the first occurrences
  section-cids : length (once_arrivals store job rest same) ≤ job.limit → sections ≡ filter has_block (filter (knows store) (first_ones once_cids))
  section-cids short =
      ap (λ l. map cid_told (sections_of store l)) (told-all short)
      ∙ map-filter has_block (first_sound (map (judged store) (visits_from store number 0 (once_arrivals store job rest same))))
      ∙ ap (filter has_block) (first_sound-cids store (map (judged store) (visits_from store number 0 (once_arrivals store job rest same))) (visits-judged store number 0 (once_arrivals store job rest same))
      ∙ ap (λ l. filter (knows store) (first_ones l)) (visits-cids store number 0 (once_arrivals store job rest same)))

  -- a section's CID is sound and visited
  section-in : length (once_arrivals store job rest same) ≤ job.limit → (c : List ℕ) → In c sections → (is_sound (verdict_of store c) ≡ true) × In c once_cids
  section-in short c i =
      let with_block = in-filter has_block c (filter (knows store) (first_ones once_cids)) (subst (In c) (section-cids short) i) in
      let sound = in-filter (knows store) c (first_ones once_cids) with_block.0 in
      (sound.1, first_ones-in c once_cids sound.0)

  -- a sound CID that is visited has a section
  in-section : length (once_arrivals store job rest same) ≤ job.limit → (c : List ℕ) → is_sound (verdict_of store c) ≡ true → In c once_cids → In c sections
  in-section short c sound i =
      subst (In c) (sym (section-cids short))
      (filter-in has_block c (filter (knows store) (first_ones once_cids)) (filter-in (knows store) c (first_ones once_cids) (in-first_ones c once_cids i) sound) (sound-block c (block_of store c) sound))

  -- the law `OnceArchivesTheReached`
  pub once-sections : TellsRests (is_entered job.selector) rest same → is_over_limit_once store job rest same ≡ false
      → (c : List ℕ) → Contains sections c ↔ ((is_sound (verdict_of store c) ≡ true) × ((n : ℕ) × Contains (cids_of (sound_arrivals n)) c))
  once-sections tells within c =
      let short = once-limited within in
      let reaches = once-reaches (is_entered job.selector) rest same (sound_value store) tells job.limit job.roots short c in (
        λ h. (let s = section-in short c (in-contains c sections h) in (s.0, reaches.0 (contains-in c once_cids s.1))),
        λ h. contains-in c sections (in-section short c h.0 (in-contains c once_cids (reaches.1 h.1))),
      )
