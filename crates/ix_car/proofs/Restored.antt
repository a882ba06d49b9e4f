-- What a base and a difference restore.
use Rattle.std.proofs.Common.{◌≡◌, ◌⊎◌, inl, inr, ℕ, suc, ◌+◌, Bool, true, false, not, List, [], ◌∷◌, ◌++◌, length, map, filter, flat_map, refl, sym, ap, ◌∙◌, subst}
use Rattle.std.specs.Prelude.{Option, Some, None, is_some, nat_lt, if◌then◌else◌, bytes_eq}
use Rattle.std.specs.List.{AllByRecursion}
use Rattle.std.proofs.lemmas.List.Elements.{All-head, All-tail}
use Rattle.std.proofs.lemmas.Slice.Eq.{bytes_eq-Decides}
use Rattle.sha2.specs.Sha256.{sha256}
use Rattle.sha2.specs.Sha512.{sha512}
use Rattle.ix_cid.specs.Cid.{parts_of, digest_of, hash_function_of}
use Rattle.ix_cid.specs.declared.hash_function.HashFunction.{HashFunction}
use Rattle.ix_cid.specs.declared.hash_function.HashFunction.TheVariants.{Identity, Sha2_256, Sha2_512}
use Rattle.ix_cbor.specs.Data.{Data}
use Rattle.ix_selector.specs.IsEntered.{is_entered}
use Rattle.ix_selector.specs.Behind.{residual_at, same_residual}
use Rattle.ix_store.specs.Store.{Blocks, block_of, value_of}
use Rattle.ix_store.specs.Sound.{AreSoundCopies, first_copies}
use Rattle.ix_walk.specs.JobMeaning.{JobMeaning}
use Rattle.ix_walk.specs.Arrivals.{Arrival}
use Rattle.ix_walk.specs.Visits.{believed, arrivals_of, visits_from, is_over_limit}
use Rattle.ix_walk.specs.Once.{roots_from, first_ones, bytes_match_by, sound_value, once_arrivals}
use Rattle.ix_walk.proofs.Firsts.{In, filter-in, in-filter, first_ones-in, in-first_ones}
use Rattle.ix_walk.proofs.Links.{all-weaker, all-both, cid_of}
use Rattle.ix_verdict.specs.declared.verdict.Verdict.{Verdict}
use Rattle.ix_verdict.specs.declared.verdict.Verdict.TheVariants.{Codec, Hash, Missing, Damaged, Malformed, Sound, Inline}
use Rattle.ix_check.specs.Verdict.{is_no_data, verdict_by, verdict_under, has_codec, verdict_with, verdict_of, passes}
use Rattle.ix_sections.specs.Writing.{section_with, header_of}
use Rattle.ix_car.specs.declared.sink.Delivery.{Delivery}
use Rattle.ix_car.specs.Kept.{kept_after, kept_of, kept}
use Rattle.ix_car.specs.Verified.{is_good, judged, judged_visits, all_judged, verified}
use Rattle.ix_car.specs.Archive.{Known, first_sound, new_section, sections_of, new_sections, archive_with, difference_of, known_by}
use Rattle.ix_verdict.specs.Verdict.{is_sound}
use Rattle.ix_known.specs.Known.{knows}
use Rattle.ix_known.proofs.Lists.{blocks-first}
use Rattle.ix_car.specs.Report.{skips_of}
use Rattle.ix_car.specs.Restoring.{pair_with, difference_pairs, AgreesWith, IsWithoutSkips, IsRestoredBy}
use Rattle.ix_car.proofs.SoundValues.{value_by}
use Rattle.ix_car.proofs.VerifiedCids.{visited, verified-cids, verified-judged}
use Rattle.ix_car.proofs.Numbers.{judged_visits-all, arrivals-by, kept-all}
use Rattle.ix_car.proofs.GoingOnce.{cid_told, map-filter, first_sound-cids, archive_by, sound-block, visits-cids, archive-visits}
use Rattle.ix_car.proofs.Visited.{IsSameInside, from-same, once-same}

-- ---- the pairs of a difference

-- the pairs of deliveries
abbrev pub pairs_of : Blocks → List Delivery → Blocks
pairs_of store ds = flat_map (λ d. pair_with d.visit.cid (block_of store d.visit.cid)) ds

-- the section of a pair
abbrev text_of : List ℕ × List ℕ → List ℕ
text_of p = section_with p.0 (Some p.1)

-- the deliveries with a section, and without those of known CIDs
abbrev new_of : Known → Blocks → List Delivery → List Delivery
new_of None store ds = filter (λ d. is_some (block_of store d.visit.cid)) ds
new_of (Some known) store ds = filter (λ d. not (known d.visit.cid)) (filter (λ d. is_some (block_of store d.visit.cid)) ds)

module _ (store : Blocks) where
  -- one more delivery, by its block
  any-step : (d : Delivery) (o : Option (List ℕ)) (ds : List Delivery) (text : List ℕ) → block_of store d.visit.cid ≡ o → text ≡ flat_map text_of (pairs_of store ds)
      → section_with d.visit.cid o ++ text ≡ flat_map text_of (pairs_of store (if is_some o then d ∷ ds else ds))
  any-step d None ds text at same = same
  any-step d (Some b) ds text at same = (λ i. section_with d.visit.cid (Some b) ++ same i) ∙ ap (λ o. flat_map text_of (pair_with d.visit.cid o ++ pairs_of store ds)) (sym at)

  -- the sections are those of the pairs
  any-text : (ds : List Delivery) → flat_map (new_section None store) ds ≡ flat_map text_of (pairs_of store (new_of None store ds))
  any-text [] = refl
  any-text (d ∷ ds) = any-step d (block_of store d.visit.cid) (new_of None store ds) (flat_map (new_section None store) ds) refl (any-text ds)

  -- one more delivery, by whether its CID is known
  new-step : (known : List ℕ → Bool) (d : Delivery) (b : Bool) (o : Option (List ℕ)) (ds : List Delivery) (text : List ℕ) → known d.visit.cid ≡ b → block_of store d.visit.cid ≡ o
      → text ≡ flat_map text_of (pairs_of store (filter (λ e. not (known e.visit.cid)) ds))
      → (if b then [] else section_with d.visit.cid o) ++ text ≡ flat_map text_of (pairs_of store (filter (λ e. not (known e.visit.cid)) (if is_some o then d ∷ ds else ds)))
  new-step known d true None ds text is at same = same
  new-step known d false None ds text is at same = same
  new-step known d true (Some b) ds text is at same =
      same ∙ ap (λ v. flat_map text_of (pairs_of store (if not v then d ∷ filter (λ e. not (known e.visit.cid)) ds else filter (λ e. not (known e.visit.cid)) ds))) (sym is)
  new-step known d false (Some b) ds text is at same =
      (λ i. section_with d.visit.cid (Some b) ++ same i)
      ∙ ap (λ o. flat_map text_of (pair_with d.visit.cid o ++ pairs_of store (filter (λ e. not (known e.visit.cid)) ds))) (sym at)
      ∙ ap (λ v. flat_map text_of (pairs_of store (if not v then d ∷ filter (λ e. not (known e.visit.cid)) ds else filter (λ e. not (known e.visit.cid)) ds))) (sym is)

  new-text : (known : List ℕ → Bool) (ds : List Delivery) → flat_map (new_section (Some known) store) ds ≡ flat_map text_of (pairs_of store (new_of (Some known) store ds))
  new-text known [] = refl
  new-text known (d ∷ ds) =
      new-step known d (known d.visit.cid) (block_of store d.visit.cid) (filter (λ e. is_some (block_of store e.visit.cid)) ds) (flat_map (new_section (Some known) store) ds) refl refl (new-text known ds)

-- the law `DifferenceIsOfPairs`
pub pairs-bytes : (known : Known) (store : Blocks) (number : ℕ) (job : JobMeaning)
    → difference_of known store number job ≡ header_of job.roots ++ flat_map (λ p. section_with p.0 (Some p.1)) (difference_pairs known store number job)
pairs-bytes None store number job = ap (λ l. header_of job.roots ++ l) (any-text store (first_sound (verified store number job)))
pairs-bytes (Some known) store number job = ap (λ l. header_of job.roots ++ l) (new-text store known (first_sound (verified store number job)))

-- ---- the blocks of several lists of pairs

-- a block of the first list is that of both
block-left : (xs ys : Blocks) (c b : List ℕ) → block_of xs c ≡ Some b → block_of (xs ++ ys) c ≡ Some b
block-left [] ys c b h = absurd (cc h)
block-left (x ∷ xs) ys c b h =
    (elim (bytes_eq x.0 c) as (λ v. (if v then Some x.1 else block_of xs c) ≡ Some b → (if v then Some x.1 else block_of (xs ++ ys) c) ≡ Some b)
    [ true ↦ λ e. e | false ↦ λ e. block-left xs ys c b e ]) h

-- and where it has none, the second list's is
pub block-right : (xs ys : Blocks) (c : List ℕ) → block_of xs c ≡ None → block_of (xs ++ ys) c ≡ block_of ys c
block-right [] ys c h = refl
block-right (x ∷ xs) ys c h =
    (elim (bytes_eq x.0 c) as (λ v. (if v then Some x.1 else block_of xs c) ≡ None → (if v then Some x.1 else block_of (xs ++ ys) c) ≡ block_of ys c)
    [ true ↦ λ e. absurd (cc e) | false ↦ λ e. block-right xs ys c e ]) h

-- what passes for all pairs passes for the block of a CID
block-passes : (es : Blocks) (c b : List ℕ) → AreSoundCopies es → block_of es c ≡ Some b → passes (verdict_with c (Some b)) ≡ true
block-passes [] c b all h = absurd (cc h)
block-passes (e ∷ es) c b all h = by (block-passes es c b (All-tail is_passing e es all)) (bytes_eq e.0 c) refl h where
  is_passing : List ℕ × List ℕ → Type 0
  is_passing p = passes (verdict_with p.0 (Some p.1)) ≡ true

  by : (block_of es c ≡ Some b → passes (verdict_with c (Some b)) ≡ true) → (v : Bool) → bytes_eq e.0 c ≡ v → (if v then Some e.1 else block_of es c) ≡ Some b → passes (verdict_with c (Some b)) ≡ true
  by later true is at = ap (λ o. passes (verdict_with c o)) (sym at) ∙ ap (λ d. passes (verdict_with d (Some e.1))) (sym ((bytes_eq-Decides e.0 c).0 is)) ∙ All-head is_passing e es all
  by later false isnt at = later at

-- a pair of another CID isn't found
pub pair-other : (c e : List ℕ) (o : Option (List ℕ)) (ps : Blocks) → bytes_eq e c ≡ false → block_of (pair_with e o ++ ps) c ≡ block_of ps c
pair-other c e None ps h = refl
pair-other c e (Some x) ps h = ap (λ v. if v then Some x else block_of ps c) h

-- the store's block is found among the pairs of deliveries, if one of them has the CID
pair-found : (store : Blocks) (c b : List ℕ) → block_of store c ≡ Some b → (ds : List Delivery) → In c (map cid_told ds) → block_of (pairs_of store ds) c ≡ Some b
pair-found store c b at [] h = absurd h
pair-found store c b at (d ∷ ds) h = by (pair-found store c b at ds) (bytes_eq d.visit.cid c) refl h where
  by : (In c (map cid_told ds) → block_of (pairs_of store ds) c ≡ Some b) → (v : Bool) → bytes_eq d.visit.cid c ≡ v → In c (map cid_told (d ∷ ds)) → block_of (pair_with d.visit.cid (block_of store d.visit.cid) ++ pairs_of store ds) c ≡ Some b
  by later true is i =
      ap (λ o. block_of (pair_with d.visit.cid o ++ pairs_of store ds) c) (ap (block_of store) ((bytes_eq-Decides d.visit.cid c).0 is) ∙ at)
      ∙ ap (λ v. if v then Some b else block_of (pairs_of store ds) c) is
  by later false isnt (inl e) = absurd (let is = (bytes_eq-Decides d.visit.cid c).1 e in let bad : true ≡ false = sym is ∙ isnt in cc bad)
  by later false isnt (inr i) = pair-other c d.visit.cid (block_of store d.visit.cid) (pairs_of store ds) isnt ∙ later i

-- no block is found, if none of them has it
pair-absent : (store : Blocks) (c : List ℕ) (ds : List Delivery) → (In c (map cid_told ds) → ⊥) → block_of (pairs_of store ds) c ≡ None
pair-absent store c [] h = refl
pair-absent store c (d ∷ ds) h = by (pair-absent store c ds (λ i. h (inr i))) (bytes_eq d.visit.cid c) refl where
  by : block_of (pairs_of store ds) c ≡ None → (v : Bool) → bytes_eq d.visit.cid c ≡ v → block_of (pair_with d.visit.cid (block_of store d.visit.cid) ++ pairs_of store ds) c ≡ None
  by later true is = absurd (h (inl ((bytes_eq-Decides d.visit.cid c).0 is)))
  by later false isnt = pair-other c d.visit.cid (block_of store d.visit.cid) (pairs_of store ds) isnt ∙ later

-- ---- nothing is skipped

module _ {X : Type 0} (depth : X → ℕ) (pass : X → Bool) where
  -- if all that is kept passes, all pass
  all-pass : (xs : List X) → filter (λ x. not (pass x)) (kept_of depth pass xs) ≡ [] → AllByRecursion (λ x. pass x ≡ true) xs
  all-pass [] h = tt
  all-pass (x ∷ xs) h =
      (elim (pass x) as (λ b. (if not b then x ∷ filter (λ y. not (pass y)) (kept_after depth pass (if b then None else Some (depth x)) xs) else filter (λ y. not (pass y)) (kept_after depth pass (if b then None else Some (depth x)) xs)) ≡ []
      → (b ≡ true) × AllByRecursion (λ y. pass y ≡ true) xs) [
        | true ↦ λ e. (refl, all-pass xs e)
        | false ↦ λ e. absurd (cc e)
      ]) h

  -- then all are kept
  all-kept : (xs : List X) → AllByRecursion (λ x. pass x ≡ true) xs → kept_of depth pass xs ≡ xs
  all-kept [] h = refl
  all-kept (x ∷ xs) h = ap (λ b. x ∷ kept_after depth pass (if b then None else Some (depth x)) xs) h.0 ∙ ap (λ l. x ∷ l) (all-kept xs h.1)

  -- and none fail
  none-fail : (xs : List X) → AllByRecursion (λ x. pass x ≡ true) xs → filter (λ x. not (pass x)) xs ≡ []
  none-fail [] h = refl
  none-fail (x ∷ xs) h = ap (λ b. if not b then x ∷ filter (λ y. not (pass y)) xs else filter (λ y. not (pass y)) xs) h.0 ∙ none-fail xs h.1

-- what maps to nothing is nothing
map-none : {X Y : Type 0} (f : X → Y) (xs : List X) → map f xs ≡ [] → xs ≡ []
map-none f [] h = refl
map-none f (x ∷ xs) h = absurd (cc h)

-- a delivery is good
abbrev Passes : Delivery → Type 0
Passes d = passes d.verdict ≡ true

-- a visited CID is good
abbrev IsGoodIn : Blocks → Arrival → Type 0
IsGoodIn store a = is_good store a.cid ≡ true

-- good deliveries are those of good CIDs
visits-good : (store : Blocks) (number n : ℕ) (xs : List Arrival) → AllByRecursion Passes (map (judged store) (visits_from store number n xs)) → AllByRecursion (IsGoodIn store) xs
visits-good store number n [] h = tt
visits-good store number n (x ∷ xs) h = (h.0, visits-good store number (n + 1) xs h.1)

good-visits : (store : Blocks) (number n : ℕ) (xs : List Arrival) → AllByRecursion (IsGoodIn store) xs → AllByRecursion Passes (map (judged store) (visits_from store number n xs))
good-visits store number n [] h = tt
good-visits store number n (x ∷ xs) h = (h.0, good-visits store number (n + 1) xs h.1)

-- a job that skips nothing visits good CIDs
good-all : (store : Blocks) (number : ℕ) (job : JobMeaning) → IsWithoutSkips store number job → AllByRecursion (IsGoodIn store) (arrivals_of store job)
good-all store number job done =
    visits-good store number 0 (arrivals_of store job)
    (all-pass (λ d. d.visit.depth) (λ d. passes d.verdict) (all_judged store number job)
    (map-none (λ d. record { seq = d.visit.seq; cid = d.visit.cid; verdict = d.verdict }) (filter (λ d. not (passes d.verdict)) (kept (all_judged store number job)))
    (sym (ap skips_of (judged_visits-all store number job done.within)) ∙ done.no_skips)))

-- and one that visits good CIDs alone skips nothing
no-skips : (store : Blocks) (number : ℕ) (job : JobMeaning) → is_over_limit store job ≡ false → AllByRecursion (IsGoodIn store) (arrivals_of store job) → skips_of (judged_visits store number job) ≡ []
no-skips store number job within good =
    let all = good-visits store number 0 (arrivals_of store job) good in
    ap skips_of (judged_visits-all store number job within)
    ∙ ap (λ l. map (λ d. record { seq = d.visit.seq; cid = d.visit.cid; verdict = d.verdict }) l)
    (ap (filter (λ d. not (passes d.verdict))) (all-kept (λ d. d.visit.depth) (λ d. passes d.verdict) (all_judged store number job) all)
    ∙ none-fail (λ d. d.visit.depth) (λ d. passes d.verdict) (all_judged store number job) all)

-- the verified traversal is then all of it
verified-all : (store : Blocks) (number : ℕ) (job : JobMeaning) → AllByRecursion (IsGoodIn store) (arrivals_of store job) → verified store number job ≡ all_judged store number job
verified-all store number job good =
    sym (kept-all store number job) ∙ all-kept (λ d. d.visit.depth) (λ d. passes d.verdict) (all_judged store number job) (good-visits store number 0 (arrivals_of store job) good)

-- ---- what a good CID's block decides

-- a good verdict is on a block, or on inline data
pub good-cases : (v : Verdict) → passes v ≡ true → (is_sound v ≡ true) ⊎ (v ≡ Inline)
good-cases Codec h = absurd (cc h)
good-cases Hash h = absurd (cc h)
good-cases Missing h = absurd (cc h)
good-cases Damaged h = absurd (cc h)
good-cases Malformed h = absurd (cc h)
good-cases Sound h = inl refl
good-cases Inline h = inr refl

-- by a hash of blocks, no data are inline
not-inline : (hash : List ℕ → List ℕ) (c : List ℕ) (known : Bool) (block : Option (List ℕ)) → (if known then verdict_under hash c block else Codec) ≡ Inline → ⊥
not-inline hash c false block h = cc h
not-inline hash c true None h = cc h
not-inline hash c true (Some b) h = by (bytes_eq (hash b) (digest_of c)) (is_no_data c b) h where
  by : (agrees bad : Bool) → (if agrees then (if bad then Malformed else Sound) else Damaged) ≡ Inline → ⊥
  by true true e = cc e
  by true false e = cc e
  by false bad e = cc e

-- the data of a CID with this block, if it is sound
abbrev pub sound_by : List ℕ → Option HashFunction → Option (List ℕ) → Option Data
sound_by c f block = if bytes_match_by f (digest_of c) block then value_by c f block else None

-- with either block, the verdict is the same and the same is expanded
abbrev pub IsSameWith : List ℕ → Option HashFunction → Option (List ℕ) → Option (List ℕ) → Type 0
IsSameWith c f block other =
    ((if has_codec c then verdict_by f c other else Codec) ≡ (if has_codec c then verdict_by f c block else Codec)) × (value_by c f other ≡ value_by c f block) × (sound_by c f other ≡ sound_by c f block)

-- so it is for inline data
pub inline-same : (c : List ℕ) (f : Option HashFunction) (block other : Option (List ℕ)) → (if has_codec c then verdict_by f c block else Codec) ≡ Inline → IsSameWith c f block other
inline-same c None block other h = (refl, refl, refl)
inline-same c (Some Identity) block other h = (refl, refl, refl)
inline-same c (Some Sha2_256) block other h = absurd (not-inline sha256 c (has_codec c) block h)
inline-same c (Some Sha2_512) block other h = absurd (not-inline sha512 c (has_codec c) block h)

-- and for a sound block that is the same
pub good-same : (c : List ℕ) (f : Option HashFunction) (block other : Option (List ℕ)) → passes (if has_codec c then verdict_by f c block else Codec) ≡ true
    → (is_sound (if has_codec c then verdict_by f c block else Codec) ≡ true → other ≡ block) → IsSameWith c f block other
good-same c f block other good same = by (good-cases (if has_codec c then verdict_by f c block else Codec) good) where
  by : (is_sound (if has_codec c then verdict_by f c block else Codec) ≡ true) ⊎ ((if has_codec c then verdict_by f c block else Codec) ≡ Inline) → IsSameWith c f block other
  by (inl sound) = let e = same sound in (ap (λ o. if has_codec c then verdict_by f c o else Codec) e, ap (value_by c f) e, ap (sound_by c f) e)
  by (inr inline) = inline-same c f block other inline

-- ---- a store that has the visited sound blocks

module _ (store other : Blocks) where
  -- the other store has the same block under a CID for which this one has a sound one
  abbrev pub Has : List ℕ → Type 0
  Has c = knows store c ≡ true → block_of other c ≡ block_of store c

  -- a CID has the same verdict in both, and the same data
  abbrev IsSame : Arrival → Type 0
  IsSame a = (verdict_of other a.cid ≡ verdict_of store a.cid) × (value_of other a.cid ≡ value_of store a.cid) × (sound_value other a.cid ≡ sound_value store a.cid)

  all-same : (xs : List Arrival) → AllByRecursion (IsGoodIn store) xs → AllByRecursion (λ a. Has a.cid) xs → AllByRecursion IsSame xs
  all-same xs good has =
      all-weaker (λ a. IsGoodIn store a × Has a.cid) IsSame (λ a h. good-same a.cid (hash_function_of (parts_of a.cid)) (block_of store a.cid) (block_of other a.cid) h.0 h.1) xs (all-both (IsGoodIn store) (λ a. Has a.cid) xs good has)

  -- the visits are the same
  arrivals-same : (job : JobMeaning) → AllByRecursion IsSame (arrivals_of store job) → arrivals_of other job ≡ arrivals_of store job
  arrivals-same job same = by job.once refl where
    by : (once : Bool) → job.once ≡ once → arrivals_of other job ≡ arrivals_of store job
    by true e =
        let here = arrivals-by store job true e in
        arrivals-by other job true e
        ∙ once-same (is_entered job.selector) (sound_value store) (sound_value other) (residual_at job.selector) same_residual (suc job.limit) [] (roots_from 0 job.roots)
        (all-weaker IsSame (IsSameInside (is_entered job.selector) (sound_value store) (sound_value other)) (λ a h. h.2) (once_arrivals store job (residual_at job.selector) same_residual) (subst (AllByRecursion IsSame) here same))
        ∙ sym here
    by false e =
        let here = arrivals-by store job false e in
        arrivals-by other job false e
        ∙ from-same (is_entered job.selector) (value_of store) (value_of other) job.limit 0 job.roots
        (all-weaker IsSame (IsSameInside (is_entered job.selector) (value_of store) (value_of other)) (λ a h. h.1) (believed store job) (subst (AllByRecursion IsSame) here same))
        ∙ sym here

  -- the same CIDs have sections, with the same blocks
  pub texts-same : (cs : List (List ℕ)) → ((c : List ℕ) → In c cs → (knows other c ≡ knows store c) × Has c)
      → flat_map (λ c. section_with c (block_of other c)) (filter (knows other) cs) ≡ flat_map (λ c. section_with c (block_of store c)) (filter (knows store) cs)
  texts-same [] h = refl
  texts-same (c ∷ cs) h =
      let here = h c (inl refl) in
      let rest = texts-same cs (λ e i. h e (inr i)) in
      ap (λ b. flat_map (λ e. section_with e (block_of other e)) (if b then c ∷ filter (knows other) cs else filter (knows other) cs)) here.0
      ∙ by (knows store c) here.1 rest where
        by : (b : Bool) → (b ≡ true → block_of other c ≡ block_of store c)
            → flat_map (λ e. section_with e (block_of other e)) (filter (knows other) cs) ≡ flat_map (λ e. section_with e (block_of store e)) (filter (knows store) cs)
            → flat_map (λ e. section_with e (block_of other e)) (if b then c ∷ filter (knows other) cs else filter (knows other) cs) ≡ flat_map (λ e. section_with e (block_of store e)) (if b then c ∷ filter (knows store) cs else filter (knows store) cs)
        by true same rest = λ i. section_with c (same refl i) ++ rest i
        by false same rest = rest

  -- what holds of all visits holds of each of their CIDs
  each-cid : (xs : List Arrival) → AllByRecursion IsSame xs → AllByRecursion (λ a. Has a.cid) xs → (c : List ℕ) → In c (map cid_of xs) → (knows other c ≡ knows store c) × Has c
  each-cid [] same has c i = absurd i
  each-cid (x ∷ xs) same has c (inl e) = subst (λ d. (knows other d ≡ knows store d) × Has d) e (ap is_sound same.0.0, has.0)
  each-cid (x ∷ xs) same has c (inr i) = each-cid xs same.1 has.1 c i

  -- so the job is restored
  restored : (number : ℕ) (job : JobMeaning) → IsWithoutSkips store number job → AllByRecursion (λ a. Has a.cid) (arrivals_of store job) → IsRestoredBy store number job other
  restored number job done has =
      let good = good-all store number job done in
      let same = all-same (arrivals_of store job) good has in
      let visits = arrivals-same job same in
      let within : is_over_limit other job ≡ false = ap (λ l. nat_lt job.limit (length l)) visits ∙ done.within in
      let there : AllByRecursion (IsGoodIn other) (arrivals_of other job) =
      subst (AllByRecursion (IsGoodIn other)) (sym visits)
      (all-weaker (λ a. IsGoodIn store a × IsSame a) (IsGoodIn other) (λ a h. ap passes h.1.0 ∙ h.0) (arrivals_of store job) (all-both (IsGoodIn store) IsSame (arrivals_of store job) good same)) in
      record {
        done = record { within = within; no_skips = no-skips other number job within there };
        same_archive =
            ap (archive_with other job.roots) (verified-all other number job there)
            ∙ archive-visits other job.roots number (arrivals_of other job)
            ∙ ap (λ l. archive_by other job.roots (first_ones (map cid_of l))) visits
            ∙ ap (λ l. header_of job.roots ++ l)
            (texts-same (first_ones (map cid_of (arrivals_of store job))) (λ c i. each-cid (arrivals_of store job) same has c (first_ones-in c (map cid_of (arrivals_of store job)) i)))
            ∙ sym (archive-visits store job.roots number (arrivals_of store job))
            ∙ ap (archive_with store job.roots) (sym (verified-all store number job good));
      }

-- ---- the difference and the base

module _ (store base : Blocks) (number : ℕ) (job : JobMeaning) (agrees : AgreesWith base store) where
  abbrev new : List Delivery
  new = new_sections (known_by base) store (verified store number job)

  abbrev has_block : List ℕ → Bool
  has_block c = is_some (block_of store c)

  -- the difference has the sound CIDs that the base doesn't know
  new-cids : map cid_told new ≡ filter (λ c. not (knows base c)) (filter has_block (filter (knows store) (first_ones (visited store job))))
  new-cids =
      map-filter (λ c. not (knows base c)) (sections_of store (verified store number job))
      ∙ ap (filter (λ c. not (knows base c)))
      (map-filter has_block (first_sound (verified store number job))
      ∙ ap (filter has_block)
      (first_sound-cids store (verified store number job) (verified-judged store number job)
      ∙ ap (λ l. filter (knows store) (first_ones l)) (verified-cids store number job)))

  -- of a CID that the base doesn't know, it has the store's block
  new-there : (c b : List ℕ) → In c (visited store job) → knows store c ≡ true → block_of store c ≡ Some b → knows base c ≡ false → block_of (pairs_of store new) c ≡ Some b
  new-there c b i sound at unknown =
      pair-found store c b at new
      (subst (In c) (sym new-cids)
      (filter-in (λ e. not (knows base e)) c (filter has_block (filter (knows store) (first_ones (visited store job))))
      (filter-in has_block c (filter (knows store) (first_ones (visited store job))) (filter-in (knows store) c (first_ones (visited store job)) (in-first_ones c (visited store job) i) sound) (ap is_some at))
      (ap not unknown)))

  -- a CID in it is sound, and the base doesn't know it
  new-sound : (c : List ℕ) → In c (map cid_told new) → (knows store c ≡ true) × (not (knows base c) ≡ true)
  new-sound c i =
      let unknown = in-filter (λ e. not (knows base e)) c (filter has_block (filter (knows store) (first_ones (visited store job)))) (subst (In c) new-cids i) in
      let there = in-filter has_block c (filter (knows store) (first_ones (visited store job))) unknown.0 in
      let sound = in-filter (knows store) c (first_ones (visited store job)) there.0 in
      (sound.1, unknown.1)

  -- so of one that the base knows it has no block
  new-not : (c : List ℕ) → knows base c ≡ true → block_of (pairs_of store new) c ≡ None
  new-not c known = pair-absent store c new (λ i. let bad : true ≡ false = sym (new-sound c i).1 ∙ ap not known in cc bad)

  -- nor of one that isn't sound
  pub new-none : (c : List ℕ) → knows store c ≡ false → block_of (pairs_of store new) c ≡ None
  new-none c unsound = pair-absent store c new (λ i. let bad : true ≡ false = sym (new-sound c i).0 ∙ unsound in cc bad)

  -- the block of a sound CID
  sound-at : (c : List ℕ) → knows store c ≡ true → (b : List ℕ) × (block_of store c ≡ Some b)
  sound-at c sound = by (block_of store c) (sound-block c (block_of store c) sound) where
    by : (o : Option (List ℕ)) → is_some o ≡ true → (b : List ℕ) × (o ≡ Some b)
    by None h = absurd (cc h)
    by (Some b) h = (b, refl)

  -- the difference first
  pub first-has : (c : List ℕ) → In c (visited store job) → Has store (first_copies (pairs_of store new ++ base)) c
  first-has c i sound =
      let block = sound-at c sound in
      blocks-first [] (pairs_of store new ++ base) c ∙ by (knows base c) refl block.0 block.1 where
        by : (v : Bool) → knows base c ≡ v → (b : List ℕ) → block_of store c ≡ Some b → block_of (pairs_of store new ++ base) c ≡ block_of store c
        by true known b at = block-right (pairs_of store new) base c (new-not c known) ∙ agrees c known sound
        by false unknown b at = block-left (pairs_of store new) base c b (new-there c b i sound at unknown) ∙ sym at

  module _ (all : AreSoundCopies (first_copies base)) where
    -- a sound CID that the base doesn't know isn't in it
    not-there : (c : List ℕ) → knows store c ≡ true → knows base c ≡ false → block_of base c ≡ None
    not-there c sound unknown = by (block_of base c) refl where
      inline : passes (verdict_of base c) ≡ true → verdict_of base c ≡ Inline
      inline good = one (good-cases (verdict_of base c) good) where
        one : (is_sound (verdict_of base c) ≡ true) ⊎ (verdict_of base c ≡ Inline) → verdict_of base c ≡ Inline
        one (inl known) = absurd (let bad : true ≡ false = sym known ∙ unknown in cc bad)
        one (inr h) = h

      unsound : verdict_of base c ≡ Inline → ⊥
      unsound h = let same = (inline-same c (hash_function_of (parts_of c)) (block_of base c) (block_of store c) h).0 in let bad : true ≡ false = sym sound ∙ ap is_sound (same ∙ h) in cc bad

      by : (o : Option (List ℕ)) → block_of base c ≡ o → o ≡ None
      by None at = refl
      by (Some b) at = absurd (unsound (inline (ap (λ o. passes (verdict_with c o)) at ∙ block-passes (first_copies base) c b all (blocks-first [] base c ∙ at))))

    -- the base first
    pub last-has : (c : List ℕ) → In c (visited store job) → Has store (first_copies (base ++ pairs_of store new)) c
    last-has c i sound =
        let block = sound-at c sound in
        blocks-first [] (base ++ pairs_of store new) c ∙ by (knows base c) refl block.0 block.1 where
          by : (v : Bool) → knows base c ≡ v → (b : List ℕ) → block_of store c ≡ Some b → block_of (base ++ pairs_of store new) c ≡ block_of store c
          by true known b at = block-left base (pairs_of store new) c b (agrees c known sound ∙ at) ∙ sym at
          by false unknown b at = block-right base (pairs_of store new) c (not-there c sound unknown) ∙ new-there c b i sound at unknown ∙ sym at

-- what holds of each CID holds of all visits
pub all-visits : (P : List ℕ → Type 0) (xs : List Arrival) → ((c : List ℕ) → In c (map cid_of xs) → P c) → AllByRecursion (λ a. P a.cid) xs
all-visits P [] h = tt
all-visits P (x ∷ xs) h = (h x.cid (inl refl), all-visits P xs (λ c i. h c (inr i)))

-- a job that skips nothing visits what is verified
all-visited : (store : Blocks) (number : ℕ) (job : JobMeaning) → IsWithoutSkips store number job → map cid_of (arrivals_of store job) ≡ visited store job
all-visited store number job done =
    sym (visits-cids store number 0 (arrivals_of store job)) ∙ ap (map cid_told) (sym (verified-all store number job (good-all store number job done))) ∙ verified-cids store number job

-- the law `DifferenceThenBaseRestores`
pub difference-first : (store base : Blocks) (number : ℕ) (job : JobMeaning) → AgreesWith base store → IsWithoutSkips store number job
    → IsRestoredBy store number job (first_copies (difference_pairs (known_by base) store number job ++ base))
difference-first store base number job agrees done =
    let other : Blocks = first_copies (difference_pairs (known_by base) store number job ++ base) in
    restored store other number job done (all-visits (Has store other) (arrivals_of store job) (λ c i. first-has store base number job agrees c (subst (In c) (all-visited store number job done) i)))

-- the law `BaseThenDifferenceRestores`
pub base-first : (store base : Blocks) (number : ℕ) (job : JobMeaning) → AreSoundCopies (first_copies base) → AgreesWith base store → IsWithoutSkips store number job
    → IsRestoredBy store number job (first_copies (base ++ difference_pairs (known_by base) store number job))
base-first store base number job all agrees done =
    let other : Blocks = first_copies (base ++ difference_pairs (known_by base) store number job) in
    restored store other number job done (all-visits (Has store other) (arrivals_of store job) (λ c i. last-has store base number job agrees all c (subst (In c) (all-visited store number job done) i)))
