-- The archive of a job, over the store of its own sections.
use Rattle.std.proofs.Common.{◌≡◌, inl, inr, ℕ, suc, Bool, true, false, not, ◌&&◌, ◌||◌, List, [], ◌∷◌, ◌++◌, length, map, filter, flat_map, refl, sym, ap, ◌∙◌, subst}
use Rattle.std.specs.Prelude.{Option, Some, None, is_some, is_none, if◌then◌else◌, nat_lt, bytes_eq, ◌==◌}
use Rattle.std.specs.List.{AllByRecursion}
use Rattle.std.proofs.lemmas.List.Folds.{flat_map-map}
use Rattle.sha2.specs.Sha256.{sha256}
use Rattle.sha2.specs.Sha512.{sha512}
use Rattle.ix_cid.specs.Cid.{parts_of, codec_of, digest_of, hash_function_of}
use Rattle.ix_cid.specs.declared.hash_function.HashFunction.{HashFunction}
use Rattle.ix_cid.specs.declared.hash_function.HashFunction.TheVariants.{Identity, Sha2_256, Sha2_512}
use Rattle.ix_cbor.specs.Data.{Data}
use Rattle.ix_cbor.specs.Reading.{data_at}
use Rattle.ix_selector.specs.IsEntered.{is_entered}
use Rattle.ix_selector.specs.Behind.{residual_at, same_residual}
use Rattle.ix_store.specs.Store.{Blocks, block_of}
use Rattle.ix_walk.specs.JobMeaning.{JobMeaning}
use Rattle.ix_walk.specs.Arrivals.{Arrival}
use Rattle.ix_walk.specs.Visits.{arrivals_of, is_over_limit}
use Rattle.ix_walk.specs.Once.{roots_from, first_ones, bytes_match_by, sound_value, once_arrivals}
use Rattle.ix_walk.proofs.Firsts.{In, filter-both, filter-in, in-filter, in-first_ones}
use Rattle.ix_walk.proofs.Links.{cid_of}
use Rattle.ix_verdict.specs.declared.verdict.Verdict.TheVariants.{Codec, Damaged, Malformed, Sound}
use Rattle.ix_check.specs.Verdict.{verdict_by, has_codec, verdict_with}
use Rattle.ix_car.specs.Verified.{all_judged}
use Rattle.ix_car.specs.Restoring.{pair_with, difference_pairs}
use Rattle.ix_car.specs.Archive.{Known, first_sound, sections_of, new_sections}
use Rattle.ix_verdict.specs.Verdict.{is_sound}
use Rattle.ix_known.specs.Known.{knows}
use Rattle.ix_car.specs.Laws.{once}
use Rattle.ix_car.proofs.SoundValues.{value_by}
use Rattle.ix_car.specs.declared.sink.Delivery.{Delivery}
use Rattle.ix_car.proofs.GoingOnce.{cid_told, map-filter, first_sound-cids, sound-block, visits-cids, visits-judged}
use Rattle.ix_car.proofs.Visited.{IsSameInside, once-same}
use Rattle.ix_receive.specs.Own.{archive_pairs, AreTheirOwn}
use Rattle.ix_receive.specs.Receiving.{new_cids}
use Rattle.ix_receive.proofs.Lookup.{pair_in, pair-found, pair-absent}

-- ---- a block that isn't sound is as good as none

-- what is expanded of a CID with this block
abbrev pub value_in : Option HashFunction → List ℕ → Option (List ℕ) → Option Data
value_in f c o = if bytes_match_by f (digest_of c) o then value_by c f o else None

-- nothing, if its verdict isn't that it is sound
no-value : (raw dag agrees : Bool) (o : Option Data) → is_sound (if raw || dag then (if agrees then (if dag && is_none o then Malformed else Sound) else Damaged) else Codec) ≡ false
    → None ≡ (if agrees then (if dag then o else None) else None)
no-value raw dag false o h = refl
no-value raw false true o h = refl
no-value true true true None h = refl
no-value false true true None h = refl
no-value true true true (Some d) h = absurd (cc h)
no-value false true true (Some d) h = absurd (cc h)

-- so it is the same without the block
none-value : (f : Option HashFunction) (c : List ℕ) (o : Option (List ℕ)) → is_sound (if has_codec c then verdict_by f c o else Codec) ≡ false → value_in f c None ≡ value_in f c o
none-value None c o h = refl
none-value (Some Identity) c o h = refl
none-value (Some Sha2_256) c None h = refl
none-value (Some Sha2_512) c None h = refl
none-value (Some Sha2_256) c (Some b) h = no-value (codec_of c == 0x55) (codec_of c == 0x71) (bytes_eq (sha256 b) (digest_of c)) (data_at b) h
none-value (Some Sha2_512) c (Some b) h = no-value (codec_of c == 0x55) (codec_of c == 0x71) (bytes_eq (sha512 b) (digest_of c)) (data_at b) h

-- ---- the sections are those of CIDs

-- a store has a block under a CID
abbrev pub has_block : Blocks → List ℕ → Bool
has_block store c = is_some (block_of store c)

-- the sound ones of these CIDs
abbrev pub chosen : Blocks → List (List ℕ) → List (List ℕ)
chosen store cs = filter (has_block store) (filter (knows store) cs)

-- the CIDs that a job visits with link-visit-once, each at its first occurrence
abbrev first_cids : Blocks → JobMeaning → List (List ℕ)
first_cids store job = first_ones (map cid_of (once_arrivals store job (residual_at job.selector) same_residual))

-- the sound ones of those that aren't known
new-chosen : (known : Known) (store : Blocks) (cs : List (List ℕ)) → new_cids known (chosen store cs) ≡ chosen store (new_cids known cs)
new-chosen None store cs = refl
new-chosen (Some known) store cs =
    after (has_block store) (filter (knows store) cs) ∙ ap (filter (has_block store)) (after (knows store) cs) where
      swapped : (a b : Bool) → (a && b) ≡ (b && a)
      swapped true true = refl
      swapped true false = refl
      swapped false true = refl
      swapped false false = refl

      after : (q : List ℕ → Bool) (xs : List (List ℕ)) → filter (λ c. not (known c)) (filter q xs) ≡ filter q (filter (λ c. not (known c)) xs)
      after q xs =
          filter-both (λ c. not (known c)) q (λ c. q c && not (known c)) (λ c. refl) xs
          ∙ sym (filter-both q (λ c. not (known c)) (λ c. q c && not (known c)) (λ c. swapped (not (known c)) (q c)) xs)

-- the CIDs of new sections
new-told : (known : Known) (store : Blocks) (ds : List Delivery) → map cid_told (new_sections known store ds) ≡ new_cids known (map cid_told (sections_of store ds))
new-told None store ds = refl
new-told (Some known) store ds = map-filter (λ c. not (known c)) (sections_of store ds)

-- the sections of the job are those of the sound ones of them that aren't known
pub pairs-by : (known : Known) (store : Blocks) (number : ℕ) (job : JobMeaning) → difference_pairs known store number (once job) ≡ flat_map (pair_in store) (chosen store (new_cids known (first_cids store job)))
pairs-by known store number job =
    let all = all_judged store number (once job) in
    sym (flat_map-map (pair_in store) cid_told (new_sections known store all))
    ∙ ap (flat_map (pair_in store))
    (new-told known store all
    ∙ ap (new_cids known)
    (map-filter (has_block store) (first_sound all)
    ∙ ap (filter (has_block store))
    (first_sound-cids store all (visits-judged store number 0 (arrivals_of store (once job)))
    ∙ ap (λ l. filter (knows store) (first_ones l)) (visits-cids store number 0 (arrivals_of store (once job)))))
    ∙ new-chosen known store (first_cids store job))

-- ---- each section is sound

-- a pair is sound by itself
abbrev IsSoundPair : List ℕ × List ℕ → Type 0
IsSoundPair p = is_sound (verdict_with p.0 (Some p.1)) ≡ true

-- so are those of sound CIDs
pairs-sound : (store : Blocks) (cs : List (List ℕ)) → AllByRecursion IsSoundPair (flat_map (pair_in store) (chosen store cs))
pairs-sound store [] = tt
pairs-sound store (c ∷ cs) = by (knows store c) refl (has_block store c) (block_of store c) refl (pairs-sound store cs) where
  by : (k : Bool) → knows store c ≡ k → (b : Bool) (o : Option (List ℕ)) → block_of store c ≡ o → AllByRecursion IsSoundPair (flat_map (pair_in store) (chosen store cs))
      → AllByRecursion IsSoundPair (flat_map (pair_in store) (filter (has_block store) (if k then c ∷ filter (knows store) cs else filter (knows store) cs)))
  by false is b o at rest = rest
  by true is b None at rest = subst (λ o. AllByRecursion IsSoundPair (flat_map (pair_in store) (if is_some o then c ∷ chosen store cs else chosen store cs))) (sym at) rest
  by true is b (Some block) at rest =
      subst (λ o. AllByRecursion IsSoundPair (flat_map (pair_in store) (if is_some o then c ∷ chosen store cs else chosen store cs))) (sym at)
      (subst (λ o. AllByRecursion IsSoundPair (pair_with c o ++ flat_map (pair_in store) (chosen store cs))) (sym at)
      (ap (λ o. is_sound (verdict_with c o)) (sym at) ∙ is, rest))

-- ---- two stores with the same sound blocks

-- with the same sound CIDs and the same blocks of them, the sections are the same
pub chosen-same : (store other : Blocks) (cs : List (List ℕ)) → ((c : List ℕ) → In c cs → (knows other c ≡ knows store c) × (knows store c ≡ true → block_of other c ≡ block_of store c))
    → flat_map (pair_in other) (chosen other cs) ≡ flat_map (pair_in store) (chosen store cs)
chosen-same store other [] h = refl
chosen-same store other (c ∷ cs) h =
    ap (λ k. flat_map (pair_in other) (filter (has_block other) (if k then c ∷ filter (knows other) cs else filter (knows other) cs))) (h c (inl refl)).0
    ∙ by (knows store c) (h c (inl refl)).1 (chosen-same store other cs (λ e i. h e (inr i))) where
      on : (o : Option (List ℕ)) → block_of other c ≡ o → block_of store c ≡ o → flat_map (pair_in other) (chosen other cs) ≡ flat_map (pair_in store) (chosen store cs)
          → flat_map (pair_in other) (if is_some o then c ∷ chosen other cs else chosen other cs) ≡ flat_map (pair_in store) (if is_some o then c ∷ chosen store cs else chosen store cs)
      on None here at rest = rest
      on (Some b) here at rest = (λ i. pair_with c (here i) ++ rest i) ∙ sym (λ i. pair_with c (at i) ++ flat_map (pair_in store) (chosen store cs))

      by : (k : Bool) → (k ≡ true → block_of other c ≡ block_of store c) → flat_map (pair_in other) (chosen other cs) ≡ flat_map (pair_in store) (chosen store cs)
          → flat_map (pair_in other) (filter (has_block other) (if k then c ∷ filter (knows other) cs else filter (knows other) cs)) ≡ flat_map (pair_in store) (filter (has_block store) (if k then c ∷ filter (knows store) cs else filter (knows store) cs))
      by false same rest = rest
      by true same rest =
          ap (λ o. flat_map (pair_in other) (if is_some o then c ∷ chosen other cs else chosen other cs)) (same refl)
          ∙ on (block_of store c) (same refl) refl rest

-- ---- over the sections of some CIDs as a store

module _ (store : Blocks) (cids : List (List ℕ)) where
  abbrev sections : Blocks
  sections = flat_map (pair_in store) (chosen store cids)

  -- it has the blocks of the sound ones
  pub block-sound : (c : List ℕ) → In c cids → knows store c ≡ true → block_of sections c ≡ block_of store c
  block-sound c i sound =
      let there = sound-block c (block_of store c) sound in
      pair-found store c there (chosen store cids) (filter-in (has_block store) c (filter (knows store) cids) (filter-in (knows store) c cids i sound) there)

  -- and no others
  pub block-unsound : (c : List ℕ) → knows store c ≡ false → block_of sections c ≡ None
  block-unsound c out = pair-absent store c (chosen store cids) (λ i. absent (in-filter (knows store) c cids (in-filter (has_block store) c (filter (knows store) cids) i).0).1) where
    absent : knows store c ≡ true → ⊥
    absent is = let bad : true ≡ false = sym is ∙ out in cc bad

  -- each CID has the same inside
  pub value-same : (c : List ℕ) → In c cids → sound_value sections c ≡ sound_value store c
  value-same c i = by (knows store c) refl where
    by : (b : Bool) → knows store c ≡ b → value_in (hash_function_of (parts_of c)) c (block_of sections c) ≡ value_in (hash_function_of (parts_of c)) c (block_of store c)
    by true sound = ap (value_in (hash_function_of (parts_of c)) c) (block-sound c i sound)
    by false out = ap (value_in (hash_function_of (parts_of c)) c) (block-unsound c out) ∙ none-value (hash_function_of (parts_of c)) c (block_of store c) out

  -- and is sound in both or in neither
  pub knows-same : (c : List ℕ) → In c cids → knows sections c ≡ knows store c
  knows-same c i = by (knows store c) refl where
    none : (b : Bool) → is_sound (verdict_with c None) ≡ b → b ≡ false
    none true is = sym (sound-block c None is)
    none false is = refl

    by : (b : Bool) → knows store c ≡ b → knows sections c ≡ b
    by true sound = ap (λ o. is_sound (verdict_with c o)) (block-sound c i sound) ∙ sound
    by false out = ap (λ o. is_sound (verdict_with c o)) (block-unsound c out) ∙ none (is_sound (verdict_with c None)) refl

  -- so they have the same sections
  pub sections-same : flat_map (pair_in sections) (chosen sections cids) ≡ sections
  sections-same = chosen-same store sections cids (λ c i. (knows-same c i, block-sound c i))

  -- each of which is sound
  pub sections-sound : AllByRecursion IsSoundPair sections
  sections-sound = pairs-sound store cids

-- what holds of each CID holds of all visits
pub each-inside : (store other : Blocks) (job : JobMeaning) (xs : List Arrival) → ((c : List ℕ) → In c (map cid_of xs) → sound_value other c ≡ sound_value store c)
    → AllByRecursion (IsSameInside (is_entered job.selector) (sound_value store) (sound_value other)) xs
each-inside store other job [] h = tt
each-inside store other job (x ∷ xs) h = (h x.cid (inl refl), each-inside store other job xs (λ c i. h c (inr i)))

module _ (store : Blocks) (number : ℕ) (job : JobMeaning) where
  abbrev cids : List (List ℕ)
  cids = first_cids store job

  abbrev own : Blocks
  own = archive_pairs store number (once job)

  -- over its sections a job has the same visits
  visits-same : once_arrivals own job (residual_at job.selector) same_residual ≡ once_arrivals store job (residual_at job.selector) same_residual
  visits-same =
      let met = once_arrivals store job (residual_at job.selector) same_residual in
      let same : (c : List ℕ) → In c cids → sound_value own c ≡ sound_value store c = λ c i. ap (λ s. sound_value s c) (pairs-by None store number job) ∙ value-same store cids c i in
      once-same (is_entered job.selector) (sound_value store) (sound_value own) (residual_at job.selector) same_residual (suc job.limit) [] (roots_from 0 job.roots)
      (each-inside store own job met (λ c i. same c (in-first_ones c (map cid_of met) i)))

  -- so its sections are their own
  pub own-again : is_over_limit store (once job) ≡ false → AreTheirOwn number (once job) own
  own-again within = record {
    sound = subst (AllByRecursion IsSoundPair) (sym (pairs-by None store number job)) (sections-sound store cids);
    within = ap (λ l. nat_lt job.limit (length l)) visits-same ∙ within;
    same =
        pairs-by None own number job
        ∙ ap (λ l. flat_map (pair_in own) (chosen own (first_ones (map cid_of l)))) visits-same
        ∙ ap (λ s. flat_map (pair_in s) (chosen s cids)) (pairs-by None store number job)
        ∙ sections-same store cids
        ∙ sym (pairs-by None store number job);
  }
