-- What a base and a difference restore of a job that skips what the base doesn't know.
use Rattle.std.proofs.Common.{◌≡◌, ◌⊎◌, inl, inr, ℕ, suc, Bool, true, false, not, List, [], ◌∷◌, ◌++◌, length, map, filter, refl, sym, ap, ◌∙◌, subst}
use Rattle.std.specs.Prelude.{Some, None, All, nat_lt, if◌then◌else◌, bytes_eq}
use Rattle.std.specs.List.{AllByRecursion}
use Rattle.std.proofs.lemmas.List.Elements.{All-head, All-tail}
use Rattle.ix_cid.specs.Cid.{parts_of, hash_function_of}
use Rattle.ix_selector.specs.IsEntered.{is_entered}
use Rattle.ix_selector.specs.Behind.{residual_at, same_residual}
use Rattle.ix_store.specs.Store.{Blocks, block_of, value_of}
use Rattle.ix_store.specs.Sound.{AreSoundCopies, first_copies}
use Rattle.ix_walk.specs.JobMeaning.{JobMeaning}
use Rattle.ix_walk.specs.Visits.{arrivals_of, is_over_limit}
use Rattle.ix_walk.specs.Once.{roots_from, first_ones, sound_value}
use Rattle.ix_walk.proofs.Firsts.{In, filter-in, first_ones-in}
use Rattle.ix_walk.proofs.Links.{cid_of}
use Rattle.ix_verdict.specs.declared.verdict.Verdict.TheVariants.{Inline}
use Rattle.ix_check.specs.Verdict.{verdict_with, verdict_of, passes}
use Rattle.ix_verdict.specs.Verdict.{is_sound}
use Rattle.ix_sections.specs.Writing.{header_of}
use Rattle.ix_known.specs.Known.{knows}
use Rattle.ix_known.proofs.Lists.{blocks-first}
use Rattle.ix_car.specs.Verified.{is_good}
use Rattle.ix_car.specs.Archive.{known_by}
use Rattle.ix_car.specs.Restoring.{difference_pairs, AgreesWith, skipped_cids, SkipsOnlyUnknown, IsRestoredBesideSkips}
use Rattle.ix_car.proofs.FirstSound.{refused_unsound}
use Rattle.ix_car.proofs.SoundValues.{passing-sound}
use Rattle.ix_car.proofs.Numbers.{arrivals-by}
use Rattle.ix_car.proofs.GoingOnce.{archive_by}
use Rattle.ix_car.proofs.Visited.{IsSameInside, from-same, once-same}
use Rattle.ix_car.proofs.VerifiedCids.{pruned_if, pruned, visited, archive-visited, skipped-visited}
use Rattle.ix_car.proofs.Restored.{block-right, good-cases, inline-same, good-same, Has, texts-same, new-none, first-has, last-has, all-visits}

-- what holds of all CIDs of a list holds of each
all-in : (P : List ℕ → Type 0) (c : List ℕ) (cs : List (List ℕ)) → All P cs → In c cs → P c
all-in P c [] all h = absurd h
all-in P c (x ∷ xs) all (inl e) = subst P e (All-head P x xs all)
all-in P c (x ∷ xs) all (inr i) = all-in P c xs (All-tail P x xs all) i

-- tests that agree on a list leave out the same
left-same : (p q : List ℕ → Bool) (cs : List (List ℕ)) → ((c : List ℕ) → In c cs → p c ≡ q c) → filter (λ c. not (p c)) cs ≡ filter (λ c. not (q c)) cs
left-same p q [] h = refl
left-same p q (c ∷ cs) h =
    let rest = left-same p q cs (λ e j. h e (inr j)) in
    λ i. if not (h c (inl refl) i) then c ∷ rest i else rest i

-- a list without the CID adds nothing under it
block-before : (xs ys : Blocks) (c : List ℕ) → block_of ys c ≡ None → block_of (xs ++ ys) c ≡ block_of xs c
block-before [] ys c h = h
block-before (x ∷ xs) ys c h = ap (λ o. if bytes_eq x.0 c then Some x.1 else o) (block-before xs ys c h)

-- ---- a store that is like another where it is visited

module _ (store other : Blocks) where
  -- a CID is good in both or in neither, and a sound block is the same
  record IsAlike (c : List ℕ) : Type 0 where
    good : is_good other c ≡ is_good store c
    sound : knows other c ≡ knows store c
    inside : sound_value other c ≡ sound_value store c
    block : Has store other c

  -- as it is if it is good and the other store has its sound block
  alike-good : (c : List ℕ) → is_good store c ≡ true → Has store other c → IsAlike c
  alike-good c good has =
      let same = good-same c (hash_function_of (parts_of c)) (block_of store c) (block_of other c) good has in
      record { good = ap passes same.0; sound = ap is_sound same.0; inside = same.2; block = has }

  -- nothing is expanded that isn't good
  none-inside : (blocks : Blocks) (c : List ℕ) → is_good blocks c ≡ false → sound_value blocks c ≡ None
  none-inside blocks c bad = sym (passing-sound blocks c) ∙ ap (λ b. if b then value_of blocks c else None) bad

  -- or if it is good in neither
  alike-bad : (c : List ℕ) → is_good store c ≡ false → is_good other c ≡ false → IsAlike c
  alike-bad c bad too =
      let unsound = refused_unsound (verdict_of store c) bad in record {
        good = too ∙ sym bad;
        sound = refused_unsound (verdict_of other c) too ∙ sym unsound;
        inside = none-inside other c too ∙ sym (none-inside store c bad);
        block = λ sound. absurd (let wrong : true ≡ false = sym sound ∙ unsound in cc wrong);
      }

  module _ (number : ℕ) (job : JobMeaning) (alike : (c : List ℕ) → In c (visited store job) → IsAlike c) where
    -- then the verified visits are the same
    pruned-same : pruned other job ≡ pruned store job
    pruned-same = by job.once (all-visits (λ c. sound_value other c ≡ sound_value store c) (pruned store job) (λ c i. (alike c i).inside)) where
      by : (once : Bool) → AllByRecursion (IsSameInside (is_entered job.selector) (sound_value store) (sound_value other)) (pruned_if once store job) → pruned_if once other job ≡ pruned_if once store job
      by true same = once-same (is_entered job.selector) (sound_value store) (sound_value other) (residual_at job.selector) same_residual (suc job.limit) [] (roots_from 0 job.roots) same
      by false same = from-same (is_entered job.selector) (sound_value store) (sound_value other) job.limit 0 job.roots same

    -- with link-visit-once they are all visits
    once-arrivals : job.once ≡ true → arrivals_of other job ≡ arrivals_of store job
    once-arrivals e =
        arrivals-by other job true e ∙ ap (λ b. pruned_if b other job) (sym e) ∙ pruned-same ∙ ap (λ b. pruned_if b store job) e ∙ sym (arrivals-by store job true e)

    -- so the job is restored
    restored : is_over_limit store job ≡ false → IsRestoredBesideSkips store number job other
    restored within =
        record {
          same_archive =
              archive-visited other number job
              ∙ ap (λ l. archive_by other job.roots (first_ones (map cid_of l))) pruned-same
              ∙ ap (λ l. header_of job.roots ++ l)
              (texts-same store other (first_ones (visited store job)) (λ c i. let a = alike c (first_ones-in c (visited store job) i) in (a.sound, a.block)))
              ∙ sym (archive-visited store number job);
          same_skips = λ there.
              skipped-visited other number job there
              ∙ ap (λ l. filter (λ c. not (is_good other c)) (map cid_of l)) pruned-same
              ∙ left-same (is_good other) (is_good store) (visited store job) (λ c i. (alike c i).good)
              ∙ sym (skipped-visited store number job within);
          once_within = λ e. ap (λ l. nat_lt job.limit (length l)) (once-arrivals e) ∙ within;
        }

-- ---- the difference and the base

module _ (store base : Blocks) (number : ℕ) (job : JobMeaning) (agrees : AgreesWith base store) (skips : SkipsOnlyUnknown base store number job) where
  -- the base doesn't know what is skipped
  none-known : (c : List ℕ) → In c (visited store job) → is_good store c ≡ false → knows base c ≡ false
  none-known c i bad =
      all-in (λ e. knows base e ≡ false) c (skipped_cids store number job) skips.unknown
      (subst (In c) (sym (skipped-visited store number job skips.within)) (filter-in (λ e. not (is_good store e)) c (visited store job) i (ap not bad)))

  -- so it isn't good in the base
  none-good : (c : List ℕ) → In c (visited store job) → is_good store c ≡ false → is_good base c ≡ false
  none-good c i bad = by (is_good base c) refl where
    neither : (is_sound (verdict_of base c) ≡ true) ⊎ (verdict_of base c ≡ Inline) → ⊥
    neither (inl sound) = let wrong : true ≡ false = sym sound ∙ none-known c i bad in cc wrong
    neither (inr inline) =
        let same = (inline-same c (hash_function_of (parts_of c)) (block_of base c) (block_of store c) inline).0 in
        let wrong : true ≡ false = sym (ap passes (same ∙ inline)) ∙ bad in cc wrong

    by : (b : Bool) → is_good base c ≡ b → is_good base c ≡ false
    by true good = absurd (neither (good-cases (verdict_of base c) good))
    by false isnt = isnt

  -- a store with the sound blocks that are visited, and the base's under CIDs that aren't good, is like the first
  alike : (other : Blocks) → ((c : List ℕ) → In c (visited store job) → Has store other c) → ((c : List ℕ) → is_good store c ≡ false → block_of other c ≡ block_of base c)
      → (c : List ℕ) → In c (visited store job) → IsAlike store other c
  alike other has at c i = by (is_good store c) refl where
    by : (b : Bool) → is_good store c ≡ b → IsAlike store other c
    by true good = alike-good store other c good (has c i)
    by false bad = alike-bad store other c bad (ap (λ o. passes (verdict_with c o)) (at c bad) ∙ none-good c i bad)

  -- the difference has no block under a CID that isn't good
  none-new : (c : List ℕ) → is_good store c ≡ false → block_of (difference_pairs (known_by base) store number job) c ≡ None
  none-new c bad = new-none store base number job agrees c (refused_unsound (verdict_of store c) bad)

  -- the law `DifferenceThenBaseRestoresBesideSkips`
  pub difference-first : IsRestoredBesideSkips store number job (first_copies (difference_pairs (known_by base) store number job ++ base))
  difference-first =
      let pairs : Blocks = difference_pairs (known_by base) store number job in
      let other : Blocks = first_copies (pairs ++ base) in
      restored store other number job (alike other (first-has store base number job agrees) (λ c bad. blocks-first [] (pairs ++ base) c ∙ block-right pairs base c (none-new c bad))) skips.within

  -- the law `BaseThenDifferenceRestoresBesideSkips`
  pub base-first : AreSoundCopies (first_copies base) → IsRestoredBesideSkips store number job (first_copies (base ++ difference_pairs (known_by base) store number job))
  base-first all =
      let pairs : Blocks = difference_pairs (known_by base) store number job in
      let other : Blocks = first_copies (base ++ pairs) in
      restored store other number job (alike other (last-has store base number job agrees all) (λ c bad. blocks-first [] (base ++ pairs) c ∙ block-before base pairs c (none-new c bad))) skips.within
