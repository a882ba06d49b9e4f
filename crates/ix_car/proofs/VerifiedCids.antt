-- What the verified traversal visits, whether a job expands a CID once or at every link.
use Rattle.std.proofs.Common.{◌≡◌, ℕ, Bool, true, false, not, List, [], ◌∷◌, map, filter, refl, ap, ◌∙◌}
use Rattle.std.specs.Prelude.{if◌then◌else◌}
use Rattle.ix_selector.specs.IsEntered.{is_entered}
use Rattle.ix_selector.specs.Behind.{residual_at, same_residual}
use Rattle.ix_store.specs.Store.{Blocks}
use Rattle.ix_walk.specs.JobMeaning.{JobMeaning}
use Rattle.ix_walk.specs.Arrivals.{Arrival, arrivals_from}
use Rattle.ix_walk.specs.Visits.{believed, arrivals_of, visit_of, is_over_limit}
use Rattle.ix_walk.specs.Once.{first_ones, sound_value, once_arrivals}
use Rattle.ix_walk.proofs.Links.{cid_of}
use Rattle.ix_check.specs.Verdict.{passes}
use Rattle.ix_car.specs.declared.sink.Delivery.{Delivery}
use Rattle.ix_car.specs.declared.archive.Skip.{Skip}
use Rattle.ix_car.specs.Verified.{is_good, verified_arrivals, number_among, judged, all_judged, verified}
use Rattle.ix_car.specs.Archive.{archive_of}
use Rattle.ix_car.specs.Restoring.{skipped_cids}
use Rattle.ix_car.proofs.FirstSound.{skips_in}
use Rattle.ix_car.proofs.Numbers.{arrivals-by, kept-verified}
use Rattle.ix_car.proofs.GoingOnce.{cid_told, AreJudged, archive_by, archive-cids, visits-cids, visits-judged, numbered-cids, numbered-judged, verified-sound}

-- the visits of the verified traversal, by whether it expands a CID once
abbrev pub pruned_if : Bool → Blocks → JobMeaning → List Arrival
pruned_if once store job = if once then once_arrivals store job (residual_at job.selector) same_residual else arrivals_from (is_entered job.selector) (sound_value store) job.limit 0 job.roots

-- and of a job
abbrev pub pruned : Blocks → JobMeaning → List Arrival
pruned store job = pruned_if job.once store job

-- their CIDs
abbrev pub visited : Blocks → JobMeaning → List (List ℕ)
visited store job = map cid_of (pruned store job)

-- the CID of a skip
abbrev cid_skipped : Skip → List ℕ
cid_skipped s = s.cid

-- the CIDs of the deliveries that don't pass are those that aren't good
failed-cids : (store : Blocks) (ds : List Delivery) → AreJudged store ds → map cid_skipped (skips_in ds) ≡ filter (λ c. not (is_good store c)) (map cid_told ds)
failed-cids store [] h = refl
failed-cids store (d ∷ ds) h =
    let left : Bool → List Delivery = λ b. if not b then d ∷ filter (λ e. not (passes e.verdict)) ds else filter (λ e. not (passes e.verdict)) ds in
    ap (λ v. map cid_skipped (map (λ e. record { seq = e.visit.seq; cid = e.visit.cid; verdict = e.verdict }) (left (passes v)))) h.0
    ∙ elim (is_good store d.visit.cid) as (λ b. map cid_skipped (map (λ e. record { seq = e.visit.seq; cid = e.visit.cid; verdict = e.verdict }) (if not b then d ∷ filter (λ e. not (passes e.verdict)) ds else filter (λ e. not (passes e.verdict)) ds))
    ≡ (if not b then d.visit.cid ∷ filter (λ c. not (is_good store c)) (map cid_told ds) else filter (λ c. not (is_good store c)) (map cid_told ds)))
    [ true ↦ failed-cids store ds h.1 | false ↦ ap (λ l. d.visit.cid ∷ l) (failed-cids store ds h.1) ]

module _ (store : Blocks) (number : ℕ) (job : JobMeaning) where
  -- the number of a visit
  abbrev number_of : Arrival → ℕ
  number_of = number_among 0 (believed store job)

  -- the verified deliveries, by whether a CID is expanded once
  abbrev verified_if : Bool → List Delivery
  verified_if once = if once then all_judged store number job else map (λ a. judged store (visit_of store number (number_of a) a)) (verified_arrivals store job)

  -- their CIDs
  pub verified-cids : map cid_told (verified store number job) ≡ visited store job
  verified-cids = by job.once refl where
    by : (once : Bool) → job.once ≡ once → map cid_told (verified_if once) ≡ map cid_of (pruned_if once store job)
    by true e = visits-cids store number 0 (arrivals_of store job) ∙ ap (map cid_of) (arrivals-by store job true e)
    by false e = numbered-cids store number number_of (verified_arrivals store job) ∙ ap (map cid_of) (verified-sound store job)

  -- they have the store's verdicts
  pub verified-judged : AreJudged store (verified store number job)
  verified-judged = by job.once where
    by : (once : Bool) → AreJudged store (verified_if once)
    by true = visits-judged store number 0 (arrivals_of store job)
    by false = numbered-judged store number number_of (verified_arrivals store job)

  -- so the archive is of these CIDs
  pub archive-visited : archive_of store number job ≡ archive_by store job.roots (first_ones (visited store job))
  archive-visited = archive-cids store job.roots (verified store number job) verified-judged ∙ ap (λ l. archive_by store job.roots (first_ones l)) verified-cids

  -- and those that are skipped are those of them that aren't good
  pub skipped-visited : is_over_limit store job ≡ false → skipped_cids store number job ≡ filter (λ c. not (is_good store c)) (visited store job)
  skipped-visited within =
      ap (λ ks. map cid_skipped (skips_in ks)) (kept-verified store number job within) ∙ failed-cids store (verified store number job) verified-judged
      ∙ ap (filter (λ c. not (is_good store c))) verified-cids
