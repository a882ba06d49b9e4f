-- Sections as they are received: each at the next visit of a CID that was not visited before.
use Rattle.std.specs.Prelude.{◌≡◌, ℕ, suc, ◌≤◌, true, false, not, List, [], ◌∷◌, ◌++◌, Some, None, is_some, filter, flat_map}
use Rattle.std.specs.List.{AllByRecursion, Contains}
use Rattle.ix_selector.specs.IsEntered.{is_entered}
use Rattle.ix_selector.specs.Behind.{residual_at, same_residual}
use Rattle.ix_verdict.specs.Verdict.{verdict_with, is_sound}
use Rattle.ix_store.specs.Store.{Blocks, has_cid, block_of}
use Rattle.ix_walk.specs.JobMeaning.{JobMeaning}
use Rattle.ix_walk.specs.Arrivals.{Arrival}
use Rattle.ix_walk.specs.Visits.{is_over_limit}
use Rattle.ix_walk.specs.Once.{cids_of, first_ones, once_from, sound_value}
use Rattle.ix_car.specs.Archive.{Known}
use Rattle.ix_known.specs.Known.{knows}
use Rattle.ix_car.specs.Restoring.{pair_with}
use Rattle.ix_car.specs.Laws.{once}
use Rattle.ix_receive.specs.Own.{base_known, AreTheirOwnWith}

-- the first visits of a job with link-visit-once over a store, so many of them
abbrev pub first_visits : ℕ → JobMeaning → Blocks → List Arrival
first_visits n job store =
    once_from (is_entered job.selector) (residual_at job.selector) same_residual (sound_value store) n job.roots

-- those of these CIDs that aren't known
abbrev pub new_cids : Known → List (List ℕ) → List (List ℕ)
new_cids None cids = cids
new_cids (Some known) cids = filter (λ c. not (known c)) cids

-- the sections of the sound ones of these CIDs that a base doesn't have, each at its first occurrence
abbrev pub new_sections_at : Blocks → Blocks → List (List ℕ) → Blocks
new_sections_at base store cids =
    flat_map (λ c. pair_with c (block_of store c))
    (filter (λ c. is_some (block_of store c)) (filter (knows store) (new_cids (base_known base) (first_ones cids))))

-- The sections are received after so many visits: each is sound by itself, and they are those of the CIDs of these visits that the
-- base doesn't have, in their order. The visits are over the base and the sections.
pub record AreReceived (base : Blocks) (n : ℕ) (job : JobMeaning) (sections : Blocks) : Type 0 where
  pub sound : AllByRecursion (λ p. is_sound (verdict_with p.0 (Some p.1)) ≡ true) sections
  pub visited : new_sections_at base (base ++ sections) (cids_of (first_visits n job (base ++ sections))) ≡ sections

-- after so many visits over the base and the sections before it, a section may be next: it is sound by itself, the base doesn't
-- have its CID, this is that of the next visit, and none of these visits had it
pub record IsNextSection (base : Blocks) (n : ℕ) (job : JobMeaning) (sections : Blocks) (p : List ℕ × List ℕ) : Type 0 where
  pub sound : is_sound (verdict_with p.0 (Some p.1)) ≡ true
  pub outside : has_cid base p.0 ≡ false
  pub visit : Arrival
  pub next : first_visits (suc n) job (base ++ sections) ≡ first_visits n job (base ++ sections) ++ visit ∷ []
  pub named : visit.cid ≡ p.0
  pub first : Contains (cids_of (first_visits n job (base ++ sections))) p.0 → ⊥

-- no section is received before the first visit
abbrev pub NoneIsReceived : Type 0
NoneIsReceived = (base : Blocks) (job : JobMeaning) → AreReceived base 0 job []

-- sections that are received stay so, however many visits follow
abbrev pub ReceivedStay : Type 0
ReceivedStay =
    (base : Blocks) (n m : ℕ) (job : JobMeaning) (sections : Blocks) → n ≤ m → AreReceived base n job sections
    → AreReceived base m job sections

-- the next section is received at its visit, and changes none of the visits before it
abbrev pub NextIsReceived : Type 0
NextIsReceived =
    (base : Blocks) (n : ℕ) (job : JobMeaning) (sections : Blocks) (p : List ℕ × List ℕ) → AreReceived base n job sections
    → IsNextSection base n job sections p
    → AreReceived base (suc n) job (sections ++ p ∷ [])
    × (first_visits (suc n) job (base ++ (sections ++ p ∷ [])) ≡ first_visits (suc n) job (base ++ sections))

-- sections that are received are their own, if the job is within its limit over the base and them
abbrev pub ReceivedAreTheirOwn : Type 0
ReceivedAreTheirOwn =
    (base : Blocks) (n number : ℕ) (job : JobMeaning) (sections : Blocks) → n ≤ suc job.limit → AreReceived base n job sections
    → is_over_limit (base ++ sections) (once job) ≡ false → AreTheirOwnWith base number (once job) sections

-- of sections that are their own, those before each one are received, and it is next, at a visit within the limit
abbrev pub OwnAreReceived : Blocks → Type 0
OwnAreReceived base =
    (number : ℕ) (job : JobMeaning) (before after : Blocks) (p : List ℕ × List ℕ)
    → AreTheirOwnWith base number (once job) (before ++ p ∷ after)
    → (n : ℕ) × (suc n ≤ job.limit) × AreReceived base n job before × IsNextSection base n job before p
