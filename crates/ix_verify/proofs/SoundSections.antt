-- Sections of archives are sound.
use Rattle.std.proofs.Common.{◌≡◌, ℕ, Bool, true, false, List, [], ◌∷◌, refl, sym, ◌∙◌, ap}
use Rattle.std.specs.Prelude.{Option, Some, None, map, filter, not, is_some, All, if◌then◌else◌, bytes_eq}
use Rattle.std.proofs.lemmas.List.Elements.{All-nil, All-cons, All-head, All-tail, All-filter}
use Rattle.std.proofs.lemmas.Slice.Eq.{bytes_eq-Decides}
use Rattle.ix_cid.specs.Cid.{parts_of, digest_of, hash_function_of}
use Rattle.ix_cid.specs.declared.hash_function.HashFunction.{HashFunction}
use Rattle.ix_cid.specs.declared.hash_function.HashFunction.TheVariants.{Identity, Sha2_256, Sha2_512}
use Rattle.ix_walk.specs.JobMeaning.{JobMeaning}
use Rattle.ix_store.specs.Store.{Blocks, block_of}
use Rattle.ix_walk.specs.declared.visit.Visit.{Visit}
use Rattle.ix_walk.specs.Visits.{believed, arrivals_of, visit_of, visits_from}
use Rattle.ix_walk.specs.Arrivals.{Arrival}
use Rattle.ix_verdict.specs.Verdict.{digest_by, is_sound}
use Rattle.ix_check.specs.Verdict.{has_codec, is_no_data, verdict_by, verdict_with, verdict_of}
use Rattle.ix_verdict.specs.declared.verdict.Verdict.{Verdict}
use Rattle.ix_verdict.specs.declared.verdict.Verdict.TheVariants.{Codec, Hash, Missing, Damaged, Malformed, Sound, Inline}
use Rattle.ix_car.specs.declared.sink.Delivery.{Delivery}
use Rattle.ix_car.specs.Archive.{first_sound, sections_of}
use Rattle.ix_car.specs.Verified.{judged, all_judged, number_among, verified, verified_arrivals}
use Rattle.ix_verify.specs.Judged.{verdict_by_hash, section_verdict, IsSoundSection}
use Rattle.ix_verify.specs.Written.{IsJudged}

-- where the bytes that a CID holds have a verdict, it is not Sound
not_inline : (bad : Bool) → (if bad then Malformed else Inline) ≡ Sound → ⊥
not_inline true h = cc
not_inline false h = cc

-- outside identity CIDs a section is judged as a block is, unless the codec isn't read
pub section_verdict-with : (c block : List ℕ) → ¬ (hash_function_of (parts_of c) ≡ Some Identity) → verdict_with c (Some block) ≡ (if has_codec c then section_verdict c block else Codec)
section_verdict-with c block other = on (has_codec c) (hash_function_of (parts_of c)) other where
  on : (codec : Bool) (function : Option HashFunction) → ¬ (function ≡ Some Identity)
      → (if codec then verdict_by function c (Some block) else Codec) ≡ (if codec then verdict_by_hash function c block else Codec)
  on false function other = refl
  on true None other = refl
  on true (Some Identity) other = absurd (other refl)
  on true (Some Sha2_256) other = refl
  on true (Some Sha2_512) other = refl

-- the block of a sound section has its CID's digest
pub section_verdict-digest : (c block : List ℕ) → section_verdict c block ≡ Sound → (function : HashFunction) × (hash_function_of (parts_of c) ≡ Some function) × (digest_by function block ≡ digest_of c)
section_verdict-digest c block sound = on (hash_function_of (parts_of c)) refl sound where
  equal : (f : HashFunction) (same : Bool) → bytes_eq (digest_by f block) (digest_of c) ≡ same → (if same then (if is_no_data c block then Malformed else Sound) else Damaged) ≡ Sound → digest_by f block ≡ digest_of c
  equal f true is h = (bytes_eq-Decides (digest_by f block) (digest_of c)).0 is
  equal f false is h = absurd cc

  on : (function : Option HashFunction) → hash_function_of (parts_of c) ≡ function → verdict_by_hash function c block ≡ Sound
      → (f : HashFunction) × (hash_function_of (parts_of c) ≡ Some f) × (digest_by f block ≡ digest_of c)
  on None is h = absurd cc
  on (Some f) is h = (f, is, equal f (bytes_eq (digest_by f block) (digest_of c)) refl h)

-- by the codec and the hash function
sound_by : (codec : Bool) (function : Option HashFunction) (c block : List ℕ) → (if codec then verdict_by function c (Some block) else Codec) ≡ Sound → verdict_by_hash function c block ≡ Sound
sound_by false function c block h = absurd cc
sound_by true None c block h = absurd cc
sound_by true (Some Identity) c block h = absurd (not_inline _ h)
sound_by true (Some Sha2_256) c block h = h
sound_by true (Some Sha2_512) c block h = h

pub sound-section : (store : Blocks) (c block : List ℕ) → verdict_of store c ≡ Sound → block_of store c ≡ Some block → section_verdict c block ≡ Sound
sound-section store c block sound there = sound_by (has_codec c) (hash_function_of (parts_of c)) c block (ap (verdict_with c) (sym there) ∙ sound)

-- only the verdict Sound is sound
is_sound-Sound : (v : Verdict) → is_sound v ≡ true → v ≡ Sound
is_sound-Sound Sound h = refl
is_sound-Sound Codec h = absurd cc
is_sound-Sound Hash h = absurd cc
is_sound-Sound Missing h = absurd cc
is_sound-Sound Damaged h = absurd cc
is_sound-Sound Malformed h = absurd cc
is_sound-Sound Inline h = absurd cc

-- the deliveries of arrivals have the store's verdicts, as each was judged by it
All-judged : (store : Blocks) (number : ℕ) (all arrivals : List Arrival) → All (IsJudged store) (map (λ a. judged store (visit_of store number (number_among 0 all a) a)) arrivals)
All-judged store number all [] = All-nil (IsJudged store)
All-judged store number all (a ∷ more) =
    All-cons (IsJudged store) (judged store (visit_of store number (number_among 0 all a) a)) (map (λ b. judged store (visit_of store number (number_among 0 all b) b)) more) refl (All-judged store number all more)

-- the deliveries of visits have the store's verdicts
All-judged_visits : (store : Blocks) (visits : List Visit) → All (IsJudged store) (map (judged store) visits)
All-judged_visits store [] = All-nil (IsJudged store)
All-judged_visits store (v ∷ visits) =
    All-cons (IsJudged store) (judged store v) (map (judged store) visits) refl (All-judged_visits store visits)

-- whether the job expands a CID once or not
All-verified_if : (store : Blocks) (number : ℕ) (job : JobMeaning) (once : Bool)
    → All (IsJudged store) (if once then all_judged store number job else map (λ a. judged store (visit_of store number (number_among 0 (believed store job) a) a)) (verified_arrivals store job))
All-verified_if store number job true = All-judged_visits store (visits_from store number 0 (arrivals_of store job))
All-verified_if store number job false = All-judged store number (believed store job) (verified_arrivals store job)

-- the deliveries of the verified traversal have the store's verdicts
pub All-verified : (store : Blocks) (number : ℕ) (job : JobMeaning) → All (IsJudged store) (verified store number job)
All-verified store number job = All-verified_if store number job job.once

-- the sound ones among judged deliveries have sound sections
pub All-first_sound : (store : Blocks) (ds : List Delivery) → All (IsJudged store) ds → All (IsSoundSection store) (first_sound ds)
All-first_sound store [] h = All-nil (IsSoundSection store)
All-first_sound store (d ∷ ds) h = on_verdict (is_sound d.verdict) refl (All-first_sound store ds (All-tail (IsJudged store) d ds h)) where
  on_verdict : (sound : Bool) → is_sound d.verdict ≡ sound → All (IsSoundSection store) (first_sound ds)
      → All (IsSoundSection store) (if sound then d ∷ filter (λ e. not (bytes_eq e.visit.cid d.visit.cid)) (first_sound ds) else first_sound ds)
  on_verdict true is more =
      let others = λ (e : Delivery). not (bytes_eq e.visit.cid d.visit.cid) in
      let hash_matches : d.verdict ≡ verdict_of store d.visit.cid = All-head (IsJudged store) d ds h in
      All-cons (IsSoundSection store) d (filter others (first_sound ds))
      (λ block there. sound-section store d.visit.cid block (sym hash_matches ∙ is_sound-Sound d.verdict is) there)
      (All-filter others (IsSoundSection store) (first_sound ds) more)
  on_verdict false is more = more

pub archive-sections_sound : (store : Blocks) (number : ℕ) (job : JobMeaning) → All (IsSoundSection store) (sections_of store (verified store number job))
archive-sections_sound store number job =
    All-filter (λ d. is_some (block_of store d.visit.cid)) (IsSoundSection store) (first_sound (verified store number job))
    (All-first_sound store (verified store number job) (All-verified store number job))
