-- The walk of a job, visit by visit.
use Rattle.std.proofs.Common.{◌≡◌, ℕ, ◌+◌, ◌≤◌, Bool, true, false, not, ◌&&◌, ◌||◌, List, [], ◌∷◌, ◌++◌, length, drop, filter, map, refl, sym, ◌∙◌, ap, subst, arith}
use Rattle.std.specs.Prelude.{Some, Ok, Err, Result, if◌then◌else◌}
use Rattle.ix_cid.proofs.Lists.{next_at}
use Rattle.ix_walk.specs.declared.visit.Visit.{Visit}
use Rattle.ix_walk.specs.declared.fault.WalkStop.{WalkStop}
use Rattle.ix_walk.specs.declared.fault.WalkStop.TheVariants.{Limit}
use Rattle.ix_store.specs.Store.{Blocks}
use Rattle.ix_walk.specs.JobMeaning.{JobMeaning}
use Rattle.ix_walk.specs.WalkLeft.{WalkLeft, GivesNext}
use Rattle.ix_walk.specs.Visits.{visits_of, is_over_limit, whole_walk}
use Rattle.ix_verdict.specs.declared.verdict.Verdict.{Verdict}
use Rattle.ix_verdict.specs.declared.verdict.Verdict.TheVariants.{Codec, Hash, Missing, Damaged, Malformed, Sound, Inline}
use Rattle.ix_check.specs.Verdict.{verdict_of, passes}
use Rattle.ix_check.specs.Visits.{IsVisitOf}
use Rattle.ix_check.proofs.VisitsOf.{visit_next}
use Rattle.ix_car.specs.Verified.{judged}
use Rattle.ix_car.specs.declared.archive.Skip.{Skip}
use Rattle.ix_car.specs.declared.sink.Delivery.{Delivery}
use Rattle.ix_verify.specs.declared.noted.Noted.{Noted}
use Rattle.ix_verify.specs.Outcome.{link_finding}
use Rattle.ix_verify.specs.Noting.{IsNoted, NotesMore}
use Rattle.ix_verdict.specs.Verdict.{is_missing}
use Rattle.ix_verify.specs.Found.{skip_of, is_absent, skips_below, absent_below, IsWalkOf}
use Rattle.ix_verify.specs.Walked.{skip_at, absent_at}
use Rattle.ix_verify.proofs.Notes.{AreNoted, noted-none, noted-more, noted-all}

-- what is reported of visits, and how much is absent
abbrev pub skips_in : (List ℕ → Bool) → Blocks → List Visit → List Skip
skips_in lack store vs = map skip_of (filter (λ d. not (passes d.verdict || is_absent lack d)) (map (judged store) vs))

abbrev pub absent_in : (List ℕ → Bool) → Blocks → List Visit → ℕ
absent_in lack store vs = length (filter (is_absent lack) (map (judged store) vs))

-- of the first, and then of the others
skips-cons : (lack : List ℕ → Bool) (store : Blocks) (v : Visit) (vs : List Visit) → skips_in lack store (v ∷ vs) ≡ skip_at lack store v ++ skips_in lack store vs
skips-cons lack store v vs = on_pass (passes (verdict_of store v.cid) || is_absent lack (judged store v)) where
  others : List Delivery
  others = filter (λ d. not (passes d.verdict || is_absent lack d)) (map (judged store) vs)

  on_pass : (pass : Bool) → map skip_of (if not pass then judged store v ∷ others else others) ≡ (if pass then [] else skip_of (judged store v) ∷ []) ++ map skip_of others
  on_pass true = refl
  on_pass false = refl

absent-cons : (lack : List ℕ → Bool) (store : Blocks) (v : Visit) (vs : List Visit) → absent_in lack store (v ∷ vs) ≡ absent_at lack store v + absent_in lack store vs
absent-cons lack store v vs = on_lack (is_absent lack (judged store v)) where
  others : List Delivery
  others = filter (is_absent lack) (map (judged store) vs)

  on_lack : (lacks : Bool) → length (if lacks then judged store v ∷ others else others) ≡ (if lacks then 1 else 0) + length others
  on_lack true = omega arith
  on_lack false = omega arith

-- at most one at a visit
absent-few : (lack : List ℕ → Bool) (store : Blocks) (v : Visit) → absent_at lack store v ≤ 1
absent-few lack store v = on_lack (is_absent lack (judged store v)) where
  on_lack : (lacks : Bool) → (if lacks then 1 else 0) ≤ 1
  on_lack true = omega arith
  on_lack false = omega arith

-- ---- a visit

-- what passes is there
passes-there : (v : Verdict) → passes v ≡ true → is_missing v ≡ false
passes-there Codec h = refl
passes-there Hash h = refl
passes-there Missing h = absurd cc
passes-there Damaged h = refl
passes-there Malformed h = refl
passes-there Sound h = refl
passes-there Inline h = refl

either-way : (pass : Bool) → (pass || true) ≡ true
either-way true = refl
either-way false = refl

module _ (lack : List ℕ → Bool) (store : Blocks) (visit : Visit) (v : Verdict) (is : v ≡ verdict_of store visit.cid) where
  -- one whose verdict is good isn't absent
  pub passing-absent : passes v ≡ true → absent_at lack store visit ≡ 0
  passing-absent pass =
      ap (λ (t : Bool). if t && lack visit.cid then 1 else 0) (ap is_missing (sym is) ∙ passes-there v pass)

  -- one that is absent isn't reported
  pub lacking-skip : (is_missing v && lack visit.cid) ≡ true → skip_at lack store visit ≡ []
  lacking-skip lacks =
      ap (λ (t : Bool). if passes (verdict_of store visit.cid) || t then [] else skip_of (judged store visit) ∷ []) (ap (λ (w : Verdict). is_missing w && lack visit.cid) (sym is) ∙ lacks)
      ∙ ap (λ (t : Bool). if t then [] else skip_of (judged store visit) ∷ []) (either-way (passes (verdict_of store visit.cid)))

  -- it is counted, and no other
  pub counts-absent : (t : Bool) → (is_missing v && lack visit.cid) ≡ t → absent_at lack store visit ≡ (if t then 1 else 0)
  counts-absent t lacks = ap (λ (u : Bool). if u then 1 else 0) (ap (λ (w : Verdict). is_missing w && lack visit.cid) (sym is) ∙ lacks)

  -- any other is reported
  pub other-skip : passes v ≡ false → (is_missing v && lack visit.cid) ≡ false → record { seq = visit.seq; cid = visit.cid; verdict = v } ∷ [] ≡ skip_at lack store visit
  other-skip fails there =
      let report : Verdict → List Skip = λ w. record { seq = visit.seq; cid = visit.cid; verdict = w } ∷ [] in
      let neither : (passes (verdict_of store visit.cid) || is_absent lack (judged store visit)) ≡ false =
      ap (λ (w : Verdict). passes w || (is_missing w && lack visit.cid)) (sym is) ∙ ap (λ (t : Bool). t || (is_missing v && lack visit.cid)) fails ∙ there in
      ap report is ∙ sym (ap (λ (t : Bool). if t then [] else skip_of (judged store visit) ∷ []) neither)

-- ---- the walk

-- what a walk gives next is a visit, or that there are more
pub gives-visit : (walk left : WalkLeft) (r : Result Visit WalkStop) (v : Visit) → GivesNext walk (Some r) left → r ≡ Ok v → GivesNext walk (Some (Ok v)) left
gives-visit walk left r v gives is = subst (λ (x : Result Visit WalkStop). GivesNext walk (Some x) left) is gives

pub gives-limit : (walk left : WalkLeft) (r : Result Visit WalkStop) → GivesNext walk (Some r) left → r ≡ Err Limit → GivesNext walk (Some (Err Limit)) left
gives-limit walk left r gives is = subst (λ (x : Result Visit WalkStop). GivesNext walk (Some x) left) is gives

-- So many visits were given, what is reported of them was noted, and what is absent was counted.
pub record IsOnWalk (lack : List ℕ → Bool) (store : Blocks) (job : JobMeaning) (most : ℕ) (walk : WalkLeft) (start skips : Noted Skip) (absent : ℕ) : Type 0 where
  pub given : ℕ
  pub visits : walk.visits ≡ drop given (visits_of store 0 job)
  pub limited : walk.limited ≡ is_over_limit store job
  pub noted : AreNoted link_finding most (skips_below lack store job) (skips_in lack store walk.visits) start skips
  pub few : skips.count ≤ given
  pub lacking : absent + absent_in lack store walk.visits ≡ absent_below lack store job
  pub lacking-few : absent ≤ given

module _ (lack : List ℕ → Bool) (store : Blocks) (job : JobMeaning) (most : ℕ) (start : Noted Skip) where
  pub walk-starts : (walk : WalkLeft) → walk ≡ whole_walk store 0 job → start.count ≡ 0 → IsOnWalk lack store job most walk start start 0
  walk-starts walk is none = record {
    given = 0;
    visits = ap (λ (w : WalkLeft). w.visits) is;
    limited = ap (λ (w : WalkLeft). w.limited) is;
    noted =
        subst (λ (vs : List Visit). AreNoted link_finding most (skips_below lack store job) (skips_in lack store vs) start start) (sym (ap (λ (w : WalkLeft). w.visits) is))
        (noted-none link_finding most (skips_below lack store job) start);
    few = omega (arith, none);
    lacking = omega (arith, ap (λ (w : WalkLeft). absent_in lack store w.visits) is);
    lacking-few = omega arith;
  }

  -- the next visit is one of the store, and no more was noted or absent than visits were given
  pub next-visit : (walk after : WalkLeft) (skips : Noted Skip) (absent : ℕ) (v : Visit) → IsOnWalk lack store job most walk start skips absent → GivesNext walk (Some (Ok v)) after
      → IsVisitOf store v × ((skips.count ≤ v.seq) × (absent ≤ v.seq))
  next-visit walk after skips absent v on gives =
      let at = visit_next store 0 on.given job v after.visits (sym on.visits ∙ gives.1) in (at.of_store, (omega (arith, on.few, at.seq), omega (arith, on.lacking-few, at.seq)))

  -- a visit further
  pub walk-on : (walk after : WalkLeft) (skips new : Noted Skip) (absent lacked : ℕ) (v : Visit) → IsOnWalk lack store job most walk start skips absent → GivesNext walk (Some (Ok v)) after
      → NotesMore link_finding most (skip_at lack store v) skips new → lacked ≡ absent + absent_at lack store v → IsOnWalk lack store job most after start new lacked
  walk-on walk after skips new absent lacked v on gives more counted = record {
    given = on.given + 1;
    visits = sym (next_at (visits_of store 0 job) after.visits on.given v (sym on.visits ∙ gives.1)).1;
    limited = gives.2 ∙ on.limited;
    noted =
        noted-more link_finding most (skips_below lack store job) (skip_at lack store v) (skips_in lack store after.visits) start skips new
        (subst (λ (l : List Skip). AreNoted link_finding most (skips_below lack store job) l start skips) (ap (skips_in lack store) gives.1 ∙ skips-cons lack store v after.visits) on.noted) more;
    few = omega (arith, on.few, more.few, one-at-most (passes (verdict_of store v.cid) || is_absent lack (judged store v)));
    lacking = omega (arith, counted, on.lacking, ap (absent_in lack store) gives.1, absent-cons lack store v after.visits);
    lacking-few = omega (arith, counted, on.lacking-few, absent-few lack store v);
  } where
    one-at-most : (pass : Bool) → length {A = Skip} (if pass then [] else skip_of (judged store v) ∷ []) ≤ 1
    one-at-most true = omega arith
    one-at-most false = omega arith

  -- where no visit is left, all was noted, and whether there are more than the limit is known
  pub walk-through : (walk : WalkLeft) (skips : Noted Skip) (absent : ℕ) (over : Bool) → IsNoted link_finding most [] start → IsOnWalk lack store job most walk start skips absent → walk.visits ≡ [] → walk.limited ≡ over
      → IsWalkOf lack store job most skips absent over
  walk-through walk skips absent over none on left limited = record {
    skipped = (noted-all link_finding most (skips_below lack store job) (skips_in lack store walk.visits) start skips (ap (skips_in lack store) left) on.noted).noted [] none;
    lacking = omega (arith, on.lacking, ap (absent_in lack store) left);
    unfinished = sym limited ∙ on.limited;
  }
