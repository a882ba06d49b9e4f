-- A job under way: what its walk has left, and what was delivered of it so far.
use Rattle.std.proofs.Common.{◌≡◌, ◌⊎◌, ℕ, zero, suc, ◌<◌, ◌≤◌, false, List, [], ◌∷◌, ◌++◌, length, take, drop, map, Ok, Err, Some, None, refl, sym, ◌∙◌, ap, subst, inl, inr, arith, append_assoc, append-nil}
use Rattle.std.specs.declared.alloc.AllocError.{AllocError}
use Rattle.std.proofs.lemmas.List.{map-append, drop-map, length-map}
use Rattle.ix_walk.specs.declared.visit.Visit.{Visit}
use Rattle.ix_walk.specs.declared.fault.WalkStop.TheVariants as reasons
use Rattle.ix_store.specs.Store.{Blocks}
use Rattle.ix_walk.specs.JobMeaning.{JobMeaning}
use Rattle.ix_walk.specs.WalkLeft.{WalkLeft, GivesNext}
use Rattle.ix_walk.specs.Visits.{visits_of, is_over_limit}
use Rattle.ix_check.specs.Visits.{IsVisitOf}
use Rattle.ix_check.proofs.VisitsOf.{visit_next}
use Rattle.ix_car.specs.declared.sink.Delivery.{Delivery}
use Rattle.ix_car.specs.declared.sink.End.{End}
use Rattle.ix_car.specs.declared.sink.End.TheVariants.{Done, Limit, Memory, Write, Start}
use Rattle.ix_car.specs.Events.{Event, Calls, delivery, close, IsOpen}
use Rattle.ix_car.specs.Verified.{judged, judged_visits}
use Rattle.ix_car.specs.Faithful.{EndFits}
use Rattle.ix_pipeline.specs.declared.sink_state.SinkState.{SinkState}
use Rattle.ix_pipeline.specs.declared.sink_state.SinkState.TheVariants.{Taking, Failed}
use Rattle.ix_pipeline.specs.Progress.{end_on, Told, CanHand, Checks, HandsOn, pairs_of, IsWalked, Exports}

-- what was delivered of all deliveries, while so many visits were given
abbrev pub IsOn : SinkState → ℕ → List Delivery → List Event → List Delivery → Type 0
IsOn Taking given all events failed = (events ≡ map delivery (take given all)) × (failed ≡ [])
IsOn Failed given all events failed = (count : ℕ) × (count < given) × (events ≡ map delivery (take count all)) × (failed ≡ take 1 (drop count all))

pub record IsUnderWay (store : Blocks) (number : ℕ) (job : JobMeaning) (walk : WalkLeft) (state : SinkState) (before : List (ℕ × ℕ)) (told : Told) : Type 0 where
  pub given : ℕ
  pub within : given ≤ length (visits_of store number job)
  pub visits : walk.visits ≡ drop given (visits_of store number job)
  pub limited : walk.limited ≡ is_over_limit store job
  pub on : IsOn state given (judged_visits store number job) told.calls.events told.calls.failed
  pub pairs : told.pairs ≡ before ++ pairs_of number given

-- the list goes on with an element
take_next : {X : Type 0} → (k : ℕ) (xs : List X) (x : X) (more : List X) → drop k xs ≡ x ∷ more → take (suc k) xs ≡ take k xs ++ x ∷ []
take_next zero [] x more e = cc
take_next zero (y ∷ ys) x more e = let h : y ≡ x = cc in ap (λ z. z ∷ []) h
take_next (suc k) [] x more e = cc
take_next (suc k) (y ∷ ys) x more e = ap (λ l. y ∷ l) (take_next k ys x more e)

-- the list after one more element
drop_next : {X : Type 0} → (k : ℕ) (xs : List X) (x : X) (more : List X) → drop k xs ≡ x ∷ more → drop (suc k) xs ≡ more
drop_next zero [] x more e = cc
drop_next zero (y ∷ ys) x more e = cc
drop_next (suc k) [] x more e = cc
drop_next (suc k) (y ∷ ys) x more e = drop_next k ys x more e

-- an element after the first k is within the list
pub less_next : {X : Type 0} → (k : ℕ) (xs : List X) (x : X) (more : List X) → drop k xs ≡ x ∷ more → k < length xs
less_next zero [] x more e = cc
less_next zero (y ∷ ys) x more e = omega arith
less_next (suc k) [] x more e = cc
less_next (suc k) (y ∷ ys) x more e = let h : k < length ys = less_next k ys x more e in omega arith

-- if nothing is after the first k elements, there are no more than k
none_next : {X : Type 0} → (k : ℕ) (xs : List X) → drop k xs ≡ [] → length xs ≤ k
none_next zero [] e = omega arith
none_next zero (y ∷ ys) e = cc
none_next (suc k) [] e = omega arith
none_next (suc k) (y ∷ ys) e = let h : length ys ≤ k = none_next k ys e in omega arith

-- events of deliveries alone are open
pub open_deliveries : (ds : List Delivery) → IsOpen (map delivery ds)
open_deliveries [] = tt
open_deliveries (d ∷ ds) = open_deliveries ds

-- before its first visit
pub starts : (store : Blocks) (number : ℕ) (job : JobMeaning) (walk : WalkLeft) (before : List (ℕ × ℕ)) (told : Told)
    → walk ≡ record { visits = visits_of store number job; limited = is_over_limit store job; ended = false } → told.calls.events ≡ [] → told.calls.failed ≡ [] → told.pairs ≡ before → IsUnderWay store number job walk Taking before told
starts store number job walk before told e events failed pairs = record {
  given = 0;
  within = omega arith;
  visits = ap (λ (w : WalkLeft). w.visits) e;
  limited = ap (λ (w : WalkLeft). w.limited) e;
  on = (events, failed);
  pairs = pairs ∙ sym (append-nil before);
}

-- the sink may take a delivery
pub can_hand : (store : Blocks) (number : ℕ) (job : JobMeaning) (walk : WalkLeft) (state : SinkState) (before : List (ℕ × ℕ)) (told : Told) → IsUnderWay store number job walk state before told → CanHand state told.calls
can_hand store number job walk Taking before told u =
    (subst (λ (l : List Event). IsOpen l) (sym u.on.0) (open_deliveries (take u.given (judged_visits store number job))), u.on.1)
can_hand store number job walk Failed before told u = tt

-- how a walked job ends is known
pub walked_as : (store : Blocks) (number : ℕ) (job : JobMeaning) (before : List (ℕ × ℕ)) (told : Told) (a b : End) → a ≡ b → IsWalked store number job a before told → IsWalked store number job b before told
walked_as store number job before told a b e w = subst (λ (x : End). IsWalked store number job x before told) e w

-- what the walk has left begins with a visit
next_at : (store : Blocks) (number : ℕ) (job : JobMeaning) (walk after : WalkLeft) (state : SinkState) (before : List (ℕ × ℕ)) (told : Told) (v : Visit) (u : IsUnderWay store number job walk state before told)
    → GivesNext walk (Some (Ok v)) after → drop u.given (visits_of store number job) ≡ v ∷ after.visits
next_at store number job walk after state before told v u g = sym u.visits ∙ g.1

-- the next visit is one of the store
pub next_of_store : (store : Blocks) (number : ℕ) (job : JobMeaning) (walk after : WalkLeft) (state : SinkState) (before : List (ℕ × ℕ)) (told : Told) (v : Visit) → IsUnderWay store number job walk state before told → GivesNext walk (Some (Ok v)) after → IsVisitOf store v
next_of_store store number job walk after state before told v u g =
    let h = visit_next store number u.given job v after.visits (next_at store number job walk after state before told v u g) in h.of_store

-- a checked visit adds the next pair
pairs_more : (number k : ℕ) (before old new : List (ℕ × ℕ)) (v : Visit) → v.job ≡ number → v.seq ≡ k → old ≡ before ++ pairs_of number k → new ≡ old ++ (v.job, v.seq) ∷ [] → new ≡ before ++ pairs_of number (suc k)
pairs_more number k before old new v job seq was is =
    is
    ∙ ap (λ (l : List (ℕ × ℕ)). l ++ (v.job, v.seq) ∷ []) was
    ∙ append_assoc before (pairs_of number k) ((v.job, v.seq) ∷ [])
    ∙ ap (λ (j : ℕ). before ++ (pairs_of number k ++ (j, v.seq) ∷ [])) job
    ∙ ap (λ (s : ℕ). before ++ (pairs_of number k ++ (number, s) ∷ [])) seq

-- one delivery more
events_more : (store : Blocks) (given : ℕ) (vs : List Visit) (v : Visit) (more : List Visit) (old new : List Event) → drop given vs ≡ v ∷ more → old ≡ map delivery (take given (map (judged store) vs)) → new ≡ old ++ delivery (judged store v) ∷ [] → new ≡ map delivery (take (suc given) (map (judged store) vs))
events_more store given vs v more old new at was is =
    let all : List Delivery = map (judged store) vs in
    let there : drop given all ≡ judged store v ∷ map (judged store) more = drop-map (judged store) given vs ∙ ap (λ (l : List Visit). map (judged store) l) at in
    is
    ∙ ap (λ (l : List Event). l ++ delivery (judged store v) ∷ []) was
    ∙ sym (map-append delivery (take given all) (judged store v ∷ []))
    ∙ sym (ap (λ (l : List Delivery). map delivery l) (take_next given all (judged store v) (map (judged store) more) there))

-- the delivery at which a write failed
failed_here : (store : Blocks) (given : ℕ) (vs : List Visit) (v : Visit) (more : List Visit) (failed : List Delivery) → drop given vs ≡ v ∷ more → failed ≡ judged store v ∷ [] → failed ≡ take 1 (drop given (map (judged store) vs))
failed_here store given vs v more failed at is =
    is ∙ sym (ap (λ (l : List Delivery). take 1 l) (drop-map (judged store) given vs ∙ ap (λ (l : List Visit). map (judged store) l) at))

-- handling the next visit keeps the state of a job that is under way
pub on_next : (store : Blocks) (given : ℕ) (vs : List Visit) (v : Visit) (more : List Visit) (state after : SinkState) (told new : Told)
    → drop given vs ≡ v ∷ more → IsOn state given (map (judged store) vs) told.calls.events told.calls.failed → HandsOn store v state told (Ok after) new → IsOn after (suc given) (map (judged store) vs) new.calls.events new.calls.failed
on_next store given vs v more Taking Taking told new at on h = (events_more store given vs v more told.calls.events new.calls.events at on.0 h.0, h.1)
on_next store given vs v more Taking Failed told new at on h = (given, omega arith, h.0 ∙ on.0, failed_here store given vs v more new.calls.failed at h.1)
on_next store given vs v more Failed Taking told new at on h = absurd h
on_next store given vs v more Failed Failed told new at on h = (on.0, (let lt : on.0 < given = on.1 in omega arith), h.0 ∙ on.2, h.1 ∙ on.3)

checks_of : (store : Blocks) (v : Visit) (state after : SinkState) (told new : Told) → HandsOn store v state told (Ok after) new → Checks v told new
checks_of store v Taking Taking told new h = h.2
checks_of store v Taking Failed told new h = h.2
checks_of store v Failed Taking told new h = absurd h
checks_of store v Failed Failed told new h = h.2

-- one visit further
pub hands : (store : Blocks) (number : ℕ) (job : JobMeaning) (walk left : WalkLeft) (state after : SinkState) (before : List (ℕ × ℕ)) (told new : Told) (v : Visit)
    → IsUnderWay store number job walk state before told → GivesNext walk (Some (Ok v)) left → HandsOn store v state told (Ok after) new → IsUnderWay store number job left after before new
hands store number job walk left state after before told new v u g h =
    let at = next_at store number job walk left state before told v u g in
    let is = visit_next store number u.given job v left.visits at in
    record {
      given = suc u.given;
      within = (let lt : u.given < length (visits_of store number job) = less_next u.given (visits_of store number job) v left.visits at in omega arith);
      visits = sym (drop_next u.given (visits_of store number job) v left.visits at);
      limited = g.2 ∙ u.limited;
      on = on_next store u.given (visits_of store number job) v left.visits state after told new at u.on h;
      pairs = pairs_more number u.given before told.pairs new.pairs v is.job is.seq u.pairs (checks_of store v state after told new h);
    }

-- lack of memory ends a job that is under way
pub on_memory : (store : Blocks) (number : ℕ) (job : JobMeaning) (state : SinkState) (given checks : ℕ) (before : List (ℕ × ℕ)) (new : Told)
    → IsOn state given (judged_visits store number job) new.calls.events new.calls.failed → given ≤ checks → checks ≤ length (visits_of store number job) → new.pairs ≡ before ++ pairs_of number checks → IsWalked store number job Memory before new
on_memory store number job Taking given checks before new on more within pairs = record {
  count = given;
  checks = checks;
  delivered = more;
  within = within;
  events = on.0;
  fits = inl on.1;
  pairs = pairs;
  all = λ (n : Memory ≡ Memory → ⊥). absurd (n refl);
  started = λ (e : Memory ≡ Start). cc;
}
on_memory store number job Failed given checks before new on more within pairs = record {
  count = on.0;
  checks = checks;
  delivered = (let lt : on.0 < given = on.1 in omega arith);
  within = within;
  events = on.2;
  fits = inr on.3;
  pairs = pairs;
  all = λ (n : Memory ≡ Memory → ⊥). absurd (n refl);
  started = λ (e : Memory ≡ Start). cc;
}

-- the walk finds no memory
pub stops : (store : Blocks) (number : ℕ) (job : JobMeaning) (walk : WalkLeft) (state : SinkState) (before : List (ℕ × ℕ)) (told : Told) → IsUnderWay store number job walk state before told → IsWalked store number job Memory before told
stops store number job walk state before told u = on_memory store number job state u.given u.given before told u.on (omega arith) u.within u.pairs

-- a visit that can't be handled for lack of memory changes nothing that was delivered
none_of : (store : Blocks) (v : Visit) (state : SinkState) (told new : Told) (e : AllocError) → HandsOn store v state told (Err e) new → (new.calls.events ≡ told.calls.events) × (new.calls.failed ≡ told.calls.failed) × ((new.pairs ≡ told.pairs) ⊎ Checks v told new)
none_of store v Taking told new e h = h
none_of store v Failed told new e h = h

-- the state depends only on the events and the failed deliveries
pub on_same : (state : SinkState) (given : ℕ) (all : List Delivery) (told new : Told) → new.calls.events ≡ told.calls.events → new.calls.failed ≡ told.calls.failed → IsOn state given all told.calls.events told.calls.failed → IsOn state given all new.calls.events new.calls.failed
on_same Taking given all told new events failed on = (events ∙ on.0, failed ∙ on.1)
on_same Failed given all told new events failed on = (on.0, on.1, events ∙ on.2, failed ∙ on.3)

-- a visit can't be handed on for lack of memory
pub hands_none : (store : Blocks) (number : ℕ) (job : JobMeaning) (walk left : WalkLeft) (state : SinkState) (before : List (ℕ × ℕ)) (told new : Told) (v : Visit) (e : AllocError)
    → IsUnderWay store number job walk state before told → GivesNext walk (Some (Ok v)) left → HandsOn store v state told (Err e) new → IsWalked store number job Memory before new
hands_none store number job walk left state before told new v e u g h =
    let at = next_at store number job walk left state before told v u g in
    let is = visit_next store number u.given job v left.visits at in
    let none = none_of store v state told new e h in
    let on = on_same state u.given (judged_visits store number job) told new none.0 none.1 u.on in
    elim none.2 [
      | inl same ↦ on_memory store number job state u.given u.given before new on (omega arith) u.within (same ∙ u.pairs)
      | inr more ↦
          on_memory store number job state u.given (suc u.given) before new on (omega arith)
          (let lt : u.given < length (visits_of store number job) = less_next u.given (visits_of store number job) v left.visits at in omega arith)
          (pairs_more number u.given before told.pairs new.pairs v is.job is.seq u.pairs more)
    ]

-- the walk has given all
pub on_end : (store : Blocks) (number : ℕ) (job : JobMeaning) (state : SinkState) (end : End) (given : ℕ) (before : List (ℕ × ℕ)) (told : Told)
    → IsOn state given (judged_visits store number job) told.calls.events told.calls.failed → given ≡ length (visits_of store number job) → told.pairs ≡ before ++ pairs_of number given
    → ((m : ℕ) → m ≡ length (judged_visits store number job) → told.calls.failed ≡ [] → EndFits end m (judged_visits store number job) (is_over_limit store job) told.calls.failed)
    → (end ≡ Start → ⊥) → IsWalked store number job (end_on state end) before told
on_end store number job Taking end given before told on at pairs fits started = record {
  count = given;
  checks = given;
  delivered = omega arith;
  within = omega arith;
  events = on.0;
  fits = fits given (at ∙ sym (length-map (visits_of store number job) (judged store))) on.1;
  pairs = pairs;
  all = λ (n : end ≡ Memory → ⊥). at;
  started = started;
}
on_end store number job Failed end given before told on at pairs fits started = record {
  count = on.0;
  checks = given;
  delivered = (let lt : on.0 < given = on.1 in omega arith);
  within = omega arith;
  events = on.2;
  fits = ((let lt : on.0 < given = on.1 in omega (arith, length-map (visits_of store number job) (judged store))), on.3);
  pairs = pairs;
  all = λ (n : Write ≡ Memory → ⊥). at;
  started = λ (e : Write ≡ Start). cc;
}

all_given : (store : Blocks) (number : ℕ) (job : JobMeaning) (walk : WalkLeft) (state : SinkState) (before : List (ℕ × ℕ)) (told : Told) (u : IsUnderWay store number job walk state before told) → walk.visits ≡ [] → u.given ≡ length (visits_of store number job)
all_given store number job walk state before told u none =
    let past : length (visits_of store number job) ≤ u.given = none_next u.given (visits_of store number job) (sym u.visits ∙ none) in
    let within : u.given ≤ length (visits_of store number job) = u.within in
    omega arith

-- the walk has ended
pub walk-ends : (store : Blocks) (number : ℕ) (job : JobMeaning) (walk left : WalkLeft) (state : SinkState) (before : List (ℕ × ℕ)) (told : Told) → IsUnderWay store number job walk state before told → GivesNext walk None left → IsWalked store number job (end_on state Done) before told
walk-ends store number job walk left state before told u g =
    on_end store number job state Done u.given before told u.on (all_given store number job walk state before told u g.0) u.pairs
    (λ (m : ℕ) all failed. (all, sym u.limited ∙ g.1, failed)) (λ (e : Done ≡ Start). cc)

-- the walk has reached its limit
pub limits : (store : Blocks) (number : ℕ) (job : JobMeaning) (walk left : WalkLeft) (state : SinkState) (before : List (ℕ × ℕ)) (told : Told) → IsUnderWay store number job walk state before told → GivesNext walk (Some (Err reasons.Limit)) left → IsWalked store number job (end_on state Limit) before told
limits store number job walk left state before told u g =
    on_end store number job state Limit u.given before told u.on (all_given store number job walk state before told u g.1) u.pairs
    (λ (m : ℕ) all failed. (all, sym u.limited ∙ g.2, failed)) (λ (e : Limit ≡ Start). cc)

-- the sink of a walked job may be closed
pub open_walked : (store : Blocks) (number : ℕ) (job : JobMeaning) (end : End) (before : List (ℕ × ℕ)) (told : Told) → IsWalked store number job end before told → IsOpen told.calls.events
open_walked store number job end before told w = subst (λ (l : List Event). IsOpen l) (sym w.events) (open_deliveries (take w.count (judged_visits store number job)))

-- a walked job is exported once its sink is closed
pub closes : (store : Blocks) (number : ℕ) (job : JobMeaning) (end : End) (before : List (ℕ × ℕ)) (told : Told) (got : Calls) (pairs : List (ℕ × ℕ))
    → IsWalked store number job end before told → got.events ≡ told.calls.events ++ close end ∷ [] → got.failed ≡ told.calls.failed → pairs ≡ told.pairs → Exports store number job end got before pairs
closes store number job end before told got pairs w closed same checked = (
  w.checks,
  record {
    faithful = record {
      count = w.count;
      within = (let a : w.count ≤ w.checks = w.delivered in let b : w.checks ≤ length (visits_of store number job) = w.within in omega (arith, length-map (visits_of store number job) (judged store)));
      told = closed ∙ ap (λ (l : List Event). l ++ close end ∷ []) w.events;
      fits = subst (λ (f : List Delivery). EndFits end w.count (judged_visits store number job) (is_over_limit store job) f) (sym same) w.fits;
    };
    delivered = w.delivered;
    within = w.within;
    all = w.all;
    started = w.started;
  },
  checked ∙ w.pairs,
)
