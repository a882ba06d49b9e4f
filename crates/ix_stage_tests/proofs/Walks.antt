-- The seats of a new queue, and what a seat puts next of a walk.
use Rattle.std.proofs.Common.{◌≡◌, ◌<◌, ◌+◌, ℕ, List, Some, Ok, map, replicate, length, drop, slice_get, All, refl, sym, ap, subst, ◌∙◌, eq-eqb, arith}
use Rattle.std.proofs.lemmas.List.Elements.{All-map, All-replicate}
use Rattle.std.proofs.lemmas.Option.{slice_get_within}
use Rattle.ix_cid.proofs.Lists.{next_at}
use Rattle.ix_store.specs.Store.{Blocks}
use Rattle.ix_walk.specs.declared.visit.Visit.{Visit}
use Rattle.ix_walk.specs.JobMeaning.{JobMeaning}
use Rattle.ix_walk.specs.WalkLeft.{WalkLeft, GivesNext}
use Rattle.ix_car.specs.declared.sink.End.{End}
use Rattle.ix_walk.specs.Visits.{whole_walk}
use Rattle.ix_stages.specs.Course.{course_of, course_visits, course_over}
use Rattle.ix_stages.specs.CourseLaws.{IsSized, HasVisits, HasOver, AllowsVisits}
use Rattle.ix_stages.specs.Good.{IsCloseOf}
use Rattle.ix_stages.specs.declared.course.JobVisits.{JobVisits}
use Rattle.ix_stages.specs.declared.item.Item.TheVariants as item
use Rattle.ix_stages.specs.declared.queue.VisitQueue.{VisitQueue}
use Rattle.ix_stages.specs.Queue.{table_of}
use Rattle.ix_stages.specs.Seats.{JobView, IsNext, new_job, new_taker}
use Rattle.ix_stage_tests.specs.Walkers.{CanWalk, HasLeft, IsLeft, IsTaker}

-- new seats can walk, as each has put nothing
pub new_jobs-walk : (queue : VisitQueue) (course : List JobVisits) (all : ℕ) (numbers : List ℕ) → All (CanWalk queue course) (map (new_job (table_of queue) course all) numbers)
new_jobs-walk queue course all numbers = All-map (CanWalk queue course) (new_job (table_of queue) course all) numbers (λ k d lt. (refl, refl, refl, refl))

-- new takers can take, as each has taken nothing
pub new_takers-take : (queue : VisitQueue) (course : List JobVisits) (all n : ℕ) → All (IsTaker queue) (replicate n (new_taker (table_of queue) course all))
new_takers-take queue course all n = All-replicate (IsTaker queue) n (new_taker (table_of queue) course all) refl

-- the course has the seat's job, which is one of the jobs
pub job_is_there : IsSized → (store : Blocks) (jobs : List JobMeaning) (s : JobView) (job : JobMeaning) → s.pass.course ≡ course_of store jobs → slice_get jobs s.job ≡ Some job → s.job < length s.pass.course
job_is_there sized store jobs s job course at = subst (λ (n : ℕ). s.job < n) (sym (ap (λ (k : List JobVisits). length k) course ∙ sized store jobs)) (slice_get_within jobs s.job job at)

-- a whole walk has left what a new seat of its job puts
pub begins_left : IsSized → HasVisits → HasOver → AllowsVisits → (store : Blocks) (jobs : List JobMeaning) (s : JobView) (job : JobMeaning) (w : WalkLeft)
    → s.pass.course ≡ course_of store jobs → s.next ≡ 0 → slice_get jobs s.job ≡ Some job → w ≡ whole_walk store s.job job → IsLeft s w
begins_left sized visits over visit store jobs s job w course begins at whole =
    let all : course_visits s.pass.course s.job ≡ (whole_walk store s.job job).visits = ap (λ (k : List JobVisits). course_visits k s.job) course ∙ visits store jobs s.job job at in
    record {
      job_is_there = job_is_there sized store jobs s job course at;
      numbered = λ n v e. let a = visit store jobs s.job n job v at (subst (λ (l : List Visit). slice_get l n ≡ Some v) all e) in (a.0, a.1);
      within = (let is = begins in omega (arith, is));
      left = ap (λ (n : ℕ). drop n (course_visits s.pass.course s.job)) begins ∙ all ∙ sym (ap (λ (x : WalkLeft). x.visits) whole);
      limited = ap (λ (x : WalkLeft). x.limited) whole ∙ sym (ap (λ (k : List JobVisits). course_over k s.job) course ∙ over store jobs s.job job at);
    }

-- the visit that it gives is the next of the seat, and the rest is left after it
pub visit_is_next : (s : JobView) (v : Visit) (w x : WalkLeft) → IsLeft s w → GivesNext w (Some (Ok v)) x → IsNext s (item.Visit v)
visit_is_next s v w x h gives =
    let next = next_at (course_visits s.pass.course s.job) x.visits s.next v (h.left ∙ gives.1) in
    let is = h.numbered s.next v next.0 in
    (eq-eqb v.job s.job is.0, is.1, subst (λ (j : ℕ). slice_get (course_visits s.pass.course j) v.seq ≡ Some v) (sym is.0) (subst (λ (n : ℕ). slice_get (course_visits s.pass.course s.job) n ≡ Some v) (sym is.1) next.0))

-- after a visit, the rest of the walk is what is left of it
pub left_behind : (s : JobView) (v : Visit) (w x : WalkLeft) → IsLeft s w → GivesNext w (Some (Ok v)) x → HasLeft s.pass.course s.job (s.next + 1) x
left_behind s v w x h gives =
    let next = next_at (course_visits s.pass.course s.job) x.visits s.next v (h.left ∙ gives.1) in
    record {
      job_is_there = h.job_is_there;
      numbered = h.numbered;
      within = (let lt = next.2 in omega (arith, lt));
      left = next.1;
      limited = gives.2 ∙ h.limited;
    }

-- a close that fits what was put is the next of the seat
pub close_is_next : (s : JobView) (end : End) (w : WalkLeft) → IsLeft s w → IsCloseOf end s.next (course_visits s.pass.course s.job) (course_over s.pass.course s.job) → IsNext s (item.Close s.job s.next end)
close_is_next s end w h fits = (eq-eqb s.job s.job refl, refl, (h.job_is_there, fits))
