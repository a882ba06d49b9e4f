-- What a walker puts is next in its job's course.
use Rattle.std.proofs.Common.{◌≡◌, ℕ, List, ◌∷◌, drop, slice_get, Some, Result, sym, subst, ◌∙◌, eq-eqb}
use Rattle.ix_cid.proofs.Lists.{next_at}
use Rattle.ix_walk.specs.declared.visit.Visit.{Visit}
use Rattle.ix_store.specs.Store.{Blocks}
use Rattle.ix_walk.specs.JobMeaning.{JobMeaning}
use Rattle.ix_walk.specs.declared.fault.WalkStop.{WalkStop}
use Rattle.ix_walk.specs.WalkLeft.{WalkLeft, GivesNext}
use Rattle.ix_walk.specs.Visits.{visits_of, is_over_limit}
use Rattle.ix_car.specs.declared.sink.End.{End}
use Rattle.ix_stages.specs.declared.course.JobVisits.{JobVisits}
use Rattle.ix_stages.specs.declared.item.Item.TheVariants as item
use Rattle.ix_stages.specs.Course.{Allowed, course_of}
use Rattle.ix_stages.specs.CourseLaws.{AllowsVisits, AllowsCloses}
use Rattle.ix_stages.specs.Good.{IsCloseOf}
use Rattle.ix_stages.specs.Seats.{IsNext, JobView}

-- the visit that the walk returns is at the seat's next number in its course, since the walk's remaining visits are those from
-- there on
pub visit_is_next : AllowsVisits → (store : Blocks) (jobs : List JobMeaning) (n : ℕ) (job : JobMeaning) (v : Visit) (rest : List Visit) (s : JobView)
    → slice_get jobs n ≡ Some job → s.job ≡ n → s.pass.course ≡ course_of store jobs → drop s.next (visits_of store n job) ≡ v ∷ rest → IsNext s (item.Visit v)
visit_is_next law store jobs n job v rest s at number course left =
    let a = law store jobs n s.next job v at (next_at (visits_of store n job) rest s.next v left).0 in
    (eq-eqb v.job s.job (a.0 ∙ sym number), a.1, subst (λ (k : List JobVisits). Allowed k (item.Visit v)) (sym course) a.2)

-- the close that ends the walk is allowed at the seat's next number, which is the number of visits put
pub close_is_allowed : AllowsCloses → (store : Blocks) (jobs : List JobMeaning) (n : ℕ) (job : JobMeaning) (end : End) (s : JobView)
    → slice_get jobs n ≡ Some job → s.job ≡ n → s.pass.course ≡ course_of store jobs → IsCloseOf end s.next (visits_of store n job) (is_over_limit store job) → Allowed s.pass.course (item.Close s.job s.next end)
close_is_allowed law store jobs n job end s at number course fits =
    subst (λ (k : List JobVisits). Allowed k (item.Close s.job s.next end)) (sym course) (subst (λ (m : ℕ). Allowed (course_of store jobs) (item.Close m s.next end)) (sym number) (law store jobs n s.next job end at fits))

-- what a walk returns may be read by an equal result
pub given_is : (walk left : WalkLeft) (r s : Result Visit WalkStop) → GivesNext walk (Some r) left → r ≡ s → GivesNext walk (Some s) left
given_is walk left r s g e = subst (λ (x : Result Visit WalkStop). GivesNext walk (Some x) left) e g
