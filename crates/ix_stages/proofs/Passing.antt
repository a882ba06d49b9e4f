-- One more item that a verifier takes.
use Rattle.std.proofs.Common.{◌≡◌, ℕ, List, [], ◌∷◌, ◌++◌, zero, suc, All, Some, sym, refl, ap, subst, ◌∙◌, append_assoc, append-nil}
use Rattle.std.specs.Prelude.{slice_get}
use Rattle.std.proofs.lemmas.List.Elements.{All-nil, All-head, All-tail, All-push}
use Rattle.ix_walk.specs.declared.visit.Visit.{Visit}
use Rattle.ix_store.specs.Store.{Blocks}
use Rattle.ix_check.specs.Visits.{IsVisitOf}
use Rattle.ix_stages.specs.declared.course.JobVisits.{JobVisits}
use Rattle.ix_stages.specs.declared.item.Item.{Item}
use Rattle.ix_stages.specs.declared.item.Item.TheVariants as item
use Rattle.ix_stages.specs.declared.verdicted.Verdicted.{Verdicted}
use Rattle.ix_stages.specs.declared.verdicted.Verdicted.TheVariants.{Checked, Unchecked, Close, Last}
use Rattle.ix_stages.specs.declared.pass_view.PassView.{PassView}
use Rattle.ix_stages.specs.PassViews.{after_take}
use Rattle.ix_stages.specs.Course.{Allowed, IsCourseOf, course_visits}
use Rattle.ix_stages.specs.Received.{pairs_of}
use Rattle.ix_stages.specs.Seats.{IsTake}
use Rattle.ix_stages.specs.Sent.{Answers, SentFor}
use Rattle.ix_stages.specs.Verified.{IsItemOf, IsStop, took, Passed, IsVerified}

-- ---- what the course allows has the block and the malformed of the store

-- an element of a list whose visits are all of the store is of the store
visit_among : (store : Blocks) (visits : List Visit) (k : ℕ) (v : Visit) → All (IsVisitOf store) visits → slice_get visits k ≡ Some v → IsVisitOf store v
visit_among store [] k v h e = cc
visit_among store (x ∷ xs) zero v h e = let same : x ≡ v = cc in subst (IsVisitOf store) same (All-head (IsVisitOf store) x xs h)
visit_among store (x ∷ xs) (suc k) v h e = visit_among store xs k v (All-tail (IsVisitOf store) x xs h) e

-- by the position of the job in the course: all its visits are of the store
visits_of_store : (store : Blocks) (course : List JobVisits) (j : ℕ) → IsCourseOf store course → All (IsVisitOf store) (course_visits course j)
visits_of_store store [] j h = All-nil (IsVisitOf store)
visits_of_store store (p ∷ ps) zero h = All-head (λ p. All (IsVisitOf store) p.visits) p ps h
visits_of_store store (p ∷ ps) (suc j) h = visits_of_store store ps j (All-tail (λ p. All (IsVisitOf store) p.visits) p ps h)

-- the precondition of the check, for whatever item the queue returns
pub item_of_store : (store : Blocks) (course : List JobVisits) (x : Item) → IsCourseOf store course → Allowed course x → IsItemOf store x
item_of_store store course (item.Visit v) h a = visit_among store (course_visits course v.job) v.seq v (visits_of_store store course v.job h) a
item_of_store store course (item.Close j n end) h a = tt
item_of_store store course item.Stop h a = tt

-- ---- lists that grow by one

-- one more item and its answer keep the two lists in step; used for each item that a verifier takes
pub SentFor-push : (store : Blocks) (xs : List Item) (ys : List Verdicted) (x : Item) (y : Verdicted) → SentFor store xs ys → Answers store x y → SentFor store (xs ++ x ∷ []) (ys ++ y ∷ [])
SentFor-push store [] [] x y a b = (b, tt)
SentFor-push store [] (z ∷ zs) x y a b = absurd a
SentFor-push store (w ∷ ws) [] x y a b = absurd a
SentFor-push store (w ∷ ws) (z ∷ zs) x y a b = (a.0, SentFor-push store ws zs x y a.1 b)

-- the pairs of a longer list are those of its front and those of its last answer
pub pairs-push : (ys : List Verdicted) (y : Verdicted) → pairs_of (ys ++ y ∷ []) ≡ pairs_of ys ++ pairs_of (y ∷ [])
pairs-push [] y = refl
pairs-push (Checked v d ∷ zs) y = ap (λ (l : List (ℕ × ℕ)). (v.job, v.seq) ∷ l) (pairs-push zs y)
pairs-push (Unchecked j n ∷ zs) y = pairs-push zs y
pairs-push (Close j n end ∷ zs) y = pairs-push zs y
pairs-push (Last ∷ zs) y = pairs-push zs y

-- the view with another list of items taken, all else unchanged; a congruence needs it as a function
unfoldable pub put_taken : PassView → List Item → PassView
put_taken v t = record { blank = v.blank; parts = v.parts; course = v.course; all = v.all; maker = v.maker; made = v.made; job = v.job; put = v.put; taken = t; puts = v.puts; takens = v.takens }

-- a pass that took no items is unchanged, which starts the loop
pub took_none : (v : PassView) → v ≡ took v []
unfolding put_taken
took_none v = ap (put_taken v) (sym (append-nil v.taken))

-- taking a list and then one item is taking the longer list
pub took_more : (v : PassView) (t : List Item) (x : Item) → after_take (took v t) x ≡ took v (t ++ x ∷ [])
unfolding put_taken
took_more v t x = ap (put_taken v) (append_assoc v.taken t (x ∷ []))

-- ---- what a verifier has done, and one item more

-- before its first item a verifier has taken, sent and checked nothing
abbrev pub passed_none : (store : Blocks) (v : PassView) (sent : List Verdicted) (checked : List (ℕ × ℕ)) → Passed store v v sent sent checked checked
passed_none store v sent checked = record {
  taken = [];
  passed = [];
  took_is = took_none v;
  allowed = All-nil (Allowed v.course);
  answers = tt;
  sent_is = sym (append-nil sent);
  checked_is = sym (append-nil checked);
}

-- taking items changes no field but the list taken, so the course is the same
pub same_course : (store : Blocks) (v w : PassView) (sent sent' : List Verdicted) (checked checked' : List (ℕ × ℕ)) → Passed store v w sent sent' checked checked' → w.course ≡ v.course
same_course store v w sent sent' checked checked' did = ap (λ (h : PassView). h.course) did.took_is

-- what was taken next, was sent for it and was checked
pub record Nexts (store : Blocks) (w u : PassView) (sent' sent'' : List Verdicted) (checked' checked'' : List (ℕ × ℕ)) (x : Item) (y : Verdicted) : Type 0 where
  pub taken : IsTake w x u
  pub answers : Answers store x y
  pub sent : sent'' ≡ sent' ++ y ∷ []
  pub checked : checked'' ≡ checked' ++ pairs_of (y ∷ [])

-- the loop's step: after one more item, what the verifier has done is one item longer
abbrev pub passed_more : (store : Blocks) (v w u : PassView) (sent sent' sent'' : List Verdicted) (checked checked' checked'' : List (ℕ × ℕ)) (x : Item) (y : Verdicted) (did : Passed store v w sent sent' checked checked')
    → Nexts store w u sent' sent'' checked' checked'' x y → Passed store v u sent sent'' checked checked''
passed_more store v w u sent sent' sent'' checked checked' checked'' x y did next = record {
  taken = did.taken ++ x ∷ [];
  passed = did.passed ++ y ∷ [];
  took_is = next.taken.pass ∙ (ap (λ (h : PassView). after_take h x) did.took_is ∙ took_more v did.taken x);
  allowed = All-push (Allowed v.course) did.taken x did.allowed (subst (λ (c : List JobVisits). Allowed c x) (same_course store v w sent sent' checked checked' did) next.taken.allowed);
  answers = SentFor-push store did.taken did.passed x y did.answers next.answers;
  sent_is = next.sent ∙ (ap (λ l. l ++ y ∷ []) did.sent_is ∙ append_assoc sent did.passed (y ∷ []));
  checked_is = next.checked
      ∙ (ap (λ l. l ++ pairs_of (y ∷ [])) did.checked_is ∙ (append_assoc checked (pairs_of did.passed) (pairs_of (y ∷ [])) ∙ ap (λ l. checked ++ l) (sym (pairs-push did.passed y))));
}

-- Stop is the only item that is a stop
the_stop : (x : Item) → IsStop x → x ≡ item.Stop
the_stop (item.Visit v) h = absurd h
the_stop (item.Close j n end) h = absurd h
the_stop item.Stop h = refl

-- the step at a Stop: none of the items before it was one, so it is the only Stop and the last item
pub verified : (store : Blocks) (v w u : PassView) (sent sent' sent'' : List Verdicted) (checked checked' checked'' : List (ℕ × ℕ)) (x : Item) (y : Verdicted) (did : Passed store v w sent sent' checked checked')
    → All (λ x. IsStop x → ⊥) did.taken → Nexts store w u sent' sent'' checked' checked'' x y → IsStop x → IsVerified store v u sent sent'' checked checked''
verified store v w u sent sent' sent'' checked checked' checked'' x y did none next stop = record {
  did = passed_more store v w u sent sent' sent'' checked checked' checked'' x y did next;
  before = did.taken;
  ends = ap (λ (z : Item). did.taken ++ z ∷ []) (the_stop x stop);
  one = none;
}
