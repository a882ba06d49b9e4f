-- What a tracer keeps, and where it leads.
use Rattle.std.proofs.Common.{◌≡◌, ℕ, zero, suc, ◌+◌, List, [], ◌∷◌, ◌++◌, length, take, refl, sym, ◌∙◌, ap, subst, append_assoc, append-nil, arith}
use Rattle.std.specs.Prelude.{Option, None, Some, IfSome, Ok, slice_get, String, string_bytes}
use Rattle.std.specs.Global.{Global, Vec}
use Rattle.std.specs.List.{AllByRecursion}
use Rattle.std.proofs.lemmas.List.{map-append}
use Rattle.std.proofs.lemmas.Option.{same_Some, slice_get_read}
use Rattle.std.specs.Borrow.{Bor}
use Rattle.std.specs.Option.{option_to_list}
use Rattle.std.specs.Slice.{IsItemAt}
use Rattle.ix_cbor.specs.Data.{Data}
use Rattle.ix_cbor.specs.Reading.{decoded}
use Rattle.ix_store.specs.Store.{Blocks, value_of}
use Rattle.ix_path.specs.Path.{segments_view}
use Rattle.ix_walk.specs.Arriving.{IsValue}
use Rattle.ix_walk.specs.Arrivals.{Arrival}
use Rattle.ix_walk.specs.declared.visit.Visit.{Visit}
use Rattle.ix_walk.specs.JobMeaning.{JobMeaning}
use Rattle.ix_walk.specs.Visits.{visits_from, visits_of}
use Rattle.ix_trace.specs.declared.expansion.Link.{Link}
use Rattle.ix_trace.specs.declared.expansion.StepFrom.{StepFrom}
use Rattle.ix_trace.specs.declared.tracer.Inside.{Inside}
use Rattle.ix_trace.specs.declared.tracer.Level.{Level}
use Rattle.ix_trace.specs.declared.tracer.Place.{Place}
use Rattle.ix_trace.specs.Leads.{here, onward}
use Rattle.ix_trace.specs.Links.{steps_to, AreLinksOf, AreLinksInside}
use Rattle.ix_trace.specs.Segments.{segment_of, segments_of}
use Rattle.ix_trace.specs.Trace.{LeadsOn, IsInside, IsKept, AreKept, GoesOn, GoesDown, IsPathTo, IsPathOfVisit, ArePaths}

-- ---- levels

pub kept_front : (store : Blocks) (xs : List Level) (x : Level) → AreKept store (xs ++ x ∷ []) → AreKept store xs
kept_front store [] x are = tt
kept_front store (y ∷ xs) x are = (are.0, kept_front store xs x are.1)

pub kept_last : (store : Blocks) (xs : List Level) (x : Level) → AreKept store (xs ++ x ∷ []) → IsKept store x
kept_last store [] x are = are.0
kept_last store (y ∷ xs) x are = kept_last store xs x are.1

pub kept_more : (store : Blocks) (xs : List Level) (x : Level) → AreKept store xs → IsKept store x → AreKept store (xs ++ x ∷ [])
kept_more store [] x are is = (is, tt)
kept_more store (y ∷ xs) x are is = (are.0, kept_more store xs x are.1 is)

pub kept_take : (store : Blocks) (n : ℕ) (xs : List Level) → AreKept store xs → AreKept store (take n xs)
kept_take store zero xs are = tt
kept_take store (suc n) [] are = tt
kept_take store (suc n) (x ∷ xs) are = (are.0, kept_take store n xs are.1)

-- what is left after some were cut off, and the last was taken
pub kept_turn : (store : Blocks) (old cut popped : List Level) (depth : ℕ) (r : Option Level) → AreKept store old → cut ≡ take depth old → cut ≡ popped ++ option_to_list r → AreKept store popped × IfSome r (IsKept store)
kept_turn store old cut popped depth None are is parts = (subst (AreKept store) (sym is ∙ parts ∙ append-nil popped) (kept_take store depth old are), tt)
kept_turn store old cut popped depth (Some x) are is parts =
    let both = subst (AreKept store) (sym is ∙ parts) (kept_take store depth old are) in (kept_front store popped x both, kept_last store popped x both)

-- ---- a block

-- what was found in a block is what is in the block of its CID
each_leads : (store : Blocks) (c : List ℕ) (d : Data) (steps : List StepFrom) (links : List Link) → value_of store c ≡ Some d → AreLinksOf d steps links → AllByRecursion (λ l. LeadsOn store c (steps_to steps l.node) l.cid) links
each_leads store c d steps [] is are = tt
each_leads store c d steps (l ∷ links) is are = (record { content = d; is_content = is; leads = are.0.leads }, each_leads store c d steps links is are.1)

pub is_inside : (store : Blocks) (i : Inside) (value : Option Data) → value_of store i.cid ≡ value → AreLinksInside value i.expansion.steps.items i.expansion.links.items → IsInside store i
is_inside store i None is are = subst (AllByRecursion (λ l. LeadsOn store i.cid (steps_to i.expansion.steps.items l.node) l.cid)) (sym are) tt
is_inside store i (Some d) is are = each_leads store i.cid d i.expansion.steps.items i.expansion.links.items is are

-- ---- steps down

pub goes_next : (store : Blocks) (i : Inside) (c : List ℕ) (old new : Vec (Vec ℕ)) (o : Option Place) → IsInside store i → i.cid ≡ c
    → IfSome o (λ next. (s : Blocks) → IsInside s i → GoesOn s i.cid next.cid old new) → IfSome o (λ next. GoesOn store c next.cid old new)
goes_next store i c old new None is same goes = tt
goes_next store i c old new (Some next) is same goes = subst (λ d. GoesOn store d next.cid old new) same (goes store is)

pub goes_begin : (store : Blocks) (c : List ℕ) (old : Vec (Vec ℕ)) → GoesDown store c c old old
goes_begin store c old = ([], here, sym (append-nil (segments_view old)))

pub goes_further : (store : Blocks) (root c b : List ℕ) (old mid new : Vec (Vec ℕ)) → GoesDown store root c old mid → GoesOn store c b mid new → GoesDown store root b old new
goes_further store root c b old mid new down on = (
  down.0 ++ on.0,
  onward c down.0 on.0 on.1.content down.1 on.1.is_content on.1.leads,
  on.2 ∙ ap (λ z. z ++ segments_of on.0) down.2 ∙ append_assoc (segments_view old) (segments_of down.0) (segments_of on.0) ∙ ap (λ z. segments_view old ++ z) (sym (map-append segment_of down.0 on.0)),
)

-- ---- visits

-- a visit has its number
pub seq_at : (store : Blocks) (number seq k : ℕ) (xs : List Arrival) (v : Visit) → slice_get (visits_from store number seq xs) k ≡ Some v → v.seq ≡ seq + k
seq_at store number seq k [] v e = absurd (no_visit k v e) where
  no_visit : (k : ℕ) (v : Visit) → slice_get {X = Visit} [] k ≡ Some v → ⊥
  no_visit zero v e = cc
  no_visit (suc k) v e = cc
seq_at store number seq zero (a ∷ xs) v e = let z : seq ≡ seq + 0 = omega arith in ap (λ w. w.seq) (sym (same_Some _ v e)) ∙ z
seq_at store number seq (suc k) (a ∷ xs) v e = let up : seq + 1 + k ≡ seq + suc k = omega arith in seq_at store number (seq + 1) k xs v e ∙ up

-- so the visit that is next has the number of those before it
pub visit_path : (store : Blocks) (job : JobMeaning) (xs : List Arrival) (k n : ℕ) (v : Visit) (o : Option (String Global)) → visits_of store 0 job ≡ visits_from store 0 0 xs → slice_get (visits_of store 0 job) k ≡ Some v → v.seq ≡ n
    → IfSome o (λ text. IsPathTo store job v.cid (string_bytes text)) → IfSome o (IsPathOfVisit store job n)
visit_path store job xs k n v None all e is leads = tt
visit_path store job xs k n v (Some text) all e is leads =
    let number = seq_at store 0 0 k xs v (ap (λ vs. slice_get vs k) (sym all) ∙ e) in
    let here : k ≡ n = omega (arith, number, is) in (v, subst (λ m. slice_get (visits_of store 0 job) m ≡ Some v) here e, leads)

-- an element that was looked up
pub got_at : (xs : List ℕ) (k : ℕ) (r : Option (Bor ℕ)) (b : Bor ℕ) → IsItemAt xs k r → r ≡ Some b → slice_get xs k ≡ Some b.now
got_at xs k None b item is = absurd cc
got_at xs k (Some c) b item is = slice_get_read xs (length xs) k c.now refl item.3.0 item.1 ∙ ap (λ (d : Bor ℕ). Some d.now) (same_Some c b is)

-- one more path
pub paths_more : (store : Blocks) (job : JobMeaning) (numbers : List ℕ) (paths : List (Option (String Global))) (n : ℕ) (o : Option (String Global)) → ArePaths store job numbers paths → slice_get numbers (length paths) ≡ Some n → IfSome o (IsPathOfVisit store job n)
    → ArePaths store job numbers (paths ++ o ∷ [])
paths_more store job [] [] n o are e is = absurd cc
paths_more store job (m ∷ numbers) [] n o are e is = (subst (λ k. IfSome o (IsPathOfVisit store job k)) (sym (same_Some m n e)) is, tt)
paths_more store job [] (p ∷ paths) n o are e is = are
paths_more store job (m ∷ numbers) (p ∷ paths) n o are e is = (are.0, paths_more store job numbers paths n o are.1 e is)
