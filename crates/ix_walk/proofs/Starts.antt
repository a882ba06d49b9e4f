-- A walk that begins.
use Rattle.std.proofs.Common.{◌≡◌, ℕ, suc, ◌-◌, min, Bool, true, false, List, [], ◌∷◌, ◌++◌, length, take, map, reverse, refl, sym, ◌∙◌, ap, arith}
use Rattle.std.specs.Prelude.{◌↔◌, Option, Some, None, option_map, nat_lt, if◌then◌else◌}
use Rattle.std.proofs.lemmas.Bool.Decides.{nat_tests}
use Rattle.std.proofs.lemmas.List.{take-map, take-take, length-map, length-take}
use Rattle.ix_selector.specs.Enters.{Step, Path}
use Rattle.ix_selector.specs.IsEntered.{is_entered}
use Rattle.ix_selector.specs.Pattern.{Pattern}
use Rattle.ix_selector.specs.Residual.{Place}
use Rattle.ix_walk.specs.declared.subtree.OpenNode.{OpenNode}
use Rattle.ix_walk.specs.declared.subtree.PendingLink.{PendingLink}
use Rattle.ix_walk.specs.declared.subtree.Frontier.{Frontier}
use Rattle.ix_walk.specs.declared.visit.Visit.{Visit}
use Rattle.ix_walk.specs.JobMeaning.{JobMeaning}
use Rattle.ix_walk.specs.Arrivals.{Arrival, behind}
use Rattle.ix_store.specs.Store.{Blocks}
use Rattle.ix_selector.specs.Behind.{residual_of, residual_after, residual_along, residual_at, same_residual}
use Rattle.ix_walk.specs.Once.{once_arrivals}
use Rattle.ix_walk.specs.Visits.{believed, visits_from, whole_walk}
use Rattle.ix_walk.specs.WalkLeft.{WalkLeft}
use Rattle.ix_walk.specs.Walking.{waiting, first_arrivals, Subtree, or_nil, links_left, stands, with_next, frontier_stands, walk_left, IsWalk, Going, barren_ones}
use Rattle.ix_walk.specs.Arriving.{trail_left}
use Rattle.ix_walk.proofs.Reached.{forget, is_left, first_from, visits_forget, late_first}

-- equal visits and limits make equal walks
same_left : (visits more : List Visit) (limited over : Bool) → visits ≡ more → limited ≡ over
    → (let a : WalkLeft = record { visits = visits; limited = limited; ended = false } in a) ≡ record { visits = more; limited = over; ended = false }
same_left visits more limited over e f =
    ap (λ (v : List Visit). let a : WalkLeft = record { visits = v; limited = limited; ended = false } in a) e
    ∙ ap (λ (b : Bool). let a : WalkLeft = record { visits = more; limited = b; ended = false } in a) f

-- nothing is left on an empty frontier
pub frontier-begins : (t : Frontier) → t.next ≡ None → t.stack.items ≡ [] → frontier_stands t ≡ Some []
frontier-begins t next empty =
    ap (λ o. option_map (with_next o) (stands t.at (reverse t.stack.items))) next
    ∙ ap (λ (os : List OpenNode). option_map (with_next None) (stands t.at (reverse os))) empty

-- something is left of the selector at a child exactly where it is entered
pub record IsFollowed (s : Pattern) : Type 0 where
  pub starts : residual_at s [] ≡ residual_of s
  pub goes : (p : Path) (t : Step) → residual_at s (behind p t) ≡ residual_after (residual_at s p) t
  pub stays : (p : Path) (t : Step) → is_entered s (behind p t) ≡ is_left (residual_at s (behind p t))

-- the residual along a path with one more step
along_goes : (r : List Place) (p : Path) (t : Step) → residual_along r (p ++ t ∷ []) ≡ residual_after (residual_along r p) t
along_goes r [] t = refl
along_goes r (u ∷ p) t = along_goes (residual_after r u) p t

-- the residual at a path with one more step
at_goes : (s : Pattern) (p : Path) (t : Step) → residual_at s (behind p t) ≡ residual_after (residual_at s p) t
unfolding residual_at
at_goes s p t = along_goes (residual_of s) p t

-- the residual at the empty path
at_starts : (s : Pattern) → residual_at s [] ≡ residual_of s
unfolding residual_at
at_starts s = refl

-- a residual is there exactly if the path is entered
left_where : (b : Bool) (r : List Place) → (b ≡ false → r ≡ []) → (r ≡ [] → b ≡ false) → b ≡ is_left r
left_where true [] there back = back refl
left_where true (x ∷ r) there back = refl
left_where false [] there back = refl
left_where false (x ∷ r) there back = absurd (apart (there refl)) where
  apart : x ∷ r ≡ [] → ⊥
  apart e = cc

-- so the traversal by residuals follows the selector
pub followed : (s : Pattern) → ((p : Path) → is_entered s p ≡ false ↔ residual_at s p ≡ []) → IsFollowed s
followed s left = record { starts = at_starts s; goes = at_goes s; stays = λ p t. left_where (is_entered s (behind p t)) (residual_at s (behind p t)) (left (behind p t)).0 (left (behind p t)).1 }

-- one more than the limit is enough to know whether there are more
over : (limit : ℕ) (n : ℕ) → nat_lt limit (min (suc limit) n) ≡ nat_lt limit n
over limit n = grind (arith, nat_tests)

-- where a walk with link-visit-once begins, and one that expands a CID at every link
abbrev pub expanded_at_start : Blocks → Bool → Option Going
expanded_at_start store true = Some (barren_ones store)
expanded_at_start store false = None

-- the visits of a job from one arrival more than its limit
from_first : (store : Blocks) (number limit : ℕ) (expanded : Option Going) (links : List PendingLink) (all : List Arrival) → first_arrivals store expanded (suc limit) links ≡ map forget all
    → walk_left store number limit 0 expanded links false ≡ record { visits = visits_from store number 0 (take limit all); limited = nat_lt limit (length all); ended = false }
from_first store number limit expanded links all first =
    let z : limit - 0 ≡ limit = omega arith in
    same_left _ _ _ _
    (ap (λ (n : ℕ). visits_from store number 0 (take n (first_arrivals store expanded (suc n) links))) z
    ∙ ap (λ (xs : List Arrival). visits_from store number 0 (take limit xs)) first
    ∙ ap (visits_from store number 0) (take-map forget limit all)
    ∙ visits_forget store number 0 (take limit all))
    (ap (λ (n : ℕ). nat_lt n (length (first_arrivals store expanded (suc n) links))) z
    ∙ ap (λ (xs : List Arrival). nat_lt limit (length xs)) first
    ∙ ap (nat_lt limit) (length-map all forget))

-- where the roots wait, all that the job arrives at is left
pub arrives_all : (store : Blocks) (number : ℕ) (job : JobMeaning) (b : Bool) → IsFollowed job.selector → job.once ≡ b
    → walk_left store number job.limit 0 (expanded_at_start store b) (map (waiting (residual_of job.selector) 0) job.roots) false ≡ whole_walk store number job
arrives_all store number job true is once =
    let all = once_arrivals store job (residual_at job.selector) same_residual in
    from_first store number job.limit (Some (barren_ones store)) (map (waiting (residual_of job.selector) 0) job.roots) all
    (ap (λ r. first_arrivals store (Some (barren_ones store)) (suc job.limit) (map (waiting r 0) job.roots)) (sym is.starts)
    ∙ late_first (is_entered job.selector) (residual_at job.selector) is.stays is.goes store (suc job.limit) job.roots)
    ∙ same_left _ _ _ _
    (ap (λ (b : Bool). visits_from store number 0 (take job.limit (if b then all else believed store job))) (sym once))
    (ap (λ (b : Bool). nat_lt job.limit (length (if b then all else believed store job))) (sym once))
arrives_all store number job false is once =
    let limit = job.limit in
    let all = believed store job in
    from_first store number limit None (map (waiting (residual_of job.selector) 0) job.roots) (take (suc limit) all)
    (ap (λ r. first_arrivals store None (suc limit) (map (waiting r 0) job.roots)) (sym is.starts) ∙ first_from (is_entered job.selector) (residual_at job.selector) is.stays is.goes store limit job.roots)
    ∙ same_left _ _ _ _
    (ap (visits_from store number 0) (take-take limit (suc limit) all (omega arith)) ∙ ap (λ (b : Bool). visits_from store number 0 (take limit (if b then once_arrivals store job (residual_at job.selector) same_residual else all))) (sym once))
    (ap (nat_lt limit) (length-take (suc limit) all) ∙ over limit (length all) ∙ ap (λ (b : Bool). nat_lt limit (length (if b then once_arrivals store job (residual_at job.selector) same_residual else all))) (sym once))

-- at its beginning a walk has all its roots before it
starts_walk : (store : Blocks) (number : ℕ) (job : JobMeaning) (t : Frontier) (b : Bool) → IsFollowed job.selector → job.once ≡ b → frontier_stands t ≡ Some []
    → trail_left store number job.limit 0 (expanded_at_start store b) job.selector t job.roots ≡ whole_walk store number job
starts_walk store number job t b is once empty =
    ap (λ (o : Option (List Subtree)). walk_left store number job.limit 0 (expanded_at_start store b) (links_left job.selector (or_nil o) job.roots) false) empty ∙ arrives_all store number job b is once

-- the same where its roots and what it has expanded have other names
pub starts_from : (store : Blocks) (number : ℕ) (job : JobMeaning) (t : Frontier) (b : Bool) (expanded : Option Going) (roots : List (List ℕ)) → IsFollowed job.selector → job.once ≡ b → expanded ≡ expanded_at_start store b → roots ≡ job.roots
    → frontier_stands t ≡ Some [] → trail_left store number job.limit 0 expanded job.selector t roots ≡ whole_walk store number job
starts_from store number job t b had roots is once none same empty =
    ap (λ (g : Option Going). trail_left store number job.limit 0 g job.selector t roots) none ∙ ap (λ (cs : List (List ℕ)). trail_left store number job.limit 0 (expanded_at_start store b) job.selector t cs) same
    ∙ starts_walk store number job t b is once empty

-- and is before its first root
pub starts_within : (limit : ℕ) (t : Frontier) → frontier_stands t ≡ Some [] → IsWalk limit 0 t
starts_within limit t empty = (omega arith, [], empty, tt)
