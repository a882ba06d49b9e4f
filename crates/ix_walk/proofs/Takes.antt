-- What a walk gives next.
use Rattle.std.proofs.Common.{◌≡◌, ℕ, zero, suc, ◌+◌, ◌-◌, ◌<◌, ◌≤◌, false, List, [], ◌∷◌, ◌++◌, length, map, take, refl, sym, ◌∙◌, ap, subst, append_assoc, arith}
use Rattle.std.specs.Prelude.{Option, Some, None, Ok, Err, nat_lt}
use Rattle.std.proofs.lemmas.Bool.Decides.{nat_tests}
use Rattle.std.proofs.lemmas.Bool.{le-ltb}
use Rattle.ix_walk.specs.declared.subtree.PendingLink.{PendingLink}
use Rattle.ix_walk.specs.declared.subtree.Frontier.{Frontier}
use Rattle.ix_walk.specs.declared.visit.Visit.{Visit}
use Rattle.ix_walk.specs.declared.fault.WalkStop.TheVariants.{Limit}
use Rattle.ix_selector.specs.Pattern.{Pattern}
use Rattle.ix_walk.specs.Arrivals.{Arrival}
use Rattle.ix_store.specs.Store.{Blocks}
use Rattle.ix_walk.specs.Visits.{visits_from, visit_of}
use Rattle.ix_walk.specs.WalkLeft.{GivesNext, nothing_left}
use Rattle.ix_walk.specs.Walking.{arrival, Going, data_inside, expanded_after, links_inside, first_arrivals, Subtree, all_links, root_link, links_left, frontier_stands, walk_left, NoDeeper, IsWalk}
use Rattle.ix_walk.specs.Arriving.{FindsNext, IsArrived, ArrivesBy, trail_left}
use Rattle.ix_walk.proofs.Stands.{subtrees_are}
use Rattle.ix_walk.proofs.Reached.{all_append, all_inside}

-- comparing successors
lt_suc : (m l : ℕ) → nat_lt m l ≡ nat_lt (suc m) (suc l)
lt_suc m l = grind (arith, nat_tests)

-- a link waits, and no visit is left
pub limit_with : (store : Blocks) (number limit given : ℕ) (had : Option Going) (old : List PendingLink) (f : PendingLink) (rest : List PendingLink) → given ≡ limit → old ≡ f ∷ rest
    → GivesNext (walk_left store number limit given had old false) (Some (Err Limit)) nothing_left
limit_with store number limit given had old f rest is e =
    let k : limit - given ≡ 0 = omega arith in (
      refl,
      ap (λ (n : ℕ). visits_from store number given (take n (first_arrivals store had (suc n) old))) k,
      ap (λ (n : ℕ). nat_lt n (length (first_arrivals store had (suc n) old))) k ∙ ap (λ (z : List PendingLink). nat_lt 0 (length (first_arrivals store had (suc zero) z))) e,
      refl,
    )

-- nothing waits
pub end_with : (store : Blocks) (number limit given : ℕ) (had : Option Going) (old : List PendingLink) → old ≡ [] → GivesNext (walk_left store number limit given had old false) None nothing_left
end_with store number limit given had old e = (
  ap (λ (z : List PendingLink). visits_from store number given (take (limit - given) (first_arrivals store had (suc (limit - given)) z))) e ∙ ap (visits_from store number given) (nothing (limit - given)),
  ap (λ (z : List PendingLink). nat_lt (limit - given) (length (first_arrivals store had (suc (limit - given)) z))) e ∙ le-ltb (limit - given) 0 (omega arith),
  refl,
) where
  nothing : (n : ℕ) → take {A = Arrival} n [] ≡ []
  nothing zero = refl
  nothing (suc n) = refl

-- a visit within the limit is the first of those that are left
pub visit_with : (store : Blocks) (number limit given : ℕ) (had has : Option Going) (old links new : List PendingLink) (f : PendingLink) (v : Visit) → given < limit → v ≡ visit_of store number given (arrival f.depth f.cid) → old ≡ f ∷ links
    → has ≡ expanded_after (data_inside store had f) f had → new ≡ links_inside f.residual (f.depth + 1) (data_inside store had f) ++ links
    → GivesNext (walk_left store number limit given had old false) (Some (Ok v)) (walk_left store number limit (given + 1) has new false)
visit_with store number limit given had has old links new f v lt is e expanded below =
    let m = limit - (given + 1) in
    let k : limit - given ≡ suc m = omega arith in
    let then : first_arrivals store (expanded_after (data_inside store had f) f had) (suc m) (links_inside f.residual (f.depth + 1) (data_inside store had f) ++ links) ≡ first_arrivals store has (suc m) new =
    ap (λ (g : Option Going). first_arrivals store g (suc m) (links_inside f.residual (f.depth + 1) (data_inside store had f) ++ links)) (sym expanded) ∙ ap (first_arrivals store has (suc m)) (sym below) in (
      refl,
      ap (λ (n : ℕ). visits_from store number given (take n (first_arrivals store had (suc n) old))) k
          ∙ ap (λ (z : List PendingLink). visits_from store number given (take (suc m) (first_arrivals store had (suc (suc m)) z))) e
          ∙ ap (λ (z : List Arrival). visit_of store number given (arrival f.depth f.cid) ∷ visits_from store number (given + 1) (take m z)) then
          ∙ ap (λ (w : Visit). w ∷ visits_from store number (given + 1) (take m (first_arrivals store has (suc m) new))) (sym is),
      lt_suc m (length (first_arrivals store has (suc m) new))
          ∙ ap (λ (z : List Arrival). nat_lt (suc m) (suc (length z))) (sym then)
          ∙ ap (λ (z : List PendingLink). nat_lt (suc m) (length (first_arrivals store had (suc (suc m)) z))) (sym e)
          ∙ ap (λ (n : ℕ). nat_lt n (length (first_arrivals store had (suc n) old))) (sym k),
      refl,
    )

-- after what was found, what is left then waits after the links below it
visited : (selector : Pattern) (store : Blocks) (number seq : ℕ) (had has : Option Going) (mid new : List Subtree) (rest : List (List ℕ)) (f : PendingLink) (v : Visit) → IsArrived store number seq f had mid v has new
    → links_left selector new rest ≡ links_inside f.residual (f.depth + 1) (data_inside store had f) ++ links_left selector mid rest
visited selector store number seq had has mid new rest f v arrived =
    let others = map (root_link selector) rest in
    ap (λ (z : List PendingLink). z ++ others) arrived.links ∙ append_assoc (links_inside f.residual (f.depth + 1) (data_inside store had f)) (all_links mid) others

-- no link below a visit lies deeper than there are visits given then
pub deeper : (given : ℕ) (links : List PendingLink) → NoDeeper given links → NoDeeper (given + 1) links
deeper given [] n = tt
deeper given (f ∷ links) n = (let h = n.0 in omega (arith, h), deeper given links n.1)

-- no link below it is deeper than the visits returned
visited_deep : (store : Blocks) (number seq given : ℕ) (had has : Option Going) (mid new : List Subtree) (f : PendingLink) (v : Visit) → f.depth ≤ given → NoDeeper given (all_links mid) → IsArrived store number seq f had mid v has new
    → NoDeeper (given + 1) (all_links new)
visited_deep store number seq given had has mid new f v low n arrived =
    subst (NoDeeper (given + 1)) (sym arrived.links)
    (all_append (λ k. k ≤ given + 1) (links_inside f.residual (f.depth + 1) (data_inside store had f)) (all_links mid)
    (all_inside (λ k. k ≤ given + 1) (f.depth + 1) (omega (arith, low)) f.residual (data_inside store had f)) (deeper given (all_links mid) n))

-- ---- the same of a frontier

-- what is left of it, where its subtrees are known
left_is : (store : Blocks) (number limit given : ℕ) (expanded : Option Going) (selector : Pattern) (t : Frontier) (roots : List (List ℕ)) (ss : List Subtree) → frontier_stands t ≡ Some ss
    → walk_left store number limit given expanded (links_left selector ss roots) false ≡ trail_left store number limit given expanded selector t roots
left_is store number limit given expanded selector t roots ss e =
    ap (λ (z : List Subtree). walk_left store number limit given expanded (links_left selector z roots) false) (sym (subtrees_are t ss e))

-- at the limit, one more link means `Limit`
pub trail_limit : (store : Blocks) (number limit given : ℕ) (had : Option Going) (selector : Pattern) (old new : Frontier) (roots rest : List (List ℕ)) (f : PendingLink) → given ≡ limit → IsWalk limit given old → FindsNext selector old roots (Some f) new rest
    → GivesNext (trail_left store number limit given had selector old roots) (Some (Err Limit)) nothing_left
trail_limit store number limit given had selector old new roots rest f here is finds =
    let g = finds is.1 is.2 in
    subst (λ z. GivesNext z (Some (Err Limit)) nothing_left) (left_is store number limit given had selector old roots is.1 is.2)
    (limit_with store number limit given had (links_left selector is.1 roots) f (links_left selector g.0 rest) here g.2.links)

-- without a link the walk ends
pub trail_end : (store : Blocks) (number limit given : ℕ) (had : Option Going) (selector : Pattern) (old new : Frontier) (roots rest : List (List ℕ)) → IsWalk limit given old → FindsNext selector old roots None new rest
    → GivesNext (trail_left store number limit given had selector old roots) None nothing_left
trail_end store number limit given had selector old new roots rest is finds =
    let g = finds is.1 is.2 in
    subst (λ z. GivesNext z None nothing_left) (left_is store number limit given had selector old roots is.1 is.2)
    (end_with store number limit given had (links_left selector is.1 roots)
    (g.2.links ∙ ap (λ (ss : List Subtree). links_left selector ss rest) g.2.ends.0 ∙ ap (map (root_link selector)) g.2.ends.1))

-- and within the limit it returns the link's visit
pub trail_visit : (store : Blocks) (number limit given : ℕ) (had has : Option Going) (selector : Pattern) (old mid new : Frontier) (roots rest : List (List ℕ)) (f : PendingLink) (v : Visit) → (given ≡ limit → ⊥) → IsWalk limit given old
    → FindsNext selector old roots (Some f) mid rest → ArrivesBy store number given f had mid v has new
    → GivesNext (trail_left store number limit given had selector old roots) (Some (Ok v)) (trail_left store number limit (given + 1) has selector new rest) × IsWalk limit (given + 1) new
trail_visit store number limit given had has selector old mid new roots rest f v not is finds arrives =
    let g = finds is.1 is.2 in
    let a = arrives g.0 g.1 in
    let lt : given < limit = let h = is.0 in omega arith in
    let within = g.2.deep given is.3 in
    let next = visit_with store number limit given had has (links_left selector is.1 roots) (links_left selector g.0 rest) (links_left selector a.0 rest) f v lt a.2.visit g.2.links a.2.expanded
    (visited selector store number given had has g.0 a.0 rest f v a.2) in (
      subst (λ z. GivesNext z (Some (Ok v)) (trail_left store number limit (given + 1) has selector new rest)) (left_is store number limit given had selector old roots is.1 is.2)
          (subst (λ z. GivesNext (walk_left store number limit given had (links_left selector is.1 roots) false) (Some (Ok v)) z) (left_is store number limit (given + 1) has selector new rest a.0 a.1) next),
      (omega (arith, lt), a.0, a.1, visited_deep store number given given had has g.0 a.0 f v within.0 within.1 a.2),
    )

-- what is found within the limit may be crossed
pub low_depth : (limit given : ℕ) (selector : Pattern) (old mid : Frontier) (roots rest : List (List ℕ)) (f : PendingLink) → (given ≡ limit → ⊥) → IsWalk limit given old → FindsNext selector old roots (Some f) mid rest → f.depth < limit
low_depth limit given selector old mid roots rest f not is finds =
    let g = finds is.1 is.2 in
    let h : f.depth ≤ given = (g.2.deep given is.3).0 in
    let l : given < limit = let k = is.0 in omega arith in
    omega arith
