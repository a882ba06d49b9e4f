-- Routes, one after another.
use Rattle.std.proofs.Common.{◌≡◌, ℕ, zero, suc, ◌+◌, ◌-◌, ◌<◌, ◌≤◌, List, [], ◌∷◌, ◌++◌, length, get_or, drop, drop-cons, refl, sym, ◌∙◌, ap, subst, append_assoc, append-nil, arith}
use Rattle.std.specs.Prelude.{Option, Some, None, Result, Ok, Err}
use Rattle.std.proofs.lemmas.Option.{same_Some}
use Rattle.std.specs.Global.{Vec}
use Rattle.ix_cbor.specs.Data.{Data, null, boolean, integer, float, bytes, text, list, link}
use Rattle.ix_cbor.specs.Data as nodes
use Rattle.ix_path.specs.declared.step.PathStep.{PathStep}
use Rattle.ix_store.specs.Store.{Blocks}
use Rattle.ix_path.specs.declared.obstacle.Obstacle.{Obstacle}
use Rattle.ix_path.specs.Node.{link_of}
use Rattle.ix_path.specs.Children.{child_of}
use Rattle.ix_path.specs.Resolution.{Route, onward, ◌and_then◌, here, entered, crossed, one_step, stepped, Goes, GoesBy, segments_in}

-- ---- links

-- a link is crossed
pub crossed-link : (store : Blocks) (n : ℕ) (d : Data) (c : List ℕ) → Some c ≡ link_of d → crossed store (suc n) d ≡ (entered store c and_then crossed store n)
unfolding crossed
crossed-link store n null c e = absurd cc
crossed-link store n (boolean b) c e = absurd cc
crossed-link store n (integer i) c e = absurd cc
crossed-link store n (float b) c e = absurd cc
crossed-link store n (bytes b) c e = absurd cc
crossed-link store n (text t) c e = absurd cc
crossed-link store n (list ds) c e = absurd cc
crossed-link store n (nodes.map es) c e = absurd cc
crossed-link store n (link l) c e = ap (λ (m : List ℕ). entered store m and_then crossed store n) (sym (same_Some c l e))

-- what is no link is where the route ends
pub crossed-here : (store : Blocks) (n : ℕ) (d : Data) → None ≡ link_of d → crossed store (suc n) d ≡ here d
unfolding crossed
crossed-here store n null e = refl
crossed-here store n (boolean b) e = refl
crossed-here store n (integer i) e = refl
crossed-here store n (float b) e = refl
crossed-here store n (bytes b) e = refl
crossed-here store n (text t) e = refl
crossed-here store n (list ds) e = refl
crossed-here store n (nodes.map es) e = refl
crossed-here store n (link l) e = absurd cc

-- no link more is crossed
pub crossed-none : (store : Blocks) (n : ℕ) (d : Data) → n ≡ 0 → crossed store n d ≡ here d
unfolding crossed
crossed-none store n d e = ap (λ k. crossed store k d) e

-- the end of a route decides whether it goes on
steps_of-entered : (store : Blocks) (c : List ℕ) (next : Data → Route) → ((d : Data) → (next d).steps ≡ []) → (end : Result Data Obstacle) → (onward (entered store c) next end).steps ≡ []
steps_of-entered store c next none (Ok d) = none d
steps_of-entered store c next none (Err obstacle) = refl

-- links add no steps
pub crossed-steps : (store : Blocks) (n : ℕ) (d : Data) → (crossed store n d).steps ≡ []
unfolding crossed
crossed-steps store zero d = refl
crossed-steps store (suc n) null = refl
crossed-steps store (suc n) (boolean b) = refl
crossed-steps store (suc n) (integer i) = refl
crossed-steps store (suc n) (float b) = refl
crossed-steps store (suc n) (bytes b) = refl
crossed-steps store (suc n) (text t) = refl
crossed-steps store (suc n) (list ds) = refl
crossed-steps store (suc n) (nodes.map es) = refl
crossed-steps store (suc n) (link c) = steps_of-entered store c (crossed store n) (crossed-steps store n) (entered store c).end

-- ---- blocks

-- nowhere else
pub goes_here : (old : List (List ℕ)) (d : Data) → Goes old old (Ok d) (here d)
goes_here old d = record { blocks = sym (append-nil old); end = refl }

module _ (r : Route) (next : Data → Route) where
  -- on from a node
  pub goes_on : (old middle new : List (List ℕ)) (d : Data) (end : Result Data Obstacle) → Goes old middle (Ok d) r → Goes middle new end (next d) → Goes old new end (r and_then next)
  goes_on old middle new d end g h =
      subst (λ (s : Route). Goes old new end s) (ap (onward r next) g.end)
      (record { blocks = h.blocks ∙ ap (λ (l : List (List ℕ)). l ++ (next d).blocks) g.blocks ∙ append_assoc old r.blocks (next d).blocks; end = h.end })

  -- no further from an obstacle
  pub goes_no_further : (old new : List (List ℕ)) (obstacle : Obstacle) → Goes old new (Err obstacle) r → Goes old new (Err obstacle) (r and_then next)
  goes_no_further old new obstacle g =
      subst (λ (s : Route). Goes old new (Err obstacle) s) (ap (onward r next) g.end) g

-- ---- blocks and steps

module _ (r : Route) (next : Data → Route) (old middle new : List (List ℕ)) (before between after : List PathStep) where
  -- on from a node
  pub goes_by_on : (d : Data) (end : Result Data Obstacle) → GoesBy old middle before between (Ok d) r → GoesBy middle new between after end (next d) → GoesBy old new before after end (r and_then next)
  goes_by_on d end g h =
      subst (λ (s : Route). GoesBy old new before after end s) (ap (onward r next) g.end)
      (record {
        blocks = h.blocks ∙ ap (λ (l : List (List ℕ)). l ++ (next d).blocks) g.blocks ∙ append_assoc old r.blocks (next d).blocks;
        steps = h.steps ∙ ap (λ (l : List PathStep). l ++ (next d).steps) g.steps ∙ append_assoc before r.steps (next d).steps;
        end = h.end;
      })

  -- no further from an obstacle
  pub goes_by_no_further : (obstacle : Obstacle) → GoesBy old new before after (Err obstacle) r → GoesBy old new before after (Err obstacle) (r and_then next)
  goes_by_no_further obstacle g = subst (λ (s : Route). GoesBy old new before after (Err obstacle) s) (ap (onward r next) g.end) g

-- a route without steps
pub goes_by_blocks : (r : Route) (old new : List (List ℕ)) (steps : List PathStep) (end : Result Data Obstacle) → r.steps ≡ [] → Goes old new end r → GoesBy old new steps steps end r
goes_by_blocks r old new steps end none g =
    record { blocks = g.blocks; steps = sym (append-nil steps) ∙ ap (λ (l : List PathStep). steps ++ l) (sym none); end = g.end }

-- ---- step by step

module _ (store : Blocks) (i : ℕ) (lt : i < 128) (d : Data) (old : List (List ℕ)) where
  left : 128 - i ≡ suc (128 - (i + 1))
  left = omega arith

  -- across a link
  pub cross_on : (c : List ℕ) (middle new : List (List ℕ)) (next : Data) (found : Result Data Obstacle) → Some c ≡ link_of d → Goes old middle (Ok next) (entered store c)
      → Goes middle new found (crossed store (128 - (i + 1)) next) → Goes old new found (crossed store (128 - i) d)
  cross_on c middle new next found is g h =
      subst (λ (r : Route). Goes old new found r) (sym (ap (λ (k : ℕ). crossed store k d) left ∙ crossed-link store (128 - (i + 1)) d c is))
      (goes_on (entered store c) (crossed store (128 - (i + 1))) old middle new next found g h)

  -- no further than a link
  pub cross_stop : (c : List ℕ) (new : List (List ℕ)) (obstacle : Obstacle) → Some c ≡ link_of d → Goes old new (Err obstacle) (entered store c) → Goes old new (Err obstacle) (crossed store (128 - i) d)
  cross_stop c new obstacle is g =
      subst (λ (r : Route). Goes old new (Err obstacle) r) (sym (ap (λ (k : ℕ). crossed store k d) left ∙ crossed-link store (128 - (i + 1)) d c is))
      (goes_no_further (entered store c) (crossed store (128 - (i + 1))) old new obstacle g)

  -- at what is no link
  pub cross_here : None ≡ link_of d → Goes old old (Ok d) (crossed store (128 - i) d)
  cross_here none =
      subst (λ (r : Route). Goes old old (Ok d) r) (sym (ap (λ (k : ℕ). crossed store k d) left ∙ crossed-here store (128 - (i + 1)) d none)) (goes_here old d)

-- at a link after as many as there may be
pub cross_all : (store : Blocks) (i : ℕ) (d : Data) (old : List (List ℕ)) → 128 ≤ i → Goes old old (Ok d) (crossed store (128 - i) d)
cross_all store i d old le = let z : 128 - i ≡ 0 = omega arith in subst (λ (r : Route). Goes old old (Ok d) r) (sym (crossed-none store (128 - i) d z)) (goes_here old d)

-- the blocks of a root, and across links, without steps
pub begun-steps : (store : Blocks) (c : List ℕ) (n : ℕ) → (entered store c and_then crossed store n).steps ≡ []
begun-steps store c n = steps_of-entered store c (crossed store n) (crossed-steps store n) (entered store c).end

-- a step to a child, and across links
module _ (store : Blocks) (n : ℕ) (s : List ℕ) (d : Data) (old new : List (List ℕ)) (before after : List PathStep) where
  pub advance_on : (step : PathStep) (next : Data) (found : Result Data Obstacle) → child_of d s ≡ Ok (step, next) → after ≡ before ++ step ∷ [] → Goes old new found (crossed store n next)
      → GoesBy old new before after found (stepped s d and_then crossed store n)
  advance_on step next found is pushed g =
      goes_by_on (stepped s d) (crossed store n) old old new before after after next found
      (subst (λ (r : Route). GoesBy old old before after (Ok next) r) (sym (ap one_step is)) (record { blocks = sym (append-nil old); steps = pushed; end = refl }))
      (goes_by_blocks (crossed store n next) old new after found (crossed-steps store n next) g)

-- at the end of a path
pub goes_by_here : (old : List (List ℕ)) (steps : List PathStep) (d : Data) → GoesBy old old steps steps (Ok d) (here d)
goes_by_here old steps d = record { blocks = sym (append-nil old); steps = sym (append-nil steps); end = refl }

-- the segments from one on
pub segments_more : (segments : List (Vec ℕ)) (i : ℕ) (segment : Vec ℕ) → i < length segments → segment ≡ get_or segments i segment → segments_in (drop i segments) ≡ segment.items ∷ segments_in (drop (i + 1) segments)
segments_more segments i segment lt is =
    let next : suc i ≡ i + 1 = omega arith in
    ap segments_in (drop-cons segments i segment lt)
    ∙ ap (λ (v : Vec ℕ). v.items ∷ segments_in (drop (suc i) segments)) (sym is)
    ∙ ap (λ (k : ℕ). segment.items ∷ segments_in (drop k segments)) next

-- nothing is what isn't something
pub absent : {X : Type 0} (o : Option X) → ((x : X) → o ≡ Some x → ⊥) → None ≡ o
absent None h = refl
absent (Some x) h = absurd (h x refl)
