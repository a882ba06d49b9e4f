-- A stack as subtrees, put together and taken apart.
use Rattle.std.proofs.Common.{◌≡◌, ℕ, List, [], ◌∷◌, ◌++◌, reverse, refl, ◌∙◌, ap}
use Rattle.std.specs.Prelude.{Option, Some, None, option_map, option_and_then}
use Rattle.std.proofs.lemmas.List.{reverse-append}
use Rattle.std.proofs.lemmas.Option.{same_Some}
use Rattle.ix_walk.specs.declared.subtree.OpenNode.{OpenNode}
use Rattle.ix_walk.specs.declared.subtree.Frontier.{Frontier}
use Rattle.ix_store.specs.Cursor.{resumed}
use Rattle.ix_walk.specs.Walking.{Part, Subtree, opened, part_at, stands, with_next, frontier_stands, subtrees, or_nil}

-- what a value came from
pub some_mapped : {A B : Type 0} (f : A → B) (o : Option A) (y : B) → option_map f o ≡ Some y → (x : A) × (o ≡ Some x) × (f x ≡ y)
some_mapped f None y e = absurd cc
some_mapped f (Some x) y e = (x, refl, same_Some (f x) y e)

-- both parts of a chain of options are there
pub some_then : {A B : Type 0} (f : A → Option B) (o : Option A) (y : B) → option_and_then f o ≡ Some y → (x : A) × (o ≡ Some x) × (f x ≡ Some y)
some_then f None y e = absurd cc
some_then f (Some x) y e = (x, refl, e)

-- an open item above others, taken apart
pub record IsOpen (b : List ℕ) (o : OpenNode) (os : List OpenNode) (ss : List Subtree) : Type 0 where
  pub part : Part
  pub rest : List ℕ
  pub others : List Subtree
  pub here : part_at o.children b ≡ Some (part, rest)
  pub behind : stands (resumed o.resume_at rest) os ≡ Some others
  pub all : opened o part ∷ others ≡ ss

-- one more open list or map, with what is left of it
abbrev add_opened : OpenNode → List OpenNode → Part × List ℕ → Option (List Subtree)
add_opened o os x = option_map (λ ss. opened o x.0 ∷ ss) (stands (resumed o.resume_at x.1) os)

-- a stack that can be read is its last entry and the others
pub open_apart : (b : List ℕ) (o : OpenNode) (os : List OpenNode) (ss : List Subtree) → stands b (o ∷ os) ≡ Some ss → IsOpen b o os ss
open_apart b o os ss e =
    let x = some_then (add_opened o os) (part_at o.children b) ss e in
    let m = some_mapped (λ ss. opened o x.0.0 ∷ ss) (stands (resumed o.resume_at x.0.1) os) ss x.2 in
    record { part = x.0.0; rest = x.0.1; others = m.0; here = x.1; behind = m.1; all = m.2 }

-- and put together
pub open_on : (b : List ℕ) (o : OpenNode) (os : List OpenNode) (part : Part) (rest : List ℕ) (others : List Subtree) → part_at o.children b ≡ Some (part, rest) → stands (resumed o.resume_at rest) os ≡ Some others
    → stands b (o ∷ os) ≡ Some (opened o part ∷ others)
open_on b o os part rest others here behind =
    ap (option_and_then (add_opened o os)) here ∙ ap (option_map (λ ss. opened o part ∷ ss)) behind

-- the last of a list is the first of it reversed
pub reversed_push : {A : Type 0} (xs ys : List A) (x : A) → xs ≡ ys ++ x ∷ [] → reverse xs ≡ x ∷ reverse ys
reversed_push xs ys x e = ap reverse e ∙ reverse-append ys (x ∷ [])

-- where no link comes first
pub trail_without : (t : Frontier) → t.next ≡ None → frontier_stands t ≡ stands t.at (reverse t.stack.items)
trail_without t e = ap (λ o. option_map (with_next o) (stands t.at (reverse t.stack.items))) e ∙ mapped (stands t.at (reverse t.stack.items)) where
  mapped : (o : Option (List Subtree)) → option_map (with_next None) o ≡ o
  mapped None = refl
  mapped (Some ss) = refl

-- what a walk has still to go through, where that is known
pub subtrees_are : (t : Frontier) (ss : List Subtree) → frontier_stands t ≡ Some ss → subtrees t ≡ ss
subtrees_are t ss e = ap or_nil e
