-- A stack of open lists and maps, gone on with.
use Rattle.std.proofs.Common.{◌≡◌, ℕ, ◌+◌, ◌-◌, ◌<◌, true, List, [], ◌∷◌, ◌++◌, length, zero, suc, take, get_or, set, reverse, refl, sym, ◌∙◌, ap, subst, append_assoc, arith}
use Rattle.std.specs.Prelude.{Option, Some, None, option_map, nat_lt}
use Rattle.std.proofs.lemmas.Bool.Decides.{nat_tests}
use Rattle.std.proofs.lemmas.List.{take_more, take_all}
use Rattle.ix_walk.specs.declared.subtree.Children.{Children}
use Rattle.ix_walk.specs.declared.subtree.Child.{Child}
use Rattle.ix_walk.specs.declared.subtree.Child.TheVariants.{Link, Open}
use Rattle.ix_walk.specs.declared.subtree.OpenNode.{OpenNode}
use Rattle.ix_walk.specs.declared.subtree.Frontier.{Frontier}
use Rattle.ix_walk.specs.declared.subtree.PendingLink.{PendingLink}
use Rattle.ix_store.specs.Cursor.{resumed}
use Rattle.ix_walk.specs.Walking.{is_spent, with_children, Part, to_cid, members, values, part_links, part_weight, Subtree, opened, all_links, all_weight, part_at, stands, with_next, frontier_stands, subtrees, IsStanding}
use Rattle.ix_walk.specs.Descent.{IsPart, IsNext, IsFound, Leaves, Finds, trail_weight}
use Rattle.ix_walk.proofs.Openings.{spent_part}
use Rattle.ix_walk.proofs.Stands.{some_mapped, open_apart, open_on, reversed_push, subtrees_are, trail_without}

-- what an open item had
had : (o : OpenNode) (part : Part) (others ss : List Subtree) (first : List PendingLink) (left : Part) → opened o part ∷ others ≡ ss → part_links o.residual o.depth part ≡ first ++ part_links o.residual o.depth left
    → all_links ss ≡ first ++ (part_links o.residual o.depth left ++ all_links others)
had o part others ss first left all is = ap all_links (sym all) ∙ ap (λ z. z ++ all_links others) is ∙ append_assoc first (part_links o.residual o.depth left) (all_links others)

-- a link was entered
pub expanded_link : (o : OpenNode) (f : PendingLink) (c : Children) (at now : List ℕ) (os : List OpenNode) (ss : List Subtree) → IsNext o.residual o.depth o.children at (Some (Link f)) c now → stands at (o ∷ os) ≡ Some ss
    → (new : List Subtree) × (stands now (with_children o c ∷ os) ≡ Some new) × IsFound ss (Some f) new
expanded_link o f c at now os ss next e =
    let a = open_apart at o os ss e in
    let g = next (a.part, a.rest) a.here in
    let s = g.entered in (
      opened o g.others ∷ a.others,
      open_on now (with_children o c) os g.others a.rest a.others (ap (part_at c) s.0 ∙ g.behind) a.behind,
      record {
        links = had o a.part a.others ss g.first g.others a.all g.links ∙ ap (λ z. z ++ (part_links o.residual o.depth g.others ++ all_links a.others)) s.1;
        ends = tt;
      },
    )

-- a list or map was
pub expanded_open : (o p : OpenNode) (c : Children) (at now : List ℕ) (os : List OpenNode) (ss : List Subtree) → IsNext o.residual o.depth o.children at (Some (Open p)) c now → stands at (o ∷ os) ≡ Some ss
    → (new : List Subtree) × (stands now (p ∷ with_children o c ∷ os) ≡ Some new) × (all_links ss ≡ all_links new) × (all_weight new < all_weight ss)
expanded_open o p c at now os ss next e =
    let a = open_apart at o os ss e in
    let g = next (a.part, a.rest) a.here in
    let s = g.entered in
    let others : stands g.middle (with_children o c ∷ os) ≡ Some (opened o g.others ∷ a.others) = open_on g.middle (with_children o c) os g.others a.rest a.others g.behind a.behind in (
      opened p s.1 ∷ opened o g.others ∷ a.others,
      open_on now p (with_children o c ∷ os) s.1 g.middle (opened o g.others ∷ a.others) s.2 (ap (λ b. stands (resumed b g.middle) (with_children o c ∷ os)) s.0 ∙ others),
      had o a.part a.others ss g.first g.others a.all g.links ∙ ap (λ z. z ++ (part_links o.residual o.depth g.others ++ all_links a.others)) (sym s.3.reaches),
      (let t : all_weight ss ≡ part_weight a.part + all_weight a.others = ap all_weight (sym a.all) in let l = s.3.light in let k = g.lighter in omega (arith, t, l, k)),
    )

-- an open item without links is let go
let_go : (o : OpenNode) (part : Part) (at rest : List ℕ) (os : List OpenNode) (others ss : List Subtree) → stands (resumed o.resume_at rest) os ≡ Some others → opened o part ∷ others ≡ ss → at ≡ rest → part_links o.residual o.depth part ≡ []
    → (new : List Subtree) × (stands (resumed o.resume_at at) os ≡ Some new) × (all_links ss ≡ all_links new) × (all_weight new < all_weight ss)
let_go o part at rest os others ss behind all is nothing = (
  others,
  ap (λ l. stands (resumed o.resume_at l) os) is ∙ behind,
  ap all_links (sym all) ∙ ap (λ z. z ++ all_links others) nothing,
  (let t : all_weight ss ≡ part_weight part + all_weight others = ap all_weight (sym all) in let s = some_weight part in omega (arith, t, s)),
) where
  some_weight : (p : Part) → 0 < part_weight p
  some_weight (to_cid c) = omega arith
  some_weight (members n ds) = omega arith
  some_weight (values es) = omega arith

-- nothing more was entered
pub expanded_none : (o : OpenNode) (c : Children) (at now : List ℕ) (os : List OpenNode) (ss : List Subtree) → IsNext o.residual o.depth o.children at None c now → stands at (o ∷ os) ≡ Some ss
    → (new : List Subtree) × (stands (resumed o.resume_at now) os ≡ Some new) × (all_links ss ≡ all_links new) × (all_weight new < all_weight ss)
expanded_none o c at now os ss next e =
    let a = open_apart at o os ss e in
    let g = next (a.part, a.rest) a.here in
    let_go o a.part now a.rest os a.others ss a.behind a.all g.0 g.1

-- no child is left
pub spent_expanded : (o : OpenNode) (at : List ℕ) (os : List OpenNode) (ss : List Subtree) → is_spent o.children ≡ true → stands at (o ∷ os) ≡ Some ss
    → (new : List Subtree) × (stands (resumed o.resume_at at) os ≡ Some new) × (all_links ss ≡ all_links new) × (all_weight new < all_weight ss)
spent_expanded o at os ss spent e =
    let a = open_apart at o os ss e in
    let s = spent_part o.children at (a.part, a.rest) spent a.here in
    let_go o a.part at a.rest os a.others ss a.behind a.all s.0 (s.1 o.residual o.depth)

-- ---- frontiers

-- no link comes first, and what was left is left still
pub record IsKept (old new : Frontier) : Type 0 where
  pub next : new.next ≡ None
  pub keeps : (ss : List Subtree) → frontier_stands old ≡ Some ss → (more : List Subtree) × (frontier_stands new ≡ Some more) × (all_links ss ≡ all_links more)

-- and it is less
pub record Steps (old new : Frontier) : Type 0 where
  pub next : new.next ≡ None
  pub on : (ss : List Subtree) → frontier_stands old ≡ Some ss → (more : List Subtree) × (frontier_stands new ≡ Some more) × (all_links ss ≡ all_links more) × (all_weight more < all_weight ss)

-- one more step keeps what the loop has
pub steps_kept : (first loop new : Frontier) → IsKept first loop → Steps loop new → IsKept first new
steps_kept first loop new kept steps = record {
  next = steps.next;
  keeps = λ ss e.
      let k = kept.keeps ss e in
      let s = steps.on k.0 k.1 in (s.0, s.1, k.2 ∙ s.2);
}

-- each step makes the frontier lighter, so the loop ends
pub steps_lighter : (first loop new : Frontier) → IsStanding first → IsKept first loop → Steps loop new → trail_weight new < trail_weight loop
steps_lighter first loop new is kept steps =
    let k = kept.keeps is.0 is.1 in
    let s = steps.on k.0 k.1 in
    let w : all_weight (subtrees loop) ≡ all_weight k.0 = ap all_weight (subtrees_are loop k.0 k.1) in
    let v : all_weight (subtrees new) ≡ all_weight s.0 = ap all_weight (subtrees_are new s.0 s.1) in
    let l = s.3 in omega (arith, w, v, l)

-- the next item of a stack, above the others
above : (t : Frontier) (o : OpenNode) (rest : List OpenNode) (ss : List Subtree) → t.next ≡ None → t.stack.items ≡ rest ++ o ∷ [] → frontier_stands t ≡ Some ss → stands t.at (o ∷ reverse rest) ≡ Some ss
above t o rest ss next items e = ap (stands t.at) (sym (reversed_push t.stack.items rest o items)) ∙ sym (trail_without t next) ∙ e

-- others, wherever the walk is
below : (t : Frontier) (rest : List OpenNode) (at : List ℕ) (ss : List Subtree) → t.next ≡ None → t.stack.items ≡ rest → t.at ≡ at → stands at (reverse rest) ≡ Some ss → frontier_stands t ≡ Some ss
below t rest at ss next items at_is e = trail_without t next ∙ ap (λ l. stands l (reverse t.stack.items)) at_is ∙ ap (λ os. stands at (reverse os)) items ∙ e

-- an item that has no child left is let go
pub step_spent : (old new : Frontier) (o : OpenNode) (rest : List OpenNode) → old.next ≡ None → new.next ≡ None → old.stack.items ≡ rest ++ o ∷ [] → new.stack.items ≡ rest → is_spent o.children ≡ true → new.at ≡ resumed o.resume_at old.at
    → Steps old new
step_spent old new o rest next then items left spent at_is = record {
  next = then;
  on = λ ss e.
      let g = spent_expanded o old.at (reverse rest) ss spent (above old o rest ss next items e) in (g.0, below new rest (resumed o.resume_at old.at) g.0 then left at_is g.1, g.2, g.3);
}

-- one of which nothing more comes
pub step_none : (old new : Frontier) (o n : OpenNode) (found : Option Child) (now : List ℕ) (rest : List OpenNode) → old.next ≡ None → new.next ≡ None → old.stack.items ≡ rest ++ o ∷ [] → new.stack.items ≡ rest
    → found ≡ None → IsNext o.residual o.depth o.children old.at found n.children now → n ≡ with_children o n.children → new.at ≡ resumed n.resume_at now → Steps old new
step_none old new o n found now rest next then items left none is same at_is = record {
  next = then;
  on = λ ss e.
      let here : IsNext o.residual o.depth o.children old.at None n.children now = subst (λ f. IsNext o.residual o.depth o.children old.at f n.children now) none is in
      let back : new.at ≡ resumed o.resume_at now = at_is ∙ ap (λ (m : OpenNode). resumed m.resume_at now) same in
      let g = expanded_none o n.children old.at now (reverse rest) ss here (above old o rest ss next items e) in (g.0, below new rest (resumed o.resume_at now) g.0 then left back g.1, g.2, g.3);
}

-- one in which another was entered
pub step_open : (old new : Frontier) (o n p : OpenNode) (found : Option Child) (rest : List OpenNode) → old.next ≡ None → new.next ≡ None → old.stack.items ≡ rest ++ o ∷ [] → new.stack.items ≡ (rest ++ n ∷ []) ++ p ∷ []
    → found ≡ Some (Open p) → IsNext o.residual o.depth o.children old.at found n.children new.at → n ≡ with_children o n.children → Steps old new
step_open old new o n p found rest next then items pushed opens is same = record {
  next = then;
  on = λ ss e.
      let here : IsNext o.residual o.depth o.children old.at (Some (Open p)) n.children new.at = subst (λ f. IsNext o.residual o.depth o.children old.at f n.children new.at) opens is in
      let g = expanded_open o p n.children old.at new.at (reverse rest) ss here (above old o rest ss next items e) in
      let stack : reverse new.stack.items ≡ p ∷ with_children o n.children ∷ reverse rest =
      reversed_push new.stack.items (rest ++ n ∷ []) p pushed ∙ ap (λ os. p ∷ os) (reversed_push (rest ++ n ∷ []) rest n refl ∙ ap (λ x. x ∷ reverse rest) same) in
      (g.0, trail_without new then ∙ ap (stands new.at) stack ∙ g.1, g.2, g.3);
}

-- a link was found, and what has no child left is let go
pub link_found : (first loop mid new : Frontier) (o n : OpenNode) (f : PendingLink) (rest : List OpenNode) → IsKept first loop → mid.next ≡ None → loop.stack.items ≡ rest ++ o ∷ [] → mid.stack.items ≡ rest ++ n ∷ []
    → IsNext o.residual o.depth o.children loop.at (Some (Link f)) n.children mid.at → n ≡ with_children o n.children → Leaves mid new → Finds first (Some f) new
link_found first loop mid new o n f rest kept then items pushed is same leaves = λ ss e.
    let k = kept.keeps ss e in
    let g = expanded_link o f n.children loop.at mid.at (reverse rest) k.0 is (above loop o rest k.0 kept.next items k.1) in
    let stack : reverse mid.stack.items ≡ with_children o n.children ∷ reverse rest = reversed_push mid.stack.items rest n pushed ∙ ap (λ x. x ∷ reverse rest) same in
    let l = leaves g.0 (trail_without mid then ∙ ap (stands mid.at) stack ∙ g.1) in (
      l.0,
      l.1,
      record {
        links = k.2 ∙ g.2.links ∙ ap (λ z. f ∷ z) l.2;
        ends = tt;
      },
    )

-- the link that comes first is taken
pub next_taken : (old new : Frontier) (f : PendingLink) → old.next ≡ Some f → new.next ≡ None → new.at ≡ old.at → new.stack.items ≡ old.stack.items → Finds old (Some f) new
next_taken old new f next then at_is stack_is = λ ss e.
    let m = some_mapped (with_next (Some f)) (stands old.at (reverse old.stack.items)) ss (ap (λ o. option_map (with_next o) (stands old.at (reverse old.stack.items))) (sym next) ∙ e) in (
      m.0,
      below new old.stack.items old.at m.0 then stack_is at_is m.1,
      record {
        links = ap all_links (sym m.2);
        ends = tt;
      },
    )

-- the last of a stack, and those before it
pub last_popped : (xs ys ds : List OpenNode) (o : OpenNode) (n : ℕ) → ds ≡ xs → length ds ≡ n → ys ≡ take (n - 1) xs → (true ≡ nat_lt 0 (length ds)) → o ≡ get_or ds (length ds - 1) o → xs ≡ ys ++ o ∷ []
last_popped xs ys ds o n same len is some last =
    let long : 0 < length xs = subst (λ (l : List OpenNode). 0 < length l) same (holds (length ds) (sym some)) in
    let m : length xs ≡ n = sym (ap length same) ∙ len in
    let here : o ≡ get_or xs (n - 1) o = last ∙ ap (λ (l : List OpenNode). get_or l (length l - 1) o) same ∙ ap (λ (k : ℕ). get_or xs (k - 1) o) m in
    let k : n - 1 + 1 ≡ length xs = omega (arith, long, m) in
    sym (take_all (n - 1 + 1) xs (omega (arith, k))) ∙ take_more xs (n - 1) o (omega (arith, long, m)) ∙ ap (λ (l : List OpenNode). l ++ get_or xs (n - 1) o ∷ []) (sym is) ∙ ap (λ (p : OpenNode). ys ++ p ∷ []) (sym here) where
      holds : (n : ℕ) → nat_lt 0 n ≡ true → 0 < n
      holds n h = grind (arith, nat_tests)

-- the last of a stack, and what is there once another is written over it
last_put : (xs : List OpenNode) (i : ℕ) (n : OpenNode) → i + 1 ≡ length xs → set xs i n ≡ take i xs ++ n ∷ []
last_put [] i n e = absurd (omega arith)
last_put (z ∷ []) zero n e = refl
last_put (z ∷ y ∷ xs) zero n e = absurd (omega arith)
last_put (z ∷ xs) (suc i) n e = ap (λ l. z ∷ l) (last_put xs i n (omega arith))

pub record IsLast (xs : List OpenNode) (len : ℕ) (o n : OpenNode) : Type 0 where
  pub was : xs ≡ take (len - 1) xs ++ o ∷ []
  pub is : set xs (len - 1) n ≡ take (len - 1) xs ++ n ∷ []

-- replacing the last entry of the stack
pub last_written : (xs : List OpenNode) (len : ℕ) (o n : OpenNode) → len ≡ length xs → (true ≡ nat_lt 0 (length xs)) → o ≡ get_or xs (len - 1) o → IsLast xs len o n
last_written xs len o n long some last =
    let here : o ≡ get_or xs (length xs - 1) o = last ∙ ap (λ k. get_or xs (k - 1) o) long in
    let some_there : 0 < length xs = holds (length xs) (sym some) in
    record { was = last_popped xs (take (len - 1) xs) xs o len refl (sym long) refl some here; is = last_put xs (len - 1) n (omega (arith, some_there, long)) } where
      holds : (n : ℕ) → nat_lt 0 n ≡ true → 0 < n
      holds n h = grind (arith, nat_tests)

-- two lists with one more each
last_same : (xs ys : List OpenNode) (x y : OpenNode) → xs ++ x ∷ [] ≡ ys ++ y ∷ [] → (xs ≡ ys) × (x ≡ y)
last_same [] [] x y h = (refl, cc)
last_same [] (b ∷ []) x y h = absurd cc
last_same [] (b ∷ c ∷ ys) x y h = absurd cc
last_same (a ∷ []) [] x y h = absurd cc
last_same (a ∷ b ∷ xs) [] x y h = absurd cc
last_same (a ∷ xs) (b ∷ ys) x y h =
    let first : a ≡ b = cc in
    let others : xs ++ x ∷ [] ≡ ys ++ y ∷ [] = cc in
    let rest = last_same xs ys x y others in
    (λ i. first i ∷ rest.0 i, rest.1)

-- where another was written over the last and then taken, those before it are left
pub last_taken : (xs ys : List OpenNode) (len : ℕ) (o n p : OpenNode) → IsLast xs len o n → set xs (len - 1) n ≡ ys ++ p ∷ [] → (xs ≡ ys ++ o ∷ []) × (n ≡ p)
last_taken xs ys len o n p last popped =
    let same = last_same (take (len - 1) xs) ys n p (sym last.is ∙ popped) in
    (last.was ∙ ap (λ l. l ++ o ∷ []) same.0, same.1)

-- a part is left of the last of a stack
pub last_part : (first loop : Frontier) (o : OpenNode) (rest : List OpenNode) → IsStanding first → IsKept first loop → loop.stack.items ≡ rest ++ o ∷ [] → IsPart o.children loop.at
last_part first loop o rest standing kept items =
    let k = kept.keeps standing.0 standing.1 in
    let a = open_apart loop.at o (reverse rest) k.0 (above loop o rest k.0 kept.next items k.1) in
    ((a.part, a.rest), a.here)
