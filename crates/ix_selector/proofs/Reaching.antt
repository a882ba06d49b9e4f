-- What states enter, and what is added where one more is reached.
use Rattle.std.proofs.Common.{◌≡◌, ◌⊎◌, inl, inr, ⊎_elim, List, [], ◌∷◌, ◌++◌, sym, ◌∙◌, subst, arith}
use Rattle.std.specs.List.{All, Contains}
use Rattle.std.specs.List.Sorted.{IsPermutation}
use Rattle.std.proofs.lemmas.List.Elements.{Contains-append_left, Contains-append_right, Contains-append_cases, Contains-push, Contains-push_cases, All-contains, All-weaker, All-contains_itself}
use Rattle.std.proofs.lemmas.List.Sorted.{Contains-permutation, IsPermutation-sym}
use Rattle.ix_selector.specs.declared.selector_node.SelectorNode.{SelectorNode}
use Rattle.ix_selector.specs.declared.state.State.{State}
use Rattle.ix_selector.specs.declared.reached.Reached.{Reached}
use Rattle.ix_selector.specs.Enters.{Path}
use Rattle.ix_selector.specs.Reaching.{AreReached}
use Rattle.ix_selector.specs.States.{EntersAt, SomeEnter, ReachedEnters, HasNoEdge, Same, Joins}

-- none of no states enters
pub none-enter : (nodes : List SelectorNode) (p : Path) → SomeEnter nodes [] p → ⊥
none-enter nodes p h = let among = h.among in omega (arith, among.1)

-- one more state enters what it enters
pub some-push : (nodes : List SelectorNode) (xs : List State) (x : State) → Joins (SomeEnter nodes (xs ++ x ∷ [])) (SomeEnter nodes xs) (EntersAt nodes x)
some-push nodes xs x p = (
  λ h.
      ⊎_elim
      (λ (among : Contains xs h.state). inl (record { state = h.state; among = among; enters = h.enters }))
      (λ (is : x ≡ h.state). inr (subst (λ y. EntersAt nodes y p) (sym is) h.enters))
      (Contains-push_cases xs x h.state h.among),
  λ h.
      ⊎_elim
      (λ (old : SomeEnter nodes xs p). record { state = old.state; among = Contains-append_left xs (x ∷ []) old.state old.among; enters = old.enters })
      (λ (new : EntersAt nodes x p). record { state = x; among = Contains-push xs x; enters = new })
      h,
)

-- in another order the states enter the same
pub some-permutation : (nodes : List SelectorNode) (xs ys : List State) → IsPermutation xs ys → Same (SomeEnter nodes ys) (SomeEnter nodes xs)
some-permutation nodes xs ys moved p = (
  λ h. record { state = h.state; among = Contains-permutation ys xs h.state (IsPermutation-sym xs ys moved) h.among; enters = h.enters },
  λ h. record { state = h.state; among = Contains-permutation xs ys h.state moved h.among; enters = h.enters },
)

-- ---- paths of several kinds

-- the joined paths may be said in another way
pub joins-same : (A B C D : Path → Type 0) → Joins A B C → Same C D → Joins A B D
joins-same A B C D j s p = (
  λ h. ⊎_elim (λ (b : B p). inl b) (λ (c : C p). inr ((s p).0 c)) ((j p).0 h),
  λ h. (j p).1 (⊎_elim (λ (b : B p). inl b) (λ (d : D p). inr ((s p).1 d)) h),
)

-- adding nothing
pub joins-nothing : (A C : Path → Type 0) → ((p : Path) → C p → ⊥) → Joins A A C
joins-nothing A C none p = (λ h. inl h, λ h. ⊎_elim (λ (a : A p). a) (λ (c : C p). absurd (none p c)) h)

-- adding twice
pub joins-twice : (A B C D E : Path → Type 0) → Joins B A C → Joins D B E → Joins D A (λ p. C p ⊎ E p)
joins-twice A B C D E first second p = (
  λ h.
      ⊎_elim
      (λ (b : B p). ⊎_elim (λ (a : A p). inl a) (λ (c : C p). inr (inl c)) ((first p).0 b))
      (λ (e : E p). inr (inr e))
      ((second p).0 h),
  λ h.
      (second p).1
      (⊎_elim
      (λ (a : A p). inl ((first p).1 (inl a)))
      (λ (more : C p ⊎ E p). ⊎_elim (λ (c : C p). inl ((first p).1 (inr c))) (λ (e : E p). inr e) more)
      h),
)

-- one more matcher or explorer, and one more sequence
pub standing-more : (nodes : List SelectorNode) (old new : Reached) (x : State) → new.explore.items ≡ old.explore.items ++ x ∷ [] → new.reentries.items ≡ old.reentries.items
    → Joins (ReachedEnters nodes new) (ReachedEnters nodes old) (EntersAt nodes x)
standing-more nodes old new x more same p =
    let push = some-push nodes old.explore.items x p in (
      λ h.
          ⊎_elim
          (λ (s : SomeEnter nodes new.explore.items p).
          ⊎_elim (λ (o : SomeEnter nodes old.explore.items p). inl (inl o)) (λ (e : EntersAt nodes x p). inr e) (push.0 (subst (λ l. SomeEnter nodes l p) more s)))
          (λ (a : SomeEnter nodes new.reentries.items p). inl (inr (subst (λ l. SomeEnter nodes l p) same a)))
          h,
      λ h.
          ⊎_elim
          (λ (o : ReachedEnters nodes old p).
          ⊎_elim
          (λ (s : SomeEnter nodes old.explore.items p). inl (subst (λ l. SomeEnter nodes l p) (sym more) (push.1 (inl s))))
          (λ (a : SomeEnter nodes old.reentries.items p). inr (subst (λ l. SomeEnter nodes l p) (sym same) a))
          o)
          (λ (e : EntersAt nodes x p). inl (subst (λ l. SomeEnter nodes l p) (sym more) (push.1 (inr e))))
          h,
    )

-- states of two lists
pub some-append : (nodes : List SelectorNode) (xs ys : List State) → Joins (SomeEnter nodes (xs ++ ys)) (SomeEnter nodes xs) (SomeEnter nodes ys)
some-append nodes xs ys p = (
  λ h.
      ⊎_elim
      (λ (a : Contains xs h.state). inl (record { state = h.state; among = a; enters = h.enters }))
      (λ (b : Contains ys h.state). inr (record { state = h.state; among = b; enters = h.enters }))
      (Contains-append_cases xs ys h.state h.among),
  λ h.
      ⊎_elim
      (λ (a : SomeEnter nodes xs p). record { state = a.state; among = Contains-append_left xs ys a.state a.among; enters = a.enters })
      (λ (b : SomeEnter nodes ys p). record { state = b.state; among = Contains-append_right xs ys b.state b.among; enters = b.enters })
      h,
)

-- several more sequences
pub again-more : (nodes : List SelectorNode) (old new : Reached) (xs : List State) → new.reentries.items ≡ old.reentries.items ++ xs → new.explore.items ≡ old.explore.items
    → Joins (ReachedEnters nodes new) (ReachedEnters nodes old) (SomeEnter nodes xs)
again-more nodes old new xs more same p =
    let push = some-append nodes old.reentries.items xs p in (
      λ h.
          ⊎_elim
          (λ (s : SomeEnter nodes new.explore.items p). inl (inl (subst (λ l. SomeEnter nodes l p) same s)))
          (λ (a : SomeEnter nodes new.reentries.items p).
          ⊎_elim (λ (o : SomeEnter nodes old.reentries.items p). inl (inr o)) (λ (e : SomeEnter nodes xs p). inr e) (push.0 (subst (λ l. SomeEnter nodes l p) more a)))
          h,
      λ h.
          ⊎_elim
          (λ (o : ReachedEnters nodes old p).
          ⊎_elim
          (λ (s : SomeEnter nodes old.explore.items p). inl (subst (λ l. SomeEnter nodes l p) (sym same) s))
          (λ (a : SomeEnter nodes old.reentries.items p). inr (subst (λ l. SomeEnter nodes l p) (sym more) (push.1 (inl a))))
          o)
          (λ (e : SomeEnter nodes xs p). inr (subst (λ l. SomeEnter nodes l p) (sym more) (push.1 (inr e))))
          h,
    )

-- ---- states reached one by one

-- these states were reached
pub record Reaches (nodes : List SelectorNode) (old new : Reached) (xs : List State) : Type 0 where
  pub reached : AreReached nodes new
  pub enters : Joins (ReachedEnters nodes new) (ReachedEnters nodes old) (SomeEnter nodes xs)
  pub reentries : All (HasNoEdge nodes) xs → new.reentries.items ≡ old.reentries.items

-- one more
pub reaches-more : (nodes : List SelectorNode) (old mid new : Reached) (xs : List State) (x : State) → Reaches nodes old mid xs → AreReached nodes new
    → Joins (ReachedEnters nodes new) (ReachedEnters nodes mid) (EntersAt nodes x) → (HasNoEdge nodes x → new.reentries.items ≡ mid.reentries.items) → Reaches nodes old new (xs ++ x ∷ [])
reaches-more nodes old mid new xs x so_far is enters again = record {
  reached = is;
  enters =
      joins-same (ReachedEnters nodes new) (ReachedEnters nodes old) (λ p. SomeEnter nodes xs p ⊎ EntersAt nodes x p) (SomeEnter nodes (xs ++ x ∷ []))
      (joins-twice (ReachedEnters nodes old) (ReachedEnters nodes mid) (SomeEnter nodes xs) (ReachedEnters nodes new) (EntersAt nodes x) so_far.enters enters)
      (λ p. ((some-push nodes xs x p).1, (some-push nodes xs x p).0));
  reentries = λ h.
      again (All-contains (HasNoEdge nodes) (xs ++ x ∷ []) x h (Contains-push xs x))
      ∙ so_far.reentries (All-weaker (Contains xs) (HasNoEdge nodes) (λ y among. All-contains (HasNoEdge nodes) (xs ++ x ∷ []) y h (Contains-append_left xs (x ∷ []) y among)) xs (All-contains_itself xs));
}
