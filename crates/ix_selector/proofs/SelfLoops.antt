-- A state whose every child is an edge that enters the state's own place again.
use Rattle.std.proofs.Common.{◌≡◌, ℕ, ◌-◌, ◌<◌, List, [], ◌∷◌, get_or, length, sym, ◌∙◌, ap, subst, arith, append-nil, ⊎_elim}
use Rattle.std.specs.Prelude.{Some, if◌then◌else◌}
use Rattle.std.specs.List.{All}
use Rattle.std.proofs.lemmas.List.Elements.{All-nil, All-cons}
use Rattle.ix_selector.specs.declared.selector_node.SelectorNode.{SelectorNode}
use Rattle.ix_selector.specs.declared.selector_node.SelectorNode.TheVariants.{All as AllNode, Edge}
use Rattle.ix_selector.specs.declared.state.State.{State}
use Rattle.ix_selector.specs.declared.state.Recursion.{Recursion}
use Rattle.ix_selector.specs.Pattern.{all, edge}
use Rattle.ix_selector.specs.Enters.{Step, Path, Enters, below_all}
use Rattle.ix_selector.specs.Residual.{step_of}
use Rattle.ix_selector.specs.Places.{at, places_of}
use Rattle.ix_selector.specs.Laid.{IsTable}
use Rattle.ix_selector.specs.States.{frames, sequence_of, place_of, seen_states, selector_at, EntersAt, SomeEnter, IsState, IsStanding, Stands, Same}
use Rattle.ix_selector.specs.Reaching.{reenter_edges, EachStepLeavesState}
use Rattle.ix_selector.specs.Behind.{inside_of, leads, leads_from, all_lead, is_edge, standing, again, innermost, leads_after_from, all_lead_after, merged, entering, residual_after}
use Rattle.ix_selector.proofs.Reaching.{none-enter}
use Rattle.ix_selector.proofs.Inside.{place-is, node-is, some-cons, cons-here, paths-reentered, states-reentered}
use Rattle.ix_selector.proofs.Leading.{out_all}
use Rattle.ix_selector.proofs.Adding.{all-as, places-reentered, leads-itself}

module _ (nodes : List SelectorNode) (table : IsTable nodes) (x : State) (is_state : IsState nodes x) (k : ℕ) (is : AllNode k ≡ get_or nodes x.place (AllNode k)) (edge_is : Edge ≡ get_or nodes k Edge)
    (lower : Recursion) (left : reenter_edges x.recursion ≡ record { place = lower.sequence; recursion = Some lower } ∷ []) (own : lower.sequence ≡ x.place) where
  abbrev pub next : State
  next = record { place = lower.sequence; recursion = Some lower }

  inside : k < length nodes
  inside = let within = is_state.within in let before : k < x.place = node-is nodes x.place (AllNode k) table.placed is_state.within is in omega arith

  child : at (places_of nodes) k ≡ edge
  child = place-is nodes k Edge table.placed inside edge_is

  looks : selector_at nodes x ≡ all edge
  looks = place-is nodes x.place (AllNode k) table.placed is_state.within is ∙ ap all child

  looks_next : selector_at nodes next ≡ all edge
  looks_next = ap (at (places_of nodes)) own ∙ looks

  stands : IsStanding nodes next
  stands = subst Stands (sym looks_next) tt

  -- ---- what it enters

  one : (p : Path) → SomeEnter nodes (next ∷ []) p → EntersAt nodes next p
  one p h = ⊎_elim (λ (here : EntersAt nodes next p). here) (λ (there : SomeEnter nodes [] p). absurd (none-enter nodes p there)) (some-cons nodes next [] p h)

  enters_same : (t : Step) → Same (SomeEnter nodes (next ∷ [])) (λ p. SomeEnter nodes (x ∷ []) (t ∷ p))
  enters_same t p =
      let e = frames (places_of nodes) x.recursion in
      let edges = paths-reentered nodes x.recursion p in (
        λ h. cons-here nodes x [] (t ∷ p) (subst (λ s. Enters s e (t ∷ p)) (sym looks) (below_all (edges.0 (subst (λ l. SomeEnter nodes l p) (sym left) h)))),
        λ h.
            subst (λ l. SomeEnter nodes l p) left
            (edges.1
            (out_all
            (subst (λ s. Enters s e (t ∷ p)) looks
            (⊎_elim (λ (here : EntersAt nodes x (t ∷ p)). here) (λ (there : SomeEnter nodes [] (t ∷ p)). absurd (none-enter nodes (t ∷ p) there)) (some-cons nodes x [] (t ∷ p) h))))),
      )

  -- ---- what it leaves

  -- its only child is the edge
  found : (t : Step) → all_lead_after (place_of nodes x ∷ []) t ≡ leads edge (k - 0) (frames (places_of nodes) x.recursion) (sequence_of x.recursion)
  found t =
      let e = frames (places_of nodes) x.recursion in
      let q = sequence_of x.recursion in
      append-nil (leads_after_from (place_of nodes x) t) ∙ all-as nodes table.placed table.laid x.place is_state.within t k is e q ∙ ap (λ s. leads s (k - inside_of s) e q) child

  enters_again : (t : Step) → again (all_lead_after (place_of nodes x ∷ []) t) ≡ place_of nodes next ∷ []
  enters_again t =
      ap again (found t)
      ∙ append-nil (innermost (frames (places_of nodes) x.recursion) (sequence_of x.recursion))
      ∙ sym (places-reentered nodes x.recursion)
      ∙ ap (seen_states nodes) left

  -- it leads to itself
  itself : standing (all_lead (place_of nodes next ∷ [])) ≡ place_of nodes next ∷ []
  itself =
      let within : next.place < length nodes = subst (λ n. n < length nodes) (sym own) is_state.within in
      let at_next : AllNode k ≡ get_or nodes next.place (AllNode k) = is ∙ ap (λ n. get_or nodes n (AllNode k)) (sym own) in
      ap standing (append-nil (leads_from (place_of nodes next)) ∙ leads-itself nodes table.placed table.laid next within (AllNode k) at_next stands)
      ∙ ap (λ s. if is_edge s then [] else place_of nodes next ∷ []) looks_next

  leaves : (t : Step) → seen_states nodes (next ∷ []) ≡ residual_after (seen_states nodes (x ∷ [])) t
  unfolding residual_after
  leaves t = sym (ap (λ l. entering (standing l) (again (all_lead_after (place_of nodes x ∷ []) t))) (found t) ∙ ap (entering []) (enters_again t) ∙ ap merged itself)

  pub each-step : EachStepLeavesState nodes x next
  each-step = record {
    states = (subst (λ l. All (IsState nodes) l) left (states-reentered nodes x.place x.recursion is_state.sequence is_state.stands).0, All-cons (IsStanding nodes) next [] stands (All-nil (IsStanding nodes)));
    enters = λ t. enters_same (step_of t);
    exact = λ t. leaves (step_of t);
  }
