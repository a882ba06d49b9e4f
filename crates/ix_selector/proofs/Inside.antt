-- What is reached from a place without a step: a union's members, a recursion's sequence, and what an edge re-enters.
use Rattle.std.proofs.Common.{◌≡◌, ℕ, zero, suc, ◌+◌, ◌-◌, ◌<◌, ◌⊎◌, inl, inr, ⊎_elim, Bool, true, false, true≢false, List, [], ◌∷◌, ◌++◌, map, take, get_or, length, refl, sym, ◌∙◌, ap, subst, arith}
use Rattle.std.specs.Prelude.{Option, Some, None, nat_le, if◌then◌else◌}
use Rattle.std.specs.List.{All}
use Rattle.std.proofs.lemmas.Bool.{leb-true, le-leb}
use Rattle.std.proofs.lemmas.List.{take_more, map_push}
use Rattle.std.proofs.lemmas.List.Elements.{All-nil, All-cons, All-head, All-tail, All-append, All-push}
use Rattle.ix_selector.specs.declared.selector_node.SelectorNode.{SelectorNode}
use Rattle.ix_selector.specs.declared.selector_node.SelectorNode.TheVariants.{Matcher, All as AllNode, Fields, Index, Range, Recursive, Union, Edge}
use Rattle.ix_selector.specs.declared.state.State.{State}
use Rattle.ix_selector.specs.declared.state.Recursion.{Recursion}
use Rattle.ix_selector.specs.declared.reached.Reached.{Reached}
use Rattle.ix_selector.specs.Pattern.{Pattern, Fields as FieldPatterns, Members, matcher, all, fields, index, range, recursive, union, edge, no_fields, field, no_members, member, members_of, Around, unguarded, guarded, MayStand, IsGuarded, AreGuarded, EachGuarded}
use Rattle.ix_selector.specs.Enters.{Path, Frame, IsMember, head, tail, Enters, in_union, in_recursion, at_edge, at_edge_within}
use Rattle.ix_selector.specs.Places.{at, places_of, seen, AreBelow, IsNode, AreNodes, IsNumber}
use Rattle.ix_selector.specs.Standing.{IsBeside, IsStandingIn, in_own, in_same}
use Rattle.ix_selector.specs.Reaching.{AreReached, members_at, at_start, reenter_edges}
use Rattle.ix_selector.specs.States.{frames, selector_at, EntersAt, SomeEnter, around, IsSequence, sequence_of, IsState, Stands, IsStanding, HasNoEdge, ReachedEnters, Same, Joins}
use Rattle.ix_selector.proofs.Nodes.{place-seen, node-at}
use Rattle.ix_selector.proofs.Standing.{own-start}
use Rattle.ix_selector.proofs.Entering.{inner_only, edge-inside, edge-inside_within, edge-nowhere}
use Rattle.ix_selector.proofs.Reaching.{none-enter, standing-more, again-more, joins-same}

-- a place is what its node is, and its node names places before it
pub place-is : (xs : List SelectorNode) (n : ℕ) (y : SelectorNode) → AreNodes 0 xs → n < length xs → y ≡ get_or xs n y → at (places_of xs) n ≡ seen (places_of xs) y
place-is xs n y nodes h is = place-seen xs n y nodes h ∙ ap (seen (places_of xs)) (sym is)

-- a node names places before it, at any position of the table
pub node-is : (xs : List SelectorNode) (n : ℕ) (y : SelectorNode) → AreNodes 0 xs → n < length xs → y ≡ get_or xs n y → IsNode n y
node-is xs n y nodes h is = subst (λ z. IsNode n z) (sym is) (subst (λ k. IsNode k (get_or xs n y)) {x = 0 + n} (omega arith) (node-at 0 xs n y nodes h))

mutual
  -- after a step more edges are allowed
  pub guarded-later : (s : Pattern) → IsGuarded unguarded s → IsGuarded guarded s
  guarded-later matcher g = tt
  guarded-later (all s) g = g
  guarded-later (fields fs) g = fields_guarded_later fs g
  guarded-later (index i s) g = g
  guarded-later (range i j s) g = g
  guarded-later (recursive d s) g = g
  guarded-later (union ss) g = each_guarded_later ss g
  guarded-later edge g = absurd g

  fields_guarded_later : (fs : FieldPatterns) → AreGuarded unguarded fs → AreGuarded guarded fs
  fields_guarded_later no_fields g = tt
  fields_guarded_later (field k s fs) g = (g.0, fields_guarded_later fs g.1)

  each_guarded_later : (ss : Members) → EachGuarded unguarded ss → EachGuarded guarded ss
  each_guarded_later no_members g = tt
  each_guarded_later (member s ss) g = (guarded-later s g.0, each_guarded_later ss g.1)

-- the first of some states, or another
pub some-cons : (nodes : List SelectorNode) (x : State) (xs : List State) (p : Path) → SomeEnter nodes (x ∷ xs) p → EntersAt nodes x p ⊎ SomeEnter nodes xs p
some-cons nodes x xs p h = by h.among.0 h.among.1 h.among.2 where
  by : (k : ℕ) → k < length (x ∷ xs) → get_or (x ∷ xs) k h.state ≡ h.state → EntersAt nodes x p ⊎ SomeEnter nodes xs p
  by zero within is = inl (subst (λ y. EntersAt nodes y p) (sym is) h.enters)
  by (suc k) within is = inr (record { state = h.state; among = (k, omega arith, is); enters = h.enters })

-- the first of some states enters
pub cons-here : (nodes : List SelectorNode) (x : State) (xs : List State) (p : Path) → EntersAt nodes x p → SomeEnter nodes (x ∷ xs) p
cons-here nodes x xs p h = record { state = x; among = (0, omega arith, refl); enters = h }

-- or one of the others
pub cons-there : (nodes : List SelectorNode) (x : State) (xs : List State) (p : Path) → SomeEnter nodes xs p → SomeEnter nodes (x ∷ xs) p
cons-there nodes x xs p h = record { state = h.state; among = (suc h.among.0, let below = h.among.1 in omega arith, h.among.2); enters = h.enters }

-- ---- the sequence of a recursion

-- a recursion enters only what its sequence enters inside it
pub out_recursion : {d : Option ℕ} {s : Pattern} {e : List Frame} {p : Path} → Enters (recursive d s) e p → Enters s (record { sequence = s; depth = d } ∷ e) p
out_recursion (in_recursion h) = h

module _ (nodes : List SelectorNode) (table : AreNodes 0 nodes) (x : State) (is_state : IsState nodes x) (d : Option ℕ) (k : ℕ) (is : Recursive d k ≡ get_or nodes x.place (Recursive d k)) where
  -- the selector at the place is that recursion
  is_recursive : selector_at nodes x ≡ recursive d (at (places_of nodes) k)
  is_recursive = place-is nodes x.place (Recursive d k) table is_state.within is

  -- the sequence at its start, with the recursion's limit
  abbrev sequence_state : State
  sequence_state = record { place = k; recursion = Some (record { sequence = k; depth = d }) }

  -- its place is before the recursion's, so the descent ends
  pub sequence-before : k < x.place
  sequence-before = node-is nodes x.place (Recursive d k) table is_state.within is

  -- so it is in the table
  sequence_within : k < length nodes
  sequence_within = let below = sequence-before in let within = is_state.within in omega arith

  -- in the sequence a step is before each edge
  sequence_guarded : IsGuarded unguarded (at (places_of nodes) k)
  sequence_guarded = let g = subst (IsGuarded (around x.recursion)) is_recursive is_state.guarded in g.1

  -- so it is a state of the table
  pub sequence-state : IsState nodes sequence_state
  sequence-state = record { within = sequence_within; guarded = guarded-later (at (places_of nodes) k) sequence_guarded; sequence = (sequence_within, sequence_guarded); stands = in_own (record { depth = d; within = is_state.within; is = is }) }

  -- and enters what the recursion enters
  pub sequence-enters : Same (EntersAt nodes sequence_state) (EntersAt nodes x)
  sequence-enters p = (
    λ h. subst (λ s. Enters s (frames (places_of nodes) x.recursion) p) (sym is_recursive) (in_recursion (inner_only _ [] (frames (places_of nodes) x.recursion) h)),
    λ h. inner_only _ (frames (places_of nodes) x.recursion) [] (out_recursion (subst (λ s. Enters s (frames (places_of nodes) x.recursion) p) is_recursive h)),
  )

  -- and no edge of it is before a step
  pub sequence-no_edge : HasNoEdge nodes sequence_state
  sequence-no_edge = record { around = unguarded; never = λ m. m; guarded = sequence_guarded }

-- ---- the members of a union

-- a union enters only what a member enters
pub out_union : {ss : Members} {e : List Frame} {p : Path} → Enters (union ss) e p → (s : Pattern) × IsMember s ss × Enters s e p
out_union (in_union {s = s} is h) = (s, is, h)

-- what some member's state enters, by the member
members_enter : (nodes : List SelectorNode) (x : State) (ks : List ℕ) (p : Path) → SomeEnter nodes (members_at x ks) p
    → (s : Pattern) × IsMember s (members_of (map (at (places_of nodes)) ks)) × Enters s (frames (places_of nodes) x.recursion) p
members_enter nodes x [] p h = absurd (none-enter nodes p h)
members_enter nodes x (k ∷ ks) p h =
    ⊎_elim
    (λ (here : EntersAt nodes (record { place = k; recursion = x.recursion }) p). (at (places_of nodes) k, head, here))
    (λ (there : SomeEnter nodes (members_at x ks) p). let found = members_enter nodes x ks p there in (found.0, tail found.1, found.2))
    (some-cons nodes (record { place = k; recursion = x.recursion }) (members_at x ks) p h)

-- and back
enter_members : (nodes : List SelectorNode) (x : State) (ks : List ℕ) (p : Path) {s : Pattern} → IsMember s (members_of (map (at (places_of nodes)) ks)) → Enters s (frames (places_of nodes) x.recursion) p
    → SomeEnter nodes (members_at x ks) p
enter_members nodes x [] p n h = elim n [ ]
enter_members nodes x (k ∷ ks) p head h = cons-here nodes (record { place = k; recursion = x.recursion }) (members_at x ks) p h
enter_members nodes x (k ∷ ks) p (tail n) h = cons-there nodes (record { place = k; recursion = x.recursion }) (members_at x ks) p (enter_members nodes x ks p n h)

-- each member's state is one of the table
each_state : (nodes : List SelectorNode) (x : State) (ks : List ℕ) → IsState nodes x → ((k : ℕ) → IsNumber ks k → IsBeside nodes x.place k) → AreBelow x.place ks → EachGuarded (around x.recursion) (members_of (map (at (places_of nodes)) ks)) → All (IsState nodes) (members_at x ks)
each_state nodes x [] is beside below g = All-nil (IsState nodes)
each_state nodes x (k ∷ ks) is beside below g =
    All-cons (IsState nodes) (record { place = k; recursion = x.recursion }) (members_at x ks)
    (record { within = let within = is.within in let b = below.0 in omega arith; guarded = g.0; sequence = is.sequence; stands = in_same (beside k (inl refl)) is.stands })
    (each_state nodes x ks is (λ j h. beside j (inr h)) below.1 g.1)

-- and has no edge before a step, if the union hasn't
each_no_edge : (nodes : List SelectorNode) (x : State) (a : Around) (ks : List ℕ) → (MayStand a → ⊥) → EachGuarded a (members_of (map (at (places_of nodes)) ks)) → All (HasNoEdge nodes) (members_at x ks)
each_no_edge nodes x a [] never g = All-nil (HasNoEdge nodes)
each_no_edge nodes x a (k ∷ ks) never g =
    All-cons (HasNoEdge nodes) (record { place = k; recursion = x.recursion }) (members_at x ks) (record { around = a; never = never; guarded = g.0 }) (each_no_edge nodes x a ks never g.1)

module _ (nodes : List SelectorNode) (table : AreNodes 0 nodes) (x : State) (is_state : IsState nodes x) (ks : _) (is : Union ks ≡ get_or nodes x.place (Union ks)) where
  -- the selector at the place is that union
  is_union : selector_at nodes x ≡ union (members_of (map (at (places_of nodes)) ks.items))
  is_union = place-is nodes x.place (Union ks) table is_state.within is

  -- members are before their union, so the descent ends
  pub members-before : AreBelow x.place ks.items
  members-before = node-is nodes x.place (Union ks) table is_state.within is

  -- they are states of the table
  pub members-states : All (IsState nodes) (members_at x ks.items)
  members-states = each_state nodes x ks.items is_state (λ k h. record { node = Union ks; within = is_state.within; is = is; names = h }) members-before (subst (IsGuarded (around x.recursion)) is_union is_state.guarded)

  -- and enter what the union enters
  pub members-enter : Same (SomeEnter nodes (members_at x ks.items)) (EntersAt nodes x)
  members-enter p = (
    λ h.
        let found = members_enter nodes x ks.items p h in
        subst (λ s. Enters s (frames (places_of nodes) x.recursion) p) (sym is_union) (in_union found.1 found.2),
    λ h.
        let found = out_union (subst (λ s. Enters s (frames (places_of nodes) x.recursion) p) is_union h) in
        enter_members nodes x ks.items p found.1 found.2,
  )

  -- and have no edge before a step, if the union hasn't
  pub members-no_edge : HasNoEdge nodes x → All (HasNoEdge nodes) (members_at x ks.items)
  members-no_edge none = each_no_edge nodes x none.around ks.items none.never (subst (IsGuarded none.around) is_union none.guarded)

-- ---- what an edge enters again

-- the re-entered sequence enters what the edge enters
again_enters : (nodes : List SelectorNode) (q : ℕ) (d : Option ℕ) (p : Path)
    → (SomeEnter nodes (reenter_edges (Some (record { sequence = q; depth = d }))) p → Enters edge (record { sequence = at (places_of nodes) q; depth = d } ∷ []) p)
    × (Enters edge (record { sequence = at (places_of nodes) q; depth = d } ∷ []) p → SomeEnter nodes (reenter_edges (Some (record { sequence = q; depth = d }))) p)
again_enters nodes q None p = (
  λ h.
      ⊎_elim
      (λ (here : EntersAt nodes (record { place = q; recursion = Some (record { sequence = q; depth = None }) }) p). at_edge here)
      (λ (there : SomeEnter nodes [] p). absurd (none-enter nodes p there))
      (some-cons nodes _ [] p h),
  λ h. cons-here nodes (record { place = q; recursion = Some (record { sequence = q; depth = None }) }) [] p (edge-inside h),
)
again_enters nodes q (Some d) p = by (nat_le 2 d) refl where
  lower : State
  lower = record { place = q; recursion = Some (record { sequence = q; depth = Some (d - 1) }) }

  left : Bool → List State
  left b = at_start (if b then Some (record { sequence = q; depth = Some (d - 1) }) else None)

  Within : Type 0
  Within = Enters edge (record { sequence = at (places_of nodes) q; depth = Some d } ∷ []) p

  by : (b : Bool) → nat_le 2 d ≡ b → (SomeEnter nodes (left b) p → Within) × (Within → SomeEnter nodes (left b) p)
  by true e = (
    λ h.
        ⊎_elim
        (λ (here : EntersAt nodes lower p). at_edge_within (leb-true 2 d e) here)
        (λ (there : SomeEnter nodes [] p). absurd (none-enter nodes p there))
        (some-cons nodes lower [] p h),
    λ h. cons-here nodes lower [] p (edge-inside_within h).1,
  )
  by false e = (
    λ h. absurd (none-enter nodes p h),
    λ h. absurd (true≢false (sym (le-leb 2 d (edge-inside_within h).0) ∙ e)),
  )

-- what an edge in a recursion enters
pub paths-reentered : (nodes : List SelectorNode) (r : Option Recursion) → (p : Path)
    → (SomeEnter nodes (reenter_edges r) p → Enters edge (frames (places_of nodes) r) p) × (Enters edge (frames (places_of nodes) r) p → SomeEnter nodes (reenter_edges r) p)
paths-reentered nodes None p = (λ h. absurd (none-enter nodes p h), λ h. absurd (edge-nowhere h))
paths-reentered nodes (Some r) p = again_enters nodes r.sequence r.depth p

-- it is a state of the table, without an edge before a step
reentered_states : (nodes : List SelectorNode) (q : ℕ) (d : Option ℕ) → (q < length nodes) × IsGuarded unguarded (at (places_of nodes) q) → IsStandingIn nodes q (Some q)
    → All (IsState nodes) (reenter_edges (Some (record { sequence = q; depth = d }))) × All (HasNoEdge nodes) (reenter_edges (Some (record { sequence = q; depth = d })))
reentered_states nodes q d is stands = by d where
  one : (n : Option ℕ) → All (IsState nodes) (at_start (Some (record { sequence = q; depth = n }))) × All (HasNoEdge nodes) (at_start (Some (record { sequence = q; depth = n })))
  one n = (
    All-cons (IsState nodes) _ [] (record { within = is.0; guarded = guarded-later (at (places_of nodes) q) is.1; sequence = is; stands = stands }) (All-nil (IsState nodes)),
    All-cons (HasNoEdge nodes) _ [] (record { around = unguarded; never = λ m. m; guarded = is.1 }) (All-nil (HasNoEdge nodes)),
  )

  test : (b : Bool) (n : Option ℕ) → let l = at_start (if b then Some (record { sequence = q; depth = n }) else None) in All (IsState nodes) l × All (HasNoEdge nodes) l
  test true n = one n
  test false n = (All-nil (IsState nodes), All-nil (HasNoEdge nodes))

  by : (d : Option ℕ) → All (IsState nodes) (reenter_edges (Some (record { sequence = q; depth = d }))) × All (HasNoEdge nodes) (reenter_edges (Some (record { sequence = q; depth = d })))
  by None = one None
  by (Some n) = test (nat_le 2 n) (Some (n - 1))

-- the same by whether there is a recursion
pub states-reentered : (nodes : List SelectorNode) (k : ℕ) (r : Option Recursion) → IsSequence nodes r → IsStandingIn nodes k (sequence_of r) → All (IsState nodes) (reenter_edges r) × All (HasNoEdge nodes) (reenter_edges r)
states-reentered nodes k None is stands = (All-nil (IsState nodes), All-nil (HasNoEdge nodes))
states-reentered nodes k (Some r) is stands = reentered_states nodes r.sequence r.depth is (own-start stands refl)

module _ (nodes : List SelectorNode) (table : AreNodes 0 nodes) (x : State) (is_state : IsState nodes x) (is : Edge ≡ get_or nodes x.place Edge) (old new : Reached) (were : AreReached nodes old)
    (standing : new.explore ≡ old.explore) (again : new.reentries.items ≡ old.reentries.items ++ reenter_edges x.recursion) where
  is_edge : selector_at nodes x ≡ edge
  is_edge = place-is nodes x.place Edge table is_state.within is

  pub edge-reached : AreReached nodes new
  edge-reached =
      let more = states-reentered nodes x.place x.recursion is_state.sequence is_state.stands in record {
        table = were.table;
        states = subst (λ l. All (IsState nodes) l.items) (sym standing) were.states;
        explore = subst (λ l. All (IsStanding nodes) l.items) (sym standing) were.explore;
        reentries = subst (All (IsState nodes)) (sym again) (All-append (IsState nodes) old.reentries.items (reenter_edges x.recursion) were.reentries more.0);
        sequences = subst (All (HasNoEdge nodes)) (sym again) (All-append (HasNoEdge nodes) old.reentries.items (reenter_edges x.recursion) were.sequences more.1);
      }

  pub edge-enters : Joins (ReachedEnters nodes new) (ReachedEnters nodes old) (EntersAt nodes x)
  edge-enters =
      joins-same (ReachedEnters nodes new) (ReachedEnters nodes old) (SomeEnter nodes (reenter_edges x.recursion)) (EntersAt nodes x)
      (again-more nodes old new (reenter_edges x.recursion) again (ap (λ l. l.items) standing))
      (λ p. subst (λ s. (SomeEnter nodes (reenter_edges x.recursion) p → Enters s (frames (places_of nodes) x.recursion) p) × (Enters s (frames (places_of nodes) x.recursion) p → SomeEnter nodes (reenter_edges x.recursion) p))
      (sym is_edge) (paths-reentered nodes x.recursion p))

  pub edge-some : HasNoEdge nodes x → ⊥
  edge-some none = none.never (subst (IsGuarded none.around) is_edge none.guarded)

-- ---- a matcher or explorer

module _ (nodes : List SelectorNode) (x : State) (is_state : IsState nodes x) (stands : IsStanding nodes x) (old new : Reached) (were : AreReached nodes old)
    (more : new.explore.items ≡ old.explore.items ++ x ∷ []) (again : new.reentries ≡ old.reentries) where
  pub standing-reached : AreReached nodes new
  standing-reached = record {
    table = were.table;
    states = subst (All (IsState nodes)) (sym more) (All-push (IsState nodes) old.explore.items x were.states is_state);
    explore = subst (All (IsStanding nodes)) (sym more) (All-push (IsStanding nodes) old.explore.items x were.explore stands);
    reentries = subst (λ l. All (IsState nodes) l.items) (sym again) were.reentries;
    sequences = subst (λ l. All (HasNoEdge nodes) l.items) (sym again) were.sequences;
  }

  pub standing-enters : Joins (ReachedEnters nodes new) (ReachedEnters nodes old) (EntersAt nodes x)
  standing-enters = standing-more nodes old new x more (ap (λ l. l.items) again)

-- ---- the members one by one

-- the loop's step: one more member
pub members-more : (x : State) (ks : List ℕ) (i : ℕ) → i < length ks → members_at x (take (i + 1) ks) ≡ members_at x (take i ks) ++ record { place = get_or ks i 0; recursion = x.recursion } ∷ []
members-more x ks i within = ap (members_at x) (take_more ks i 0 within) ∙ map_push (λ k. record { place = k; recursion = x.recursion }) (take i ks) (get_or ks i 0)

-- each member is before its union
pub member-below : (n : ℕ) (ks : List ℕ) (i : ℕ) → AreBelow n ks → i < length ks → get_or ks i 0 < n
member-below n [] i below within = absurd (omega arith)
member-below n (k ∷ ks) zero below within = below.0
member-below n (k ∷ ks) (suc i) below within = member-below n ks i below.1 (omega arith)

-- what all members are, each is, and the first of them are
pub member-such : (P : State → Type 0) (x : State) (ks : List ℕ) (i : ℕ) → All P (members_at x ks) → i < length ks → P (record { place = get_or ks i 0; recursion = x.recursion })
member-such P x [] i every within = absurd (omega arith)
member-such P x (k ∷ ks) zero every within = All-head P (record { place = k; recursion = x.recursion }) (members_at x ks) every
member-such P x (k ∷ ks) (suc i) every within = member-such P x ks i (All-tail P (record { place = k; recursion = x.recursion }) (members_at x ks) every) (omega arith)

-- what holds of all holds of the first ones
pub members-first : (P : State → Type 0) (x : State) (ks : List ℕ) (i : ℕ) → All P (members_at x ks) → All P (members_at x (take i ks))
members-first P x ks zero every = All-nil P
members-first P x [] (suc i) every = All-nil P
members-first P x (k ∷ ks) (suc i) every =
    let y : State = record { place = k; recursion = x.recursion } in
    All-cons P y (members_at x (take i ks)) (All-head P y (members_at x ks) every) (members-first P x ks i (All-tail P y (members_at x ks) every))

-- what is no recursion, no union and no edge is a matcher or explorer
stands_default : (ps : List Pattern) (y : SelectorNode) → ((d : Option ℕ) (k : ℕ) → y ≡ Recursive d k → ⊥) → ((ks : _) → y ≡ Union ks → ⊥) → (y ≡ Edge → ⊥) → Stands (seen ps y)
stands_default ps Matcher r u e = tt
stands_default ps (AllNode k) r u e = tt
stands_default ps (Fields names) r u e = tt
stands_default ps (Index i k) r u e = tt
stands_default ps (Range i j k) r u e = tt
stands_default ps (Recursive d k) r u e = absurd (r d k refl)
stands_default ps (Union ks) r u e = absurd (u ks refl)
stands_default ps Edge r u e = absurd (e refl)

-- any other form is a matcher or explorer
pub default-stands : (nodes : List SelectorNode) (x : State) (y : SelectorNode) → AreNodes 0 nodes → IsState nodes x → y ≡ get_or nodes x.place y → ((d : Option ℕ) (k : ℕ) → y ≡ Recursive d k → ⊥) → ((ks : _) → y ≡ Union ks → ⊥) → (y ≡ Edge → ⊥) → IsStanding nodes x
default-stands nodes x y table is_state is r u e = subst Stands (sym (place-is nodes x.place y table is_state.within is)) (stands_default (places_of nodes) y r u e)
