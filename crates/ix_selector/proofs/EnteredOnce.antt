-- Sequences that are entered again from the outermost one inwards: one to which another leads is joined with it first.
use Rattle.std.proofs.Common.{◌≡◌, ℕ, zero, suc, ◌+◌, ◌-◌, ◌<◌, ◌⊎◌, inl, inr, ⊎_elim, Bool, true, false, List, [], ◌∷◌, ◌++◌, get_or, set, length, refl, sym, ◌∙◌, ap, subst, arith, append-nil, append_assoc}
use Rattle.std.specs.Prelude.{Option, Some, None, if◌then◌else◌}
use Rattle.std.specs.List.{All}
use Rattle.std.proofs.lemmas.List.{get_or_default, length-append}
use Rattle.std.proofs.lemmas.List.Elements.{All-nil, All-cons, All-head, All-tail}
use Rattle.ix_selector.specs.declared.selector_node.SelectorNode.{SelectorNode}
use Rattle.ix_selector.specs.declared.selector_node.SelectorNode.TheVariants.{Matcher, All as AllNode, Fields, Index, Range, Recursive, Union, Edge}
use Rattle.ix_selector.specs.declared.state.State.{State}
use Rattle.ix_selector.specs.declared.state.Recursion.{Recursion}
use Rattle.ix_selector.specs.declared.reached.Reached.{Reached}
use Rattle.ix_selector.specs.Pattern.{Pattern, Members, matcher, all, fields, index, range, recursive, union, edge, no_members, member, IsGuarded}
use Rattle.ix_selector.specs.Enters.{Path, Frame}
use Rattle.ix_selector.specs.Residual.{Place}
use Rattle.ix_selector.specs.Places.{at, places_of, AreNamedOnce, AreBelow, AreNodes}
use Rattle.ix_selector.specs.Standing.{IsStandingIn}
use Rattle.ix_selector.specs.States.{deeper, IsDeeper, IsJoined, frames, sequence_of, selector_at, place_of, seen_states, Stands, IsState, IsStanding, HasNoEdge, EntersAt, SomeEnter, ReachedEnters, Same, Joins, EnterSame, IsOf}
use Rattle.ix_selector.specs.Laid.{IsTable}
use Rattle.ix_selector.specs.Behind.{inside_of, leads, each_leads, leads_from, all_lead, is_edge, standing, deeper_around, both, put, merged}
use Rattle.ix_selector.specs.Reaching.{members_at, AreReached, AreLeft}
use Rattle.ix_selector.specs.Reentering.{all_reached, StartIsJoined, Reenters, CanReenter}
use Rattle.ix_selector.specs.Merging.{AreMerged}
use Rattle.ix_selector.proofs.Standing.{stands-once}
use Rattle.ix_selector.proofs.Merged.{put-below, put-above, put-beside, less-same-greater, Alike, AlikeAll, merged-front}
use Rattle.ix_selector.proofs.StatesMerged.{both-joined, states-alike}
use Rattle.ix_selector.proofs.Merging.{state-at, no_edge-at, joined-at, joined-enters, states-of, no_edge-of}
use Rattle.ix_selector.proofs.Reaching.{none-enter, some-push, joins-same, joins-twice}
use Rattle.ix_selector.proofs.Inside.{some-cons, cons-here, cons-there, place-is, sequence-before, sequence-state, members-before, members-states}
use Rattle.ix_selector.proofs.Adding.{standing-append, seen-append, recursive-leads, union-leads, leads-itself, edge-itself, standing-adds}
use Rattle.ix_selector.proofs.Rests.{Each, each-append, standing-each}

-- ---- places of a table

-- it is a place of the table
record IsSeen (nodes : List SelectorNode) (z : Place) : Type 0 where
  state : State
  is_state : IsState nodes state
  seen : place_of nodes state ≡ z

-- two of them are alike, since a place is in one recursion
seen_alike : (nodes : List SelectorNode) → AreNamedOnce nodes → (z w : Place) → IsSeen nodes z → IsSeen nodes w → Alike z w
seen_alike nodes once z w a b =
    subst (λ x. Alike x w) a.seen
    (subst (λ y. Alike (place_of nodes a.state) y) b.seen
    (states-alike nodes a.state b.state
    (λ same. stands-once once a.is_state.stands (subst (λ n. IsStandingIn nodes n (sequence_of b.state.recursion)) (sym same) b.is_state.stands))))

-- one by one
seen_alike_all : (nodes : List SelectorNode) → AreNamedOnce nodes → (z : Place) → IsSeen nodes z → (ws : List Place) → Each (IsSeen nodes) ws → AlikeAll z ws
seen_alike_all nodes once z a [] h = tt
seen_alike_all nodes once z a (w ∷ ws) h = (seen_alike nodes once z w a h.0, seen_alike_all nodes once z a ws h.1)

-- states of the table are places of it
each_seen : (nodes : List SelectorNode) (xs : List State) → All (IsState nodes) xs → Each (IsSeen nodes) (seen_states nodes xs)
each_seen nodes [] h = tt
each_seen nodes (x ∷ xs) h =
    (record { state = x; is_state = All-head (IsState nodes) x xs h; seen = refl }, each_seen nodes xs (All-tail (IsState nodes) x xs h))

-- where a state leads, if those before it lead to places of the table
members_seen : (nodes : List SelectorNode) (fuel : ℕ) (x : State) → ((y : State) → IsState nodes y → y.place < fuel → Each (IsSeen nodes) (leads_from (place_of nodes y))) → x.place < suc fuel
    → (ks : List ℕ) → All (IsState nodes) (members_at x ks) → AreBelow x.place ks → Each (IsSeen nodes) (all_lead (seen_states nodes (members_at x ks)))
members_seen nodes fuel x inner within [] states below = tt
members_seen nodes fuel x inner within (k ∷ ks) states below =
    let y : State = record { place = k; recursion = x.recursion } in
    let first = below.0 in
    each-append (IsSeen nodes) (leads_from (place_of nodes y)) (all_lead (seen_states nodes (members_at x ks)))
    (inner y (All-head (IsState nodes) y (members_at x ks) states) (omega arith))
    (members_seen nodes fuel x inner within ks (All-tail (IsState nodes) y (members_at x ks) states) below.1)

-- by the place's number, since what is inside has smaller ones
leads_seen : (nodes : List SelectorNode) → IsTable nodes → (fuel : ℕ) (x : State) → IsState nodes x → x.place < fuel → Each (IsSeen nodes) (leads_from (place_of nodes x))
leads_seen nodes table zero x is below = absurd (omega arith)
leads_seen nodes table (suc fuel) x is below = by (leads_seen nodes table fuel) (get_or nodes x.place Matcher) (get_or_default nodes x.place Matcher _ is.within) where
  itself : leads_from (place_of nodes x) ≡ place_of nodes x ∷ [] → Each (IsSeen nodes) (leads_from (place_of nodes x))
  itself lone = subst (Each (IsSeen nodes)) (sym lone) (record { state = x; is_state = is; seen = refl }, tt)

  stands : (y : SelectorNode) (s : Pattern) → y ≡ get_or nodes x.place y → at (places_of nodes) x.place ≡ s → Stands s → Each (IsSeen nodes) (leads_from (place_of nodes x))
  stands y s at_y there here = itself (leads-itself nodes table.placed table.laid x is.within y at_y (subst Stands (sym there) here))

  by : ((y : State) → IsState nodes y → y.place < fuel → Each (IsSeen nodes) (leads_from (place_of nodes y))) → (y : SelectorNode) → y ≡ get_or nodes x.place y → Each (IsSeen nodes) (leads_from (place_of nodes x))
  by inner Matcher h = stands Matcher _ h (place-is nodes x.place Matcher table.placed is.within h) tt
  by inner (AllNode k) h = stands (AllNode k) _ h (place-is nodes x.place (AllNode k) table.placed is.within h) tt
  by inner (Fields names) h = stands (Fields names) _ h (place-is nodes x.place (Fields names) table.placed is.within h) tt
  by inner (Index i k) h = stands (Index i k) _ h (place-is nodes x.place (Index i k) table.placed is.within h) tt
  by inner (Range i j k) h = stands (Range i j k) _ h (place-is nodes x.place (Range i j k) table.placed is.within h) tt
  by inner Edge h = itself (edge-itself nodes table.placed table.laid x is.within h)
  by inner (Recursive d k) h =
      let before = sequence-before nodes table.placed x is d k h in
      subst (Each (IsSeen nodes)) (recursive-leads nodes table.placed table.laid x is.within d k h) (inner _ (sequence-state nodes table.placed x is d k h) (omega arith))
  by inner (Union ks) h =
      subst (Each (IsSeen nodes)) (union-leads nodes table.placed table.laid x is.within ks h)
      (members_seen nodes fuel x inner below ks.items (members-states nodes table.placed x is ks h) (members-before nodes table.placed x is ks h))

-- a state of the table leads to places of the table, and so do many
standing_seen : (nodes : List SelectorNode) → IsTable nodes → (x : State) → IsState nodes x → Each (IsSeen nodes) (standing (leads_from (place_of nodes x)))
standing_seen nodes table x is = standing-each (IsSeen nodes) (leads_from (place_of nodes x)) (leads_seen nodes table (suc x.place) x is (omega arith))

-- state by state
all_seen : (nodes : List SelectorNode) → IsTable nodes → (xs : List State) → All (IsState nodes) xs → Each (IsSeen nodes) (all_lead (seen_states nodes xs))
all_seen nodes table [] h = tt
all_seen nodes table (x ∷ xs) h =
    each-append (IsSeen nodes) (leads_from (place_of nodes x)) (all_lead (seen_states nodes xs))
    (leads_seen nodes table (suc x.place) x (All-head (IsState nodes) x xs h) (omega arith)) (all_seen nodes table xs (All-tail (IsState nodes) x xs h))

-- and of those only the matchers and explorers
standing_all_seen : (nodes : List SelectorNode) → IsTable nodes → (xs : List State) → All (IsState nodes) xs → Each (IsSeen nodes) (standing (all_lead (seen_states nodes xs)))
standing_all_seen nodes table xs h = standing-each (IsSeen nodes) (all_lead (seen_states nodes xs)) (all_seen nodes table xs h)

-- ---- merging

-- what is merged the same is merged the same after others
merged_after : (zs xs ys : List Place) → merged xs ≡ merged ys → merged (zs ++ xs) ≡ merged (zs ++ ys)
merged_after [] xs ys same = same
merged_after (z ∷ zs) xs ys same = ap (put z) (merged_after zs xs ys same)

-- two lists of the table may change places
merged_moved : (nodes : List SelectorNode) → AreNamedOnce nodes → (xs ws vs : List Place) → Each (IsSeen nodes) xs → Each (IsSeen nodes) ws → merged (xs ++ (ws ++ vs)) ≡ merged (ws ++ (xs ++ vs))
merged_moved nodes once [] ws vs h g = refl
merged_moved nodes once (x ∷ xs) ws vs h g =
    ap (put x) (merged_moved nodes once xs ws vs h.1 g) ∙ sym (merged-front ws x (xs ++ vs) (seen_alike_all nodes once x h.0 ws g))

-- of three ways to a place the last two may be joined first
deeper_three : (a b c : Option ℕ) → deeper (deeper a b) c ≡ deeper a (deeper c b)
deeper_three None b c = refl
deeper_three (Some a) None None = refl
deeper_three (Some a) None (Some c) = refl
deeper_three (Some a) (Some b) None = refl
deeper_three (Some a) (Some b) (Some c) = ap Some (omega arith)

-- the same of recursions
around_three : (e d c : List Frame) → deeper_around c d ≡ deeper_around d c → deeper_around (deeper_around e d) c ≡ deeper_around e (deeper_around c d)
around_three [] d c same = refl
around_three (f ∷ e) [] [] same = refl
around_three (f ∷ e) [] (h ∷ c) same = refl
around_three (f ∷ e) (g ∷ d) [] same = absurd cc
around_three (f ∷ e) (g ∷ d) (h ∷ c) same = ap (λ n. record { sequence = f.sequence; depth = n } ∷ e) (deeper_three f.depth g.depth h.depth)

-- and of places
both_three : (z y x : Place) → both x y ≡ both y x → both (both z y) x ≡ both z (both x y)
both_three z y x same =
    ap (λ e. record { selector = z.selector; around = e; number = z.number; sequence = z.sequence }) (around_three z.around y.around x.around (ap (λ (p : Place). p.around) same))

-- two that are put at one place are put as one
put_both : (x y : Place) (zs : List Place) → x.number ≡ y.number → both x y ≡ both y x → put x (put y zs) ≡ put (both x y) zs
put_both x y [] at_one same = put-beside x y [] at_one ∙ ap (λ w. w ∷ []) (sym same)
put_both x y (z ∷ zs) at_one same =
    ⊎_elim
    (λ (l : y.number < z.number).
    ap (put x) (put-below y z zs l)
    ∙ put-beside x y (z ∷ zs) at_one
    ∙ ap (λ w. w ∷ z ∷ zs) (sym same)
    ∙ sym (put-below (both x y) z zs (subst (λ n. n < z.number) (sym at_one) l)))
    (λ (r : (y.number ≡ z.number) ⊎ (z.number < y.number)).
    ⊎_elim
    (λ (e : y.number ≡ z.number).
    ap (put x) (put-beside y z zs e)
    ∙ put-beside x (both z y) zs (at_one ∙ e)
    ∙ ap (λ w. w ∷ zs) (both_three z y x same)
    ∙ sym (put-beside (both x y) z zs (at_one ∙ e)))
    (λ (g : z.number < y.number).
    let above : z.number < x.number = subst (λ n. z.number < n) (sym at_one) g in
    ap (put x) (put-above y z zs g)
    ∙ put-above x z (put y zs) above
    ∙ ap (λ l. z ∷ l) (put_both x y zs at_one same)
    ∙ sym (put-above (both x y) z zs above))
    r)
    (less-same-greater y.number z.number)

-- ---- one start for two

-- the places of the third list are those of the two others, one for two
data AreBoth : List Place → List Place → List Place → Type 0 where
  no_more : AreBoth [] [] []
  one_more : {a b : Place} {us ws zs : List Place} → a.number ≡ b.number → a.selector ≡ b.selector → AreBoth us ws zs → AreBoth (a ∷ us) (b ∷ ws) (both a b ∷ zs)

-- joined lists may be concatenated
both_append : {us ws zs xs ys vs : List Place} → AreBoth us ws zs → AreBoth xs ys vs → AreBoth (us ++ xs) (ws ++ ys) (zs ++ vs)
both_append no_more more = more
both_append (one_more number selector rest) more = one_more number selector (both_append rest more)

-- joining a depth with itself
deeper_same : (d : Option ℕ) → deeper d d ≡ d
deeper_same None = refl
deeper_same (Some d) = ap Some (omega arith)

mutual
  -- where a selector leads in one of two recursions that differ in their depths
  leads_both : (s : Pattern) (n : ℕ) (e d : List Frame) (q : Option ℕ) → AreBoth (leads s n e q) (leads s n d q) (leads s n (deeper_around e d) q)
  leads_both matcher n e d q = one_more refl refl no_more
  leads_both (all s) n e d q = one_more refl refl no_more
  leads_both (fields fs) n e d q = one_more refl refl no_more
  leads_both (index i s) n e d q = one_more refl refl no_more
  leads_both (range i j s) n e d q = one_more refl refl no_more
  leads_both (recursive limit s) n e d q =
      let f : List Frame = record { sequence = s; depth = limit } ∷ [] in
      let r = Some (n + inside_of s) in
      subst (λ l. AreBoth (leads s n f r) (leads s n f r) (leads s n l r)) (ap (λ m. record { sequence = s; depth = m } ∷ []) (deeper_same limit)) (leads_both s n f f r)
  leads_both (union ss) n e d q = each_leads_both ss n e d q
  leads_both edge n e d q = one_more refl refl no_more

  each_leads_both : (ss : Members) (n : ℕ) (e d : List Frame) (q : Option ℕ) → AreBoth (each_leads ss n e q) (each_leads ss n d q) (each_leads ss n (deeper_around e d) q)
  each_leads_both no_members n e d q = no_more
  each_leads_both (member s ss) n e d q = both_append (leads_both s n e d q) (each_leads_both ss (n + (inside_of s + 1)) e d q)

-- the matchers and explorers among them
standing_both : {us ws zs : List Place} → AreBoth us ws zs → AreBoth (standing us) (standing ws) (standing zs)
standing_both no_more = no_more
standing_both (one_more {a = a} {b = b} {us = us} {ws = ws} {zs = zs} number selector rest) = by (is_edge a.selector) (is_edge b.selector) (ap is_edge selector) (standing_both rest) where
  by : (t r : Bool) → t ≡ r → AreBoth (standing us) (standing ws) (standing zs)
      → AreBoth (if t then standing us else a ∷ standing us) (if r then standing ws else b ∷ standing ws) (if t then standing zs else both a b ∷ standing zs)
  by true true same inner = inner
  by true false same inner = absurd cc
  by false true same inner = absurd cc
  by false false same inner = one_more number selector inner

-- one for two, or both
merged_both : (nodes : List SelectorNode) → AreNamedOnce nodes → {us ws zs : List Place} → AreBoth us ws zs → (vs : List Place) → Each (IsSeen nodes) us → Each (IsSeen nodes) ws → merged (us ++ (ws ++ vs)) ≡ merged (zs ++ vs)
merged_both nodes once no_more vs h g = refl
merged_both nodes once (one_more {a = a} {b = b} {us = us} {ws = ws} {zs = zs} number selector rest) vs h g =
    ap (put a) (merged-front us b (ws ++ vs) (seen_alike_all nodes once b g.0 us h.1) ∙ ap (put b) (merged_both nodes once rest vs h.1 g.1))
    ∙ put_both a b (merged (zs ++ vs)) number (seen_alike nodes once a b h.0 g.0 number)

-- the places to which two starts of one sequence lead, and the start that is joined from them
starts_both : (nodes : List SelectorNode) (y x c : State) → IsJoined y x c → AreBoth (leads_from (place_of nodes y)) (leads_from (place_of nodes x)) (leads_from (place_of nodes c))
starts_both nodes y x c is =
    let s = selector_at nodes y in
    let m = y.place - inside_of s in
    let e = frames (places_of nodes) y.recursion in
    let d = frames (places_of nodes) x.recursion in
    let q = sequence_of y.recursion in
    let other : leads s m d q ≡ leads_from (place_of nodes x) = λ i. leads (at (places_of nodes) (is.0 i)) (is.0 i - inside_of (at (places_of nodes) (is.0 i))) d (one_sequence y.recursion x.recursion c.recursion is.2 i) in
    subst (λ l. AreBoth (leads_from (place_of nodes y)) (leads_from (place_of nodes x)) (leads_from l)) (sym (both-joined nodes y x c is))
    (subst (λ l. AreBoth (leads_from (place_of nodes y)) l (leads_from (both (place_of nodes y) (place_of nodes x)))) other (leads_both s m e d q)) where
      one_sequence : (a b c : Option Recursion) → IsDeeper a b c → sequence_of a ≡ sequence_of b
      one_sequence None None c d = refl
      one_sequence None (Some b) c d = absurd d
      one_sequence (Some a) None c d = absurd d
      one_sequence (Some a) (Some b) None d = absurd d
      one_sequence (Some a) (Some b) (Some c) d = ap Some d.0

-- ---- what was reached

-- where the places of two lists lead
lead_append : (xs ys : List Place) → all_lead (xs ++ ys) ≡ all_lead xs ++ all_lead ys
lead_append [] ys = refl
lead_append (x ∷ xs) ys = ap (λ l. leads_from x ++ l) (lead_append xs ys) ∙ sym (append_assoc (leads_from x) (all_lead xs) (all_lead ys))

-- where sequences lead, with one of them in the midst
lead_split : (nodes : List SelectorNode) (front : List State) (x : State) (back : List State)
    → standing (all_lead (seen_states nodes (front ++ x ∷ back))) ≡ standing (all_lead (seen_states nodes front)) ++ (standing (leads_from (place_of nodes x)) ++ standing (all_lead (seen_states nodes back)))
lead_split nodes front x back =
    let later = all_lead (seen_states nodes back) in
    ap (λ l. standing (all_lead l)) (seen-append nodes front (x ∷ back))
    ∙ ap standing (lead_append (seen_states nodes front) (place_of nodes x ∷ seen_states nodes back))
    ∙ standing-append (all_lead (seen_states nodes front)) (leads_from (place_of nodes x) ++ later)
    ∙ ap (λ l. standing (all_lead (seen_states nodes front)) ++ l) (standing-append (leads_from (place_of nodes x)) later)

-- what is all of a list is all of its parts
all_front : (P : State → Type 0) (front : List State) (x : State) (back : List State) → All P (front ++ x ∷ back) → All P front × P x × All P back
all_front P [] x back h = (All-nil P, All-head P x back h, All-tail P x back h)
all_front P (z ∷ front) x back h =
    let rest = all_front P front x back (All-tail P z (front ++ x ∷ back) h) in
    (All-cons P z front (All-head P z (front ++ x ∷ back) h) rest.0, rest.1, rest.2)

-- and back
all_parts : (P : State → Type 0) (front : List State) (x : State) (back : List State) → All P front → P x → All P back → All P (front ++ x ∷ back)
all_parts P [] x back f h b = All-cons P x back h b
all_parts P (z ∷ front) x back f h b = All-cons P z (front ++ x ∷ back) (All-head P z front f) (all_parts P front x back (All-tail P z front f) h b)

-- one of these was joined with a start
pub start-joined : (xs : List State) (i : ℕ) (x c y : State) → i < length xs → y ≡ get_or xs i y → IsJoined y x c → StartIsJoined xs (set xs i c) x
start-joined [] i x c y within is joined = absurd (omega arith)
start-joined (z ∷ xs) zero x c y within is joined = record { front = []; back = xs; state = y; joint = c; was = ap (λ w. w ∷ xs) (sym is); is = refl; joined = joined }
start-joined (z ∷ xs) (suc i) x c y within is joined =
    let rest = start-joined xs i x c y (omega arith) is joined in
    record { front = z ∷ rest.front; back = rest.back; state = rest.state; joint = rest.joint; was = ap (λ l. z ∷ l) rest.was; is = ap (λ l. z ∷ l) rest.is; joined = rest.joined }

-- they enter what they did, and what the start does
again_joined : (nodes : List SelectorNode) (front back : List State) (y x c : State) → IsJoined y x c → Joins (SomeEnter nodes (front ++ c ∷ back)) (SomeEnter nodes (front ++ y ∷ back)) (EntersAt nodes x)
again_joined nodes [] back y x c is p =
    let j = joined-enters nodes y x c is p in (
      λ h.
          ⊎_elim
          (λ (here : EntersAt nodes c p). ⊎_elim (λ (a : EntersAt nodes y p). inl (cons-here nodes y back p a)) (λ (b : EntersAt nodes x p). inr b) (j.0 here))
          (λ (there : SomeEnter nodes back p). inl (cons-there nodes y back p there))
          (some-cons nodes c back p h),
      λ h.
          ⊎_elim
          (λ (old : SomeEnter nodes (y ∷ back) p).
          ⊎_elim (λ (a : EntersAt nodes y p). cons-here nodes c back p (j.1 (inl a))) (λ (there : SomeEnter nodes back p). cons-there nodes c back p there) (some-cons nodes y back p old))
          (λ (b : EntersAt nodes x p). cons-here nodes c back p (j.1 (inr b)))
          h,
    )
again_joined nodes (z ∷ front) back y x c is p =
    let rest = again_joined nodes front back y x c is p in (
      λ h.
          ⊎_elim
          (λ (here : EntersAt nodes z p). inl (cons-here nodes z (front ++ y ∷ back) p here))
          (λ (there : SomeEnter nodes (front ++ c ∷ back) p).
          ⊎_elim (λ (a : SomeEnter nodes (front ++ y ∷ back) p). inl (cons-there nodes z (front ++ y ∷ back) p a)) (λ (b : EntersAt nodes x p). inr b) (rest.0 there))
          (some-cons nodes z (front ++ c ∷ back) p h),
      λ h.
          ⊎_elim
          (λ (old : SomeEnter nodes (z ∷ (front ++ y ∷ back)) p).
          ⊎_elim
          (λ (here : EntersAt nodes z p). cons-here nodes z (front ++ c ∷ back) p here)
          (λ (there : SomeEnter nodes (front ++ y ∷ back) p). cons-there nodes z (front ++ c ∷ back) p (rest.1 (inl there)))
          (some-cons nodes z (front ++ y ∷ back) p old))
          (λ (b : EntersAt nodes x p). cons-there nodes z (front ++ c ∷ back) p (rest.1 (inr b)))
          h,
    )

module _ (nodes : List SelectorNode) (x : State) (is_state : IsState nodes x) (old new : Reached) (were : AreReached nodes old) where
  -- a matcher or explorer is appended to the others
  pub standing-once : (y : SelectorNode) → y ≡ get_or nodes x.place y → IsStanding nodes x → new.explore.items ≡ old.explore.items ++ x ∷ [] → new.reentries ≡ old.reentries
      → merged (all_reached nodes new) ≡ merged (standing (leads_from (place_of nodes x)) ++ all_reached nodes old)
  standing-once y is stands more same =
      let S = seen_states nodes old.explore.items in
      let F = standing (leads_from (place_of nodes x)) in
      let L = standing (all_lead (seen_states nodes old.reentries.items)) in
      ap (λ a. merged (seen_states nodes new.explore.items ++ standing (all_lead (seen_states nodes a.items)))) same
      ∙ ap (λ l. merged (l ++ L)) (standing-adds nodes were.table.placed were.table.laid x is_state.within y is stands old new more same).0
      ∙ ap merged (append_assoc S F L)
      ∙ sym (merged_moved nodes were.table.once F S L (standing_seen nodes were.table x is_state) (each_seen nodes old.explore.items were.states))

  module _ (same : new.explore ≡ old.explore) (j : StartIsJoined old.reentries.items new.reentries.items x) where
    parts : All (IsState nodes) j.front × IsState nodes j.state × All (IsState nodes) j.back
    parts = all_front (IsState nodes) j.front j.state j.back (subst (All (IsState nodes)) j.was were.reentries)

    no_edges : All (HasNoEdge nodes) j.front × HasNoEdge nodes j.state × All (HasNoEdge nodes) j.back
    no_edges = all_front (HasNoEdge nodes) j.front j.state j.back (subst (All (HasNoEdge nodes)) j.was were.sequences)

    pub joined-reached : AreReached nodes new
    joined-reached = record {
      table = were.table;
      states = subst (λ l. All (IsState nodes) l.items) (sym same) were.states;
      explore = subst (λ l. All (IsStanding nodes) l.items) (sym same) were.explore;
      reentries = subst (All (IsState nodes)) (sym j.is) (all_parts (IsState nodes) j.front j.joint j.back parts.0 (state-at nodes j.state j.joint (joined-at j.state x j.joint j.joined) parts.1) parts.2);
      sequences = subst (All (HasNoEdge nodes)) (sym j.is) (all_parts (HasNoEdge nodes) j.front j.joint j.back no_edges.0 (no_edge-at nodes j.state j.joint (joined-at j.state x j.joint j.joined) no_edges.1) no_edges.2);
    }

    pub joined-length : length new.reentries.items ≡ length old.reentries.items
    joined-length = ap length j.is ∙ length-append j.front (j.joint ∷ j.back) ∙ sym (ap length j.was ∙ length-append j.front (j.state ∷ j.back))

    pub joined-joins : Joins (ReachedEnters nodes new) (ReachedEnters nodes old) (EntersAt nodes x)
    joined-joins p =
        let starts = again_joined nodes j.front j.back j.state x j.joint j.joined p in (
          λ h.
              ⊎_elim
              (λ (s : SomeEnter nodes new.explore.items p). inl (inl (subst (λ l. SomeEnter nodes l.items p) same s)))
              (λ (a : SomeEnter nodes new.reentries.items p).
              ⊎_elim
              (λ (o : SomeEnter nodes (j.front ++ j.state ∷ j.back) p). inl (inr (subst (λ l. SomeEnter nodes l p) (sym j.was) o)))
              (λ (b : EntersAt nodes x p). inr b)
              (starts.0 (subst (λ l. SomeEnter nodes l p) j.is a)))
              h,
          λ h.
              ⊎_elim
              (λ (o : ReachedEnters nodes old p).
              ⊎_elim
              (λ (s : SomeEnter nodes old.explore.items p). inl (subst (λ l. SomeEnter nodes l.items p) (sym same) s))
              (λ (a : SomeEnter nodes old.reentries.items p). inr (subst (λ l. SomeEnter nodes l p) (sym j.is) (starts.1 (inl (subst (λ l. SomeEnter nodes l p) j.was a)))))
              o)
              (λ (b : EntersAt nodes x p). inr (subst (λ l. SomeEnter nodes l p) (sym j.is) (starts.1 (inr b))))
              h,
        )

    pub joined-once : merged (all_reached nodes new) ≡ merged (standing (leads_from (place_of nodes x)) ++ all_reached nodes old)
    joined-once =
        let once = were.table.once in
        let S = seen_states nodes old.explore.items in
        let X = standing (leads_from (place_of nodes x)) in
        let Y = standing (leads_from (place_of nodes j.state)) in
        let Z = standing (leads_from (place_of nodes j.joint)) in
        let F = standing (all_lead (seen_states nodes j.front)) in
        let B = standing (all_lead (seen_states nodes j.back)) in
        let x_seen = standing_seen nodes were.table x is_state in
        let y_seen = standing_seen nodes were.table j.state parts.1 in
        let now : all_reached nodes new ≡ S ++ (F ++ (Z ++ B)) =
        ap (λ l. seen_states nodes l.items ++ standing (all_lead (seen_states nodes new.reentries.items))) same
        ∙ ap (λ l. S ++ standing (all_lead (seen_states nodes l))) j.is
        ∙ ap (λ l. S ++ l) (lead_split nodes j.front j.joint j.back) in
        let was : all_reached nodes old ≡ S ++ (F ++ (Y ++ B)) = ap (λ l. S ++ standing (all_lead (seen_states nodes l))) j.was ∙ ap (λ l. S ++ l) (lead_split nodes j.front j.state j.back) in
        let one : merged (X ++ (Y ++ B)) ≡ merged (Z ++ B) =
        merged_moved nodes once X Y B x_seen y_seen ∙ merged_both nodes once (standing_both (starts_both nodes j.state x j.joint j.joined)) B y_seen x_seen in
        let inner : merged (X ++ (F ++ (Y ++ B))) ≡ merged (F ++ (Z ++ B)) =
        merged_moved nodes once X F (Y ++ B) x_seen (standing_all_seen nodes were.table j.front parts.0) ∙ merged_after F (X ++ (Y ++ B)) (Z ++ B) one in
        ap merged now
        ∙ sym
        (ap (λ l. merged (X ++ l)) was
        ∙ merged_moved nodes once X S (F ++ (Y ++ B)) x_seen (each_seen nodes old.explore.items were.states)
        ∙ merged_after S (X ++ (F ++ (Y ++ B))) (F ++ (Z ++ B)) inner)

-- ---- members of a union in turn

-- to what was reached are added these of them
pub record ReentersSoFar (nodes : List SelectorNode) (start now : Reached) (xs : List State) : Type 0 where
  pub reached : AreReached nodes now
  pub enters : Joins (ReachedEnters nodes now) (ReachedEnters nodes start) (SomeEnter nodes xs)
  pub exact : merged (all_reached nodes now) ≡ merged (standing (all_lead (seen_states nodes xs)) ++ all_reached nodes start)
  pub as_many : length now.reentries.items ≡ length start.reentries.items

-- one more of them
pub one-so_far : (nodes : List SelectorNode) (start old new : Reached) (xs : List State) (x : State) → All (IsState nodes) xs → IsState nodes x → ReentersSoFar nodes start old xs → Reenters nodes old new (EntersAt nodes x) (leads_from (place_of nodes x))
    → ReentersSoFar nodes start new (xs ++ x ∷ [])
one-so_far nodes start old new xs x states is_state so_far one = record {
  reached = one.reached;
  enters = λ p.
      let more = joins-twice (ReachedEnters nodes start) (ReachedEnters nodes old) (SomeEnter nodes xs) (ReachedEnters nodes new) (EntersAt nodes x) so_far.enters one.enters p in
      let push = some-push nodes xs x p in (
        λ h. ⊎_elim (λ (a : ReachedEnters nodes start p). inl a) (λ (b : SomeEnter nodes xs p ⊎ EntersAt nodes x p). inr (push.1 b)) (more.0 h),
        λ h. more.1 (⊎_elim (λ (a : ReachedEnters nodes start p). inl a) (λ (b : SomeEnter nodes (xs ++ x ∷ []) p). inr (push.0 b)) h),
      );
  exact =
      let table = one.reached.table in
      let X = standing (leads_from (place_of nodes x)) in
      let L = standing (all_lead (seen_states nodes xs)) in
      let R = all_reached nodes start in
      let split : standing (all_lead (seen_states nodes (xs ++ x ∷ []))) ≡ L ++ X = lead_split nodes xs x [] ∙ ap (λ l. L ++ l) (append-nil X) in
      one.exact
      ∙ merged_after X (all_reached nodes old) (L ++ R) so_far.exact
      ∙ merged_moved nodes table.once X L R (standing_seen nodes table x is_state) (standing_all_seen nodes table xs states)
      ∙ ap merged (sym (append_assoc L X R))
      ∙ ap (λ l. merged (l ++ R)) (sym split);
  as_many = one.as_many ∙ so_far.as_many;
}

-- ---- sequences in turn, from the last

-- what was reached and will be is the same as at the start
pub record ReachesSame (nodes : List SelectorNode) (start now : Reached) : Type 0 where
  pub reached : AreReached nodes now
  pub enters : Same (ReachedEnters nodes now) (ReachedEnters nodes start)
  pub exact : merged (all_reached nodes now) ≡ merged (all_reached nodes start)

-- the last of the sequences was entered
pub last-entered : (nodes : List SelectorNode) (start old mid new : Reached) (x : State) → ReachesSame nodes start old → mid.explore.items ≡ old.explore.items → old.reentries.items ≡ mid.reentries.items ++ x ∷ []
    → Reenters nodes mid new (EntersAt nodes x) (leads_from (place_of nodes x)) → ReachesSame nodes start new
last-entered nodes start old mid new x so_far same was one = record {
  reached = one.reached;
  enters = λ p.
      let push = some-push nodes mid.reentries.items x p in
      let so = so_far.enters p in (
        λ h.
            so.0
            (⊎_elim
            (λ (m : ReachedEnters nodes mid p).
            ⊎_elim
            (λ (s : SomeEnter nodes mid.explore.items p). inl (subst (λ l. SomeEnter nodes l p) same s))
            (λ (a : SomeEnter nodes mid.reentries.items p). inr (subst (λ l. SomeEnter nodes l p) (sym was) (push.1 (inl a))))
            m)
            (λ (b : EntersAt nodes x p). inr (subst (λ l. SomeEnter nodes l p) (sym was) (push.1 (inr b))))
            ((one.enters p).0 h)),
        λ h.
            (one.enters p).1
            (⊎_elim
            (λ (s : SomeEnter nodes old.explore.items p). inl (inl (subst (λ l. SomeEnter nodes l p) (sym same) s)))
            (λ (a : SomeEnter nodes old.reentries.items p).
            ⊎_elim (λ (m : SomeEnter nodes mid.reentries.items p). inl (inr m)) (λ (b : EntersAt nodes x p). inr b) (push.0 (subst (λ l. SomeEnter nodes l p) was a)))
            (so.1 h)),
      );
  exact =
      let table = so_far.reached.table in
      let X = standing (leads_from (place_of nodes x)) in
      let S = seen_states nodes old.explore.items in
      let L = standing (all_lead (seen_states nodes mid.reentries.items)) in
      let parts = all_front (IsState nodes) mid.reentries.items x [] (subst (All (IsState nodes)) was so_far.reached.reentries) in
      let split : all_reached nodes old ≡ S ++ (L ++ (X ++ [])) = ap (λ l. S ++ standing (all_lead (seen_states nodes l))) was ∙ ap (λ l. S ++ l) (lead_split nodes mid.reentries.items x []) in
      let x_seen = standing_seen nodes table x parts.1 in
      one.exact
      ∙ ap (λ l. merged (X ++ (seen_states nodes l ++ L))) same
      ∙ merged_moved nodes table.once X S L x_seen (each_seen nodes old.explore.items so_far.reached.states)
      ∙ merged_after S (X ++ L) (L ++ (X ++ [])) (ap (λ l. merged (X ++ l)) (sym (append-nil L)) ∙ merged_moved nodes table.once X L [] x_seen (standing_all_seen nodes table mid.reentries.items parts.0))
      ∙ ap merged (sym split)
      ∙ so_far.exact;
}

-- ---- in other words

-- what is added is said of another state that leads to the same
pub reenters-as : (nodes : List SelectorNode) (old new : Reached) (E D : Path → Type 0) (f g : List Place) → Same E D → f ≡ g → Reenters nodes old new E f → Reenters nodes old new D g
reenters-as nodes old new E D f g same leads h = record {
  reached = h.reached;
  enters = joins-same (ReachedEnters nodes new) (ReachedEnters nodes old) E D h.enters same;
  exact = subst (λ l. merged (all_reached nodes new) ≡ merged (standing l ++ all_reached nodes old)) leads h.exact;
  as_many = h.as_many;
}

-- an edge isn't a state without one
pub edge-never : (nodes : List SelectorNode) (x : State) → AreNodes 0 nodes → x.place < length nodes → Edge ≡ get_or nodes x.place Edge → HasNoEdge nodes x → ⊥
edge-never nodes x table within is none = none.never (subst (IsGuarded none.around) (place-is nodes x.place Edge table within is) none.guarded)

-- ---- from all sequences to none

-- the last of the sequences may be entered
pub last-can : (nodes : List SelectorNode) (old mid : Reached) (x : State) → AreReached nodes old → mid.explore.items ≡ old.explore.items → old.reentries.items ≡ mid.reentries.items ++ x ∷ [] → CanReenter nodes x mid
last-can nodes old mid x were same was =
    let states = all_front (IsState nodes) mid.reentries.items x [] (subst (All (IsState nodes)) was were.reentries) in
    let edges = all_front (HasNoEdge nodes) mid.reentries.items x [] (subst (All (HasNoEdge nodes)) was were.sequences) in
    record {
      state = states.1;
      no_edge = edges.1;
      reached = record {
        table = were.table;
        states = subst (All (IsState nodes)) (sym same) were.states;
        explore = subst (All (IsStanding nodes)) (sym same) were.explore;
        reentries = states.0;
        sequences = edges.0;
      };
    }

-- nothing was entered yet
pub all-same : (nodes : List SelectorNode) (given start : Reached) → AreReached nodes given → start.explore.items ≡ given.explore.items → All (IsOf given.reentries.items) start.reentries.items → ReachesSame nodes start start
all-same nodes given start were same among = record {
  reached = record {
    table = were.table;
    states = subst (All (IsState nodes)) (sym same) were.states;
    explore = subst (All (IsStanding nodes)) (sym same) were.explore;
    reentries = states-of nodes given.reentries.items start.reentries.items among were.reentries;
    sequences = no_edge-of nodes given.reentries.items start.reentries.items among were.sequences;
  };
  enters = λ p. (λ h. h, λ h. h);
  exact = refl;
}

-- all were entered
module _ (nodes : List SelectorNode) (given start last : Reached) (same : start.explore.items ≡ given.explore.items) (all_of : ReachesSame nodes start last) (none : last.reentries.items ≡ []) where
  -- what was reached at last enters what was reached at first
  pub all-enter : EnterSame start.reentries.items given.reentries.items → Same (SomeEnter nodes last.explore.items) (ReachedEnters nodes given)
  all-enter starts p = (
    λ h.
        ⊎_elim
        (λ (s : SomeEnter nodes start.explore.items p). inl (subst (λ l. SomeEnter nodes l p) same s))
        (λ (a : SomeEnter nodes start.reentries.items p). inr ((starts nodes p).0 a))
        ((all_of.enters p).0 (inl h)),
    λ h.
        ⊎_elim
        (λ (s : SomeEnter nodes last.explore.items p). s)
        (λ (a : SomeEnter nodes last.reentries.items p). absurd (none-enter nodes p (subst (λ l. SomeEnter nodes l p) none a)))
        ((all_of.enters p).1
        (⊎_elim
        (λ (s : SomeEnter nodes given.explore.items p). inl (subst (λ l. SomeEnter nodes l p) (sym same) s))
        (λ (a : SomeEnter nodes given.reentries.items p). inr ((starts nodes p).1 a))
        h)),
  )

  -- and is what the definition leaves
  pub all-left : (rs : List State) → AreMerged start.reentries.items given.reentries.items → AreMerged rs last.explore.items → AreLeft nodes given rs
  all-left rs first second =
      let L = seen_states nodes last.explore.items in
      second nodes
      ∙ ap merged (sym (append-nil L))
      ∙ ap (λ l. merged (L ++ standing (all_lead (seen_states nodes l)))) (sym none)
      ∙ all_of.exact
      ∙ ap (λ l. merged (seen_states nodes l ++ standing (all_lead (seen_states nodes start.reentries.items)))) same
      ∙ ap (λ l. merged (seen_states nodes given.explore.items ++ standing (all_lead l))) (first nodes)

-- where there is no last one, there is none
pub none-last : (xs : List State) → (0 < length xs → ⊥) → xs ≡ []
none-last [] none = refl
none-last (x ∷ xs) none = absurd (none (omega arith))
