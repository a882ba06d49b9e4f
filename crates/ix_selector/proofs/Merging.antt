-- States that are joined, and what they keep.
use Rattle.std.proofs.Common.{◌≡◌, ℕ, ◌+◌, ◌<◌, ◌≤◌, ◌⊎◌, inl, inr, ⊎_elim, List, [], ◌∷◌, ◌++◌, take, drop, get_or, length, refl, sym, ◌∙◌, ap, subst, arith}
use Rattle.std.specs.Prelude.{Option, Some, None}
use Rattle.std.specs.List.{All, Contains, refill}
use Rattle.std.specs.List.Sorted.{IsPermutation, IsNonDecreasingBy}
use Rattle.std.proofs.lemmas.List.{take_more, take_all, drop_all, append-nil, get_or_default, get_or-take, length-take-le}
use Rattle.std.proofs.lemmas.List.Elements.{All-head, All-tail, All-push, All-weaker, All-contains, All-contains_itself, Contains-append_left, Contains-push}
use Rattle.std.proofs.lemmas.List.Sorted.{Contains-permutation, IsPermutation-sym, length_permutation}
use Rattle.ix_selector.specs.declared.selector_node.SelectorNode.{SelectorNode}
use Rattle.ix_selector.specs.declared.state.State.{State}
use Rattle.ix_selector.specs.declared.state.Recursion.{Recursion}
use Rattle.ix_selector.specs.Pattern.{Pattern, unguarded, IsGuarded}
use Rattle.ix_selector.specs.Enters.{Path, Enters}
use Rattle.ix_selector.specs.Places.{at, places_of, AreNamedOnce}
use Rattle.ix_selector.specs.Standing.{IsStandingIn}
use Rattle.ix_selector.proofs.Standing.{stands-once}
use Rattle.ix_selector.specs.States.{deeper, IsDeeper, IsJoined, frames, selector_at, around, IsSequence, IsState, IsStanding, HasNoEdge, sequence_of, AgreesWith, Agree, AreRisingFrom, ArePlacesRising, IsUpTo, IsAt, IsOf, EntersAt, SomeEnter, Joins, EnterSame, EnterMore}
use Rattle.ix_selector.proofs.Entering.{deeper-left, deeper-right, deeper-either}
use Rattle.ix_selector.proofs.Reaching.{some-push, some-permutation}

-- ---- what a state keeps at the same place in the same recursion

-- recursions with one sequence surround alike
around-same : (r q : Option Recursion) → sequence_of q ≡ sequence_of r → around r ≡ around q
around-same None None h = refl
around-same None (Some q) h = absurd cc
around-same (Some r) None h = absurd cc
around-same (Some r) (Some q) h = refl

-- they have one sequence
sequence-same : (r q : Recursion) → Some q.sequence ≡ Some r.sequence → r.sequence ≡ q.sequence
sequence-same r q h = cc

-- and it is one of the table
is_sequence-same : (nodes : List SelectorNode) (r q : Option Recursion) → sequence_of q ≡ sequence_of r → IsSequence nodes r → IsSequence nodes q
is_sequence-same nodes None None h is = tt
is_sequence-same nodes None (Some q) h is = absurd cc
is_sequence-same nodes (Some r) None h is = absurd cc
is_sequence-same nodes (Some r) (Some q) h is = subst (λ n. (n < length nodes) × IsGuarded unguarded (at (places_of nodes) n)) (sequence-same r q h) is

-- another depth at the same place is a state of the table too
pub state-at : (nodes : List SelectorNode) (x y : State) → IsAt x y → IsState nodes x → IsState nodes y
state-at nodes x y same is = record {
  within = subst (λ n. n < length nodes) (sym same.place) is.within;
  guarded =
      subst (λ a. IsGuarded a (selector_at nodes y)) (around-same x.recursion y.recursion same.sequence)
      (subst (λ n. IsGuarded (around x.recursion) (at (places_of nodes) n)) (sym same.place) is.guarded);
  sequence = is_sequence-same nodes x.recursion y.recursion same.sequence is.sequence;
  stands = subst (λ n. IsStandingIn nodes n (sequence_of y.recursion)) (sym same.place) (subst (λ q. IsStandingIn nodes x.place q) (sym same.sequence) is.stands);
}

-- and is a matcher or explorer too
pub standing-at : (nodes : List SelectorNode) (x y : State) → IsAt x y → IsStanding nodes x → IsStanding nodes y
standing-at nodes x y same is = subst (λ n. IsStanding nodes (record { place = n; recursion = y.recursion })) (sym same.place) is

-- and has no edge before a step either
pub no_edge-at : (nodes : List SelectorNode) (x y : State) → IsAt x y → HasNoEdge nodes x → HasNoEdge nodes y
no_edge-at nodes x y same is = subst (λ n. HasNoEdge nodes (record { place = n; recursion = y.recursion })) (sym same.place) is

-- what all states are, those at their places are
of_all : (P : State → Type 0) → ((x y : State) → IsAt x y → P x → P y) → (xs ys : List State) → All (IsOf xs) ys → All P xs → All P ys
of_all P keeps xs ys of all = All-weaker (IsOf xs) P (λ y is. keeps is.state y is.at (All-contains P xs is.state all is.among)) ys of

-- states at places of states of the table are such states
pub states-of : (nodes : List SelectorNode) (xs ys : List State) → All (IsOf xs) ys → All (IsState nodes) xs → All (IsState nodes) ys
states-of nodes = of_all (IsState nodes) (state-at nodes)

-- and matchers or explorers, if those are
pub standing-of : (nodes : List SelectorNode) (xs ys : List State) → All (IsOf xs) ys → All (IsStanding nodes) xs → All (IsStanding nodes) ys
standing-of nodes = of_all (IsStanding nodes) (standing-at nodes)

-- and without an edge before a step, if those are
pub no_edge-of : (nodes : List SelectorNode) (xs ys : List State) → All (IsOf xs) ys → All (HasNoEdge nodes) xs → All (HasNoEdge nodes) ys
no_edge-of nodes = of_all (HasNoEdge nodes) (no_edge-at nodes)

-- ---- one state for two

-- joining keeps the sequence
recursion_at : (a b c : Option Recursion) → IsDeeper a b c → sequence_of c ≡ sequence_of a
recursion_at None None None d = refl
recursion_at None None (Some c) d = absurd d
recursion_at None (Some b) c d = absurd d
recursion_at (Some a) None c d = absurd d
recursion_at (Some a) (Some b) None d = absurd d
recursion_at (Some a) (Some b) (Some c) d = ap Some d.1

-- a joined state is at the same place
pub joined-at : (a b c : State) → IsJoined a b c → IsAt a c
joined-at a b c is = record { place = is.1; sequence = recursion_at a.recursion b.recursion c.recursion is.2 }

-- in the joined recursion is entered what is entered in either
frames_joined : (places : List Pattern) (s : Pattern) (a b c : Option Recursion) → IsDeeper a b c → (p : Path)
    → (Enters s (frames places c) p → Enters s (frames places a) p ⊎ Enters s (frames places b) p) × (Enters s (frames places a) p ⊎ Enters s (frames places b) p → Enters s (frames places c) p)
frames_joined places s None None None d p = (λ h. inl h, λ h. ⊎_elim (λ (x : Enters s [] p). x) (λ (x : Enters s [] p). x) h)
frames_joined places s None None (Some c) d p = absurd d
frames_joined places s None (Some b) c d p = absurd d
frames_joined places s (Some a) None c d p = absurd d
frames_joined places s (Some a) (Some b) None d p = absurd d
frames_joined places s (Some a) (Some b) (Some c) d p =
    let In : ℕ → Option ℕ → Type 0 = λ q n. Enters s (record { sequence = at places q; depth = n } ∷ []) p in
    let same : In c.sequence c.depth ≡ In a.sequence (deeper a.depth b.depth) = λ i. In (d.1 i) (d.2 i) in
    let other : In a.sequence b.depth ≡ In b.sequence b.depth = ap (λ q. In q b.depth) d.0 in (
      λ h.
          ⊎_elim
          (λ (x : In a.sequence a.depth). inl x)
          (λ (x : In a.sequence b.depth). inr (subst (λ q. In q b.depth) d.0 x))
          (deeper-either a.depth b.depth [] (subst (λ q. In q (deeper a.depth b.depth)) d.1 (subst (λ n. In c.sequence n) d.2 h))),
      λ h.
          subst (λ n. In c.sequence n) (sym d.2)
          (subst (λ q. In q (deeper a.depth b.depth)) (sym d.1)
          (⊎_elim
          (λ (x : In a.sequence a.depth). deeper-left a.depth b.depth [] x)
          (λ (x : In b.sequence b.depth). deeper-right a.depth b.depth [] (subst (λ q. In q b.depth) (sym d.0) x))
          h)),
    )

-- and enters what either enters
pub joined-enters : (nodes : List SelectorNode) (a b c : State) → IsJoined a b c → Joins (EntersAt nodes c) (EntersAt nodes a) (EntersAt nodes b)
joined-enters nodes a b c is p =
    let places = places_of nodes in
    let both = frames_joined places (at places a.place) a.recursion b.recursion c.recursion is.2 p in (
      λ h.
          ⊎_elim
          (λ (x : EntersAt nodes a p). inl x)
          (λ (x : Enters (at places a.place) (frames places b.recursion) p). inr (subst (λ n. Enters (at places n) (frames places b.recursion) p) is.0 x))
          (both.0 (subst (λ n. Enters (at places n) (frames places c.recursion) p) is.1 h)),
      λ h.
          subst (λ n. Enters (at places n) (frames places c.recursion) p) (sym is.1)
          (both.1
          (⊎_elim
          (λ (x : EntersAt nodes a p). inl x)
          (λ (x : EntersAt nodes b p). inr (subst (λ n. Enters (at places n) (frames places b.recursion) p) (sym is.0) x))
          h)),
    )

-- ---- states appended to others

-- each state is at its own place
itself-of : (xs : List State) (x : State) → Contains xs x → IsOf xs x
itself-of xs x among = record { state = x; among = among; at = record { place = refl; sequence = refl } }

-- a list is of itself with one more
pub of-front : (xs : List State) (x : State) → All (IsOf (xs ++ x ∷ [])) xs
of-front xs x = All-weaker (Contains xs) (IsOf (xs ++ x ∷ [])) (λ y among. itself-of _ y (Contains-append_left xs (x ∷ []) y among)) xs (All-contains_itself xs)

-- and so is the last
pub of-last : (xs : List State) (x : State) → IsOf (xs ++ x ∷ []) x
of-last xs x = itself-of (xs ++ x ∷ []) x (Contains-push xs x)

-- what is of some is of more
pub of-more : (xs zs ys : List State) → ((x : State) → Contains xs x → Contains zs x) → All (IsOf xs) ys → All (IsOf zs) ys
of-more xs zs ys more all = All-weaker (IsOf xs) (IsOf zs) (λ y is. record { state = is.state; among = more is.state is.among; at = is.at }) ys all

-- ---- states merged one by one

-- of these states, and entering what they enter, with rising places
pub record Merged (rs xs : List State) : Type 0 where
  pub enters : EnterSame rs xs
  pub among : All (IsOf xs) rs
  pub rising : ArePlacesRising rs

-- what is of states that are of others is of the others
at-twice : (x y z : State) → IsAt x y → IsAt y z → IsAt x z
at-twice x y z a b = record { place = b.place ∙ a.place; sequence = b.sequence ∙ a.sequence }

-- being at a place of some is transitive
of-chain : (xs zs ys : List State) → All (IsOf zs) xs → All (IsOf xs) ys → All (IsOf zs) ys
of-chain xs zs ys inner outer =
    All-weaker (IsOf xs) (IsOf zs) (λ y is.
    let inside = All-contains (IsOf zs) xs is.state inner is.among in
    record { state = inside.state; among = inside.among; at = at-twice inside.state is.state y inside.at is.at }) ys outer

-- one more state in both lists
of-both : (rs front : List State) (x : State) → All (IsOf front) rs → All (IsOf (front ++ x ∷ [])) (rs ++ x ∷ [])
of-both rs front x all = All-push (IsOf (front ++ x ∷ [])) rs x (of-more front (front ++ x ∷ []) rs (λ y among. Contains-append_left front (x ∷ []) y among) all) (of-last front x)

-- one more
pub merged-more : (rs qs xs : List State) (i : ℕ) (x : State) → i < length xs → x ≡ get_or xs i x → Merged rs (take i xs) → EnterMore qs rs x → All (IsOf (rs ++ x ∷ [])) qs → ArePlacesRising qs
    → Merged qs (take (i + 1) xs)
merged-more rs qs xs i x within is so_far enters among rising =
    let front = take i xs in
    let more : take (i + 1) xs ≡ front ++ x ∷ [] = take_more xs i x within ∙ ap (λ y. take i xs ++ y ∷ []) (sym is) in
    subst (λ l. Merged qs l) (sym more) (record {
      enters = λ nodes p. (
        λ h. (some-push nodes front x p).1 (⊎_elim (λ (a : SomeEnter nodes rs p). inl ((so_far.enters nodes p).0 a)) (λ (b : EntersAt nodes x p). inr b) ((enters nodes p).0 h)),
        λ h. (enters nodes p).1 (⊎_elim (λ (a : SomeEnter nodes front p). inl ((so_far.enters nodes p).1 a)) (λ (b : EntersAt nodes x p). inr b) ((some-push nodes front x p).0 h)),
      );
      among = of-chain (rs ++ x ∷ []) (front ++ x ∷ []) qs (of-both rs front x so_far.among) among;
      rising = rising;
    })

-- in another order
merged_sorted : (rs xs ys : List State) → IsPermutation xs ys → Merged rs ys → Merged rs xs
merged_sorted rs xs ys moved all = record {
  enters = λ nodes p.
      let same = some-permutation nodes xs ys moved p in
      let here = all.enters nodes p in
      (λ h. same.0 (here.0 h), λ h. here.1 (same.1 h));
  among = of-more ys xs rs (λ y among. Contains-permutation ys xs y (IsPermutation-sym xs ys moved) among) all.among;
  rising = all.rising;
}

-- and where all of them were gone through
pub merged-done : (rs xs ys : List State) (i : ℕ) → IsPermutation xs ys → length ys ≤ i → Merged rs (take i ys) → Merged rs xs
merged-done rs xs ys i moved done all = merged_sorted rs xs ys moved (subst (Merged rs) (take_all i ys done) all)

-- the last of the states joined with one more
pub joined-last : (front : List State) (last x both : State) → IsJoined last x both → EnterMore (front ++ both ∷ []) (front ++ last ∷ []) x × All (IsOf ((front ++ last ∷ []) ++ x ∷ [])) (front ++ both ∷ [])
joined-last front last x both is = (
  λ nodes p.
      let j = joined-enters nodes last x both is p in
      let new = some-push nodes front both p in
      let old = some-push nodes front last p in (
        λ h.
            ⊎_elim
            (λ (a : SomeEnter nodes front p). inl (old.1 (inl a)))
            (λ (b : EntersAt nodes both p). ⊎_elim (λ (l : EntersAt nodes last p). inl (old.1 (inr l))) (λ (r : EntersAt nodes x p). inr r) (j.0 b))
            (new.0 h),
        λ h.
            new.1
            (⊎_elim
            (λ (o : SomeEnter nodes (front ++ last ∷ []) p). ⊎_elim (λ (a : SomeEnter nodes front p). inl a) (λ (l : EntersAt nodes last p). inr (j.1 (inl l))) (old.0 o))
            (λ (r : EntersAt nodes x p). inr (j.1 (inr r)))
            h),
      ),
  let whole = (front ++ last ∷ []) ++ x ∷ [] in
      let inside = Contains-append_left (front ++ last ∷ []) (x ∷ []) last (Contains-push front last) in
      All-push (IsOf whole) front both
      (of-more (front ++ last ∷ []) whole front (λ y among. Contains-append_left (front ++ last ∷ []) (x ∷ []) y among) (of-front front last))
      (record { state = last; among = inside; at = joined-at last x both is }),
)

-- one more after the others
pub push-enters : (xs : List State) (x : State) → EnterMore (xs ++ x ∷ []) xs x × All (IsOf (xs ++ x ∷ [])) (xs ++ x ∷ [])
push-enters xs x = (λ nodes p. some-push nodes xs x p, of-itself (xs ++ x ∷ [])) where
  of-itself : (ys : List State) → All (IsOf ys) ys
  of-itself ys = All-weaker (Contains ys) (IsOf ys) (λ y among. itself-of ys y among) ys (All-contains_itself ys)

-- a slice that was sorted is put back whole
pub refill-whole : (xs was ws now : List State) → was ≡ xs → IsPermutation was ws → now ≡ refill (length xs) xs ws → now ≡ ws
refill-whole xs was ws now same moved is =
    let as_long : length ws ≡ length xs = length_permutation was ws moved ∙ ap length same in
    is ∙ take_all_of ws xs as_long where
      take_all_of : (ws xs : List State) → length ws ≡ length xs → refill (length xs) xs ws ≡ ws
      take_all_of ws xs e =
          ap (λ n. take (length xs) (ws ++ drop n xs)) e ∙ ap (λ l. take (length xs) (ws ++ l)) (drop_all (length xs) xs (omega arith)) ∙ ap (take (length xs)) (append-nil ws) ∙ take_all (length xs) ws (omega arith)

-- so it holds what it held, in another order
pub refill-permutation : (xs was ws now : List State) → was ≡ xs → IsPermutation was ws → now ≡ refill (length xs) xs ws → IsPermutation xs now
refill-permutation xs was ws now same moved is =
    subst (λ l. IsPermutation l now) same (subst (IsPermutation was) (sym (refill-whole xs was ws now same moved is)) moved)

-- ---- places rise

-- replacing the last state at its place keeps the order
rising-last : (n : ℕ) (front : List State) (a b : State) → b.place ≡ a.place → AreRisingFrom n (front ++ a ∷ []) → AreRisingFrom n (front ++ b ∷ [])
rising-last n [] a b same h = (subst (λ k. n ≤ k) (sym same) h.0, tt)
rising-last n (x ∷ front) a b same h = (h.0, rising-last (x.place + 1) front a b same h.1)

-- a state with a greater place may be appended
rising-push : (n : ℕ) (front : List State) (a x : State) → a.place < x.place → AreRisingFrom n (front ++ a ∷ []) → AreRisingFrom n ((front ++ a ∷ []) ++ x ∷ [])
rising-push n [] a x above h = (h.0, (omega arith, tt))
rising-push n (y ∷ front) a x above h = (h.0, rising-push (y.place + 1) front a x above h.1)

-- the last is joined with one more at its place
pub joined-rising : (front : List State) (last x both : State) → IsJoined last x both → ArePlacesRising (front ++ last ∷ []) → ArePlacesRising (front ++ both ∷ [])
joined-rising front last x both is h = rising-last 0 front last both is.1 h

-- one that isn't joined with the last is after it
pub pushed-rising : (front : List State) (last x : State) → All (IsUpTo x) (front ++ last ∷ []) → (AgreesWith last x → last.place ≡ x.place → ⊥) → ArePlacesRising (front ++ last ∷ []) → ArePlacesRising ((front ++ last ∷ []) ++ x ∷ [])
pushed-rising front last x up_to none h =
    let here = All-contains (IsUpTo x) (front ++ last ∷ []) last up_to (Contains-push front last) in
    let apart : last.place ≡ x.place → ⊥ = none here.1 in
    rising-push 0 front last x (above last.place x.place here.0 apart) h where
      above : (a b : ℕ) → a ≤ b → (a ≡ b → ⊥) → a < b
      above a b le apart = omega arith

-- all so far are up to the next of sorted states
pub sorted-up_to : (rs xs : List State) (i : ℕ) (x : State) → i < length xs → x ≡ get_or xs i x → IsNonDecreasingBy (λ (y : State). y.place) xs → Agree xs → All (IsOf (take i xs)) rs → All (IsUpTo x) rs
sorted-up_to rs xs i x within is sorted agree all = All-weaker (IsOf (take i xs)) (IsUpTo x) (λ y of. by y of of.among.0 of.among.1 of.among.2) rs all where
  by : (y : State) (of : IsOf (take i xs) y) (k : ℕ) → k < length (take i xs) → get_or (take i xs) k of.state ≡ of.state → IsUpTo x y
  by y of k below at =
      let long : length (take i xs) ≡ i = length-take-le i xs (omega arith) in
      let there : get_or xs k of.state ≡ of.state = sym (get_or-take i xs k of.state (omega arith)) ∙ at in
      let before : of.state.place ≤ x.place = subst (λ (z : State). z.place ≤ x.place) there (subst (λ (z : State). (get_or xs k of.state).place ≤ z.place) (get_or_default xs i of.state x within ∙ sym is) (sorted k i of.state (omega arith) within)) in
      let place = of.at.place in
      let inside : Contains xs x = (i, within, sym is) in
      let front : Contains xs of.state = (k, omega arith, there) in (
        subst (λ n. n ≤ x.place) (sym of.at.place) before,
        λ same. of.at.sequence ∙ agree.at of.state x front inside (sym of.at.place ∙ same),
      )

-- agreeing doesn't depend on the order
pub agree-permutation : (xs ys : List State) → IsPermutation xs ys → Agree xs → Agree ys
agree-permutation xs ys moved agree = record {
  at = λ x y a b. agree.at x y (Contains-permutation ys xs x (IsPermutation-sym xs ys moved) a) (Contains-permutation ys xs y (IsPermutation-sym xs ys moved) b);
}

-- states of one selector agree
pub states-agree : (nodes : List SelectorNode) (xs : List State) → AreNamedOnce nodes → All (IsState nodes) xs → Agree xs
states-agree nodes xs once all = record {
  at = λ x y a b same.
      let one = All-contains (IsState nodes) xs x all a in
      let other = All-contains (IsState nodes) xs y all b in
      stands-once once one.stands (subst (λ n. IsStandingIn nodes n (sequence_of y.recursion)) (sym same) other.stands);
}

-- ---- there are no more states than places

-- rising numbers below a bound are few
few_rising : (n m : ℕ) (xs : List State) → AreRisingFrom n xs → All (λ (x : State). x.place < m) xs → n ≤ m → length xs + n ≤ m
few_rising n m [] h below le = omega arith
few_rising n m (x ∷ xs) h below le =
    let first : x.place < m = All-head (λ (y : State). y.place < m) x xs below in
    let from = h.0 in
    let rest = few_rising (x.place + 1) m xs h.1 (All-tail (λ (y : State). y.place < m) x xs below) (omega arith) in
    omega arith

-- so there are at most as many states as places
pub few-states : (nodes : List SelectorNode) (xs : List State) → ArePlacesRising xs → All (IsState nodes) xs → length xs ≤ length nodes
few-states nodes xs h all =
    let few = few_rising 0 (length nodes) xs h (All-weaker (IsState nodes) (λ (x : State). x.place < length nodes) (λ x is. is.within) xs all) (omega arith) in
    omega arith

-- fewer than two states rise
pub rising-short : (xs : List State) → length xs < 2 → ArePlacesRising xs
rising-short [] few = tt
rising-short (x ∷ []) few = (omega arith, tt)
rising-short (x ∷ y ∷ xs) few = absurd (omega arith)
