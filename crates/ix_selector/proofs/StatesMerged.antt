-- States that are merged, as places.
use Rattle.std.proofs.Common.{◌≡◌, ℕ, zero, suc, ◌+◌, ◌<◌, ◌≤◌, List, [], ◌∷◌, ◌++◌, take, length, get_or, Contains, refl, sym, ◌∙◌, ap, subst, arith, append-nil, append_assoc}
use Rattle.std.specs.Prelude.{Option, Some, None}
use Rattle.std.specs.List.{All}
use Rattle.std.specs.List.Sorted.{IsPermutation}
use Rattle.std.proofs.lemmas.List.{take_more, get_or-take, length-take-le, length-map}
use Rattle.std.proofs.lemmas.List.Elements.{All-contains, Contains-push}
use Rattle.std.proofs.lemmas.List.Sorted.{IsPermutation-map}
use Rattle.ix_selector.specs.declared.selector_node.SelectorNode.{SelectorNode}
use Rattle.ix_selector.specs.declared.state.State.{State}
use Rattle.ix_selector.specs.declared.state.Recursion.{Recursion}
use Rattle.ix_selector.specs.Pattern.{Pattern}
use Rattle.ix_selector.specs.Places.{at, places_of}
use Rattle.ix_selector.specs.Residual.{Place}
use Rattle.ix_selector.specs.States.{IsDeeper, IsJoined, frames, sequence_of, place_of, seen_states, AgreesWith, Agree, AreRisingFrom, ArePlacesRising, IsUpTo}
use Rattle.ix_selector.specs.Behind.{deeper_around, both, put, merged}
use Rattle.ix_selector.specs.Merging.{AreMerged, ArePut}
use Rattle.ix_selector.proofs.Merged.{deeper-flip, put-above, put-beside, Alike, AlikeAll, AreAlike, merged-front, merged-permutation}

-- ---- two ways to a place

-- the recursion of a joined state is the joined recursion
around_joined : (ps : List Pattern) (a b c : Option Recursion) → IsDeeper a b c → (frames ps c ≡ deeper_around (frames ps a) (frames ps b)) × (sequence_of c ≡ sequence_of a)
around_joined ps None None None d = (refl, refl)
around_joined ps None None (Some c) d = absurd d
around_joined ps None (Some b) c d = absurd d
around_joined ps (Some a) None c d = absurd d
around_joined ps (Some a) (Some b) None d = absurd d
around_joined ps (Some a) (Some b) (Some c) d = (λ i. record { sequence = at ps (d.1 i); depth = d.2 i } ∷ [], ap Some d.1)

-- so a joined state is the joined place
pub both-joined : (nodes : List SelectorNode) (a b c : State) → IsJoined a b c → place_of nodes c ≡ both (place_of nodes a) (place_of nodes b)
both-joined nodes a b c is =
    let same = around_joined (places_of nodes) a.recursion b.recursion c.recursion is.2 in
    λ i. record { selector = at (places_of nodes) (is.1 i); around = same.0 i; number = is.1 i; sequence = same.1 i }

-- recursions over one sequence may be joined in either order
around_flip : (ps : List Pattern) (a b : Option Recursion) → sequence_of a ≡ sequence_of b → deeper_around (frames ps a) (frames ps b) ≡ deeper_around (frames ps b) (frames ps a)
around_flip ps None None h = refl
around_flip ps None (Some b) h = absurd cc
around_flip ps (Some a) None h = absurd cc
around_flip ps (Some a) (Some b) h =
    let same : a.sequence ≡ b.sequence = cc in
    λ i. record { sequence = at ps (same i); depth = deeper-flip a.depth b.depth i } ∷ []

-- and so may states that agree
pub states-alike : (nodes : List SelectorNode) (x y : State) → AgreesWith x y → Alike (place_of nodes x) (place_of nodes y)
states-alike nodes x y agree is =
    let around = around_flip (places_of nodes) x.recursion y.recursion (agree is) in
    λ i. record { selector = at (places_of nodes) (is i); around = around i; number = is i; sequence = agree is i }

-- ---- one more after the others

-- the last of rising places is at or above the bound
rises-to : (n : ℕ) (front : List State) (last : State) → AreRisingFrom n (front ++ last ∷ []) → n ≤ last.place
rises-to n [] last h = h.0
rises-to n (y ∷ front) last h = let first = h.0 in let rest = rises-to (y.place + 1) front last h.1 in omega arith

-- a state that isn't before the last is put at or after it
put_last : (nodes : List SelectorNode) (n : ℕ) (front : List State) (last x : State) → AreRisingFrom n (front ++ last ∷ []) → last.place ≤ x.place
    → put (place_of nodes x) (seen_states nodes (front ++ last ∷ [])) ≡ seen_states nodes front ++ put (place_of nodes x) (place_of nodes last ∷ [])
put_last nodes n [] last x h le = refl
put_last nodes n (y ∷ front) last x h le =
    let far = rises-to (y.place + 1) front last h.1 in
    put-above (place_of nodes x) (place_of nodes y) (seen_states nodes (front ++ last ∷ [])) (omega arith) ∙ ap (λ l. place_of nodes y ∷ l) (put_last nodes (y.place + 1) front last x h.1 le)

-- states as places, with one more
seen_push : (nodes : List SelectorNode) (xs : List State) (x : State) → seen_states nodes (xs ++ x ∷ []) ≡ seen_states nodes xs ++ place_of nodes x ∷ []
seen_push nodes [] x = refl
seen_push nodes (y ∷ xs) x = ap (λ l. place_of nodes y ∷ l) (seen_push nodes xs x)

-- the step of the loop where the state is joined with the last
pub put-joined : (front : List State) (last x both : State) → IsJoined last x both → ArePlacesRising (front ++ last ∷ []) → ArePut (front ++ both ∷ []) (front ++ last ∷ []) x
put-joined front last x joint is rises nodes =
    seen_push nodes front joint
    ∙ ap (λ y. seen_states nodes front ++ y ∷ []) (both-joined nodes last x joint is)
    ∙ ap (λ l. seen_states nodes front ++ l) (sym (put-beside (place_of nodes x) (place_of nodes last) [] (sym is.0)))
    ∙ sym (put_last nodes 0 front last x rises (let same = is.0 in omega arith))

-- and where it is appended
pub put-behind : (front : List State) (last x : State) → All (IsUpTo x) (front ++ last ∷ []) → (AgreesWith last x → last.place ≡ x.place → ⊥) → ArePlacesRising (front ++ last ∷ []) → ArePut ((front ++ last ∷ []) ++ x ∷ []) (front ++ last ∷ []) x
put-behind front last x up_to none rises nodes =
    let here = All-contains (IsUpTo x) (front ++ last ∷ []) last up_to (Contains-push front last) in
    let apart : last.place ≡ x.place → ⊥ = none here.1 in
    let le : last.place ≤ x.place = here.0 in
    seen_push nodes (front ++ last ∷ []) x
    ∙ ap (λ l. l ++ place_of nodes x ∷ []) (seen_push nodes front last)
    ∙ append_assoc (seen_states nodes front) (place_of nodes last ∷ []) (place_of nodes x ∷ [])
    ∙ ap (λ l. seen_states nodes front ++ l) (sym (put-above (place_of nodes x) (place_of nodes last) [] (far last.place x.place le apart)))
    ∙ sym (put_last nodes 0 front last x rises le) where
      far : (a b : ℕ) → a ≤ b → (a ≡ b → ⊥) → a < b
      far a b le apart = omega arith

-- ---- all of them

-- a place among those of states is that of a state
has_place : (nodes : List SelectorNode) (xs : List State) (n : ℕ) (z : Place) → n < length xs → get_or (seen_states nodes xs) n z ≡ z → (x : State) × Contains xs x × (place_of nodes x ≡ z)
has_place nodes [] n z within is = absurd (omega arith)
has_place nodes (x ∷ xs) zero z within is = (x, (0, omega arith, refl), is)
has_place nodes (x ∷ xs) (suc n) z within is =
    let found = has_place nodes xs n z (omega arith) is in
    (found.0, (suc found.1.0, let below = found.1.1 in omega arith, found.1.2), found.2)

-- states that agree are places that are alike
pub seen-alike : (nodes : List SelectorNode) (xs : List State) → Agree xs → AreAlike (seen_states nodes xs)
seen-alike nodes xs agree = record {
  at = λ x y a b.
      let one = has_place nodes xs a.0 x (subst (λ n. a.0 < n) (length-map xs (place_of nodes)) a.1) a.2 in
      let other = has_place nodes xs b.0 y (subst (λ n. b.0 < n) (length-map xs (place_of nodes)) b.1) b.2 in
      subst (λ z. Alike z y) one.2 (subst (λ z. Alike (place_of nodes one.0) z) other.2 (states-alike nodes one.0 other.0 (agree.at one.0 other.0 one.1 other.1)));
}

-- one more in a loop
pub merged-next : (rs qs xs : List State) (i : ℕ) (x : State) → i < length xs → x ≡ get_or xs i x → Agree xs → AreMerged rs (take i xs) → ArePut qs rs x → AreMerged qs (take (i + 1) xs)
merged-next rs qs xs i x within is agree so_far put_it nodes =
    let front = take i xs in
    let more : take (i + 1) xs ≡ front ++ x ∷ [] = take_more xs i x within ∙ ap (λ y. take i xs ++ y ∷ []) (sym is) in
    let sees : seen_states nodes (take (i + 1) xs) ≡ seen_states nodes front ++ place_of nodes x ∷ [] = ap (seen_states nodes) more ∙ seen_push nodes front x in
    let alike : AlikeAll (place_of nodes x) (seen_states nodes front) = alike_front nodes xs x (i, within, sym is) agree front (λ y h. front_of xs i y (omega arith) h) in
    put_it nodes
    ∙ ap (put (place_of nodes x)) (so_far nodes ∙ ap merged (sym (append-nil (seen_states nodes front))))
    ∙ sym (ap merged sees ∙ merged-front (seen_states nodes front) (place_of nodes x) [] alike) where
      front_of : (xs : List State) (i : ℕ) (y : State) → i ≤ length xs → Contains (take i xs) y → Contains xs y
      front_of xs i y le h =
          let long : length (take i xs) ≡ i = length-take-le i xs le in
          let below : h.0 < i = let b = h.1 in omega arith in
          (h.0, omega arith, sym (get_or-take i xs h.0 y below) ∙ h.2)

      alike_front : (nodes : List SelectorNode) (xs : List State) (x : State) → Contains xs x → Agree xs → (front : List State) → ((y : State) → Contains front y → Contains xs y) → AlikeAll (place_of nodes x) (seen_states nodes front)
      alike_front nodes xs x here agree [] all = tt
      alike_front nodes xs x here agree (y ∷ front) all = (
        states-alike nodes x y (agree.at x y here (all y (0, omega arith, refl))),
        alike_front nodes xs x here agree front (λ z h. all z (suc h.0, let within = h.1 in omega arith, h.2)),
      )

-- so sorting first changes nothing of what is merged
pub merged-other : (rs xs ys : List State) → IsPermutation xs ys → Agree xs → AreMerged rs ys → AreMerged rs xs
merged-other rs xs ys moved agree all nodes =
    all nodes ∙ merged-permutation (seen_states nodes xs) (seen_states nodes ys) (IsPermutation-map (place_of nodes) xs ys moved) (seen-alike nodes xs agree)

-- fewer than two are merged
pub merged-few : (xs : List State) → length xs < 2 → AreMerged xs xs
merged-few [] few nodes = refl
merged-few (x ∷ []) few nodes = refl
merged-few (x ∷ y ∷ xs) few nodes = absurd (omega arith)
