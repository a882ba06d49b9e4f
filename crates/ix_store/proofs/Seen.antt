-- What threads see of a table in their shares of the entries.
use Rattle.std.proofs.Common.{◌≡◌, ◌⊎◌, ℕ, ◌+◌, ◌*◌, mul-le-mul_right, ◌<◌, ◌≤◌, List, [], ◌∷◌, ◌++◌, length, slice_get, get_or, Some, Contains, All, cond, refl, sym, ap, subst, ◌∙◌, inl, inr, ⊎_elim, arith}
use Rattle.std.specs.Prelude.{Option, Result, Ok, IfOk, IfSome}
use Rattle.std.specs.Global.{Vec}
use Rattle.std.specs.declared.alloc.AllocError.{AllocError}
use Rattle.std.specs.Option.{unwrap_or}
use Rattle.std.proofs.lemmas.Slice.Eq.{bytes_eq-Decides}
use Rattle.std.proofs.lemmas.List.Elements.{All-contains, Contains-append_left, Contains-push}
use Rattle.std.proofs.lemmas.Bool.{cases_lt}
use Rattle.ix_store.specs.Store.{Blocks}
use Rattle.ix_store.specs.Index.{place_after, probe_in, AreSeen, AllSeen, IsAfter, HasAllOf}
use Rattle.ix_store.specs.declared.index.Slot.{Slot}
use Rattle.ix_store.specs.declared.index.Probe.{Probe}
use Rattle.ix_store.specs.declared.index.Probe.TheVariants.{At, Full}
use Rattle.ix_store.specs.declared.index.Index.{Index}
use Rattle.ix_store.proofs.Indexes.{Puts, put-keeps}
use Rattle.ix_store.proofs.Found.{place_by, place-keeps, AreFound}
use Rattle.ix_store.proofs.Stores.{less-or-same}

-- where the look-up of a pair comes to its place, or finds no slot free and these have its place
abbrev IsSeen : List Slot → Blocks → ℕ → List ℕ → List ℕ → Type 0
IsSeen slots es k c places = (probe_in slots es c ≡ At k) ⊎ ((probe_in slots es c ≡ Full) × Contains places k)

-- one pair more is seen
seen-more : (slots : List Slot) (es : Blocks) (from n : ℕ) (places later : List ℕ) (x : List ℕ × List ℕ) → AreSeen slots es from n places → slice_get es n ≡ Some x → ((k : ℕ) → Contains places k → Contains later k) → IsSeen slots es n x.0 later → AreSeen slots es from (n + 1) later
seen-more slots es from n places later x seen at keeps here k e above less is =
    ⊎_elim
    (λ (before : k < n). ⊎_elim (λ (place : probe_in slots es e.0 ≡ At k). inl place) (λ (full : (probe_in slots es e.0 ≡ Full) × Contains places k). inr (full.0, keeps k full.1)) (seen k e above before is))
    (λ (same : k ≡ n).
    let pair : Some x ≡ Some e = sym at ∙ ap (slice_get es) (sym same) ∙ is in
    let xe : x ≡ e = cc in
    subst (λ (y : List ℕ × List ℕ). IsSeen slots es k y.0 later) xe (subst (λ (m : ℕ). IsSeen slots es m x.0 later) (sym same) here))
    (less-or-same k n less)

-- at its place
pub seen-there : (slots : List Slot) (es : Blocks) (from n : ℕ) (places : List ℕ) (x : List ℕ × List ℕ) → AreSeen slots es from n places → slice_get es n ≡ Some x → probe_in slots es x.0 ≡ At n → AreSeen slots es from (n + 1) places
seen-there slots es from n places x seen at there = seen-more slots es from n places places x seen at (λ k h. h) (inl there)

-- with no slot free
pub seen-full : (slots : List Slot) (es : Blocks) (from n : ℕ) (places : List ℕ) (x : List ℕ × List ℕ) → AreSeen slots es from n places → slice_get es n ≡ Some x → probe_in slots es x.0 ≡ Full → AreSeen slots es from (n + 1) (places ++ n ∷ [])
seen-full slots es from n places x seen at full = seen-more slots es from n places (places ++ n ∷ []) x seen at (λ k h. Contains-append_left places (n ∷ []) k h) (inr (full, Contains-push places n))

-- the tree that has all of another has all of what that has all of
pub all-of-both : (first second third : Index) → HasAllOf second first → HasAllOf third second → HasAllOf third first
all-of-both first second third early late c p h = late c p (early c p h)

-- a tree that was given a place for a CID has all that it had
pub all-put : (index later : Index) (k : List ℕ) (s p : ℕ) → Puts index later k s → s ≡ unwrap_or (place_after index k) p → HasAllOf later index
all-put index later k s p puts existing c q h = put-keeps index later k c s p q puts existing h

-- what is in the tree stays there
pub all-behind : (index later : Index) (es : Blocks) (places : List ℕ) → HasAllOf later index → All (λ p. IsAfter index es p) places → All (λ p. IsAfter later es p) places
all-behind index later es places has all k d less e at = has e.0 _ (all k d less e at)

-- what is found stays found by a tree that has all of it
found-keeps : (index later : Index) (es : Blocks) (n : ℕ) → later.slots.items ≡ index.slots.items → HasAllOf later index → AreFound index es n → AreFound later es n
found-keeps index later es n same has found k e less at =
    let c = e.0 in
    ap (λ (l : List Slot). place_by (probe_in l es c) (place_after later c)) same
    ∙ place-keeps (probe_in index.slots.items es c) (place_after index c) (place_after later c) k (has c k) (found k e less at)

-- a share that was seen is found too, once the tree has the places of those with no slot free
pub found-share : (index later : Index) (es : Blocks) (n share : ℕ) (places : List ℕ) → later.slots.items ≡ index.slots.items → HasAllOf later index → AreFound index es n → AreSeen index.slots.items es n (n + share) places → All (λ p. IsAfter later es p) places → AreFound later es (n + share)
found-share index later es n share places same has found seen behind k e less at =
    let c = e.0 in
    ⊎_elim
    (λ (before : k < n). found-keeps index later es n same has found k e before at)
    (λ (from : n ≤ k).
    ap (λ (l : List Slot). place_by (probe_in l es c) (place_after later c)) same
    ∙ ⊎_elim
    (λ (there : probe_in index.slots.items es c ≡ At k). ap (λ (s : Probe). place_by s (place_after later c)) there)
    (λ (full : (probe_in index.slots.items es c ≡ Full) × Contains places k). ap (λ (s : Probe). place_by s (place_after later c)) full.0 ∙ All-contains (λ p. IsAfter later es p) places k behind full.1 e at)
    (seen k e from less at))
    (cases_lt k n)

-- a CID for which the tree was given a position is in the tree
pub put-behind : (index later : Index) (es : Blocks) (x : List ℕ × List ℕ) (s p : ℕ) → Puts index later x.0 s → s ≡ p → slice_get es p ≡ Some x → IsAfter later es p
put-behind index later es x s p puts same is e at =
    let both : Some x ≡ Some e = sym is ∙ at in
    let xe : x ≡ e = cc in
    subst (λ (y : List ℕ × List ℕ). place_after later y.0 ≡ Some p) xe (puts x.0 ∙ ap (λ v. cond v (Some s) (place_after index x.0)) ((bytes_eq-Decides x.0 x.0).1 refl) ∙ ap Some same)

-- what was seen of a share that could all be as it should
pub seen-here : (slots : List Slot) (es : Blocks) (share : ℕ) (shares : List (Result (Option (Vec ℕ)) AllocError)) (n : ℕ) (r : Result (Option (Vec ℕ)) AllocError) (places : Vec ℕ) → AllSeen slots es share shares → n < length shares → r ≡ get_or shares n r → r ≡ Ok (Some places) → AreSeen slots es (n * share) (n * share + share) places.items
seen-here slots es share shares n r places all less read is =
    subst (λ (o : Result (Option (Vec ℕ)) AllocError). IfOk o (λ found. IfSome found (λ v. AreSeen slots es (n * share) (n * share + share) v.items))) (sym read ∙ is) (all n r less)

-- shares that are whole reach to the end
pub shares-end : (count n m share : ℕ) → count ≤ m * share → m ≤ n → count ≤ n * share
shares-end count n m share whole past = omega (arith, whole, mul-le-mul_right share past)
