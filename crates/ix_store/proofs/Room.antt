-- Which slots are taken while a table is filled in turn, and which one a position takes.
use Rattle.std.proofs.Common.{◌≡◌, ℕ, zero, suc, ◌+◌, ◌-◌, ◌<◌, ◌^◌, Bool, true, false, cond, ltb, List, [], ◌∷◌, ◌++◌, length, map, take, drop, slice_get, Some, None, refl, sym, ap, ◌∙◌, ⊎_elim, arith}
use Rattle.std.specs.Prelude.{Option, not, replicate, ◌==◌}
use Rattle.std.specs.List.{position_from}
use Rattle.std.specs.Int.Bits.{bit_and}
use Rattle.std.proofs.lemmas.Bool.{lt-ltb, le-ltb, ne_eqb}
use Rattle.std.proofs.lemmas.List.{length-map, take-map, drop-map, map-set}
use Rattle.std.proofs.lemmas.Option.{none-some}
use Rattle.std.proofs.Math.ListN.{set}
use Rattle.std.proofs.Math.Seq.{take-nil}
use Rattle.ix_store.specs.Store.{Blocks}
use Rattle.ix_store.specs.Index.{key_hash, first_of, window_of, end_of, Has, IsFree, IsTaken, AreTaken, IsFirstFree, FindsFree, GoesAfter, place_after}
use Rattle.ix_store.specs.Room.{is_taken, taken_in, slot_for, slot_of_pair, with_taken, taken_by, HasCrowdedOf}
use Rattle.ix_store.specs.declared.index.Slot.{Slot}
use Rattle.ix_store.specs.declared.index.Index.{Index}
use Rattle.ix_store.proofs.Stores.{less-or-same}

-- a free slot isn't taken, and another one is
taken-free : (x : Slot) → IsFree x → is_taken x ≡ false
taken-free x h = ap (λ (n : ℕ). not (n == 0)) h

taken-full : (x : Slot) → IsTaken x → is_taken x ≡ true
taken-full x h = ap not (ne_eqb (end_of x) 0 (λ same. omega (arith, h, same)))

-- a slot with a position is taken
taken-has : (x : Slot) (m p : ℕ) → Has x m p → is_taken x ≡ true
taken-has x m p h = taken-full x (omega (arith, h.1))

-- a table of so many free slots
pub taken-fresh : (n : ℕ) (x : Slot) → IsFree x → taken_in (replicate n x) ≡ replicate n false
taken-fresh zero x h = refl
taken-fresh (suc n) x h = ap (λ t. t ∷ map is_taken (replicate n x)) (taken-free x h) ∙ ap (λ (r : List Bool). false ∷ r) (taken-fresh n x h)

-- a table that was emptied has so many free slots
pub taken-emptied : (size n : ℕ) (old : List Slot) (x : Slot) → IsFree x → old ≡ [] → n ≡ 0 → taken_in (take size old ++ replicate (size - n) x) ≡ replicate size false
taken-emptied size n old x h empty none =
    let all : size - n ≡ size = omega (arith, none) in
    ap (λ (l : List Slot). taken_in (take size l ++ replicate (size - n) x)) empty
    ∙ ap (λ (l : List Slot). taken_in (l ++ replicate (size - n) x)) (take-nil size)
    ∙ ap (λ (k : ℕ). taken_in (replicate k x)) all
    ∙ taken-fresh size x h

-- the first free slot is found
first-found : (l : List Slot) (n i : ℕ) → IsFirstFree l n → position_from not i (map is_taken l) ≡ Some (i + n)
first-found [] n i h = absurd h
first-found (x ∷ l) zero i h = ap (λ t. cond (not t) (Some i) (position_from not (i + 1) (map is_taken l))) (taken-free x h) ∙ ap Some (omega arith)
first-found (x ∷ l) (suc n) i h =
    ap (λ t. cond (not t) (Some i) (position_from not (i + 1) (map is_taken l))) (taken-full x h.0) ∙ first-found l n (i + 1) h.1 ∙ ap Some (omega arith)

-- and none where all are taken
none-found : (l : List Slot) (i : ℕ) → AreTaken l → position_from not i (map is_taken l) ≡ None
none-found [] i h = refl
none-found (x ∷ l) i h = ap (λ t. cond (not t) (Some i) (position_from not (i + 1) (map is_taken l))) (taken-full x h.0) ∙ none-found l (i + 1) h.1

-- which slots of a stretch are taken
stretch-taken : (n k : ℕ) (l : List Slot) → cond (ltb n 8) [] (take 8 (drop k (map is_taken l))) ≡ map is_taken (cond (ltb n 8) [] (take 8 (drop k l)))
stretch-taken n k l =
    elim (ltb n 8) as (λ v. cond v [] (take 8 (drop k (map is_taken l))) ≡ map is_taken (cond v [] (take 8 (drop k l))))
    [ true ↦ refl | false ↦ ap (take 8) (drop-map is_taken k l) ∙ take-map is_taken 8 (drop k l) ]

-- which slots of a look-up are taken
window-taken : (l : List Slot) (u : ℕ) → window_of (map is_taken l) u ≡ map is_taken (window_of l u)
window-taken l u =
    ap (λ (n : ℕ). cond (ltb n 8) [] (take 8 (drop (bit_and u (n - 8)) (map is_taken l)))) (length-map l is_taken) ∙ stretch-taken (length l) (bit_and u (length l - 8)) l

-- a look-up begins where it does in the table
first-taken : (l : List Slot) (u : ℕ) → first_of (map is_taken l) u ≡ first_of l u
first-taken l u = ap (λ (n : ℕ). bit_and u (n - 8)) (length-map l is_taken)

-- the slot to which a position goes
pub slot-found : (l : List Slot) (u p slot : ℕ) → FindsFree l u p (Some slot) → slot_for (taken_in l) u p ≡ Some slot
slot-found l u p slot h =
    ap (λ v. cond v (position_from not (first_of (taken_in l) u) (window_of (taken_in l) u)) None) (lt-ltb p (2 ^ 32 - 1) h.0)
    ∙ ap (λ (w : List Bool). position_from not (first_of (taken_in l) u) w) (window-taken l u)
    ∙ ap (λ (f : ℕ). position_from not f (map is_taken (window_of l u))) (first-taken l u)
    ∙ first-found (window_of l u) h.1.0 (first_of l u) h.1.2
    ∙ ap Some (sym h.1.1)

-- a place that goes to the tree has none
pub slot-none : (l : List Slot) (u p : ℕ) → GoesAfter l u p → slot_for (taken_in l) u p ≡ None
slot-none l u p h =
    ⊎_elim
    (λ large. ap (λ v. cond v (position_from not (first_of (taken_in l) u) (window_of (taken_in l) u)) None) (le-ltb p (2 ^ 32 - 1) large))
    (λ full.
    let none : position_from not (first_of (taken_in l) u) (window_of (taken_in l) u) ≡ None =
    ap (λ (w : List Bool). position_from not (first_of (taken_in l) u) w) (window-taken l u) ∙ none-found (window_of l u) (first_of (taken_in l) u) full in
    ap (λ (o : Option ℕ). cond (ltb p (2 ^ 32 - 1)) o None) none ∙ elim (ltb p (2 ^ 32 - 1)) as (λ (v : Bool). cond {A = Option ℕ} v None None ≡ None) [ true ↦ refl | false ↦ refl ])
    h

-- which slots are taken once the pair at a position was put there
pub taken-more : (size : ℕ) (es : Blocks) (n : ℕ) (e : List ℕ × List ℕ) (taken : List Bool) (o : Option ℕ) → slice_get es n ≡ Some e → taken ≡ taken_by size es n → slot_for taken (key_hash e.0) n ≡ o → with_taken taken o ≡ taken_by size es (n + 1)
taken-more size es n e taken o at is slot =
    let one : suc n ≡ n + 1 = omega arith in
    let here : slot_of_pair (taken_by size es n) (slice_get es n) n ≡ o =
    ap (λ (x : Option (List ℕ × List ℕ)). slot_of_pair (taken_by size es n) x n) at ∙ ap (λ (t : List Bool). slot_for t (key_hash e.0) n) (sym is) ∙ slot in
    ap (λ (t : List Bool). with_taken t o) is ∙ ap (λ (s : Option ℕ). with_taken (taken_by size es n) s) (sym here) ∙ ap (λ (k : ℕ). taken_by size es k) one

-- which slots are taken after one was written
pub taken-set : (l : List Slot) (slot : ℕ) (x : Slot) (m p : ℕ) → Has x m p → taken_in (set l slot x) ≡ with_taken (taken_in l) (Some slot)
taken-set l slot x m p has = map-set is_taken l slot x ∙ ap (λ t. set (taken_in l) slot t) (taken-has x m p has)

-- one pair more that finds a slot
pub crowded-slot : (index : Index) (es : Blocks) (size n s : ℕ) (e : List ℕ × List ℕ) (taken : List Bool) → slice_get es n ≡ Some e → taken ≡ taken_by size es n → slot_for taken (key_hash e.0) n ≡ Some s → HasCrowdedOf index es size n → HasCrowdedOf index es size (n + 1)
crowded-slot index es size n s e taken at is slot h k d within there none =
    ⊎_elim
    (λ (before : k < n). h k d before there none)
    (λ (same : k ≡ n).
    let same_pair : Some d ≡ Some e = sym there ∙ ap (slice_get es) same ∙ at in
    let de : d ≡ e = cc in
    absurd (none-some s (sym none ∙ ap (λ (j : ℕ). slot_for (taken_by size es j) (key_hash d.0) j) same ∙ ap (λ (x : List ℕ × List ℕ). slot_for (taken_by size es n) (key_hash x.0) n) de ∙ ap (λ (t : List Bool). slot_for t (key_hash e.0) n) (sym is) ∙ slot)))
    (less-or-same k n within)

-- one pair more that the tree has
pub crowded-behind : (index : Index) (es : Blocks) (size n : ℕ) (e : List ℕ × List ℕ) → slice_get es n ≡ Some e → place_after index e.0 ≡ Some n → HasCrowdedOf index es size n → HasCrowdedOf index es size (n + 1)
crowded-behind index es size n e at behind h k d within there none =
    ⊎_elim
    (λ (before : k < n). h k d before there none)
    (λ (same : k ≡ n).
    let same_pair : Some d ≡ Some e = sym there ∙ ap (slice_get es) same ∙ at in
    let de : d ≡ e = cc in
    ap (λ (x : List ℕ × List ℕ). place_after index x.0) de ∙ behind ∙ ap Some (sym same))
    (less-or-same k n within)

-- a tree with more has them too
pub crowded-later : (index later : Index) (es : Blocks) (size n : ℕ) → ((c : List ℕ) (p : ℕ) → place_after index c ≡ Some p → place_after later c ≡ Some p) → HasCrowdedOf index es size n → HasCrowdedOf later es size n
crowded-later index later es size n more h k d within there none = more d.0 k (h k d within there none)
