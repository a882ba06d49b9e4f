-- Slots with one more taken, look-ups through them, and an index of one pair more.
use Rattle.std.proofs.Common.{◌≡◌, ◌⊎◌, ℕ, zero, suc, ◌+◌, ◌-◌, ◌<◌, ◌≤◌, ◌^◌, true, false, cond, ltb, List, [], ◌∷◌, ◌++◌, length, take, drop, get_or, Some, None, refl, sym, ap, subst, ◌∙◌, zero-add, inl, inr, ⊎_elim, arith, length-drop, length-take, length-set}
use Rattle.std.specs.Prelude.{Option, bytes_eq, not}
use Rattle.std.proofs.Math.Dec.{eqb}
use Rattle.std.specs.Option.{is_some, unwrap_or}
use Rattle.std.specs.BTreeMap.{BTreeMap, get}
use Rattle.std.specs.Cmp.Lexicographic.{slice_cmp}
use Rattle.std.specs.Int.Bits.{bit_and}
use Rattle.std.specs.Ordering.{nat_cmp}
use Rattle.std.proofs.lemmas.Bool.{cases_Bool, ltb-true, ltb-false, false≢true, eq-eqb, ne_eqb}
use Rattle.std.proofs.lemmas.Slice.Eq.{bytes_eq-Decides}
use Rattle.std.proofs.Math.ListN.{set, drop_of_length-le}
use Rattle.std.proofs.lemmas.Option.{none-some}
use Rattle.std.proofs.lemmas.List.{drop-set-lt, drop-set-add, get_or-take, get_or-drop, drop_more, take_all}
use Rattle.ix_store.specs.Store.{Blocks, has_cid, position_of}
use Rattle.ix_store.specs.Index.{key_hash, fingerprint, first_of, window_of, end_of, IsFree, IsTaken, Has, HasPlace, IsLarge, Leads, Comes, AreTaken, IsFirstFree, place_after, AreLedTo, IsFreeSlot, GoesAfter, IsIndexed}
use Rattle.ix_store.specs.declared.index.Slot.{Slot}
use Rattle.ix_store.specs.declared.index.Index.{Index}
use Rattle.ix_store.proofs.Blocks.{place_within}
use Rattle.ix_store.proofs.Stores.{is_some-position, distinct-push, position-push}

-- a free slot
abbrev pub free : Slot
free = record { tag = 0; end = [] }

-- a slot without a place is free, and one with a place is taken
pub free-by : (x : Slot) (o : Option ℕ) → HasPlace x o → is_some o ≡ false → IsFree x
free-by x None h none = h
free-by x (Some p) h none = absurd (false≢true (sym none))

-- a slot with a position is taken
pub taken-by : (x : Slot) (o : Option ℕ) → HasPlace x o → is_some o ≡ true → IsTaken x
taken-by x None h some = absurd (false≢true some)
taken-by x (Some p) h some = omega (arith, h)

-- what a look-up through slots has passed: n of them, all taken, none of them what it looks for
pub record Passed (slots : List Slot) (n : ℕ) (behind : Option ℕ) (tag : ℕ) (position : Option ℕ) : Type 0 where
  pub taken : AreTaken (take n slots)
  pub on : (place : ℕ) → position ≡ Some place → (IsLarge place × (behind ≡ Some place)) ⊎ Leads (drop n slots) behind tag place

-- a front of slots with one written is the front with that one written
take-set : (n : ℕ) (l : List Slot) (i : ℕ) (x : Slot) → take n (set l i x) ≡ set (take n l) i x
take-set zero l i x = refl
take-set (suc n) [] i x = refl
take-set (suc n) (y ∷ l) zero x = refl
take-set (suc n) (y ∷ l) (suc i) x = ap (λ (r : List Slot). y ∷ r) (take-set n l i x)

-- what is free is free in a front, or after it
free-front : (n : ℕ) (l : List Slot) (i : ℕ) → IsFree (get_or l i free) → IsFree (get_or (take n l) i free)
free-front zero l i h = refl
free-front (suc n) [] i h = refl
free-front (suc n) (y ∷ l) zero h = h
free-front (suc n) (y ∷ l) (suc i) h = free-front n l i h

-- a look-up passes no free slot, so a write to one keeps where it comes
leads-set : (l : List Slot) (i : ℕ) (x : Slot) (b : Option ℕ) (m p : ℕ) → IsFree (get_or l i free) → Leads l b m p → Leads (set l i x) b m p
leads-set [] i x b m p vacant h = h
leads-set (y ∷ l) zero x b m p vacant h = absurd (omega (arith, vacant, h.0))
leads-set (y ∷ l) (suc i) x b m p vacant h = (h.0, ⊎_elim (λ here. inl here) (λ later. inr (leads-set l i x b m p vacant later)) h.1)

-- a look-up comes to what was written to the first free slot
leads-first : (l : List Slot) (n : ℕ) (x : Slot) (b : Option ℕ) (m p : ℕ) → Has x m p → IsFirstFree l n → Leads (set l n x) b m p
leads-first [] n x b m p is h = absurd h
leads-first (y ∷ l) zero x b m p is h = (omega (arith, is.1), inl is)
leads-first (y ∷ l) (suc n) x b m p is h = (h.0, inr (leads-first l n x b m p is h.1))

-- where no slot is free it comes to the tree
pub leads-past : (l : List Slot) (m p : ℕ) → AreTaken l → Leads l (Some p) m p
leads-past [] m p h = refl
leads-past (y ∷ l) m p h = (h.0, inr (leads-past l m p h.1))

-- the first free slot is one of them
first-within : (l : List Slot) (n : ℕ) → IsFirstFree l n → n < length l
first-within [] n h = absurd h
first-within (y ∷ l) zero h = omega arith
first-within (y ∷ l) (suc n) h = omega (arith, first-within l n h.1)

-- and it is free
first-free : (l : List Slot) (n : ℕ) → IsFirstFree l n → IsFree (get_or l n free)
first-free [] n h = absurd h
first-free (y ∷ l) zero h = h
first-free (y ∷ l) (suc n) h = first-free l n h.1

-- after slots that are taken a free one is the first
pub first-from : (l : List Slot) (n : ℕ) → AreTaken (take n l) → n < length l → IsFree (get_or l n free) → IsFirstFree l n
first-from [] n taken within vacant = absurd (omega arith)
first-from (y ∷ l) zero taken within vacant = vacant
first-from (y ∷ l) (suc n) taken within vacant = (taken.0, first-from l n taken.1 (omega arith) vacant)

-- one slot more that is taken
pub taken-more : (l : List Slot) (n : ℕ) → AreTaken (take n l) → n < length l → IsTaken (get_or l n free) → AreTaken (take (suc n) l)
taken-more [] n taken within at = tt
taken-more (y ∷ l) zero taken within at = (at, tt)
taken-more (y ∷ l) (suc n) taken within at = (taken.0, taken-more l n taken.1 (omega arith) at)

-- a write to a free slot keeps where look-ups through a stretch come
stretch-set : (n f : ℕ) (l : List Slot) (at : ℕ) (x : Slot) (b : Option ℕ) (m p : ℕ) → IsFree (get_or l at free) → Leads (take n (drop f l)) b m p → Leads (take n (drop f (set l at x))) b m p
stretch-set n f l at x b m p vacant h =
    ⊎_elim
    (λ before. subst (λ (r : List Slot). Leads (take n r) b m p) (sym (drop-set-lt f l at x (ltb-true at f before))) h)
    (λ from.
    let le : f ≤ at = ltb-false at f from in
    let is : f + (at - f) ≡ at = omega arith in
    let same : drop f (set l at x) ≡ set (drop f l) (at - f) x = ap (λ (k : ℕ). drop f (set l k x)) (sym is) ∙ drop-set-add f l (at - f) x in
    let there : IsFree (get_or (drop f l) (at - f) free) = subst (λ (y : Slot). IsFree y) (sym (get_or-drop f l (at - f) free ∙ ap (λ (k : ℕ). get_or l k free) is)) vacant in
    subst (λ (r : List Slot). Leads r b m p) (sym (ap (λ (r : List Slot). take n r) same ∙ take-set n (drop f l) (at - f) x)) (leads-set (take n (drop f l)) (at - f) x b m p (free-front n (drop f l) (at - f) there) h))
    (cases_Bool (ltb at f))

-- the window of a table of so many slots
abbrev window_in : ℕ → List Slot → ℕ → List Slot
window_in n l u = cond (ltb n 8) [] (take 8 (drop (bit_and u (n - 8)) l))

-- filling a slot that was free keeps what a look-up comes to, by its window
window-set-in : (n : ℕ) (l : List Slot) (at : ℕ) (x : Slot) (b : Option ℕ) (u m p : ℕ) → IsFree (get_or l at free) → Leads (window_in n l u) b m p → Leads (window_in n (set l at x) u) b m p
window-set-in n l at x b u m p vacant =
    elim (ltb n 8) as (λ v. Leads (cond v [] (take 8 (drop (bit_and u (n - 8)) l))) b m p → Leads (cond v [] (take 8 (drop (bit_and u (n - 8)) (set l at x)))) b m p)
    [ true ↦ λ h. h | false ↦ λ h. stretch-set 8 (bit_and u (n - 8)) l at x b m p vacant h ]

-- a write to a free slot keeps where look-ups come
window-set : (l : List Slot) (at : ℕ) (x : Slot) (b : Option ℕ) (u m p : ℕ) → IsFree (get_or l at free) → Leads (window_of l u) b m p → Leads (window_of (set l at x) u) b m p
window-set l at x b u m p vacant h =
    subst (λ (n : ℕ). Leads (window_in n (set l at x) u) b m p) (sym (length-set l at x)) (window-set-in (length l) l at x b u m p vacant h)

-- so filling a free slot keeps every look-up
comes-set : (l : List Slot) (at : ℕ) (x : Slot) (b : Option ℕ) (u p : ℕ) → IsFree (get_or l at free) → Comes l b u p → Comes (set l at x) b u p
comes-set l at x b u p vacant h = ⊎_elim (λ large. inl large) (λ leads. inr (window-set l at x b u (fingerprint u) p vacant leads)) h

-- the first free slot of a window
pub record AtFirst (l : List Slot) (u at : ℕ) : Type 0 where
  pub within : at < length l
  pub vacant : IsFree (get_or l at free)
  pub comes : (x : Slot) (b : Option ℕ) (m p : ℕ) → Has x m p → Leads (window_of (set l at x) u) b m p

-- the first free slot of a stretch is in the table, and once it is filled the look-up comes to it
stretch-first : (f : ℕ) (l : List Slot) (n : ℕ) → IsFirstFree (take 8 (drop f l)) n → (f + n < length l) × IsFree (get_or l (f + n) free) × ((x : Slot) (b : Option ℕ) (m p : ℕ) → Has x m p → Leads (take 8 (drop f (set l (f + n) x))) b m p)
stretch-first f l n h =
    let short : n < length (take 8 (drop f l)) = first-within (take 8 (drop f l)) n h in
    let few : n < 8 = omega (arith, short, length-take 8 (drop f l)) in (
      omega (arith, short, length-take 8 (drop f l), length-drop f l),
      subst (λ (y : Slot). IsFree y) (get_or-take 8 (drop f l) n free few ∙ get_or-drop f l n free) (first-free (take 8 (drop f l)) n h),
      λ x b m p is. subst (λ (r : List Slot). Leads r b m p) (sym (ap (λ (r : List Slot). take 8 r) (drop-set-add f l n x) ∙ take-set 8 (drop f l) n x)) (leads-first (take 8 (drop f l)) n x b m p is h),
    )

-- the same of the window of a number
window-first-in : (k : ℕ) (l : List Slot) (u n : ℕ) → IsFirstFree (window_in k l u) n → (bit_and u (k - 8) + n < length l) × IsFree (get_or l (bit_and u (k - 8) + n) free) × ((x : Slot) (b : Option ℕ) (m p : ℕ) → Has x m p → Leads (window_in k (set l (bit_and u (k - 8) + n) x) u) b m p)
window-first-in k l u n =
    elim (ltb k 8) as (λ v. IsFirstFree (cond v [] (take 8 (drop (bit_and u (k - 8)) l))) n → (bit_and u (k - 8) + n < length l) × IsFree (get_or l (bit_and u (k - 8) + n) free) × ((x : Slot) (b : Option ℕ) (m p : ℕ) → Has x m p → Leads (cond v [] (take 8 (drop (bit_and u (k - 8)) (set l (bit_and u (k - 8) + n) x)))) b m p))
    [ true ↦ λ h. absurd h | false ↦ λ h. stretch-first (bit_and u (k - 8)) l n h ]

-- a place that goes to a slot goes to the first free one of its window
pub at-first : (l : List Slot) (u at n : ℕ) → at ≡ first_of l u + n → IsFirstFree (window_of l u) n → AtFirst l u at
at-first l u at n is h =
    let s = window-first-in (length l) l u n h in
    subst (λ (k : ℕ). AtFirst l u k) (sym is)
    (record {
      within = s.0;
      vacant = s.1;
      comes = λ x b m p has. subst (λ (k : ℕ). Leads (window_in k (set l (first_of l u + n) x) u) b m p) (sym (length-set l (first_of l u + n) x)) (s.2 x b m p has);
    })

-- an option that is nothing's `Some` is `None`
none-from : (o : Option ℕ) → ((p : ℕ) → o ≡ Some p → ⊥) → o ≡ None
none-from None h = refl
none-from (Some p) h = absurd (h p refl)

-- at a free slot a look-up has come to no place that a slot can have
pub passed-free : (l : List Slot) (n : ℕ) (b : Option ℕ) (m : ℕ) (o : Option ℕ) → Passed l n b m o → n < length l → IsFree (get_or l n free) → (p : ℕ) → o ≡ Some p → IsLarge p × (b ≡ Some p)
passed-free l n b m o h within vacant p is =
    let next : drop n l ≡ get_or l n free ∷ drop (n + 1) l = drop_more l n free within in
    ⊎_elim (λ large. large) (λ leads. absurd (let on : Leads (get_or l n free ∷ drop (n + 1) l) b m p = subst (λ (r : List Slot). Leads r b m p) next leads in omega (arith, vacant, on.0))) (h.on p is)

-- where no place is large, nothing is found there
pub none-small : (o b : Option ℕ) (n : ℕ) → ((p : ℕ) → o ≡ Some p → p < n) → n < 2 ^ 32 - 1 → ((p : ℕ) → o ≡ Some p → IsLarge p × (b ≡ Some p)) → o ≡ None
none-small o b n within small h = none-from o (λ p is. omega (arith, within p is, small, (h p is).0))

-- a slot of another CID is passed
pub passed-more : (l : List Slot) (n : ℕ) (b : Option ℕ) (m : ℕ) (o : Option ℕ) (q : ℕ) → Passed l n b m o → n < length l → end_of (get_or l n free) ≡ q + 1 → ((get_or l n free).tag ≡ m → o ≡ Some q → ⊥) → Passed l (n + 1) b m o
passed-more l n b m o q h within at other =
    let next : drop n l ≡ get_or l n free ∷ drop (n + 1) l = drop_more l n free within in
    let one : suc n ≡ n + 1 = omega arith in
    record {
      taken = subst (λ (k : ℕ). AreTaken (take k l)) one (taken-more l n h.taken within (omega (arith, at)));
      on = λ p is.
          ⊎_elim (λ large. inl large) (λ leads.
          let on : Leads (get_or l n free ∷ drop (n + 1) l) b m p = subst (λ (r : List Slot). Leads r b m p) next leads in
          ⊎_elim (λ here. let same : p ≡ q = omega (arith, at, here.1) in absurd (other here.0 (is ∙ ap Some same))) (λ later. inr later) on.1) (h.on p is);
    }

-- after the last slot the tree has what is there
pub passed-all : (l : List Slot) (n : ℕ) (b : Option ℕ) (m : ℕ) (o : Option ℕ) → Passed l n b m o → length l ≤ n → AreTaken l × ((p : ℕ) → o ≡ Some p → b ≡ Some p)
passed-all l n b m o h past =
    let end : drop n l ≡ [] = drop_of_length-le l past in (
      subst (λ (r : List Slot). AreTaken r) (take_all n l past) h.taken,
      λ p is. ⊎_elim (λ large. large.1) (λ leads. subst (λ (r : List Slot). Leads r b m p) end leads) (h.on p is),
    )

-- a CID without a place isn't there
absent : (es : Blocks) (k : List ℕ) → position_of es k ≡ None → has_cid es k ≡ false
absent es k h = sym (is_some-position 0 es k) ∙ ap (λ (o : Option ℕ). is_some o) h

-- where the pairs are once a new CID is at the end
position-new : (es : Blocks) (k b c : List ℕ) → position_of es k ≡ None → cond (bytes_eq k c) (Some (length es)) (position_of es c) ≡ position_of (es ++ (k, b) ∷ []) c
position-new es k b c h = ap (λ (n : ℕ). cond (bytes_eq k c) (Some n) (position_of es c)) (sym (zero-add (length es))) ∙ position-push 0 es k b c (absent es k h)

-- what has a place then is the new CID, or had it
position-split : (es : Blocks) (k b c : List ℕ) (p : ℕ) → position_of es k ≡ None → position_of (es ++ (k, b) ∷ []) c ≡ Some p → ((k ≡ c) × (p ≡ length es)) ⊎ ((bytes_eq k c ≡ false) × (position_of es c ≡ Some p))
position-split es k b c p h is =
    ⊎_elim
    (λ same. let e : Some (length es) ≡ Some p = sym (ap (λ v. cond v (Some (length es)) (position_of es c)) same) ∙ position-new es k b c h ∙ is in inl ((bytes_eq-Decides k c).0 same, cc))
    (λ other. inr (other, sym (ap (λ v. cond v (Some (length es)) (position_of es c)) other) ∙ position-new es k b c h ∙ is))
    (cases_Bool (bytes_eq k c))

-- a place stays
position-stays : (es : Blocks) (k b c : List ℕ) (p : ℕ) → position_of es k ≡ None → position_of es c ≡ Some p → position_of (es ++ (k, b) ∷ []) c ≡ Some p
position-stays es k b c p h is =
    ⊎_elim
    (λ same. absurd (none-some p (sym h ∙ ap (position_of es) ((bytes_eq-Decides k c).0 same) ∙ is)))
    (λ other. sym (position-new es k b c h) ∙ ap (λ v. cond v (Some (length es)) (position_of es c)) other ∙ is)
    (cases_Bool (bytes_eq k c))

-- a look-up comes where it came if the tree has what it came to
leads-with : (l : List Slot) (b d : Option ℕ) (m p : ℕ) → (b ≡ Some p → d ≡ Some p) → Leads l b m p → Leads l d m p
leads-with [] b d m p on h = on h
leads-with (y ∷ l) b d m p on h = (h.0, ⊎_elim (λ here. inl here) (λ later. inr (leads-with l b d m p on later)) h.1)

-- a look-up comes to the same with a tree that has the same or more
comes-with : (l : List Slot) (b d : Option ℕ) (u p : ℕ) → (b ≡ Some p → d ≡ Some p) → Comes l b u p → Comes l d u p
comes-with l b d u p on h = ⊎_elim (λ large. inl (large.0, on large.1)) (λ leads. inr (leads-with (window_of l u) b d (fingerprint u) p on leads)) h

-- a place that goes to the tree is found in it
comes-behind : (l : List Slot) (u p : ℕ) → GoesAfter l u p → Comes l (Some p) u p
comes-behind l u p h = ⊎_elim (λ large. inl (large, refl)) (λ full. inr (leads-past (window_of l u) (fingerprint u) p full)) h

-- a table with the new place in a slot
pub led-slot : (slots : List Slot) (index : Index) (es : Blocks) (k b : List ℕ) (at : ℕ) (x : Slot) → AreLedTo slots index es → position_of es k ≡ None → AtFirst slots (key_hash k) at → Has x (fingerprint (key_hash k)) (length es) → AreLedTo (set slots at x) index (es ++ (k, b) ∷ [])
led-slot slots index es k b at x h new first has c p is =
    let later = set slots at x in
    ⊎_elim
    (λ here.
    subst (λ (d : List ℕ). Comes later (place_after index d) (key_hash d) p) here.0
    (subst (λ (q : ℕ). Comes later (place_after index k) (key_hash k) q) (sym here.1) (inr (first.comes x (place_after index k) (fingerprint (key_hash k)) (length es) has))))
    (λ other. comes-set slots at x (place_after index c) (key_hash c) p first.vacant (h c p other.1))
    (position-split es k b c p new is)

-- a table with the new place in the tree
pub led-behind : (slots : List Slot) (index : Index) (es : Blocks) (k b : List ℕ) → AreLedTo slots index es → position_of es k ≡ None → GoesAfter slots (key_hash k) (length es) → place_after index k ≡ Some (length es) → AreLedTo slots index (es ++ (k, b) ∷ [])
led-behind slots index es k b h new full there c p is =
    ⊎_elim
    (λ here.
    subst (λ (d : List ℕ). Comes slots (place_after index d) (key_hash d) p) here.0
    (subst (λ (q : ℕ). Comes slots (place_after index k) (key_hash k) q) (sym here.1)
    (subst (λ (o : Option ℕ). Comes slots o (key_hash k) (length es)) (sym there) (comes-behind slots (key_hash k) (length es) full))))
    (λ other. h c p other.1)
    (position-split es k b c p new is)

-- what the tree has for a CID once it has s for k
abbrev pub Puts : Index → Index → List ℕ → ℕ → Type 0
Puts index later k s = (c : List ℕ) → place_after later c ≡ cond (bytes_eq k c) (Some s) (place_after index c)

-- the tree then has what it had
pub put-keeps : (index later : Index) (k c : List ℕ) (s p q : ℕ) → Puts index later k s → s ≡ unwrap_or (place_after index k) p → place_after index c ≡ Some q → place_after later c ≡ Some q
put-keeps index later k c s p q puts existing is =
    ⊎_elim
    (λ same.
    let at_k : place_after index k ≡ Some q = ap (place_after index) ((bytes_eq-Decides k c).0 same) ∙ is in
    let sq : s ≡ q = existing ∙ ap (λ (o : Option ℕ). unwrap_or o p) at_k in
    puts c ∙ ap (λ v. cond v (Some s) (place_after index c)) same ∙ ap Some sq)
    (λ other. puts c ∙ ap (λ v. cond v (Some s) (place_after index c)) other ∙ is)
    (cases_Bool (bytes_eq k c))

-- a table stays one
pub led-put : (slots : List Slot) (index later : Index) (es : Blocks) (k : List ℕ) (s p : ℕ) → AreLedTo slots index es → Puts index later k s → s ≡ unwrap_or (place_after index k) p → AreLedTo slots later es
led-put slots index later es k s p h puts existing c q is =
    comes-with slots (place_after index c) (place_after later c) (key_hash c) q (put-keeps index later k c s p q puts existing) (h c q is)

-- what is there if it is anything
unwrap-true : (o : Option ℕ) (p : ℕ) → ((q : ℕ) → o ≡ Some q → q ≡ p) → unwrap_or o p ≡ p
unwrap-true None p h = refl
unwrap-true (Some q) p h = h q refl

-- a place that the tree has or is given for a CID is its place
pub existing-true : (index : Index) (es : Blocks) (k : List ℕ) (s p : ℕ) → IsIndexed index es → position_of es k ≡ Some p → s ≡ unwrap_or (place_after index k) p → s ≡ p
existing-true index es k s p h at existing = existing ∙ unwrap-true (place_after index k) p (λ q is. let e : Some p ≡ Some q = sym at ∙ h.true_after k q is in let r : q ≡ p = cc in r)

-- an index whose tree was given a place that is true
pub indexed-put : (index later : Index) (es : Blocks) (k : List ℕ) (s p : ℕ) → IsIndexed index es → position_of es k ≡ Some p → later.slots.items ≡ index.slots.items → Puts index later k s → s ≡ unwrap_or (place_after index k) p → IsIndexed later es
indexed-put index later es k s p h at slots puts existing =
    let sp : s ≡ p = existing-true index es k s p h at existing in
    record {
      distinct = h.distinct;
      leads = subst (λ (l : List Slot). AreLedTo l later es) (sym slots) (led-put index.slots.items index later es k s p h.leads puts existing);
      true_after = λ c q is.
          ⊎_elim
          (λ same.
          let e : Some s ≡ Some q = sym (puts c ∙ ap (λ v. cond v (Some s) (place_after index c)) same) ∙ is in
          let r : p ≡ q = cc in
          ap (position_of es) (sym ((bytes_eq-Decides k c).0 same)) ∙ at ∙ ap Some r)
          (λ other. h.true_after c q (sym (puts c ∙ ap (λ v. cond v (Some s) (place_after index c)) other) ∙ is))
          (cases_Bool (bytes_eq k c));
    }

-- the index with the new place in a slot
pub indexed-slot : (index later : Index) (es : Blocks) (k b : List ℕ) (at : ℕ) (x : Slot) → IsIndexed index es → position_of es k ≡ None → AtFirst index.slots.items (key_hash k) at → Has x (fingerprint (key_hash k)) (length es) → later.slots.items ≡ set index.slots.items at x → later.overflow ≡ index.overflow → IsIndexed later (es ++ (k, b) ∷ [])
indexed-slot index later es k b at x h new first has slots behind =
    let same : (c : List ℕ) → place_after later c ≡ place_after index c = λ c. ap (λ (m : BTreeMap (List ℕ) ℕ). get (slice_cmp nat_cmp) m c) behind in
    record {
      distinct = distinct-push es k b h.distinct (absent es k new);
      leads = λ c p is.
          subst (λ (l : List Slot). Comes l (place_after later c) (key_hash c) p) (sym slots)
          (subst (λ (o : Option ℕ). Comes (set index.slots.items at x) o (key_hash c) p) (sym (same c))
          (led-slot index.slots.items index es k b at x h.leads new first has c p is));
      true_after = λ c p is. position-stays es k b c p new (h.true_after c p (sym (same c) ∙ is));
    }

-- the index with the new place in the tree
pub indexed-behind : (index later : Index) (es : Blocks) (k b : List ℕ) (s : ℕ) → IsIndexed index es → position_of es k ≡ None → GoesAfter index.slots.items (key_hash k) (length es) → later.slots.items ≡ index.slots.items → Puts index later k s → s ≡ unwrap_or (place_after index k) (length es) → IsIndexed later (es ++ (k, b) ∷ [])
indexed-behind index later es k b s h new full slots puts existing =
    let sn : s ≡ length es = existing ∙ unwrap-true (place_after index k) (length es) (λ q is. absurd (none-some q (sym new ∙ h.true_after k q is))) in
    let at_k : place_after later k ≡ Some (length es) = puts k ∙ ap (λ v. cond v (Some s) (place_after index k)) ((bytes_eq-Decides k k).1 refl) ∙ ap Some sn in
    record {
      distinct = distinct-push es k b h.distinct (absent es k new);
      leads = subst (λ (l : List Slot). AreLedTo l later (es ++ (k, b) ∷ [])) (sym slots)
          (led-behind index.slots.items later es k b (led-put index.slots.items index later es k s (length es) h.leads puts existing) new full at_k);
      true_after = λ c p is.
          ⊎_elim
          (λ same.
          let e : Some s ≡ Some p = sym (puts c ∙ ap (λ v. cond v (Some s) (place_after index c)) same) ∙ is in
          let r : length es ≡ p = cc in
          sym (position-new es k b c new) ∙ ap (λ v. cond v (Some (length es)) (position_of es c)) same ∙ ap Some r)
          (λ other. position-stays es k b c p new (h.true_after c p (sym (puts c ∙ ap (λ v. cond v (Some s) (place_after index c)) other) ∙ is)))
          (cases_Bool (bytes_eq k c));
    }

-- what comes to the same in both is the same
same-options : (a b : Option ℕ) → ((p : ℕ) → a ≡ Some p → b ≡ Some p) → ((p : ℕ) → b ≡ Some p → a ≡ Some p) → a ≡ b
same-options (Some p) b on back = sym (on p refl)
same-options None None on back = refl
same-options None (Some p) on back = back p refl

-- where the table hasn't a CID, the tree has its place
pub found-behind : (index : Index) (es : Blocks) (k : List ℕ) → IsIndexed index es → ((p : ℕ) → position_of es k ≡ Some p → place_after index k ≡ Some p) → place_after index k ≡ position_of es k
found-behind index es k h on = same-options (place_after index k) (position_of es k) (λ p is. h.true_after k p is) on

-- a CID is there where it has a place
pub has-by : (es : Blocks) (k : List ℕ) (o : Option ℕ) → position_of es k ≡ o → has_cid es k ≡ is_some o
has-by es k o h = sym (is_some-position 0 es k) ∙ ap (λ (p : Option ℕ). is_some p) h

-- the place after the pairs is the one of a new CID alone
existing-by : (es : Blocks) (k : List ℕ) (s : ℕ) (o : Option ℕ) → position_of es k ≡ o → s ≡ unwrap_or o (length es) → eqb s (length es) ≡ not (has_cid es k)
existing-by es k s None at existing = eq-eqb s (length es) existing ∙ ap not (sym (has-by es k None at))
existing-by es k s (Some q) at existing =
    let within : q < length es = place_within q es k (sym at) in
    ne_eqb s (length es) (λ same. omega (arith, within, existing, same)) ∙ ap not (sym (has-by es k (Some q) at))

-- what the tree returns says whether the CID was there
pub existing-answer : (index : Index) (es : Blocks) (k : List ℕ) (s : ℕ) → IsIndexed index es → ((p : ℕ) → position_of es k ≡ Some p → place_after index k ≡ Some p) → s ≡ unwrap_or (place_after index k) (length es) → eqb s (length es) ≡ not (has_cid es k)
existing-answer index es k s h on existing =
    existing-by es k s (position_of es k) refl (existing ∙ ap (λ (o : Option ℕ). unwrap_or o (length es)) (found-behind index es k h on))

-- by the position of the CID: if the tree had it, the index stays one of the pairs
put-same-at : (index later : Index) (es : Blocks) (k : List ℕ) (s : ℕ) (o : Option ℕ) → position_of es k ≡ o → IsIndexed index es → ((p : ℕ) → position_of es k ≡ Some p → place_after index k ≡ Some p) → has_cid es k ≡ true → later.slots.items ≡ index.slots.items → Puts index later k s → s ≡ unwrap_or (place_after index k) (length es) → IsIndexed later es
put-same-at index later es k s None at h on held slots puts existing = absurd (false≢true (sym (has-by es k None at) ∙ held))
put-same-at index later es k s (Some q) at h on held slots puts existing =
    let behind : place_after index k ≡ Some q = on q at in
    indexed-put index later es k s q h at slots puts (existing ∙ ap (λ (o : Option ℕ). unwrap_or o (length es)) behind ∙ sym (ap (λ (o : Option ℕ). unwrap_or o q) behind))

-- a tree that had the place of a CID keeps its places
pub put-same : (index later : Index) (es : Blocks) (k : List ℕ) (s : ℕ) → IsIndexed index es → ((p : ℕ) → position_of es k ≡ Some p → place_after index k ≡ Some p) → has_cid es k ≡ true → later.slots.items ≡ index.slots.items → Puts index later k s → s ≡ unwrap_or (place_after index k) (length es) → IsIndexed later es
put-same index later es k s h on held slots puts existing =
    put-same-at index later es k s (position_of es k) refl h on held slots puts existing

-- an index whose tree has the same places
pub indexed-same : (index later : Index) (es : Blocks) → IsIndexed index es → later.slots.items ≡ index.slots.items → ((c : List ℕ) → place_after later c ≡ place_after index c) → IsIndexed later es
indexed-same index later es h slots same = record {
  distinct = h.distinct;
  leads = λ c p is.
      subst (λ (l : List Slot). Comes l (place_after later c) (key_hash c) p) (sym slots)
      (subst (λ (o : Option ℕ). Comes index.slots.items o (key_hash c) p) (sym (same c)) (h.leads c p is));
  true_after = λ c p is. h.true_after c p (sym (same c) ∙ is);
}

-- a slot to which a place goes is the first free one of its window
pub free-at : (slots : List Slot) (u slot : ℕ) → IsFreeSlot slots u slot → AtFirst slots u slot
free-at slots u slot v = at-first slots u slot v.0 v.1 v.2

-- slots that are all taken up to the last
pub taken-all : (l : List Slot) (n : ℕ) → AreTaken (take n l) → length l ≤ n → AreTaken l
taken-all l n h past = subst (λ (r : List Slot). AreTaken r) (take_all n l past) h

-- a look-up for another place continues after a taken slot
pub leads-on : (l : List Slot) (n : ℕ) (b : Option ℕ) (m p q : ℕ) → end_of (get_or l n free) ≡ q + 1 → n < length l → (q ≡ p → ⊥) → Leads (drop n l) b m p → Leads (drop (n + 1) l) b m p
leads-on l n b m p q at within other h =
    let on : Leads (get_or l n free ∷ drop (n + 1) l) b m p = subst (λ (r : List Slot). Leads r b m p) (drop_more l n free within) h in
    ⊎_elim (λ here. absurd (other (omega (arith, at, here.1)))) (λ later. later) on.1

-- a look-up comes to no place at a free slot
pub leads-free : (l : List Slot) (n : ℕ) (b : Option ℕ) (m p : ℕ) → IsFree (get_or l n free) → n < length l → Leads (drop n l) b m p → ⊥
leads-free l n b m p vacant within h =
    let on : Leads (get_or l n free ∷ drop (n + 1) l) b m p = subst (λ (r : List Slot). Leads r b m p) (drop_more l n free within) h in
    omega (arith, vacant, on.0)

-- after the last slot it comes to what the tree has
pub leads-end : (l : List Slot) (n : ℕ) (b : Option ℕ) (m p : ℕ) → length l ≤ n → Leads (drop n l) b m p → b ≡ Some p
leads-end l n b m p past h = subst (λ (r : List Slot). Leads r b m p) (drop_of_length-le l past) h

-- what the tree has for the CID that was put
pub behind-put : (index later : Index) (es : Blocks) (k : List ℕ) (s p : ℕ) → IsIndexed index es → position_of es k ≡ Some p → Puts index later k s → s ≡ unwrap_or (place_after index k) p → place_after later k ≡ Some p
behind-put index later es k s p h at puts existing = puts k ∙ ap (λ v. cond v (Some s) (place_after index k)) ((bytes_eq-Decides k k).1 refl) ∙ ap Some (existing-true index es k s p h at existing)
