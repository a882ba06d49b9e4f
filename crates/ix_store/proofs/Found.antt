-- An index in which the look-up of each entry comes to its place.
use Rattle.std.proofs.Common.{◌≡◌, ◌⊎◌, ℕ, suc, ◌+◌, ◌-◌, ◌<◌, ◌≤◌, Bool, true, false, ◌&&◌, cond, eqb, List, [], ◌∷◌, length, drop, get_or, slice_get, Some, None, refl, sym, ap, subst, ◌∙◌, inl, inr, ⊎_elim, arith}
use Rattle.std.specs.Prelude.{Option, bytes_eq}
use Rattle.std.specs.Option.{is_some}
use Rattle.std.proofs.lemmas.Bool.{cases_Bool, false≢true, false_from_ne_true, eq-eqb, ne_eqb}
use Rattle.std.proofs.lemmas.List.{drop_more}
use Rattle.std.proofs.Math.ListN.{drop_of_length-le}
use Rattle.std.proofs.lemmas.Option.{none-some, slice_get_within}
use Rattle.ix_store.specs.Store.{Blocks, has_cid, HasDistinctCids, position_of}
use Rattle.ix_store.specs.Index.{key_hash, fingerprint, window_of, Has, IsFree, IsTaken, Leads, AreTaken, place_after, end_of, IsIndexed, IsTrueAfter, is_cid_of, is_cid_at, probe_of}
use Rattle.ix_store.specs.declared.index.Slot.{Slot}
use Rattle.ix_store.specs.declared.index.Probe.{Probe}
use Rattle.ix_store.specs.declared.index.Probe.TheVariants.{At, Free, Full}
use Rattle.ix_store.specs.declared.index.Index.{Index}
use Rattle.ix_store.proofs.Stores.{is_some-position, position-at, pair-there}
use Rattle.ix_store.proofs.Indexes.{free, Puts, leads-past}

-- the place to which a look-up comes that sees this in its slots, and after them what the tree has
abbrev pub place_by : Probe → Option ℕ → Option ℕ
place_by (At place) behind = Some place
place_by Free behind = None
place_by Full behind = behind

-- the place to which the look-up of a CID comes
abbrev pub found_by : Index → Blocks → List ℕ → Option ℕ
found_by index blocks c = place_by (probe_of blocks (window_of index.slots.items (key_hash c)) (fingerprint (key_hash c)) c) (place_after index c)

-- the look-up of each of the first pairs comes to its place
abbrev pub AreFound : Index → Blocks → ℕ → Type 0
AreFound index blocks n = (k : ℕ) (e : List ℕ × List ℕ) → k < n → slice_get blocks k ≡ Some e → found_by index blocks e.0 ≡ Some k

-- the slots before a place in which no slot is free lead there
probe-leads : (blocks : Blocks) (l : List Slot) (b : Option ℕ) (m : ℕ) (c : List ℕ) (p : ℕ) → probe_of blocks l m c ≡ At p → Leads l b m p
probe-leads blocks [] b m c p h = absurd cc
probe-leads blocks (slot ∷ l) b m c p h =
    ⊎_elim
    (λ (free : eqb (end_of slot) 0 ≡ true). let e : Free ≡ At p = sym (ap (λ v. cond v Free (cond (eqb slot.tag m && is_cid_at blocks (end_of slot - 1) c) (At (end_of slot - 1)) (probe_of blocks l m c))) free) ∙ h in absurd cc)
    (λ (taken : eqb (end_of slot) 0 ≡ false).
    let on : cond (eqb slot.tag m && is_cid_at blocks (end_of slot - 1) c) (At (end_of slot - 1)) (probe_of blocks l m c) ≡ At p = sym (ap (λ v. cond v Free (cond (eqb slot.tag m && is_cid_at blocks (end_of slot - 1) c) (At (end_of slot - 1)) (probe_of blocks l m c))) taken) ∙ h in
    let some : IsTaken slot = grind arith in
    ⊎_elim
    (λ (here : (eqb slot.tag m && is_cid_at blocks (end_of slot - 1) c) ≡ true).
    let e : At (end_of slot - 1) ≡ At p = sym (ap (λ v. cond v (At (end_of slot - 1)) (probe_of blocks l m c)) here) ∙ on in
    let at : (end_of slot) - 1 ≡ p = cc in
    (some, inl (grind arith, omega (arith, some, at))))
    (λ (other : (eqb slot.tag m && is_cid_at blocks (end_of slot - 1) c) ≡ false).
    (some, inr (probe-leads blocks l b m c p (sym (ap (λ v. cond v (At (end_of slot - 1)) (probe_of blocks l m c)) other) ∙ on))))
    (cases_Bool (eqb slot.tag m && is_cid_at blocks (end_of slot - 1) c)))
    (cases_Bool (eqb (end_of slot) 0))

-- where a look-up sees neither, no slot is free
probe-full : (blocks : Blocks) (l : List Slot) (m : ℕ) (c : List ℕ) → probe_of blocks l m c ≡ Full → AreTaken l
probe-full blocks [] m c h = tt
probe-full blocks (slot ∷ l) m c h =
    ⊎_elim
    (λ (free : eqb (end_of slot) 0 ≡ true). let e : Free ≡ Full = sym (ap (λ v. cond v Free (cond (eqb slot.tag m && is_cid_at blocks (end_of slot - 1) c) (At (end_of slot - 1)) (probe_of blocks l m c))) free) ∙ h in absurd cc)
    (λ (taken : eqb (end_of slot) 0 ≡ false).
    let on : cond (eqb slot.tag m && is_cid_at blocks (end_of slot - 1) c) (At (end_of slot - 1)) (probe_of blocks l m c) ≡ Full = sym (ap (λ v. cond v Free (cond (eqb slot.tag m && is_cid_at blocks (end_of slot - 1) c) (At (end_of slot - 1)) (probe_of blocks l m c))) taken) ∙ h in
    let some : IsTaken slot = grind arith in
    ⊎_elim
    (λ (here : (eqb slot.tag m && is_cid_at blocks (end_of slot - 1) c) ≡ true). let e : At (end_of slot - 1) ≡ Full = sym (ap (λ v. cond v (At (end_of slot - 1)) (probe_of blocks l m c)) here) ∙ on in absurd cc)
    (λ (other : (eqb slot.tag m && is_cid_at blocks (end_of slot - 1) c) ≡ false).
    (some, probe-full blocks l m c (sym (ap (λ v. cond v (At (end_of slot - 1)) (probe_of blocks l m c)) other) ∙ on)))
    (cases_Bool (eqb slot.tag m && is_cid_at blocks (end_of slot - 1) c)))
    (cases_Bool (eqb (end_of slot) 0))

-- a look-up that comes to a place is led there
place-leads : (blocks : Blocks) (l : List Slot) (b : Option ℕ) (m : ℕ) (c : List ℕ) (p : ℕ) (s : Probe) → probe_of blocks l m c ≡ s → place_by s b ≡ Some p → Leads l b m p
place-leads blocks l b m c p (At q) is h = let same : q ≡ p = cc in probe-leads blocks l b m c p (is ∙ ap At same)
place-leads blocks l b m c p Free is h = absurd (none-some p h)
place-leads blocks l b m c p Full is h = subst (λ (o : Option ℕ). Leads l o m p) (sym h) (leads-past l m p (probe-full blocks l m c is))

-- what a look-up sees at a slot and after it
probe-from : (blocks : Blocks) (l : List Slot) (n m : ℕ) (c : List ℕ) → n < length l → probe_of blocks (drop n l) m c ≡ probe_of blocks (get_or l n free ∷ drop (n + 1) l) m c
probe-from blocks l n m c within = ap (λ (r : List Slot). probe_of blocks r m c) (drop_more l n free within)

-- at a free slot
pub probe-free : (blocks : Blocks) (l : List Slot) (n m : ℕ) (c : List ℕ) → n < length l → IsFree (get_or l n free) → probe_of blocks (drop n l) m c ≡ Free
probe-free blocks l n m c within vacant =
    let slot = get_or l n free in
    probe-from blocks l n m c within
    ∙ ap (λ v. cond v Free (cond (eqb slot.tag m && is_cid_at blocks (end_of slot - 1) c) (At (end_of slot - 1)) (probe_of blocks (drop (n + 1) l) m c))) (eq-eqb (end_of slot) 0 vacant)

-- at a slot with the place of the CID
pub probe-here : (blocks : Blocks) (l : List Slot) (n m p : ℕ) (c : List ℕ) → n < length l → Has (get_or l n free) m p → is_cid_at blocks p c ≡ true → probe_of blocks (drop n l) m c ≡ At p
probe-here blocks l n m p c within has is =
    let slot = get_or l n free in
    let at : (end_of slot) - 1 ≡ p = omega (arith, has.1) in
    probe-from blocks l n m c within
    ∙ ap (λ v. cond v Free (cond (eqb slot.tag m && is_cid_at blocks (end_of slot - 1) c) (At (end_of slot - 1)) (probe_of blocks (drop (n + 1) l) m c))) (ne_eqb (end_of slot) 0 (λ none. omega (arith, none, has.1)))
    ∙ ap (λ v. cond (v && is_cid_at blocks (end_of slot - 1) c) (At (end_of slot - 1)) (probe_of blocks (drop (n + 1) l) m c)) (eq-eqb slot.tag m has.0)
    ∙ ap (λ q. cond (is_cid_at blocks q c) (At q) (probe_of blocks (drop (n + 1) l) m c)) at
    ∙ ap (λ v. cond v (At p) (probe_of blocks (drop (n + 1) l) m c)) is

-- at a slot of another tag, or with the place of another CID, it goes on
pub probe-on : (blocks : Blocks) (l : List Slot) (n m q : ℕ) (c : List ℕ) → n < length l → end_of (get_or l n free) ≡ q + 1 → ((get_or l n free).tag ≡ m → ⊥) ⊎ (is_cid_at blocks q c ≡ false) → probe_of blocks (drop (n + 1) l) m c ≡ probe_of blocks (drop n l) m c
probe-on blocks l n m q c within has other =
    let slot = get_or l n free in
    let at : (end_of slot) - 1 ≡ q = omega (arith, has) in
    let no : (eqb slot.tag m && is_cid_at blocks (end_of slot - 1) c) ≡ false =
    ⊎_elim (λ tag. ap (λ v. v && is_cid_at blocks (end_of slot - 1) c) (ne_eqb slot.tag m tag))
    (λ cid. ap (λ q. eqb slot.tag m && is_cid_at blocks q c) at ∙ ap (λ v. eqb slot.tag m && v) cid ∙ and-false (eqb slot.tag m)) other in
    sym (probe-from blocks l n m c within
    ∙ ap (λ v. cond v Free (cond (eqb slot.tag m && is_cid_at blocks (end_of slot - 1) c) (At (end_of slot - 1)) (probe_of blocks (drop (n + 1) l) m c))) (ne_eqb (end_of slot) 0 (λ none. omega (arith, none, has)))
    ∙ ap (λ v. cond v (At (end_of slot - 1)) (probe_of blocks (drop (n + 1) l) m c)) no) where
      and-false : (b : Bool) → (b && false) ≡ false
      and-false true = refl
      and-false false = refl

-- after the last slot
pub probe-end : (blocks : Blocks) (l : List Slot) (n m : ℕ) (c : List ℕ) → length l ≤ n → probe_of blocks (drop n l) m c ≡ Full
probe-end blocks l n m c past = ap (λ (r : List Slot). probe_of blocks r m c) (drop_of_length-le l past)

-- pairs among which each CID determines the position have distinct CIDs
is-some : (o : Option ℕ) → is_some o ≡ true → (p : ℕ) × (o ≡ Some p)
is-some None h = absurd (false≢true h)
is-some (Some p) h = (p, refl)

-- if a function of CIDs gives each pair its own position, the CIDs are distinct
distinct-by : (f : List ℕ → Option ℕ) (n : ℕ) (es : Blocks) → ((k : ℕ) (e : List ℕ × List ℕ) → slice_get es k ≡ Some e → f e.0 ≡ Some (n + k)) → HasDistinctCids es
distinct-by f n [] h = tt
distinct-by f n (e ∷ es) h = (
  false_from_ne_true (has_cid es e.0) (λ held.
      let some = is-some (position_of es e.0) (is_some-position 0 es e.0 ∙ held) in
      let there = pair-there es some.0 e.0 (sym some.1) in
      let later : f e.0 ≡ Some (n + suc some.0) = h (suc some.0) (e.0, there.0) there.1 in
      let first : f e.0 ≡ Some (n + 0) = h 0 e refl in
      let both : Some (n + 0) ≡ Some (n + suc some.0) = sym first ∙ later in
      let same : n + 0 ≡ n + suc some.0 = cc in
      omega (arith, same)),
  distinct-by f (n + 1) es (λ k x at. h (suc k) x at ∙ ap Some (omega arith)),
)

-- a CID at a place is there
cid-there : (o : Option (List ℕ × List ℕ)) (c : List ℕ) → is_cid_of o c ≡ true → (e : List ℕ × List ℕ) × (o ≡ Some e) × (bytes_eq e.0 c ≡ true)
cid-there None c h = absurd (false≢true h)
cid-there (Some e) c h = (e, refl, h)

-- where each look-up comes to its place, and the tree is true, the pairs are indexed
pub indexed-found : (index : Index) (es : Blocks) → AreFound index es (length es) → IsTrueAfter index es → IsIndexed index es
indexed-found index es found behind =
    let each : (k : ℕ) (e : List ℕ × List ℕ) → slice_get es k ≡ Some e → found_by index es e.0 ≡ Some k = λ k e at. found k e (slice_get_within es k e at) at in
    let distinct : HasDistinctCids es = distinct-by (found_by index es) 0 es (λ k e at. each k e at ∙ ap Some (omega arith)) in
    record {
      distinct = distinct;
      leads = λ c p is.
          let there = pair-there es p c (sym is) in
          inr (place-leads es (window_of index.slots.items (key_hash c)) (place_after index c) (fingerprint (key_hash c)) c p _ refl (each p (c, there.0) there.1));
      true_after = λ c p is.
          let at = cid-there (slice_get es p) c (behind c p is) in
          position-at 0 p es at.0 c distinct at.1 at.2 ∙ ap Some (omega arith);
    }

-- a place that is found stays found if the tree keeps it
pub place-keeps : (s : Probe) (b d : Option ℕ) (p : ℕ) → (b ≡ Some p → d ≡ Some p) → place_by s b ≡ Some p → place_by s d ≡ Some p
place-keeps (At q) b d p keeps h = h
place-keeps Free b d p keeps h = absurd (none-some p h)
place-keeps Full b d p keeps h = keeps h

-- the tree stays true if the place is one at which the CID is
pub true-put : (index later : Index) (es : Blocks) (k : List ℕ) (s : ℕ) (x : List ℕ × List ℕ) → IsTrueAfter index es → Puts index later k s → slice_get es s ≡ Some x → x.0 ≡ k → IsTrueAfter later es
true-put index later es k s x true_after puts at is c p h =
    ⊎_elim
    (λ (same : bytes_eq k c ≡ true).
    let e : Some s ≡ Some p = sym (puts c ∙ ap (λ v. cond v (Some s) (place_after index c)) same) ∙ h in
    let sp : s ≡ p = cc in
    ap (λ (q : ℕ). is_cid_at es q c) (sym sp) ∙ ap (λ (o : Option (List ℕ × List ℕ)). is_cid_of o c) at ∙ ap (λ (d : List ℕ). bytes_eq d c) is ∙ same)
    (λ (other : bytes_eq k c ≡ false). true_after c p (sym (puts c ∙ ap (λ v. cond v (Some s) (place_after index c)) other) ∙ h))
    (cases_Bool (bytes_eq k c))
