-- A store with one pair more, and where its pairs are.
use Rattle.std.proofs.Common.{◌≡◌, ◌⊎◌, ℕ, zero, suc, ◌+◌, Bool, true, false, ◌||◌, cond, List, [], ◌∷◌, ◌++◌, length, take, drop, ◌<◌, map, get_or, slice_get, option_map, Some, None, bytes_eq, refl, sym, ap, subst, ◌∙◌, zero-add, arith, inl, inr, ⊎_elim}
use Rattle.std.specs.Prelude.{Result, Ok, Err, OnOk}
use Rattle.std.specs.Result.{is_err}
use Rattle.std.specs.Option.{is_some}
use Rattle.std.proofs.lemmas.Bool.{false≢true, cases_Bool, false_from_ne_true}
use Rattle.std.proofs.lemmas.Slice.Eq.{bytes_eq-Decides}
use Rattle.std.proofs.lemmas.List.{take_more, drop_more, take-append-drop}
use Rattle.std.proofs.lemmas.Option.{none-some, get_or_from_slice_get, slice_get-map, slice_get-get_or}
use Rattle.std.proofs.Math.Bool.{or-true}
use Rattle.std.proofs.Math.Seq.{take-append_seam}
use Rattle.ix_store.proofs.Blocks.{some_after, place_within, block_at}
use Rattle.ix_store.specs.Store.{Blocks, has_cid, with_block, HasDistinctCids, block_of, position_after, position_of}

-- of two tests that fail together the first fails
or-left : (x y : Bool) → (x || y) ≡ false → x ≡ false
or-left false y h = refl
or-left true y h = h

-- and the second
or-right : (x y : Bool) → (x || y) ≡ false → y ≡ false
or-right false y h = h
or-right true y h = absurd (false≢true (sym h))

-- bytes that differ from others, which are equal to third ones, differ from these
bytes-apart : (a b c : List ℕ) → bytes_eq a b ≡ false → bytes_eq a c ≡ true → bytes_eq b c ≡ false
bytes-apart a b c apart same =
    false_from_ne_true (bytes_eq b c) (λ h. false≢true (sym apart ∙ (bytes_eq-Decides a b).1 ((bytes_eq-Decides a c).0 same ∙ sym ((bytes_eq-Decides b c).0 h))))

-- that bytes differ holds both ways
bytes-apart-back : (a b : List ℕ) → bytes_eq a b ≡ false → bytes_eq b a ≡ false
bytes-apart-back a b apart =
    false_from_ne_true (bytes_eq b a) (λ h. false≢true (sym apart ∙ (bytes_eq-Decides a b).1 (sym ((bytes_eq-Decides b a).0 h))))

-- a CID has a place where the pairs have it
pub is_some-position : (n : ℕ) (es : Blocks) (c : List ℕ) → is_some (position_after n es c) ≡ has_cid es c
is_some-position n [] c = refl
is_some-position n (e ∷ es) c =
    elim (bytes_eq e.0 c) as (λ b. is_some (cond b (Some n) (position_after (n + 1) es c)) ≡ (b || has_cid es c)) [
      | true ↦ refl
      | false ↦ is_some-position (n + 1) es c
    ]

-- which CIDs one pair more has
has_cid-push : (es : Blocks) (k b c : List ℕ) → has_cid es c ≡ false → bytes_eq k c ≡ false → has_cid (es ++ (k, b) ∷ []) c ≡ false
has_cid-push [] k b c h apart = ap (λ x. x || false) apart
has_cid-push (e ∷ es) k b c h apart =
    ap (λ x. x || has_cid (es ++ (k, b) ∷ []) c) (or-left (bytes_eq e.0 c) (has_cid es c) h)
    ∙ has_cid-push es k b c (or-right (bytes_eq e.0 c) (has_cid es c) h) apart

-- a new CID keeps them distinct
pub distinct-push : (es : Blocks) (k b : List ℕ) → HasDistinctCids es → has_cid es k ≡ false → HasDistinctCids (es ++ (k, b) ∷ [])
distinct-push [] k b h new = (refl, tt)
distinct-push (e ∷ es) k b h new =
    (has_cid-push es k b e.0 h.0 (bytes-apart-back e.0 k (or-left (bytes_eq e.0 k) (has_cid es k) new)), distinct-push es k b h.1 (or-right (bytes_eq e.0 k) (has_cid es k) new))

-- where the pairs are once a new CID is at the end
pub position-push : (n : ℕ) (es : Blocks) (k b c : List ℕ) → has_cid es k ≡ false → cond (bytes_eq k c) (Some (n + length es)) (position_after n es c) ≡ position_after n (es ++ (k, b) ∷ []) c
position-push n [] k b c new = ap (λ m. cond (bytes_eq k c) (Some m) None) (omega arith)
position-push n (e ∷ es) k b c new =
    elim (cases_Bool (bytes_eq e.0 c)) [
      | inl same ↦
          let apart = bytes-apart e.0 k c (or-left (bytes_eq e.0 k) (has_cid es k) new) same in
          ap (λ x. cond x (Some (n + length (e ∷ es))) (position_after n (e ∷ es) c)) apart
          ∙ ap (λ x. cond x (Some n) (position_after (n + 1) es c)) same
          ∙ sym (ap (λ x. cond x (Some n) (position_after (n + 1) (es ++ (k, b) ∷ []) c)) same)
      | inr other ↦
          let later : n + length (e ∷ es) ≡ (n + 1) + length es = omega arith in
          ap (λ m. cond (bytes_eq k c) (Some m) (position_after n (e ∷ es) c)) later
          ∙ ap (λ x. cond (bytes_eq k c) (Some ((n + 1) + length es)) (cond x (Some n) (position_after (n + 1) es c))) other
          ∙ position-push (n + 1) es k b c (or-right (bytes_eq e.0 k) (has_cid es k) new)
          ∙ sym (ap (λ x. cond x (Some n) (position_after (n + 1) (es ++ (k, b) ∷ []) c)) other)
    ]

-- the pairs have the CID of each of them
pub has_cid-at : (i : ℕ) (es : Blocks) (e : List ℕ × List ℕ) (c : List ℕ) → slice_get es i ≡ Some e → bytes_eq e.0 c ≡ true → has_cid es c ≡ true
has_cid-at i [] e c at same = absurd (none-some e at)
has_cid-at zero (x ∷ es) e c at same = ap (λ y. y || has_cid es c) (ap (λ (p : List ℕ × List ℕ). bytes_eq p.0 c) (get_or_from_slice_get (x ∷ es) 0 e e at) ∙ same)
has_cid-at (suc i) (x ∷ es) e c at same = ap (λ y. bytes_eq x.0 c || y) (has_cid-at i es e c at same) ∙ or-true (bytes_eq x.0 c)

-- of distinct CIDs a pair is at the position of its CID
pub position-at : (n i : ℕ) (es : Blocks) (e : List ℕ × List ℕ) (c : List ℕ) → HasDistinctCids es → slice_get es i ≡ Some e → bytes_eq e.0 c ≡ true → position_after n es c ≡ Some (n + i)
position-at n i [] e c h at same = absurd (none-some e at)
position-at n zero (x ∷ es) e c h at same =
    let first : bytes_eq x.0 c ≡ true = ap (λ (p : List ℕ × List ℕ). bytes_eq p.0 c) (get_or_from_slice_get (x ∷ es) 0 e e at) ∙ same in
    ap (λ y. cond y (Some n) (position_after (n + 1) es c)) first ∙ ap Some (omega arith)
position-at n (suc i) (x ∷ es) e c h at same =
    let apart : bytes_eq x.0 c ≡ false = false_from_ne_true (bytes_eq x.0 c) (λ first. false≢true (sym h.0 ∙ has_cid-at i es e x.0 at ((bytes_eq-Decides e.0 x.0).1 ((bytes_eq-Decides e.0 c).0 same ∙ sym ((bytes_eq-Decides x.0 c).0 first))))) in
    ap (λ y. cond y (Some n) (position_after (n + 1) es c)) apart ∙ position-at (n + 1) i es e c h.1 at same ∙ ap Some (omega arith)

-- the block of a pair
abbrev pub block : List ℕ × List ℕ → List ℕ
block p = p.1

-- what is asked of the pair at a place
pub asked-of : {X : Type 0} (f : List ℕ × List ℕ → X) (pairs : Blocks) (place : ℕ) (e : List ℕ × List ℕ) (r d : X) → slice_get pairs place ≡ Some e → r ≡ f e → r ≡ get_or (map f pairs) place d
asked-of f pairs place e r d at same = same ∙ sym (get_or_from_slice_get (map f pairs) place (f e) d (slice_get-map f pairs place ∙ ap (λ o. option_map f o) at))

-- what is asked where there is no pair
pub asked-none : {X : Type 0} (f : List ℕ × List ℕ → X) (pairs : Blocks) (place : ℕ) (d : X) → slice_get pairs place ≡ None → d ≡ get_or (map f pairs) place d
asked-none f [] place d none = refl
asked-none f (e ∷ es) zero d none = absurd cc
asked-none f (e ∷ es) (suc n) d none = asked-none f es n d none

-- the block of the pair at a place
pub block-at : (pairs : Blocks) (place : ℕ) (e : List ℕ × List ℕ) → slice_get pairs place ≡ Some e → slice_get (map block pairs) place ≡ Some e.1
block-at pairs place e at = slice_get-map block pairs place ∙ ap (λ o. option_map block o) at

-- the place of the CID of the pair there
pub position-there : (pairs : Blocks) (place : ℕ) (e : List ℕ × List ℕ) (c : List ℕ) → HasDistinctCids pairs → slice_get pairs place ≡ Some e → bytes_eq e.0 c ≡ true → position_of pairs c ≡ Some place
position-there pairs place e c h at same = position-at 0 place pairs e c h at same ∙ ap Some (zero-add place)

-- the pair at the place of a CID has this CID
pub cid-at : (n i : ℕ) (es : Blocks) (e : List ℕ × List ℕ) (c : List ℕ) → slice_get es i ≡ Some e → position_after n es c ≡ Some (n + i) → bytes_eq e.0 c ≡ true
cid-at n i [] e c at is = absurd (none-some e at)
cid-at n zero (x ∷ es) e c at is =
    let there : bytes_eq x.0 c ≡ bytes_eq e.0 c = ap (λ (p : List ℕ × List ℕ). bytes_eq p.0 c) (get_or_from_slice_get (x ∷ es) 0 e e at) in
    ⊎_elim (λ same. sym there ∙ same) (λ other.
    let later : Some (n + 0) ≡ position_after (n + 1) es c = sym is ∙ ap (λ b. cond b (Some n) (position_after (n + 1) es c)) other in
    absurd (omega (arith, (some_after (n + 1) (n + 0) es c later).0))) (cases_Bool (bytes_eq x.0 c))
cid-at n (suc i) (x ∷ es) e c at is =
    ⊎_elim (λ same.
    let first : Some n ≡ Some (n + suc i) = sym (ap (λ b. cond b (Some n) (position_after (n + 1) es c)) same) ∙ is in
    let here : n ≡ n + suc i = cc in
    absurd (omega arith)) (λ other.
    let on : n + suc i ≡ (n + 1) + i = omega arith in
    cid-at (n + 1) i es e c at (sym (ap (λ b. cond b (Some n) (position_after (n + 1) es c)) other) ∙ is ∙ ap Some on)) (cases_Bool (bytes_eq x.0 c))

-- the CID of the pair at the place of a CID
pub same-there : (pairs : Blocks) (place : ℕ) (e : List ℕ × List ℕ) (c : List ℕ) → slice_get pairs place ≡ Some e → position_of pairs c ≡ Some place → bytes_eq e.0 c ≡ true
same-there pairs place e c at is = cid-at 0 place pairs e c at (is ∙ ap Some (sym (zero-add place)))

-- the pair at the place of a CID: this CID, and its block
pub pair-there : (store : Blocks) (place : ℕ) (c : List ℕ) → Some place ≡ position_of store c → (b : List ℕ) × (slice_get store place ≡ Some (c, b)) × (block_of store c ≡ Some b)
pair-there store place c e =
    let p : List ℕ × List ℕ = get_or store place ([], []) in
    let at : slice_get store place ≡ Some p = slice_get-get_or store place ([], []) (place_within place store c e) in
    let same : p.0 ≡ c = (bytes_eq-Decides p.0 c).0 (cid-at 0 place store p c at (sym e ∙ ap Some (sym (zero-add place)))) in
    (p.1, at ∙ ap (λ (k : List ℕ). Some (k, p.1)) same, block_at place store c p.1 e (slice_get-map block store place ∙ ap (λ o. option_map block o) at))

-- where there is no pair there is no CID
pub none-there : (pairs : Blocks) (place : ℕ) (c : List ℕ) → slice_get pairs place ≡ None → position_of pairs c ≡ Some place → ⊥
none-there pairs place c none is =
    let there = pair-there pairs place c (sym is) in
    none-some (c, there.0) (sym none ∙ there.1)

-- what is asked of it
pub asked-there : {X : Type 0} (f : List ℕ × List ℕ → X) (store : Blocks) (place : ℕ) (c : List ℕ) (r d : X) → Some place ≡ position_of store c → r ≡ get_or (map f store) place d
    → (b : List ℕ) × (block_of store c ≡ Some b) × (r ≡ f (c, b))
asked-there f store place c r d e asked =
    let found = pair-there store place c e in
    (found.0, found.2, asked ∙ get_or_from_slice_get (map f store) place (f (c, found.0)) d (slice_get-map f store place ∙ ap (λ o. option_map f o) found.1))

-- a CID in the midst differs from the others
has_cid-midst : (xs ys : Blocks) (k b c : List ℕ) → has_cid (xs ++ (k, b) ∷ ys) c ≡ false → bytes_eq k c ≡ false
has_cid-midst [] ys k b c h = or-left (bytes_eq k c) (has_cid ys c) h
has_cid-midst (x ∷ xs) ys k b c h = has_cid-midst xs ys k b c (or-right (bytes_eq x.0 c) (has_cid (xs ++ (k, b) ∷ ys) c) h)

-- of distinct CIDs none is before its place
pub has_cid-before : (xs ys : Blocks) (k b : List ℕ) → HasDistinctCids (xs ++ (k, b) ∷ ys) → has_cid xs k ≡ false
has_cid-before [] ys k b h = refl
has_cid-before (x ∷ xs) ys k b h =
    ap (λ v. v || has_cid xs k) (bytes-apart-back k x.0 (has_cid-midst xs ys k b x.0 h.0)) ∙ has_cid-before xs ys k b h.1

-- the pair that is read at a place
pub read-at : (pairs : Blocks) (place : ℕ) (e : List ℕ × List ℕ) → slice_get pairs place ≡ Some e → e ≡ get_or pairs place e
read-at pairs place e at = sym (get_or_from_slice_get pairs place e e at)

-- pairs up to one, and this one
pub entries-more : (pairs : Blocks) (place : ℕ) (e : List ℕ × List ℕ) → place < length pairs → e ≡ get_or pairs place e → take (place + 1) pairs ≡ take place pairs ++ e ∷ []
entries-more pairs place e within at = take_more pairs place e within ∙ ap (λ (x : List ℕ × List ℕ). take place pairs ++ x ∷ []) (sym at)

-- pairs with distinct CIDs don't have that of one before it
pub entries-before : (pairs : Blocks) (place : ℕ) (e : List ℕ × List ℕ) → place < length pairs → e ≡ get_or pairs place e → HasDistinctCids pairs → has_cid (take place pairs) e.0 ≡ false
entries-before pairs place e within at h =
    let parts : pairs ≡ take place pairs ++ e ∷ drop (place + 1) pairs =
    sym (take-append-drop place pairs) ∙ ap (λ (l : Blocks). take place pairs ++ l) (drop_more pairs place e within ∙ ap (λ (x : List ℕ × List ℕ). x ∷ drop (place + 1) pairs) (sym at)) in
    has_cid-before (take place pairs) (drop (place + 1) pairs) e.0 e.1 (subst (λ (l : Blocks). HasDistinctCids l) parts h)

-- a CID that isn't there has no place
pub position-none : (n : ℕ) (es : Blocks) (c : List ℕ) → has_cid es c ≡ false → position_after n es c ≡ None
position-none n [] c h = refl
position-none n (e ∷ es) c h =
    ap (λ v. cond v (Some n) (position_after (n + 1) es c)) (or-left (bytes_eq e.0 c) (has_cid es c) h) ∙ position-none (n + 1) es c (or-right (bytes_eq e.0 c) (has_cid es c) h)

-- one pair more is added where its CID is new
pub with-new : (now later : Blocks) (e : List ℕ × List ℕ) → later ≡ now ++ e ∷ [] → has_cid now e.0 ≡ false → later ≡ with_block now e
with-new now later e longer h = longer ∙ ap (λ v. cond v now (now ++ e ∷ [])) (sym h)

-- what holds on Ok holds where there is no Err
pub holds-at_ok : {T E P : Type 0} (r : Result T E) → OnOk r P → is_err r ≡ false → P
holds-at_ok (Ok x) h fine = h
holds-at_ok (Err e) h fine = absurd (false≢true (sym fine))

-- a place before the next one is before this one, or this one
pub less-or-same : (k n : ℕ) → k < n + 1 → (k < n) ⊎ (k ≡ n)
less-or-same k n h = grind arith

-- the pairs before one that was appended
pub back : (pairs later : Blocks) (count : ℕ) (x : List ℕ × List ℕ) → count ≡ length pairs → later ≡ pairs ++ x ∷ [] → take count later ≡ pairs
back pairs later count x many pushed = ap (λ (n : ℕ). take n later) many ∙ ap (λ (l : Blocks). take (length pairs) l) pushed ∙ take-append_seam pairs (x ∷ [])
