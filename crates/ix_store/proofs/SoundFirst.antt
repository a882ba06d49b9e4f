-- Sound pairs first, and how many aren't sound.
use Rattle.std.proofs.Common.{◌≡◌, ℕ, zero, suc, ◌+◌, ◌<◌, ◌≤◌, Bool, true, false, cond, List, [], ◌∷◌, ◌++◌, length, take, map, get_or, refl, sym, ap, ◌∙◌, ⊎_elim, arith}
use Rattle.std.specs.Prelude.{not, if◌then◌else◌}
use Rattle.std.specs.List.{filter, All}
use Rattle.std.proofs.lemmas.List.{map-append, append-nil, append_assoc}
use Rattle.std.proofs.lemmas.List.Elements.{All-append}
use Rattle.std.proofs.lemmas.Option.{get_or_from_slice_get, slice_get-get_or, slice_get_cases}
use mathlib.Core.Bool.{beq}
use Rattle.ix_verdict.specs.declared.verdict.Verdict.{Verdict}
use Rattle.ix_verdict.specs.Verdict.{passes}
use Rattle.ix_store.specs.Store.{Blocks, has_cid, with_block, with_blocks}
use Rattle.ix_store.specs.Sound.{verdict_of_copy, is_sound_copy, is_unsound_copy, sound_first, first_copies, sound_copies, unsound_count, AreSoundCopies, fails, picked, is_picked, passing_first}

-- ---- picking

-- a test at the next element
picked-next : {X : Type 0} (test : Verdict → Bool) (n : ℕ) (vs : List Verdict) (xs : List X) (v : Verdict) (x : X) → n < length vs → n < length xs → v ≡ get_or vs n v → x ≡ get_or xs n x
    → picked test (take (suc n) vs) (take (suc n) xs) ≡ picked test (take n vs) (take n xs) ++ cond (test v) (x ∷ []) []
picked-next test n [] xs v x less within at here = absurd (omega (arith, less))
picked-next test n (w ∷ vs) [] v x less within at here = absurd (omega (arith, within))
picked-next test zero (w ∷ vs) (y ∷ xs) v x less within at here =
    ap (λ u. cond (test u) (y ∷ []) []) (sym at) ∙ ap (λ z. cond (test v) (z ∷ []) []) (sym here)
picked-next test (suc n) (w ∷ vs) (y ∷ xs) v x less within at here =
    let rest = picked-next test n vs xs v x (omega (arith, less)) (omega (arith, within)) at here in
    elim (test w) as (λ b. cond b (y ∷ picked test (take (suc n) vs) (take (suc n) xs)) (picked test (take (suc n) vs) (take (suc n) xs)) ≡ cond b (y ∷ picked test (take n vs) (take n xs)) (picked test (take n vs) (take n xs)) ++ cond (test v) (x ∷ []) []) [
      | true ↦ ap (λ l. y ∷ l) rest
      | false ↦ rest
    ]

-- the elements that are picked, and one more that is, or isn't
pub picked-more : {X : Type 0} (test : Verdict → Bool) (n : ℕ) (vs : List Verdict) (xs old now : List X) (v : Verdict) (x : X) → n < length vs → n < length xs → v ≡ get_or vs n v → x ≡ get_or xs n x
    → now ≡ old ++ picked test (take n vs) (take n xs) → now ++ cond (test v) (x ∷ []) [] ≡ old ++ picked test (take (n + 1) vs) (take (n + 1) xs)
picked-more test n vs xs old now v x less within at here is =
    let next : suc n ≡ n + 1 = omega arith in
    ap (λ l. l ++ cond (test v) (x ∷ []) []) is
    ∙ append_assoc old (picked test (take n vs) (take n xs)) (cond (test v) (x ∷ []) [])
    ∙ ap (λ l. old ++ l) (sym (picked-next test n vs xs v x less within at here))
    ∙ ap (λ m. old ++ picked test (take m vs) (take m xs)) next

-- what is picked of images is the image of what is picked
pub map-picked : {X Y : Type 0} (f : X → Y) (test : Verdict → Bool) (vs : List Verdict) (xs : List X) → map f (picked test vs xs) ≡ picked test vs (map f xs)
map-picked f test [] xs = refl
map-picked f test (v ∷ vs) [] = refl
map-picked f test (v ∷ vs) (x ∷ xs) =
    let rest = map-picked f test vs xs in
    elim (test v) as (λ b. map f (cond b (x ∷ picked test vs xs) (picked test vs xs)) ≡ cond b (f x ∷ picked test vs (map f xs)) (picked test vs (map f xs))) [
      | true ↦ ap (λ l. f x ∷ l) rest
      | false ↦ rest
    ]

-- the same of sorting
pub map-passing_first : {X Y : Type 0} (f : X → Y) (vs : List Verdict) (xs : List X) → map f (passing_first vs xs) ≡ passing_first vs (map f xs)
map-passing_first f vs xs =
    map-append f (picked (is_picked true) vs xs) (picked (is_picked false) vs xs)
    ∙ ap (λ l. l ++ map f (picked (is_picked false) vs xs)) (map-picked f (is_picked true) vs xs)
    ∙ ap (λ l. picked (is_picked true) vs (map f xs) ++ l) (map-picked f (is_picked false) vs xs)

-- what holds of each element holds of those that are picked
All-picked : {X : Type 0} (P : X → Type 0) (test : Verdict → Bool) (vs : List Verdict) (xs : List X) → All P xs → All P (picked test vs xs)
All-picked P test [] xs all = λ k d less. absurd (omega (arith, less))
All-picked P test (v ∷ vs) [] all = λ k d less. absurd (omega (arith, less))
All-picked P test (v ∷ vs) (x ∷ xs) all =
    let rest = All-picked P test vs xs (λ k d less. all (suc k) d (omega (arith, less))) in
    elim (test v) as (λ b. All P (cond b (x ∷ picked test vs xs) (picked test vs xs))) [
      | true ↦ All-append P (x ∷ []) (picked test vs xs) (one (all 0 x (omega arith))) rest
      | false ↦ rest
    ] where
      one : P x → All P (x ∷ [])
      one h zero d less = h
      one h (suc k) d less = absurd (omega (arith, less))

-- and of those that are sorted
pub All-passing_first : {X : Type 0} (P : X → Type 0) (vs : List Verdict) (xs : List X) → All P xs → All P (passing_first vs xs)
All-passing_first P vs xs all =
    All-append P (picked (is_picked true) vs xs) (picked (is_picked false) vs xs) (All-picked P (is_picked true) vs xs all) (All-picked P (is_picked false) vs xs all)

-- what is picked by the verdicts on pairs
picked-filter : (test : Verdict → Bool) (pairs : Blocks) → picked test (map verdict_of_copy pairs) pairs ≡ filter (λ p. test (verdict_of_copy p)) pairs
picked-filter test [] = refl
picked-filter test (p ∷ pairs) =
    ap (λ (l : Blocks). cond (test (verdict_of_copy p)) (p ∷ l) l) (picked-filter test pairs)

-- sorted by the verdicts on them, the sound ones come first
pub sorted-sound : (pairs : Blocks) → passing_first (map verdict_of_copy pairs) pairs ≡ sound_first pairs
sorted-sound pairs =
    ap (λ (l : Blocks). l ++ picked (is_picked false) (map verdict_of_copy pairs) pairs) (picked-filter (is_picked true) pairs)
    ∙ ap (λ (l : Blocks). filter is_sound_copy pairs ++ l) (picked-filter (is_picked false) pairs)

-- and so do the verdicts on them
pub sorted-verdicts : (pairs : Blocks) → passing_first (map verdict_of_copy pairs) (map verdict_of_copy pairs) ≡ map verdict_of_copy (sound_first pairs)
sorted-verdicts pairs = sym (map-passing_first verdict_of_copy (map verdict_of_copy pairs) pairs) ∙ ap (map verdict_of_copy) (sorted-sound pairs)

-- ---- counting

-- the pairs that aren't sound, counted by their verdicts
pub count-verdicts : (pairs : Blocks) → length (filter fails (map verdict_of_copy pairs)) ≡ unsound_count pairs
count-verdicts [] = refl
count-verdicts (p ∷ pairs) =
    elim (passes (verdict_of_copy p)) as (λ b. length (cond (not b) (verdict_of_copy p ∷ filter fails (map verdict_of_copy pairs)) (filter fails (map verdict_of_copy pairs))) ≡ length (cond (not b) (p ∷ filter is_unsound_copy pairs) (filter is_unsound_copy pairs))) [
      | true ↦ count-verdicts pairs
      | false ↦ ap suc (count-verdicts pairs)
    ]

-- one pair more adds what it counts
count-push : (store : Blocks) (p : List ℕ × List ℕ) → unsound_count (store ++ p ∷ []) ≤ unsound_count store + unsound_count (p ∷ [])
count-push [] p = omega arith
count-push (q ∷ store) p =
    let rest = count-push store p in
    elim (is_unsound_copy q) as (λ b. length (cond b (q ∷ filter is_unsound_copy (store ++ p ∷ [])) (filter is_unsound_copy (store ++ p ∷ []))) ≤ length (cond b (q ∷ filter is_unsound_copy store) (filter is_unsound_copy store)) + unsound_count (p ∷ [])) [
      | true ↦ omega (arith, rest)
      | false ↦ rest
    ]

-- or nothing
count-with : (store : Blocks) (p : List ℕ × List ℕ) → unsound_count (with_block store p) ≤ unsound_count store + unsound_count (p ∷ [])
count-with store p =
    elim (has_cid store p.0) as (λ b. unsound_count (cond b store (store ++ p ∷ [])) ≤ unsound_count store + unsound_count (p ∷ [])) [
      | true ↦ omega arith
      | false ↦ count-push store p
    ]

-- many pairs more
count-many : (store ps : Blocks) → unsound_count (with_blocks store ps) ≤ unsound_count store + unsound_count ps
count-many store [] = omega arith
count-many store (p ∷ ps) =
    let rest = count-many (with_block store p) ps in
    let one = count-with store p in
    let both : unsound_count (p ∷ ps) ≡ unsound_count (p ∷ []) + unsound_count ps =
    elim (is_unsound_copy p) as (λ b. length (cond b (p ∷ filter is_unsound_copy ps) (filter is_unsound_copy ps)) ≡ length (cond b (p ∷ []) []) + unsound_count ps) [ true ↦ omega arith | false ↦ omega arith ] in
    omega (arith, rest, one, both)

-- if each copy is sound, so is each first one
pub none-unsound : (pairs : Blocks) → unsound_count pairs ≡ 0 → unsound_count (first_copies pairs) ≡ 0
none-unsound pairs none =
    let most = count-many [] pairs in
    omega (arith, most, none)

-- ---- the law

-- if all are sound, each is kept
all-kept : (pairs : Blocks) → AreSoundCopies pairs → filter is_sound_copy pairs ≡ pairs
all-kept [] all = refl
all-kept (p ∷ pairs) all =
    ap (λ (b : Bool). cond b (p ∷ filter is_sound_copy pairs) (filter is_sound_copy pairs)) (all 0 p (omega arith))
    ∙ ap (λ (l : Blocks). p ∷ l) (all-kept pairs (λ k d less. all (suc k) d (omega (arith, less))))

-- and none is left
none-left : (pairs : Blocks) → AreSoundCopies pairs → filter is_unsound_copy pairs ≡ []
none-left [] all = refl
none-left (p ∷ pairs) all =
    ap (λ (b : Bool). cond (not b) (p ∷ filter is_unsound_copy pairs) (filter is_unsound_copy pairs)) (all 0 p (omega arith))
    ∙ none-left pairs (λ k d less. all (suc k) d (omega (arith, less)))

-- pairs that are all sound stay as they are
pub sorted-all : (pairs : Blocks) → AreSoundCopies pairs → sound_first pairs ≡ pairs
sorted-all pairs all = ap (λ (l : Blocks). l ++ filter is_unsound_copy pairs) (all-kept pairs all) ∙ ap (λ (l : Blocks). pairs ++ l) (none-left pairs all) ∙ append-nil pairs

-- so they have the same first copies
pub same-copies : (pairs : Blocks) → AreSoundCopies pairs → sound_copies pairs ≡ first_copies pairs
same-copies pairs all = ap first_copies (sorted-all pairs all)

-- ---- the loop that picks

-- an element is picked where its verdict says what is asked for
asked-yes : (passing b : Bool) → beq b passing ≡ true → (if passing then b else not b) ≡ true
asked-yes true true h = refl
asked-yes true false h = h
asked-yes false true h = h
asked-yes false false h = refl

-- and else not
asked-no : (passing b : Bool) → beq b passing ≡ false → (if passing then b else not b) ≡ false
asked-no true true h = absurd cc
asked-no true false h = refl
asked-no false true h = refl
asked-no false false h = absurd cc

-- the verdict at a place
at-itself : (vs : List Verdict) (n : ℕ) (d : Verdict) → n < length vs → get_or vs n d ≡ get_or vs n (get_or vs n d)
at-itself vs n d less = sym (get_or_from_slice_get vs n (get_or vs n d) (get_or vs n d) (slice_get-get_or vs n d less))

-- an element that is picked
pub picked-yes : {X : Type 0} (passing : Bool) (n : ℕ) (vs : List Verdict) (xs old now later : List X) (d : Verdict) (b : Bool) (x : X) → length vs ≡ length xs → n < length xs → b ≡ passes (get_or vs n d) → beq b passing ≡ true → x ≡ get_or xs n x
    → now ≡ old ++ picked (is_picked passing) (take n vs) (take n xs) → later ≡ now ++ x ∷ [] → later ≡ old ++ picked (is_picked passing) (take (n + 1) vs) (take (n + 1) xs)
picked-yes passing n vs xs old now later d b x long within at same here is pushed =
    let w = get_or vs n d in
    let less : n < length vs = omega (arith, long, within) in
    let test : is_picked passing w ≡ true = ap (λ (a : Bool). if passing then a else not a) (sym at) ∙ asked-yes passing b same in
    pushed ∙ ap (λ (a : Bool). now ++ cond a (x ∷ []) []) (sym test)
    ∙ picked-more (is_picked passing) n vs xs old now w x less within (at-itself vs n d less) here is

-- one that isn't
pub picked-no : {X : Type 0} (passing : Bool) (n : ℕ) (vs : List Verdict) (xs old now : List X) (d : Verdict) (b : Bool) → length vs ≡ length xs → n < length xs → b ≡ passes (get_or vs n d) → beq b passing ≡ false
    → now ≡ old ++ picked (is_picked passing) (take n vs) (take n xs) → now ≡ old ++ picked (is_picked passing) (take (n + 1) vs) (take (n + 1) xs)
picked-no passing n vs xs old now d b long within at other is =
    let w = get_or vs n d in
    let less : n < length vs = omega (arith, long, within) in
    let test : is_picked passing w ≡ false = ap (λ (a : Bool). if passing then a else not a) (sym at) ∙ asked-no passing b other in
    ⊎_elim
    (λ here.
    sym (append-nil now) ∙ ap (λ (a : Bool). now ++ cond a (here.0 ∷ []) []) (sym test)
    ∙ picked-more (is_picked passing) n vs xs old now w here.0 less within (at-itself vs n d less) (sym here.3) is)
    (λ past. absurd (omega (arith, past.0, within)))
    (slice_get_cases xs n).1
