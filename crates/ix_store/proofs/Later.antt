-- How many blocks are a later copy: those whose first copy isn't sound, less those of which no copy is.
use Rattle.std.proofs.Common.{◌≡◌, ℕ, zero, suc, ◌+◌, ◌-◌, ◌<◌, Bool, true, false, ◌&&◌, ◌||◌, cond, List, [], ◌∷◌, ◌++◌, length, get_or, refl, sym, ap, subst, ◌∙◌, ⊎_elim, arith}
use Rattle.std.specs.Prelude.{not, bytes_eq}
use Rattle.std.specs.List.{filter, All}
use Rattle.std.proofs.lemmas.Bool.{false≢true, cases_Bool, false_from_ne_true}
use Rattle.std.proofs.lemmas.List.{append-nil}
use Rattle.std.proofs.lemmas.List.Elements.{filter-append, filter_passes}
use Rattle.std.proofs.lemmas.Option.{slice_get-get_or}
use Rattle.std.proofs.lemmas.Slice.Eq.{bytes_eq-Decides}
use Rattle.ix_store.specs.Store.{Blocks, has_cid, with_block, with_blocks}
use Rattle.ix_store.specs.Sound.{is_sound_copy, is_unsound_copy, first_copies, sound_copies, unsound_count, AreSoundCopies, later_count}
use Rattle.ix_store.proofs.Stores.{has_cid-at}
use Rattle.ix_store.proofs.SoundFirst.{same-copies}

-- many blocks more, and then others
with_blocks-append : (store ps qs : Blocks) → with_blocks store (ps ++ qs) ≡ with_blocks (with_blocks store ps) qs
with_blocks-append store [] qs = refl
with_blocks-append store (p ∷ ps) qs = with_blocks-append (with_block store p) ps qs

-- pairs have the CIDs of their first ones
has_cid-left : (xs ys : Blocks) (c : List ℕ) → has_cid xs c ≡ true → has_cid (xs ++ ys) c ≡ true
has_cid-left [] ys c h = absurd (false≢true h)
has_cid-left (x ∷ xs) ys c h =
    ⊎_elim
    (λ (same : bytes_eq x.0 c ≡ true). ap (λ b. b || has_cid (xs ++ ys) c) same)
    (λ (other : bytes_eq x.0 c ≡ false). ap (λ b. b || has_cid (xs ++ ys) c) other ∙ has_cid-left xs ys c (sym (ap (λ b. b || has_cid xs c) other) ∙ h))
    (cases_Bool (bytes_eq x.0 c))

-- and that of the last one
has_cid-last : (xs : Blocks) (p : List ℕ × List ℕ) (c : List ℕ) → bytes_eq p.0 c ≡ true → has_cid (xs ++ p ∷ []) c ≡ true
has_cid-last [] p c same = ap (λ b. b || false) same
has_cid-last (x ∷ xs) p c same = ap (λ b. bytes_eq x.0 c || b) (has_cid-last xs p c same) ∙ either (bytes_eq x.0 c) where
  either : (b : Bool) → (b || true) ≡ true
  either true = refl
  either false = refl

-- a store has the CIDs that it had
has_cid-kept : (store : Blocks) (p : List ℕ × List ℕ) (c : List ℕ) → has_cid store c ≡ true → has_cid (with_block store p) c ≡ true
has_cid-kept store p c h =
    elim (has_cid store p.0) as (λ b. has_cid (cond b store (store ++ p ∷ [])) c ≡ true) [ true ↦ h | false ↦ has_cid-left store (p ∷ []) c h ]

-- and that of a block that is added
has_cid-added : (store : Blocks) (p : List ℕ × List ℕ) (c : List ℕ) → bytes_eq p.0 c ≡ true → has_cid (with_block store p) c ≡ true
has_cid-added store p c same =
    let is : p.0 ≡ c = (bytes_eq-Decides p.0 c).0 same in
    ⊎_elim
    (λ (held : has_cid store p.0 ≡ true). ap (λ b. has_cid (cond b store (store ++ p ∷ [])) c) held ∙ subst (λ (d : List ℕ). has_cid store d ≡ true) is held)
    (λ (new : has_cid store p.0 ≡ false). ap (λ b. has_cid (cond b store (store ++ p ∷ [])) c) new ∙ has_cid-last store p c same)
    (cases_Bool (has_cid store p.0))

-- many blocks more
has_cid-kept_many : (store ps : Blocks) (c : List ℕ) → has_cid store c ≡ true → has_cid (with_blocks store ps) c ≡ true
has_cid-kept_many store [] c h = h
has_cid-kept_many store (p ∷ ps) c h = has_cid-kept_many (with_block store p) ps c (has_cid-kept store p c h)

has_cid-added_many : (store ps : Blocks) (c : List ℕ) → has_cid ps c ≡ true → has_cid (with_blocks store ps) c ≡ true
has_cid-added_many store [] c h = absurd (false≢true h)
has_cid-added_many store (p ∷ ps) c h =
    ⊎_elim
    (λ (same : bytes_eq p.0 c ≡ true). has_cid-kept_many (with_block store p) ps c (has_cid-added store p c same))
    (λ (other : bytes_eq p.0 c ≡ false). has_cid-added_many (with_block store p) ps c (sym (ap (λ b. b || has_cid ps c) other) ∙ h))
    (cases_Bool (bytes_eq p.0 c))

-- ---- the pairs whose CIDs pass a test

module _ (q : List ℕ → Bool) where
  abbrev of_cid : List ℕ × List ℕ → Bool
  of_cid p = q p.0

  -- have each CID that passes
  has_cid-passed : (es : Blocks) (c : List ℕ) → q c ≡ true → has_cid (filter of_cid es) c ≡ has_cid es c
  has_cid-passed [] c pass = refl
  has_cid-passed (e ∷ es) c pass =
      ⊎_elim
      (λ (here : q e.0 ≡ true). ap (λ b. has_cid (cond b (e ∷ filter of_cid es) (filter of_cid es)) c) here ∙ ap (λ b. bytes_eq e.0 c || b) (has_cid-passed es c pass))
      (λ (fail : q e.0 ≡ false).
      let apart : bytes_eq e.0 c ≡ false = false_from_ne_true (bytes_eq e.0 c) (λ same. false≢true (sym fail ∙ ap q ((bytes_eq-Decides e.0 c).0 same) ∙ pass)) in
      ap (λ b. has_cid (cond b (e ∷ filter of_cid es) (filter of_cid es)) c) fail ∙ has_cid-passed es c pass ∙ sym (ap (λ b. b || has_cid es c) apart))
      (cases_Bool (q e.0))

  -- are those of a store with one block more
  passed-with : (store : Blocks) (p : List ℕ × List ℕ) → filter of_cid (with_block store p) ≡ cond (q p.0) (with_block (filter of_cid store) p) (filter of_cid store)
  passed-with store p =
      ⊎_elim
      (λ (pass : q p.0 ≡ true).
      let one : filter of_cid (p ∷ []) ≡ p ∷ [] = ap (λ b. cond b (p ∷ []) []) pass in
      let both : filter of_cid (with_block store p) ≡ with_block (filter of_cid store) p =
      elim (has_cid store p.0) as (λ b. filter of_cid (cond b store (store ++ p ∷ [])) ≡ cond b (filter of_cid store) (filter of_cid store ++ p ∷ [])) [
        | true ↦ refl
        | false ↦ filter-append of_cid store (p ∷ []) ∙ ap (λ (l : Blocks). filter of_cid store ++ l) one
      ] ∙ ap (λ b. cond b (filter of_cid store) (filter of_cid store ++ p ∷ [])) (sym (has_cid-passed store p.0 pass)) in
      both ∙ ap (λ b. cond b (with_block (filter of_cid store) p) (filter of_cid store)) (sym pass))
      (λ (fail : q p.0 ≡ false).
      let none : filter of_cid (p ∷ []) ≡ [] = ap (λ b. cond b (p ∷ []) []) fail in
      elim (has_cid store p.0) as (λ b. filter of_cid (cond b store (store ++ p ∷ [])) ≡ filter of_cid store) [
        | true ↦ refl
        | false ↦ filter-append of_cid store (p ∷ []) ∙ ap (λ (l : Blocks). filter of_cid store ++ l) none ∙ append-nil (filter of_cid store)
      ] ∙ ap (λ b. cond b (with_block (filter of_cid store) p) (filter of_cid store)) (sym fail))
      (cases_Bool (q p.0))

  -- and of many more
  passed-with_many : (store ps : Blocks) → filter of_cid (with_blocks store ps) ≡ with_blocks (filter of_cid store) (filter of_cid ps)
  passed-with_many store [] = refl
  passed-with_many store (p ∷ ps) =
      passed-with_many (with_block store p) ps
      ∙ ap (λ (l : Blocks). with_blocks l (filter of_cid ps)) (passed-with store p)
      ∙ elim (q p.0) as (λ b. with_blocks (cond b (with_block (filter of_cid store) p) (filter of_cid store)) (filter of_cid ps) ≡ with_blocks (filter of_cid store) (cond b (p ∷ filter of_cid ps) (filter of_cid ps))) [
        | true ↦ refl
        | false ↦ refl
      ]

-- ---- tests that agree

-- two tests agree on a list
abbrev Agrees : (List ℕ × List ℕ → Bool) → (List ℕ × List ℕ → Bool) → Blocks → Type 0
Agrees f g es = filter f es ≡ filter g es

-- one pair more on which they agree
agrees-push : (f g : List ℕ × List ℕ → Bool) (es : Blocks) (p : List ℕ × List ℕ) → f p ≡ g p → Agrees f g es → Agrees f g (es ++ p ∷ [])
agrees-push f g es p same h =
    filter-append f es (p ∷ []) ∙ ap (λ (l : Blocks). l ++ filter f (p ∷ [])) h ∙ ap (λ b. filter g es ++ cond b (p ∷ []) []) same ∙ sym (filter-append g es (p ∷ []))

-- blocks on which they agree
agrees-many : (f g : List ℕ × List ℕ → Bool) (store ps : Blocks) → All (λ p. f p ≡ g p) ps → Agrees f g store → Agrees f g (with_blocks store ps)
agrees-many f g store [] all h = h
agrees-many f g store (p ∷ ps) all h =
    let next : Agrees f g (with_block store p) =
    elim (has_cid store p.0) as (λ b. Agrees f g (cond b store (store ++ p ∷ []))) [ true ↦ h | false ↦ agrees-push f g store p (all 0 p (omega arith)) h ] in
    agrees-many f g (with_block store p) ps (λ k d less. all (suc k) d (omega (arith, less))) next

-- blocks on which they agree if their CIDs are new
agrees-new : (f g : List ℕ × List ℕ → Bool) (store ps : Blocks) → ((p : List ℕ × List ℕ) → f p ≡ true → has_cid store p.0 ≡ false → g p ≡ true) → All (λ p. f p ≡ true) ps → Agrees f g store → Agrees f g (with_blocks store ps)
agrees-new f g store [] new all h = h
agrees-new f g store (p ∷ ps) new all h =
    let pass : f p ≡ true = all 0 p (omega arith) in
    let next : Agrees f g (with_block store p) =
    ⊎_elim
    (λ (held : has_cid store p.0 ≡ true). subst (λ b. Agrees f g (cond b store (store ++ p ∷ []))) (sym held) h)
    (λ (fresh : has_cid store p.0 ≡ false). subst (λ b. Agrees f g (cond b store (store ++ p ∷ []))) (sym fresh) (agrees-push f g store p (pass ∙ sym (new p pass fresh)) h))
    (cases_Bool (has_cid store p.0)) in
    agrees-new f g (with_block store p) ps
    (λ r pass fresh. new r pass (false_from_ne_true (has_cid store r.0) (λ held. false≢true (sym fresh ∙ has_cid-kept store p r.0 held))))
    (λ k d less. all (suc k) d (omega (arith, less))) next

-- ---- filters of filters

-- two tests, one after the other
filter-both : (f g : List ℕ × List ℕ → Bool) (es : Blocks) → filter (λ p. f p && g p) es ≡ filter f (filter g es)
filter-both f g [] = refl
filter-both f g (e ∷ es) =
    let rest = filter-both f g es in
    ⊎_elim
    (λ (pass : g e ≡ true).
    ap (λ b. cond (f e && b) (e ∷ filter (λ p. f p && g p) es) (filter (λ p. f p && g p) es)) pass
    ∙ elim (f e) as (λ b. cond (b && true) (e ∷ filter (λ p. f p && g p) es) (filter (λ p. f p && g p) es) ≡ cond b (e ∷ filter f (filter g es)) (filter f (filter g es))) [ true ↦ ap (λ (l : Blocks). e ∷ l) rest | false ↦ rest ]
    ∙ ap (λ b. filter f (cond b (e ∷ filter g es) (filter g es))) (sym pass))
    (λ (fail : g e ≡ false).
    ap (λ b. cond (f e && b) (e ∷ filter (λ p. f p && g p) es) (filter (λ p. f p && g p) es)) fail
    ∙ elim (f e) as (λ b. cond (b && false) (e ∷ filter (λ p. f p && g p) es) (filter (λ p. f p && g p) es) ≡ filter f (filter g es)) [ true ↦ rest | false ↦ rest ]
    ∙ ap (λ b. filter f (cond b (e ∷ filter g es) (filter g es))) (sym fail))
    (cases_Bool (g e))

-- a test twice
filter-twice : (f : List ℕ × List ℕ → Bool) (es : Blocks) → filter f (filter f es) ≡ filter f es
filter-twice f [] = refl
filter-twice f (e ∷ es) =
    ⊎_elim
    (λ (pass : f e ≡ true).
    ap (λ b. filter f (cond b (e ∷ filter f es) (filter f es))) pass ∙ ap (λ b. cond b (e ∷ filter f (filter f es)) (filter f (filter f es))) pass ∙ ap (λ (l : Blocks). e ∷ l) (filter-twice f es)
    ∙ ap (λ b. cond b (e ∷ filter f es) (filter f es)) (sym pass))
    (λ (fail : f e ≡ false).
    ap (λ b. filter f (cond b (e ∷ filter f es) (filter f es))) fail ∙ filter-twice f es ∙ ap (λ b. cond b (e ∷ filter f es) (filter f es)) (sym fail))
    (cases_Bool (f e))

-- a test splits what another passes
filter-split : (f g : List ℕ × List ℕ → Bool) (es : Blocks) → length (filter f es) ≡ length (filter (λ p. f p && g p) es) + length (filter (λ p. f p && not (g p)) es)
filter-split f g [] = omega arith
filter-split f g (e ∷ es) =
    let rest = filter-split f g es in
    let with = filter (λ p. f p && g p) es in
    let without = filter (λ p. f p && not (g p)) es in
    elim (f e) as (λ a. length (cond a (e ∷ filter f es) (filter f es)) ≡ length (cond (a && g e) (e ∷ with) with) + length (cond (a && not (g e)) (e ∷ without) without)) [
      | true ↦ elim (g e) as (λ b. length (e ∷ filter f es) ≡ length (cond (true && b) (e ∷ with) with) + length (cond (true && not b) (e ∷ without) without)) [ true ↦ omega (arith, rest) | false ↦ omega (arith, rest) ]
      | false ↦ rest
    ]

-- ---- the copies

module _ (pairs : Blocks) where
  abbrev sound : Blocks
  sound = filter is_sound_copy pairs

  abbrev unsound : Blocks
  unsound = filter is_unsound_copy pairs

  -- no copy of a CID is sound
  abbrev lacks : List ℕ → Bool
  lacks c = not (has_cid sound c)

  abbrev lacking : List ℕ × List ℕ → Bool
  lacking p = lacks p.0

  -- a sound pair has its CID among the sound ones
  sound-there : (ps : Blocks) (k : ℕ) (d : List ℕ × List ℕ) → k < length ps → is_sound_copy (get_or ps k d) ≡ true → has_cid (filter is_sound_copy ps) (get_or ps k d).0 ≡ true
  sound-there [] k d less is = absurd (omega (arith, less))
  sound-there (p ∷ ps) zero d less is = ap (λ b. has_cid (cond b (p ∷ filter is_sound_copy ps) (filter is_sound_copy ps)) p.0) is ∙ ap (λ b. b || has_cid (filter is_sound_copy ps) p.0) ((bytes_eq-Decides p.0 p.0).1 refl)
  sound-there (p ∷ ps) (suc k) d less is =
      let rest = sound-there ps k d (omega (arith, less)) is in
      elim (is_sound_copy p) as (λ b. has_cid (cond b (p ∷ filter is_sound_copy ps) (filter is_sound_copy ps)) (get_or ps k d).0 ≡ true) [
        | true ↦ ap (λ b. bytes_eq p.0 (get_or ps k d).0 || b) rest ∙ either (bytes_eq p.0 (get_or ps k d).0)
        | false ↦ rest
      ] where
        either : (b : Bool) → (b || true) ≡ true
        either true = refl
        either false = refl

  -- the pairs without a sound copy are among those that aren't sound
  lacking-unsound : (ps : Blocks) → All (λ p. is_sound_copy p ≡ true → lacking p ≡ false) ps → filter lacking ps ≡ filter lacking (filter is_unsound_copy ps)
  lacking-unsound [] all = refl
  lacking-unsound (p ∷ ps) all =
      let rest = lacking-unsound ps (λ k d less. all (suc k) d (omega (arith, less))) in
      ⊎_elim
      (λ (pass : is_sound_copy p ≡ true).
      ap (λ b. cond b (p ∷ filter lacking ps) (filter lacking ps)) (all 0 p (omega arith) pass) ∙ rest
      ∙ ap (λ b. filter lacking (cond (not b) (p ∷ filter is_unsound_copy ps) (filter is_unsound_copy ps))) (sym pass))
      (λ (fail : is_sound_copy p ≡ false).
      ap (λ (l : Blocks). cond (lacking p) (p ∷ l) l) rest
      ∙ ap (λ b. filter lacking (cond (not b) (p ∷ filter is_unsound_copy ps) (filter is_unsound_copy ps))) (sym fail))
      (cases_Bool (is_sound_copy p))

  -- of the first copies, those without a sound one
  lacking-first : filter lacking (first_copies pairs) ≡ with_blocks [] (filter lacking unsound)
  lacking-first =
      passed-with_many lacks [] pairs
      ∙ ap (with_blocks []) (lacking-unsound pairs (λ k d less pass. ap not (sound-there pairs k d less pass)))

  -- no sound pair lacks a sound copy
  none-lacks : (es : Blocks) → All (λ p. lacking p ≡ false) es → filter lacking es ≡ []
  none-lacks [] all = refl
  none-lacks (e ∷ es) all = ap (λ b. cond b (e ∷ filter lacking es) (filter lacking es)) (all 0 e (omega arith)) ∙ none-lacks es (λ k d less. all (suc k) d (omega (arith, less)))

  sound-lacks : All (λ p. lacking p ≡ false) sound
  sound-lacks k d less = ap not (has_cid-at k sound (get_or sound k d) (get_or sound k d).0 (slice_get-get_or sound k d less) ((bytes_eq-Decides (get_or sound k d).0 (get_or sound k d).0).1 refl))

  -- of the copies that are preferred, those without a sound one
  lacking-preferred : filter lacking (sound_copies pairs) ≡ with_blocks [] (filter lacking unsound)
  lacking-preferred =
      passed-with_many lacks [] (sound ++ unsound)
      ∙ ap (with_blocks []) (filter-append lacking sound unsound ∙ ap (λ (l : Blocks). l ++ filter lacking unsound) (none-lacks sound sound-lacks))

  -- these are those that aren't sound
  unsound-preferred : filter is_unsound_copy (sound_copies pairs) ≡ filter lacking (sound_copies pairs)
  unsound-preferred =
      let front : Agrees is_unsound_copy lacking (with_blocks [] sound) =
      agrees-many is_unsound_copy lacking [] sound (λ k d less. ap not (filter_passes is_sound_copy pairs k d less) ∙ sym (sound-lacks k d less)) refl in
      let rear : Agrees is_unsound_copy lacking (with_blocks (with_blocks [] sound) unsound) =
      agrees-new is_unsound_copy lacking (with_blocks [] sound) unsound
      (λ p fail new. ap not (false_from_ne_true (has_cid sound p.0) (λ held. false≢true (sym new ∙ has_cid-added_many [] sound p.0 held))))
      (filter_passes is_unsound_copy pairs) front in
      subst (λ (l : Blocks). Agrees is_unsound_copy lacking l) (sym (with_blocks-append [] sound unsound)) rear

  -- so the blocks that are a later copy are those that make the difference
  pub later-difference : unsound_count (first_copies pairs) - unsound_count (sound_copies pairs) ≡ later_count pairs
  later-difference =
      let firsts = first_copies pairs in
      let same : filter lacking firsts ≡ filter is_unsound_copy (sound_copies pairs) = lacking-first ∙ sym lacking-preferred ∙ sym unsound-preferred in
      let rest : length (filter (λ p. is_unsound_copy p && lacking p) firsts) ≡ unsound_count (sound_copies pairs) =
      ap length (filter-both is_unsound_copy lacking firsts ∙ ap (filter is_unsound_copy) same ∙ filter-twice is_unsound_copy (sound_copies pairs)) in
      let split : unsound_count firsts ≡ later_count pairs + length (filter (λ p. is_unsound_copy p && lacking p) firsts) = filter-split is_unsound_copy (λ p. has_cid sound p.0) firsts in
      omega (arith, rest, split)

  -- none is if each copy is sound
  pub none-later : AreSoundCopies pairs → later_count pairs ≡ 0
  none-later all =
      let same = ap unsound_count (same-copies pairs all) in
      omega (arith, same, later-difference)
