-- The known blocks of a base.
use Rattle.std.proofs.Common.{◌≡◌, ℕ, Bool, true, false, ◌||◌, List, [], ◌∷◌, ◌++◌, filter, refl, sym, ap, ◌∙◌}
use Rattle.std.specs.Prelude.{Option, Some, None, if◌then◌else◌, bytes_eq, option_and_then}
use Rattle.std.specs.Borrow.{Bor}
use Rattle.std.proofs.lemmas.Slice.Eq.{bytes_eq-Decides}
use Rattle.ix_cid.specs.Cid.{parts_of, digest_of, hash_function_of}
use Rattle.ix_cbor.specs.Reading.{data_at}
use Rattle.ix_verdict.specs.Verdict.{verdict_with, is_sound}
use Rattle.ix_store.specs.Store.{Blocks, has_cid, block_of, with_block, with_blocks, HasDistinctCids, bytes_by, is_dag_cbor, value_of}
use Rattle.ix_store.specs.Sound.{first_copies, verdict_of_copy}
use Rattle.ix_store.proofs.Stores.{distinct-push}
use Rattle.ix_known.specs.Known.{knows, known_blocks, known_blocks_of, AreSound, AreKnownBlocks}
use Rattle.ix_known.proofs.Lists.{block-left, blocks-first}
use Rattle.ix_known.proofs.Pairs.{knows-none}

abbrev Pair : Type 0
Pair = List ℕ × List ℕ

abbrev is_sound_pair : Pair → Bool
is_sound_pair p = is_sound (verdict_of_copy p)

-- ---- the sound ones of pairs with distinct CIDs

-- a CID has one of them exactly if it is known
sound-has : (es : Blocks) → HasDistinctCids es → (c : List ℕ) → has_cid (filter is_sound_pair es) c ≡ knows es c
sound-has [] distinct c = sym (knows-none [] c refl)
sound-has (e ∷ es) distinct c = by (bytes_eq e.0 c) refl (is_sound_pair e) refl (sound-has es distinct.1 c) where
  by : (same : Bool) → bytes_eq e.0 c ≡ same → (sound : Bool) → is_sound_pair e ≡ sound → has_cid (filter is_sound_pair es) c ≡ knows es c
      → has_cid (if sound then e ∷ filter is_sound_pair es else filter is_sound_pair es) c ≡ is_sound (verdict_with c (if same then Some e.1 else block_of es c))
  by true is true sound later =
      ap (λ b. b || has_cid (filter is_sound_pair es) c) is
      ∙ sym (ap (λ (d : List ℕ). is_sound (verdict_with d (Some e.1))) (sym ((bytes_eq-Decides e.0 c).0 is)) ∙ sound)
  by true is false unsound later =
      later ∙ knows-none es c (ap (has_cid es) (sym ((bytes_eq-Decides e.0 c).0 is)) ∙ distinct.0)
      ∙ sym (ap (λ (d : List ℕ). is_sound (verdict_with d (Some e.1))) (sym ((bytes_eq-Decides e.0 c).0 is)) ∙ unsound)
  by false isnt true sound later = ap (λ b. b || has_cid (filter is_sound_pair es) c) isnt ∙ later
  by false isnt false unsound later = later

-- a known CID has its block among them
sound-block : (es : Blocks) → HasDistinctCids es → (c : List ℕ) → knows es c ≡ true → block_of (filter is_sound_pair es) c ≡ block_of es c
sound-block [] distinct c known = refl
sound-block (e ∷ es) distinct c known = by (bytes_eq e.0 c) refl (is_sound_pair e) refl known (sound-block es distinct.1 c) where
  by : (same : Bool) → bytes_eq e.0 c ≡ same → (sound : Bool) → is_sound_pair e ≡ sound → is_sound (verdict_with c (if same then Some e.1 else block_of es c)) ≡ true
      → (knows es c ≡ true → block_of (filter is_sound_pair es) c ≡ block_of es c)
      → block_of (if sound then e ∷ filter is_sound_pair es else filter is_sound_pair es) c ≡ (if same then Some e.1 else block_of es c)
  by true is true sound known later = ap (λ b. if b then Some e.1 else block_of (filter is_sound_pair es) c) is
  by true is false unsound known later =
      absurd (let bad : true ≡ false = sym known ∙ ap (λ (d : List ℕ). is_sound (verdict_with d (Some e.1))) (sym ((bytes_eq-Decides e.0 c).0 is)) ∙ unsound in cc bad)
  by false isnt true sound known later = ap (λ b. if b then Some e.1 else block_of (filter is_sound_pair es) c) isnt ∙ later known
  by false isnt false unsound known later = later known

-- each of them is sound
each-sound : (es : Blocks) → AreSound (filter is_sound_pair es)
each-sound [] = tt
each-sound (e ∷ es) = by (is_sound_pair e) refl (each-sound es) where
  by : (sound : Bool) → is_sound_pair e ≡ sound → AreSound (filter is_sound_pair es) → AreSound (if sound then e ∷ filter is_sound_pair es else filter is_sound_pair es)
  by true is later = (is, later)
  by false isnt later = later

-- ---- the first copies

-- their CIDs are distinct
distinct-first : (store ps : Blocks) → HasDistinctCids store → HasDistinctCids (with_blocks store ps)
distinct-first store [] distinct = distinct
distinct-first store (p ∷ ps) distinct = distinct-first (with_block store p) ps (by (has_cid store p.0) refl) where
  by : (there : Bool) → has_cid store p.0 ≡ there → HasDistinctCids (if there then store else store ++ p ∷ [])
  by true is = distinct
  by false isnt = distinct-push store p.0 p.1 distinct isnt

module _ (base : Blocks) where
  distinct : HasDistinctCids (first_copies base)
  distinct = distinct-first [] base tt

  -- each has its block
  first-block : (c : List ℕ) → block_of (first_copies base) c ≡ block_of base c
  first-block c = blocks-first [] base c

  -- so the same CIDs are known
  first-known : (c : List ℕ) → knows (first_copies base) c ≡ knows base c
  first-known c = ap (λ o. is_sound (verdict_with c o)) (first-block c)

  -- the CIDs of the known blocks are the known ones
  pub known-has : (c : List ℕ) → has_cid (known_blocks base) c ≡ knows base c
  known-has c = sound-has (first_copies base) distinct c ∙ first-known c

  -- each is the base's block
  pub known-block : (c : List ℕ) → knows base c ≡ true → block_of (known_blocks base) c ≡ block_of base c
  known-block c known = sound-block (first_copies base) distinct c (first-known c ∙ known) ∙ first-block c

  -- and sound
  pub known-sound : AreSound (known_blocks base)
  known-sound = each-sound (first_copies base)

  pub are-known_blocks : AreKnownBlocks base
  are-known_blocks = record { sound = known-sound; known = known-has; same = known-block }

-- those of a store that may be there
pub known-sound_of : (store : Option (Bor Blocks)) → AreSound (known_blocks_of store)
known-sound_of None = tt
known-sound_of (Some store) = known-sound store.now

-- ---- the store that has a block

-- data of a CID by its block
pub value-by : (f g : Blocks) (c : List ℕ) → block_of f c ≡ block_of g c → value_of f c ≡ value_of g c
value-by f g c same = ap (λ o. if is_dag_cbor c then option_and_then data_at (bytes_by (hash_function_of (parts_of c)) (digest_of c) o) else None) same

-- a known CID has the data that it has in the store
known-value : (store sections : Blocks) (c : List ℕ) → has_cid (known_blocks store) c ≡ true → value_of store c ≡ value_of (known_blocks store ++ sections) c
known-value store sections c there =
    value-by store (known_blocks store ++ sections) c
    (sym (known-block store c (sym (known-has store c) ∙ there)) ∙ sym (block-left (known_blocks store) sections c there))

-- without a store there are none
pub known-none : (o : Option (Bor Blocks)) (known : Blocks) (c : List ℕ) → known_blocks_of o ≡ known → o ≡ None → has_cid known c ≡ false
known-none o known c is none = ap (λ (s : Blocks). has_cid s c) (sym is) ∙ ap (λ x. has_cid (known_blocks_of x) c) none

module _ (o : Option (Bor Blocks)) (known : Blocks) (store : Bor Blocks) (c : List ℕ) (is : known_blocks_of o ≡ known) (some : o ≡ Some store) where
  same-known : known_blocks store.now ≡ known
  same-known = ap known_blocks_of (sym some) ∙ is

  -- those of a store lack a CID that isn't known
  pub known-lacks : knows store.now c ≡ false → has_cid known c ≡ false
  known-lacks out = ap (λ (s : Blocks). has_cid s c) (sym same-known) ∙ known-has store.now c ∙ out

  -- and have one that is, with its data
  pub known-there : knows store.now c ≡ true → (has_cid known c ≡ true) × ((sections : Blocks) → value_of store.now c ≡ value_of (known ++ sections) c)
  known-there sound =
      let there : has_cid (known_blocks store.now) c ≡ true = known-has store.now c ∙ sound in (
        ap (λ (s : Blocks). has_cid s c) (sym same-known) ∙ there,
        λ sections. known-value store.now sections c there ∙ ap (λ (s : Blocks). value_of (s ++ sections) c) same-known,
      )
