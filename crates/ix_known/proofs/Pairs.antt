-- Blocks with one more behind them.
use Rattle.std.proofs.Common.{◌≡◌, Bool, true, false, ◌||◌, List, ℕ, [], ◌∷◌, ◌++◌, refl, sym, ap, ◌∙◌}
use Rattle.std.specs.Prelude.{Option, Some, None, bytes_eq, if◌then◌else◌}
use Rattle.std.proofs.lemmas.Bool.{or_parts}
use Rattle.ix_cid.specs.Cid.{parts_of, digest_of, hash_function_of}
use Rattle.ix_cid.specs.declared.hash_function.HashFunction.{HashFunction}
use Rattle.ix_cid.specs.declared.hash_function.HashFunction.TheVariants.{Identity, Sha2_256, Sha2_512}
use Rattle.ix_verdict.specs.declared.verdict.Verdict.TheVariants.{Codec, Malformed, Inline}
use Rattle.ix_verdict.specs.Verdict.{has_codec, is_no_data, verdict_by, verdict_with, is_sound}
use Rattle.ix_store.specs.Store.{Blocks, has_cid, block_of, with_blocks}
use Rattle.ix_store.proofs.Blocks.{none_behind}
use Rattle.ix_store.proofs.Stores.{position-none}
use Rattle.ix_known.specs.Known.{knows}

-- a CID that isn't that of the last one
pub has-other : (es : Blocks) (p : List ℕ × List ℕ) (c : List ℕ) → bytes_eq p.0 c ≡ false → has_cid (es ++ p ∷ []) c ≡ has_cid es c
has-other [] p c other = ap (λ b. b || false) other
has-other (e ∷ es) p c other = ap (λ b. bytes_eq e.0 c || b) (has-other es p c other)

block-other : (es : Blocks) (p : List ℕ × List ℕ) (c : List ℕ) → bytes_eq p.0 c ≡ false → block_of (es ++ p ∷ []) c ≡ block_of es c
block-other [] p c other = ap (λ b. if b then Some p.1 else None) other
block-other (e ∷ es) p c other = ap (λ o. if bytes_eq e.0 c then Some e.1 else o) (block-other es p c other)

-- the CID of the last one, if it is new
pub last-this : (es : Blocks) (p : List ℕ × List ℕ) (c : List ℕ) → has_cid es c ≡ false → bytes_eq p.0 c ≡ true → (has_cid (es ++ p ∷ []) c ≡ true) × (block_of (es ++ p ∷ []) c ≡ Some p.1)
last-this [] p c new same = (ap (λ b. b || false) same, ap (λ b. if b then Some p.1 else None) same)
last-this (e ∷ es) p c new same =
    let parts = or_parts (bytes_eq e.0 c) (has_cid es c) new in
    let later = last-this es p c parts.1 same in (
      ap (λ b. b || has_cid (es ++ p ∷ []) c) parts.0 ∙ later.0,
      ap (λ b. if b then Some e.1 else block_of (es ++ p ∷ []) c) parts.0 ∙ later.1,
    )

-- without a block no verdict is sound
none-unsound : (c : List ℕ) → is_sound (verdict_with c None) ≡ false
none-unsound c = on (has_codec c) (hash_function_of (parts_of c)) where
  inline : (m : Bool) → is_sound (if m then Malformed else Inline) ≡ false
  inline true = refl
  inline false = refl

  on : (codec : Bool) (f : Option HashFunction) → is_sound (if codec then verdict_by f c None else Codec) ≡ false
  on false f = refl
  on true None = refl
  on true (Some Identity) = inline (is_no_data c (digest_of c))
  on true (Some Sha2_256) = refl
  on true (Some Sha2_512) = refl

-- which of them are known
pub knows-other : (es : Blocks) (p : List ℕ × List ℕ) (c : List ℕ) → bytes_eq p.0 c ≡ false → knows (es ++ p ∷ []) c ≡ knows es c
knows-other es p c other = ap (λ o. is_sound (verdict_with c o)) (block-other es p c other)

pub knows-this : (es : Blocks) (p : List ℕ × List ℕ) (c : List ℕ) → has_cid es c ≡ false → bytes_eq p.0 c ≡ true → knows (es ++ p ∷ []) c ≡ is_sound (verdict_with c (Some p.1))
knows-this es p c new same = ap (λ o. is_sound (verdict_with c o)) (last-this es p c new same).1

pub knows-none : (es : Blocks) (c : List ℕ) → has_cid es c ≡ false → knows es c ≡ false
knows-none es c new = ap (λ o. is_sound (verdict_with c o)) (none_behind 0 es c (sym (position-none 0 es c new))) ∙ none-unsound c

-- one more counts if its CID is new
pub with-had : (es : Blocks) (p : List ℕ × List ℕ) → has_cid es p.0 ≡ true → with_blocks es (p ∷ []) ≡ es
with-had es p had = ap (λ b. if b then es else es ++ p ∷ []) had

pub with-new : (es : Blocks) (p : List ℕ × List ℕ) → has_cid es p.0 ≡ false → with_blocks es (p ∷ []) ≡ es ++ p ∷ []
with-new es p new = ap (λ b. if b then es else es ++ p ∷ []) new
