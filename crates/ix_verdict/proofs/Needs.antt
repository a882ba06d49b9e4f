-- The verdict on a CID, by the bytes that it needs.
use Rattle.std.proofs.Common.{◌≡◌, ◌⊎◌, inl, inr, Bool, true, false, ℕ, List, refl}
use Rattle.std.specs.Prelude.{Option, Some, None, bytes_eq, if◌then◌else◌}
use Rattle.ix_cid.specs.Cid.{Parts, parts_of, digest_of, hash_function_of}
use Rattle.ix_cid.specs.declared.hash_function.HashFunction.{HashFunction}
use Rattle.ix_cid.specs.declared.hash_function.HashFunction.TheVariants.{Identity, Sha2_256, Sha2_512}
use Rattle.ix_verdict.specs.declared.verdict.Verdict.TheVariants.{Codec, Missing, Damaged, Malformed, Sound}
use Rattle.ix_verdict.specs.declared.needed.Needed.TheVariants.{Nothing, Block}
use Rattle.ix_verdict.specs.Verdict.{digest_by, is_no_data, verdict_by, is_codec, has_codec, verdict_with}
use Rattle.ix_verdict.specs.Needed.{needed_by, needed_of}

-- what is known of the codec and the hash function, by what is needed
module _ (p : Parts) where
  pub known-codec-Block : (function : HashFunction) → Block function ≡ needed_of p → is_codec p.codec ≡ true
  known-codec-Block function e = on (is_codec p.codec) e where
    on : (codec : Bool) → Block function ≡ (if codec then needed_by (hash_function_of p) else Nothing Codec) → codec ≡ true
    on true e = refl
    on false e = absurd cc

  pub known-Block : (function : HashFunction) → Block function ≡ needed_of p → hash_function_of p ≡ Some function
  known-Block function e = on (is_codec p.codec) (hash_function_of p) e where
    on : (codec : Bool) (f : Option HashFunction) → Block function ≡ (if codec then needed_by f else Nothing Codec) → f ≡ Some function
    on false f e = absurd cc
    on true None e = absurd cc
    on true (Some Identity) e = absurd cc
    on true (Some Sha2_256) e = cc
    on true (Some Sha2_512) e = cc

  -- a block is hashed
  pub hashed-Block : (function : HashFunction) → Block function ≡ needed_of p → (function ≡ Sha2_256) ⊎ (function ≡ Sha2_512)
  hashed-Block function e = on (is_codec p.codec) (hash_function_of p) e where
    on : (codec : Bool) (f : Option HashFunction) → Block function ≡ (if codec then needed_by f else Nothing Codec) → (function ≡ Sha2_256) ⊎ (function ≡ Sha2_512)
    on false f e = absurd cc
    on true None e = absurd cc
    on true (Some Identity) e = absurd cc
    on true (Some Sha2_256) e = inl cc
    on true (Some Sha2_512) e = inr cc

-- the verdict where a block is needed
module _ (c : List ℕ) (function : HashFunction) (needed : Block function ≡ needed_of (parts_of c)) where
  -- a block that isn't there
  pub verdict-Missing : Missing ≡ verdict_with c None
  verdict-Missing = on (has_codec c) (hash_function_of (parts_of c)) needed where
    on : (codec : Bool) (f : Option HashFunction) → Block function ≡ (if codec then needed_by f else Nothing Codec) → Missing ≡ (if codec then verdict_by f c None else Codec)
    on false f e = absurd cc
    on true None e = absurd cc
    on true (Some Identity) e = absurd cc
    on true (Some Sha2_256) e = refl
    on true (Some Sha2_512) e = refl

  -- a block that is there, by its hash
  pub verdict-Block : (block : List ℕ) → (if bytes_eq (digest_by function block) (digest_of c) then (if is_no_data c block then Malformed else Sound) else Damaged) ≡ verdict_with c (Some block)
  verdict-Block block = on (has_codec c) (hash_function_of (parts_of c)) function needed where
    on : (codec : Bool) (f : Option HashFunction) (g : HashFunction) → Block g ≡ (if codec then needed_by f else Nothing Codec)
        → (if bytes_eq (digest_by g block) (digest_of c) then (if is_no_data c block then Malformed else Sound) else Damaged) ≡ (if codec then verdict_by f c (Some block) else Codec)
    on false f g e = absurd cc
    on true None g e = absurd cc
    on true (Some Identity) g e = absurd cc
    on true (Some Sha2_256) Sha2_256 e = refl
    on true (Some Sha2_256) Identity e = absurd cc
    on true (Some Sha2_256) Sha2_512 e = absurd cc
    on true (Some Sha2_512) Sha2_512 e = refl
    on true (Some Sha2_512) Identity e = absurd cc
    on true (Some Sha2_512) Sha2_256 e = absurd cc
