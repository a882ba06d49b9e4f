-- What is asked of a pair of a CID and a block, and what a cached word says of it.
use Rattle.std.specs.Prelude.{◌≡◌, ◌⊎◌, ℕ, ◌/◌, ◌%◌, Bool, false, cond, List, Option, Some, None, slice_get, slice_index, bytes_eq, is_none}
use Rattle.ix_cid.specs.Cid.{parts_of, digest_of, hash_function_of}
use Rattle.ix_cid.specs.Parts.{parts_view}
use Rattle.ix_cid.specs.declared.parts.Parts.{Parts}
use Rattle.ix_cid.specs.declared.hash_function.HashFunction.{HashFunction}
use Rattle.ix_cbor.specs.Reading.{data_at}
use Rattle.ix_verdict.specs.Verdict.{digest_by}
use Rattle.ix_store.specs.Store.{Blocks}

-- a digest is that of a block by this hash function, if it is known
abbrev pub hash_matches_by : Option HashFunction → List ℕ → List ℕ → Bool
hash_matches_by None digest block = false
hash_matches_by (Some function) digest block = bytes_eq (digest_by function block) digest

-- the digest in the parts of a CID is that of a block
abbrev pub has_digest_of : Parts → List ℕ → Bool
has_digest_of parts block = hash_matches_by (hash_function_of (parts_view parts)) parts.digest.now block

-- the digest of a CID is that of its block
abbrev pub hash_matches : List ℕ × List ℕ → Bool
hash_matches p = hash_matches_by (hash_function_of (parts_of p.0)) (digest_of p.0) p.1

-- a block isn't valid DAG-CBOR
abbrev pub is_malformed : List ℕ × List ℕ → Bool
is_malformed p = is_none (data_at p.1)

-- a digit of a word: 0 is unknown, 1 is yes, 2 is no
abbrev pub Tells : ℕ → Bool → Type 0
Tells digit answer = (digit ≡ 0) ⊎ (digit ≡ cond answer 1 2)

-- to the base 4, the low digit says whether the digest matches, the high one whether the block isn't valid
pub record IsTrueWord (word : ℕ) (p : List ℕ × List ℕ) : Type 0 where
  pub hash_matches_told : Tells (word % 4) (hash_matches p)
  pub is_malformed_told : Tells (word / 4) (is_malformed p)

-- the word of the block at a position is true, if there is one
abbrev pub IsTrueAt : Blocks → ℕ → ℕ → Type 0
IsTrueAt pairs place word = (p : List ℕ × List ℕ) → slice_get pairs place ≡ Some p → IsTrueWord word p

-- every word is true of the block at its position
abbrev pub AllTrue : Blocks → List ℕ → Type 0
AllTrue pairs words = (place : ℕ) → IsTrueAt pairs place (slice_index words place)
