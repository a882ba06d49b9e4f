-- The verdict on a CID and its bytes, the first that holds.
use Rattle.std.specs.Prelude.{ℕ, Bool, true, false, ◌&&◌, ◌||◌, List, ◌==◌, if◌then◌else◌, bytes_eq, Option, Some, None, is_none}
use Rattle.sha2.specs.Sha256.{sha256}
use Rattle.sha2.specs.Sha512.{sha512}
use Rattle.ix_cid.specs.Cid.{parts_of, codec_of, digest_of, hash_function_of}
use Rattle.ix_cid.specs.declared.hash_function.HashFunction.{HashFunction}
use Rattle.ix_cid.specs.declared.hash_function.HashFunction.TheVariants.{Identity, Sha2_256, Sha2_512}
use Rattle.ix_cbor.specs.Reading.{data_at}
use Rattle.ix_verdict.specs.declared.verdict.Verdict.{Verdict}
use Rattle.ix_verdict.specs.declared.verdict.Verdict.TheVariants.{Codec, Hash, Missing, Damaged, Malformed, Sound, Inline}

-- the digest of a block by a hash function
abbrev pub digest_by : HashFunction → List ℕ → List ℕ
digest_by Identity block = block
digest_by Sha2_256 block = sha256 block
digest_by Sha2_512 block = sha512 block

-- DAG-CBOR by the CID's codec, and not valid
abbrev pub is_no_data : List ℕ → List ℕ → Bool
is_no_data c bytes = (codec_of c == 0x71) && is_none (data_at bytes)

-- the verdict on a block that is there, by the hash function that its CID names
abbrev pub verdict_on : (List ℕ → List ℕ) → List ℕ → List ℕ → Verdict
verdict_on hash c block = if bytes_eq (hash block) (digest_of c) then (if is_no_data c block then Malformed else Sound) else Damaged

-- the same, with a block or none
abbrev pub verdict_under : (List ℕ → List ℕ) → List ℕ → Option (List ℕ) → Verdict
verdict_under hash c None = Missing
verdict_under hash c (Some block) = verdict_on hash c block

-- the verdict on a CID by its hash function, with its block or none
abbrev pub verdict_by : Option HashFunction → List ℕ → Option (List ℕ) → Verdict
verdict_by None c block = Hash
verdict_by (Some Identity) c block = if is_no_data c (digest_of c) then Malformed else Inline
verdict_by (Some Sha2_256) c block = verdict_under sha256 c block
verdict_by (Some Sha2_512) c block = verdict_under sha512 c block

-- raw or DAG-CBOR
abbrev pub is_codec : ℕ → Bool
is_codec codec = (codec == 0x55) || (codec == 0x71)

-- the CID's codec is raw or DAG-CBOR
abbrev pub has_codec : List ℕ → Bool
has_codec c = is_codec (codec_of c)

-- the verdict on a CID, with its block or none
abbrev pub verdict_with : List ℕ → Option (List ℕ) → Verdict
verdict_with c block = if has_codec c then verdict_by (hash_function_of (parts_of c)) c block else Codec

-- whether a traversal continues below a CID with this verdict
abbrev pub passes : Verdict → Bool
passes Codec = false
passes Hash = false
passes Missing = false
passes Damaged = false
passes Malformed = false
passes Sound = true
passes Inline = true

-- whether there is a block, and its bytes are what its CID says
abbrev pub is_sound : Verdict → Bool
is_sound Codec = false
is_sound Hash = false
is_sound Missing = false
is_sound Damaged = false
is_sound Malformed = false
is_sound Sound = true
is_sound Inline = false

-- whether the block isn't there
abbrev pub is_missing : Verdict → Bool
is_missing Codec = false
is_missing Hash = false
is_missing Missing = true
is_missing Damaged = false
is_missing Malformed = false
is_missing Sound = false
is_missing Inline = false
