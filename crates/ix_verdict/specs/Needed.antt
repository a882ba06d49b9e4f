-- Which bytes the verdict on a CID needs, beside its codec and its hash function.
use Rattle.std.specs.Prelude.{◌≡◌, ℕ, List, Option, Some, None, if◌then◌else◌}
use Rattle.ix_cid.specs.Cid.{Parts, parts_of, hash_function_of}
use Rattle.ix_cid.specs.declared.hash_function.HashFunction.{HashFunction}
use Rattle.ix_cid.specs.declared.hash_function.HashFunction.TheVariants.{Identity, Sha2_256, Sha2_512}
use Rattle.ix_verdict.specs.declared.verdict.Verdict.TheVariants.{Codec, Hash}
use Rattle.ix_verdict.specs.declared.needed.Needed.{Needed}
use Rattle.ix_verdict.specs.declared.needed.Needed.TheVariants.{Nothing, Digest, Block}
use Rattle.ix_verdict.specs.Verdict.{is_codec}

-- by the hash function: the bytes that an identity CID has inline, or a block
abbrev pub needed_by : Option HashFunction → Needed
needed_by None = Nothing Hash
needed_by (Some Identity) = Digest
needed_by (Some Sha2_256) = Block Sha2_256
needed_by (Some Sha2_512) = Block Sha2_512

-- by the parts of a CID: nothing if the codec is neither raw nor DAG-CBOR
abbrev pub needed_of : Parts → Needed
needed_of p = if is_codec p.codec then needed_by (hash_function_of p) else Nothing Codec

-- the verdict on a CID needs a block
abbrev pub NeedsBlock : List ℕ → Type 0
NeedsBlock c = (function : HashFunction) × (Block function ≡ needed_of (parts_of c))
