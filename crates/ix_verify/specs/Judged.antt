-- What is found of a section by its own bytes.
use Rattle.std.specs.Prelude.{◌≡◌, ℕ, List, Option, Some, None}
use Rattle.ix_cid.specs.Cid.{parts_of, hash_function_of}
use Rattle.ix_cid.specs.declared.hash_function.HashFunction.{HashFunction}
use Rattle.ix_verdict.specs.Verdict.{digest_by, verdict_on}
use Rattle.ix_verdict.specs.declared.verdict.Verdict.{Verdict}
use Rattle.ix_verdict.specs.declared.verdict.Verdict.TheVariants.{Hash, Sound}
use Rattle.ix_store.specs.Store.{Blocks, block_of}
use Rattle.ix_car.specs.declared.sink.Delivery.{Delivery}
use Rattle.ix_sections.specs.declared.reader.sections.Section.{Section}

-- the verdict on a block that stands with its CID, by the hash function that the CID names
abbrev pub verdict_by_hash : Option HashFunction → List ℕ → List ℕ → Verdict
verdict_by_hash None c block = Hash
verdict_by_hash (Some function) c block = verdict_on (digest_by function) c block

-- the verdict on a CID and the block that stands with it, whatever the codec: by its hash, and DAG-CBOR must decode
abbrev pub section_verdict : List ℕ → List ℕ → Verdict
section_verdict c block = verdict_by_hash (hash_function_of (parts_of c)) c block

-- the CID and the block of a section
abbrev pub section_pair : Section → List ℕ × List ℕ
section_pair s = (s.cid, s.block.now)

abbrev pub verdict_in : Section → Verdict
verdict_in s = section_verdict s.cid s.block.now

-- the section of a delivery, a CID and the store's block, is sound
abbrev pub IsSoundSection : Blocks → Delivery → Type 0
IsSoundSection store d = (block : List ℕ) → block_of store d.visit.cid ≡ Some block → section_verdict d.visit.cid block ≡ Sound
