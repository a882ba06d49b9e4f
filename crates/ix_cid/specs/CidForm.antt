-- The table of CIDs (multiformats CID): which parts a CID has, and how they are spelled.
use Rattle.std.specs.Prelude.{◌≡◌, ◌⊎◌, ℕ, ◌^◌, ◌<◌, List, ◌∷◌, ◌++◌, length, ◌==◌, if◌then◌else◌}
use Rattle.ix_cid.specs.Varint.{varint_of}
use Rattle.ix_cid.specs.Cid.{Parts}

-- a CIDv0: dag-pb under sha2-256 with its 32 bytes
pub record IsVersion0 (p : Parts) : Type 0 where
  pub version : p.version ≡ 0
  pub codec : p.codec ≡ 0x70
  pub hash_code : p.hash_code ≡ 0x12
  pub size : length p.digest ≡ 32

-- a CIDv1: any codec, hash code and digest length that a varint spells
pub record IsVersion1 (p : Parts) : Type 0 where
  pub version : p.version ≡ 1
  pub codec : p.codec < 2 ^ 63
  pub hash_code : p.hash_code < 2 ^ 63
  pub size : length p.digest < 2 ^ 63

-- A CIDv0 is `12 20` and the digest. Any other is the version, the codec, the hash code and the length of the digest as varints, and then the digest.
abbrev pub parts_spelling : Parts → List ℕ
parts_spelling p =
    if p.version == 0 then 0x12 ∷ 0x20 ∷ p.digest
    else varint_of p.version ++ (varint_of p.codec ++ (varint_of p.hash_code ++ (varint_of (length p.digest) ++ p.digest)))

-- the bytes are the CID with these parts
pub record IsCidOf (c : List ℕ) (p : Parts) : Type 0 where
  pub form : IsVersion0 p ⊎ IsVersion1 p
  pub spelled : c ≡ parts_spelling p
