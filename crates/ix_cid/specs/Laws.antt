-- What the laws say of varints, CIDs and their texts.
use Rattle.std.specs.Prelude.{◌≡◌, ◌↔◌, ◌<◌, ◌≤◌, ◌^◌, ℕ, List, [], ◌++◌, length, take, drop, Ok, Err}
use Rattle.ix_cid.specs.Bytes.{AreBytes}
use Rattle.ix_cid.specs.Varint.{varint_at, varint_of, IsVarint}
use Rattle.ix_cid.specs.Cid.{Parts, parts_at, numbered_at, cid_at, IsCid, version_of, codec_of, hash_code_of, digest_of}
use Rattle.ix_cid.specs.CidForm.{IsVersion1, IsCidOf, parts_spelling}
use Rattle.ix_cid.specs.CidText.{base32_of, bytes_of_letters, bytes_of_base32, IsBase32, text_of, cid_of_text}
use Rattle.ix_cid.specs.declared.fault.CidFault.TheVariants.{Base32}

-- each number below 2 ^ 63 has a varint
abbrev pub HasVarint : Type 0
HasVarint = (n : ℕ) → n < 2 ^ 63 → IsVarint (varint_of n) n

-- only these have one, and each has no other
abbrev pub HasNoOtherVarint : Type 0
HasNoOtherVarint = (b : List ℕ) (n : ℕ) → IsVarint b n → (n < 2 ^ 63) × (b ≡ varint_of n)

-- a varint at the front is read, whatever follows it
abbrev pub ReadsVarint : Type 0
ReadsVarint = (b : List ℕ) (n : ℕ) (rest : List ℕ) → IsVarint b n → varint_at (b ++ rest) ≡ Ok (n, length b)

-- if a number is read, its varint is at the front
abbrev pub ReadsOnlyVarints : Type 0
ReadsOnlyVarints = (b : List ℕ) (n k : ℕ) → AreBytes b → varint_at b ≡ Ok (n, k) → (k ≤ length b) × IsVarint (take k b) n

-- of two varints at the front of the same bytes neither is longer
abbrev pub NoVarintBeginsAnother : Type 0
NoVarintBeginsAnother = (a b x y : List ℕ) (m n : ℕ) → IsVarint a m → IsVarint b n → a ++ x ≡ b ++ y → (a ≡ b) × (m ≡ n)

-- a CID at the front is read as its parts, and what follows it remains
abbrev pub ReadsCid : Type 0
ReadsCid = (c : List ℕ) (p : Parts) (rest : List ℕ) → IsCidOf c p → parts_at (c ++ rest) ≡ Ok (p, rest)

-- if parts are read, the bytes are a CID with these parts and then the rest
abbrev pub ReadsOnlyCids : Type 0
ReadsOnlyCids =
    (b : List ℕ) (p : Parts) (rest : List ℕ) → AreBytes b → parts_at b ≡ Ok (p, rest)
    → (c : List ℕ) × IsCidOf c p × (b ≡ c ++ rest)

-- the CID and the length that are read are those of the CID at the front
abbrev pub ReadsFront : Type 0
ReadsFront =
    (b c : List ℕ) (k : ℕ) → AreBytes b
    → (cid_at b ≡ Ok (c, k) ↔ (k ≡ length c) × (b ≡ c ++ drop k b) × ((p : Parts) × IsCidOf c p))

-- bytes are a CID exactly if they are one by the table
abbrev pub IsCidByTable : Type 0
IsCidByTable = (c : List ℕ) → AreBytes c → (IsCid c ↔ ((p : Parts) × IsCidOf c p))

-- no CID begins another
abbrev pub NoCidBeginsAnother : Type 0
NoCidBeginsAnother = (c rest : List ℕ) → AreBytes c → IsCid c → IsCid (c ++ rest) → rest ≡ []

-- a CID has one form
abbrev pub HasOneForm : Type 0
HasOneForm = (c : List ℕ) (p q : Parts) → IsCidOf c p → IsCidOf c q → p ≡ q

-- the parts that are read of a CID are those of its form: the version
abbrev pub HasItsVersion : Type 0
HasItsVersion = (c : List ℕ) (p : Parts) → IsCidOf c p → version_of c ≡ p.version

-- the codec
abbrev pub HasItsCodec : Type 0
HasItsCodec = (c : List ℕ) (p : Parts) → IsCidOf c p → codec_of c ≡ p.codec

-- the hash code
abbrev pub HasItsHashCode : Type 0
HasItsHashCode = (c : List ℕ) (p : Parts) → IsCidOf c p → hash_code_of c ≡ p.hash_code

-- and the digest
abbrev pub HasItsDigest : Type 0
HasItsDigest = (c : List ℕ) (p : Parts) → IsCidOf c p → digest_of c ≡ p.digest

-- a CIDv1 at the front is read after its version as its parts, and what follows it remains
abbrev pub ReadsVersion1 : Type 0
ReadsVersion1 = (p : Parts) (rest : List ℕ) → IsVersion1 p → numbered_at (parts_spelling p ++ rest) ≡ Ok (p, rest)

-- if a version and its parts are read, they are those of a CIDv1 at the front
abbrev pub ReadsOnlyVersion1 : Type 0
ReadsOnlyVersion1 =
    (b : List ℕ) (p : Parts) (rest : List ℕ) → AreBytes b → numbered_at b ≡ Ok (p, rest)
    → IsVersion1 p × (b ≡ parts_spelling p ++ rest)

-- the text of a CIDv1 is read as that CID
abbrev pub ReadsText : Type 0
ReadsText = (c : List ℕ) → AreBytes c → IsCid c → version_of c ≡ 1 → cid_of_text (text_of c) ≡ Ok c

-- if a CID is read, it is a CIDv1 with this text
abbrev pub ReadsOnlyTexts : Type 0
ReadsOnlyTexts = (t c : List ℕ) → cid_of_text t ≡ Ok c → IsCid c × (version_of c ≡ 1) × (t ≡ text_of c)

-- letters are read exactly if they are base32, as their bytes
abbrev pub ReadsBase32 : Type 0
ReadsBase32 = (letters b : List ℕ) → (bytes_of_base32 letters ≡ Ok b ↔ IsBase32 letters × (b ≡ bytes_of_letters letters))

-- and rejected exactly if they aren't
abbrev pub RefusesOtherLetters : Type 0
RefusesOtherLetters = (letters : List ℕ) → (bytes_of_base32 letters ≡ Err Base32 ↔ ¬ IsBase32 letters)

-- letters that are base32 are the base32 of their bytes
abbrev pub IsBase32OfItsBytes : Type 0
IsBase32OfItsBytes = (letters : List ℕ) → IsBase32 letters → base32_of (bytes_of_letters letters) ≡ letters
