-- The words for the errors of texts, and for bases.
use Rattle.std.specs.Prelude.{ℕ, List, ◌++◌, codes, ◌==◌, if◌then◌else◌}
use Rattle.std.specs.Fmt.{decimal}
use Rattle.ix_cid.specs.declared.fault.CidFault.{CidFault}
use Rattle.ix_cid.specs.declared.fault.CidFault.TheVariants as faults
use Rattle.ix_cid_text.specs.declared.base.Base.{Base}
use Rattle.ix_cid_text.specs.declared.base.Base.TheVariants.{Base16, Base32, Base36, Base58Btc, Base64, Base64Url}
use Rattle.ix_cid_text.specs.declared.fault.CidTextFault.{CidTextFault}
use Rattle.ix_cid_text.specs.declared.fault.CidTextFault.TheVariants.{Multibase, TooManyDigits, Digit, Bits, Cid, Memory}

-- the word for a base
abbrev pub base_word : Base → List ℕ
base_word Base16 = codes "base16"
base_word Base32 = codes "base32"
base_word Base36 = codes "base36"
base_word Base58Btc = codes "base58btc"
base_word Base64 = codes "base64"
base_word Base64Url = codes "base64url"

-- the words for the error of a CID's bytes
abbrev pub cid_words : CidFault → List ℕ
cid_words faults.Truncated = codes "a CID that ends early"
cid_words faults.Varint = codes "a CID with a number that isn't in its shortest form"
cid_words (faults.Version n) = if n == 18 then codes "a CIDv0 after a multibase prefix, of which it has none" else codes "a CID of another version than its text is of"
cid_words faults.Rest = codes "a CID with more after it"
cid_words faults.Multibase = codes "no CID"
cid_words faults.Base32 = codes "no CID"
cid_words faults.Memory = codes "no CID"

-- the words for an error, in ASCII
abbrev pub fault_words : CidTextFault → List ℕ
fault_words Multibase = codes "neither a multibase prefix nor the 46 characters of a CIDv0"
fault_words (TooManyDigits base) = codes "more than 1024 digits of " ++ (base_word base ++ codes ": give it in base32")
fault_words (Digit base place) = codes "no digit of " ++ (base_word base ++ (codes " at byte " ++ decimal place))
fault_words (Bits base) = codes "a digit of " ++ (base_word base ++ codes " too many, or another one at its end")
fault_words (Cid fault) = cid_words fault
fault_words Memory = codes "out of memory"
