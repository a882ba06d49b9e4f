-- The texts of a CID (multiformats CID and multibase).
use Rattle.std.specs.Prelude.{ℕ, Bool, true, false, ◌&&◌, List, [], ◌∷◌, length, drop, nat_lt, nat_eq, ◌==◌, if◌then◌else◌, codes, Option, Some, None, Result, Ok, Err}
use Rattle.std.specs.List.{starts_with}
use Rattle.ix_cid.specs.Cid.{cid_at, version_of}
use Rattle.ix_cid.specs.declared.fault.CidFault.{CidFault}
use Rattle.ix_cid.specs.declared.fault.CidFault.TheVariants as faults
use Rattle.ix_cid_text.specs.declared.base.Base.{Base}
use Rattle.ix_cid_text.specs.declared.base.Base.TheVariants.{Base16, Base32, Base36, Base58Btc, Base64, Base64Url}
use Rattle.ix_cid_text.specs.declared.fault.CidTextFault.{CidTextFault}
use Rattle.ix_cid_text.specs.declared.fault.CidTextFault.TheVariants.{Multibase, TooManyDigits, Cid}
pub use Rattle.ix_cid_text.specs.Base.{◌>>=◌}
use Rattle.ix_cid_text.specs.Base.{base_of, digits_from}
use Rattle.ix_cid_text.specs.Bytes.{bytes_of_bits, bytes_of_number}

-- the bytes of digits in a base
abbrev pub bytes_of : Base → List ℕ → Result (List ℕ) CidTextFault
bytes_of Base16 digits = bytes_of_bits Base16 4 digits
bytes_of Base32 digits = bytes_of_bits Base32 5 digits
bytes_of Base36 digits = Ok (bytes_of_number 36 digits)
bytes_of Base58Btc digits = Ok (bytes_of_number 58 digits)
bytes_of Base64 digits = bytes_of_bits Base64 6 digits
bytes_of Base64Url digits = bytes_of_bits Base64Url 6 digits

-- a base whose digits are those of one number, and not of bits
abbrev pub is_number_base : Base → Bool
is_number_base Base16 = false
is_number_base Base32 = false
is_number_base Base36 = true
is_number_base Base58Btc = true
is_number_base Base64 = false
is_number_base Base64Url = false

-- the bytes of a text in a base, which is at this place, or why it has none: as a number it has at most 1024 digits
abbrev pub bytes_in : Base → ℕ → List ℕ → Result (List ℕ) CidTextFault
bytes_in base place text =
    if is_number_base base && nat_lt 1024 (length text) then Err (TooManyDigits base) else digits_from base place text >>= bytes_of base

-- the same, with its error as that of a text
abbrev pub as_text : {A : Type 0} → Result A CidFault → Result A CidTextFault
as_text (Ok x) = Ok x
as_text (Err fault) = Err (Cid fault)

-- The number that the bytes of a CID begin with: a CIDv0 has no version in its bytes, and begins with 18.
abbrev pub first_number : List ℕ → ℕ
first_number c = if version_of c == 0 then 18 else 1

-- a CID of so many bytes, if it has this version and so many are all
abbrev pub of_version : ℕ → ℕ → List ℕ × ℕ → Result (List ℕ) CidTextFault
of_version version size read =
    if version_of read.0 == version then (if nat_lt read.1 size then Err (Cid faults.Rest) else Ok read.0)
    else Err (Cid (faults.Version (first_number read.0)))

-- the CID that bytes are, if it has this version
abbrev pub whole : ℕ → List ℕ → Result (List ℕ) CidTextFault
whole version bytes = as_text (cid_at bytes) >>= of_version version (length bytes)

-- the CID of a version whose text, in a base, is at this place
abbrev pub cid_of_digits : Base → ℕ → ℕ → List ℕ → Result (List ℕ) CidTextFault
cid_of_digits base place version text = bytes_in base place text >>= whole version

-- the CIDv1 in the base of a multibase prefix
abbrev pub cid_in_base : Option Base → List ℕ → Result (List ℕ) CidTextFault
cid_in_base None digits = Err Multibase
cid_in_base (Some base) digits = cid_of_digits base 1 1 digits

-- the CIDv1 of a multibase text
abbrev pub cid_of_multibase : List ℕ → Result (List ℕ) CidTextFault
cid_of_multibase [] = Err Multibase
cid_of_multibase (prefix ∷ digits) = cid_in_base (base_of prefix) digits

-- a text is as that of a CIDv0 usually is: 46 digits of base58btc for its 34 bytes, which begin with 12 20
abbrev pub is_usual : List ℕ → Bool
is_usual text = (length text == 46) && starts_with nat_eq text (codes "Qm")

-- The CID of a text: a CIDv0 as `v0-` and hex, or as 46 digits of base58btc that begin with `Qm`; and a CIDv1 in multibase.
abbrev pub cid_of_text : List ℕ → Result (List ℕ) CidTextFault
cid_of_text text =
    if starts_with nat_eq text (codes "v0-") then cid_of_digits Base16 3 0 (drop 3 text)
    else (if is_usual text then cid_of_digits Base58Btc 0 0 text
    else cid_of_multibase text)
