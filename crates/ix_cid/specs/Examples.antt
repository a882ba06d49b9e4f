-- Examples, computed.
use Rattle.std.specs.Prelude.{◌≡◌, ℕ, ◌-◌, ◌^◌, List, [], ◌∷◌, ◌++◌, Some, None, Ok, Err, refl, codes, replicate}
use Rattle.ix_cid.specs.Varint.{varint_at, varint_of}
use Rattle.ix_cid.specs.Cid.{Parts, cid_at, parts_of, version_of, codec_of, hash_code_of, digest_of, hash_function_of}
use Rattle.ix_cid.specs.CidText.{base32_of, text_of, cid_of_text}
use Rattle.ix_cid.specs.declared.fault.VarintFault.TheVariants as varints
use Rattle.ix_cid.specs.declared.fault.CidFault.TheVariants.{Truncated, Varint, Version, Multibase, Base32, Rest}
use Rattle.ix_cid.specs.declared.hash_function.HashFunction.TheVariants.{Identity, Sha2_256, Sha2_512}

pub not_minimal : varint_at (129 ∷ 0 ∷ []) ≡ Err varints.NotMinimal
not_minimal = refl

pub three_hundred : varint_at (172 ∷ 2 ∷ 7 ∷ []) ≡ Ok (300, 2)
three_hundred = refl

pub nine_high : varint_at (replicate 9 255) ≡ Err varints.TooLong
nine_high = refl

pub spelled : varint_of 300 ≡ 172 ∷ 2 ∷ []
spelled = refl

pub other_version : cid_at (2 ∷ []) ≡ Err (Version 2)
other_version = refl

pub short : cid_at (1 ∷ 0x55 ∷ 0x12 ∷ []) ≡ Err Truncated
short = refl

pub not_shortest : cid_at (129 ∷ 0 ∷ []) ≡ Err Varint
not_shortest = refl

pub version_18 : cid_at (18 ∷ []) ≡ Err (Version 18)
version_18 = refl

pub identity : cid_of_text (codes "bafkqaaa") ≡ Ok (1 ∷ 0x55 ∷ 0 ∷ 0 ∷ [])
identity = refl

pub bits_left : cid_of_text (codes "bafkqaab") ≡ Err Base32
bits_left = refl

pub more_bytes : cid_of_text (codes "bafkqaaaa") ≡ Err Rest
more_bytes = refl

pub other_base : cid_of_text (codes "zabc") ≡ Err Multibase
other_base = refl

pub one_letter : cid_of_text (codes "ba") ≡ Err Base32
one_letter = refl

pub two_letters : cid_of_text (codes "bae") ≡ Err Truncated
two_letters = refl

pub printed : text_of (1 ∷ 0x55 ∷ 0 ∷ 0 ∷ []) ≡ codes "bafkqaaa"
printed = refl

pub no_varint : varint_at [] ≡ Err varints.Truncated
no_varint = refl

pub cut_varint : varint_at (128 ∷ []) ≡ Err varints.Truncated
cut_varint = refl

pub zero_alone : varint_at (0 ∷ []) ≡ Ok (0, 1)
zero_alone = refl

pub last_of_one_byte : varint_of 127 ≡ 127 ∷ []
last_of_one_byte = refl

pub first_of_two_bytes : varint_of 128 ≡ 128 ∷ 1 ∷ []
first_of_two_bytes = refl

pub first_of_three_bytes : varint_of 16384 ≡ 128 ∷ 128 ∷ 1 ∷ []
first_of_three_bytes = refl

pub greatest : varint_of (2 ^ 63 - 1) ≡ replicate 8 255 ++ 127 ∷ []
greatest = refl

pub greatest_read : varint_at (replicate 8 255 ++ 127 ∷ []) ≡ Ok (2 ^ 63 - 1, 9)
greatest_read = refl

pub nine_not_minimal : varint_at (replicate 8 128 ++ 0 ∷ []) ≡ Err varints.NotMinimal
nine_not_minimal = refl

pub no_bytes : cid_at [] ≡ Err Truncated
no_bytes = refl

pub version_0_numbered : cid_at (0 ∷ []) ≡ Err (Version 0)
version_0_numbered = refl

pub too_long_codec : cid_at (1 ∷ replicate 9 255) ≡ Err Varint
too_long_codec = refl

pub short_version_0 : cid_at (0x12 ∷ 0x20 ∷ replicate 31 7) ≡ Err Truncated
short_version_0 = refl

pub version_0_and_more : cid_at (0x12 ∷ 0x20 ∷ replicate 33 7) ≡ Ok (0x12 ∷ 0x20 ∷ replicate 32 7, 34)
version_0_and_more = refl

pub version_1_and_more : cid_at (1 ∷ 0x71 ∷ 0x12 ∷ 2 ∷ 7 ∷ 8 ∷ 9 ∷ []) ≡ Ok (1 ∷ 0x71 ∷ 0x12 ∷ 2 ∷ 7 ∷ 8 ∷ [], 6)
version_1_and_more = refl

pub parts_of_version_0 :
    let c : List ℕ = 0x12 ∷ 0x20 ∷ replicate 32 7 in
    (version_of c ≡ 0) × (codec_of c ≡ 0x70) × (hash_code_of c ≡ 0x12) × (digest_of c ≡ replicate 32 7)
parts_of_version_0 = (refl, refl, refl, refl)

pub parts_of_version_1 :
    let c : List ℕ = 1 ∷ 0x71 ∷ 0x12 ∷ 2 ∷ 7 ∷ 8 ∷ [] in
    (version_of c ≡ 1) × (codec_of c ≡ 0x71) × (hash_code_of c ≡ 0x12) × (digest_of c ≡ 7 ∷ 8 ∷ [])
parts_of_version_1 = (refl, refl, refl, refl)

-- a digest of so many bytes under a hash code
abbrev under : ℕ → ℕ → Parts
under hash_code size = record { version = 1; codec = 0x71; hash_code = hash_code; digest = replicate size 7 }

pub sha2_256_of_32_bytes : hash_function_of (under 0x12 32) ≡ Some Sha2_256
sha2_256_of_32_bytes = refl

pub sha2_256_of_31_bytes : hash_function_of (under 0x12 31) ≡ None
sha2_256_of_31_bytes = refl

pub sha2_512_of_64_bytes : hash_function_of (under 0x13 64) ≡ Some Sha2_512
sha2_512_of_64_bytes = refl

pub sha2_512_of_32_bytes : hash_function_of (under 0x13 32) ≡ None
sha2_512_of_32_bytes = refl

pub identity_of_no_bytes : hash_function_of (under 0x00 0) ≡ Some Identity
identity_of_no_bytes = refl

pub identity_of_40_bytes : hash_function_of (under 0x00 40) ≡ Some Identity
identity_of_40_bytes = refl

pub blake2b_256 : hash_function_of (under 0xb220 32) ≡ None
blake2b_256 = refl

pub hash_function_of_version_0 : hash_function_of (parts_of (0x12 ∷ 0x20 ∷ replicate 32 7)) ≡ Some Sha2_256
hash_function_of_version_0 = refl

pub hash_function_of_a_raw_identity : hash_function_of (parts_of (1 ∷ 0x55 ∷ 0 ∷ 2 ∷ 7 ∷ 8 ∷ [])) ≡ Some Identity
hash_function_of_a_raw_identity = refl

-- the CID of the empty block, raw under sha2-256
abbrev empty_block : List ℕ
empty_block = 1 ∷ 0x55 ∷ 0x12 ∷ 0x20 ∷ 227 ∷ 176 ∷ 196 ∷ 66 ∷ 152 ∷ 252 ∷ 28 ∷ 20 ∷ 154 ∷ 251 ∷ 244 ∷ 200 ∷ 153 ∷ 111 ∷ 185 ∷ 36 ∷ 39 ∷ 174 ∷ 65 ∷ 228 ∷ 100 ∷ 155 ∷ 147 ∷ 76 ∷ 164 ∷ 149 ∷ 153 ∷ 27 ∷ 120 ∷ 82 ∷ 184 ∷ 85 ∷ []

pub empty_block_printed : text_of empty_block ≡ codes "bafkreihdwdcefgh4dqkjv67uzcmw7ojee6xedzdetojuzjevtenxquvyku"
empty_block_printed = refl

pub empty_block_read : cid_of_text (codes "bafkreihdwdcefgh4dqkjv67uzcmw7ojee6xedzdetojuzjevtenxquvyku") ≡ Ok empty_block
empty_block_read = refl

-- the examples of RFC 4648, in lower case and without padding
pub base32_0 : base32_of [] ≡ []
base32_0 = refl

pub base32_1 : base32_of (codes "f") ≡ codes "my"
base32_1 = refl

pub base32_2 : base32_of (codes "fo") ≡ codes "mzxq"
base32_2 = refl

pub base32_3 : base32_of (codes "foo") ≡ codes "mzxw6"
base32_3 = refl

pub base32_4 : base32_of (codes "foob") ≡ codes "mzxw6yq"
base32_4 = refl

pub base32_5 : base32_of (codes "fooba") ≡ codes "mzxw6ytb"
base32_5 = refl

pub base32_6 : base32_of (codes "foobar") ≡ codes "mzxw6ytboi"
base32_6 = refl
