-- The bytes of digits: in their bits (RFC 4648), or as a number (multibase).
use Rattle.std.specs.Prelude.{◌≡◌, ◌⊎◌, ℕ, zero, suc, ◌+◌, ◌*◌, ◌/◌, ◌%◌, ◌^◌, ◌≤◌, ◌&&◌, List, [], ◌∷◌, ◌++◌, length, nat_lt, ◌==◌, if◌then◌else◌, Result, Ok, Err}
use Rattle.ix_cid.specs.CidText.{number_in, digits_in}
use Rattle.ix_cid_text.specs.declared.base.Base.{Base}
use Rattle.ix_cid_text.specs.declared.fault.CidTextFault.{CidTextFault}
use Rattle.ix_cid_text.specs.declared.fault.CidTextFault.TheVariants.{Bits}

-- how many bits are left over after the last whole byte of digits of this width
abbrev pub left_over : ℕ → List ℕ → ℕ
left_over width digits = width * length digits % 8

-- the bits of digits of this width, as one number
abbrev pub bits_of : ℕ → List ℕ → ℕ
bits_of width digits = number_in (2 ^ width) 0 digits

-- The bytes in the bits of digits: the whole bytes. What is left over are fewer bits than a digit has, and they are 0.
abbrev pub bytes_of_bits : Base → ℕ → List ℕ → Result (List ℕ) CidTextFault
bytes_of_bits base width digits =
    if nat_lt (left_over width digits) width && (bits_of width digits % 2 ^ left_over width digits == 0)
    then Ok (digits_in 256 (width * length digits / 8) (bits_of width digits / 2 ^ left_over width digits)) else Err (Bits base)

-- the zeros at the front
abbrev pub zeros_of : List ℕ → List ℕ
zeros_of [] = []
zeros_of (d ∷ ds) = if d == 0 then 0 ∷ zeros_of ds else []

-- the bytes of a number without a zero in front, if it has at most so many
abbrev pub shortest : ℕ → ℕ → List ℕ
shortest zero n = []
shortest (suc most) n = if n == 0 then [] else shortest most (n / 256) ++ (n % 256) ∷ []

-- The bytes of digits in a base: a zero byte for each zero in front, and then those of their number, which are no more than the digits.
abbrev pub bytes_of_number : ℕ → List ℕ → List ℕ
bytes_of_number base digits = zeros_of digits ++ shortest (length digits) (number_in base 0 digits)

-- ---- in the program

-- the number that bytes spell, the lowest first
abbrev pub low_value : List ℕ → ℕ
low_value [] = 0
low_value (b ∷ bs) = b + 256 * low_value bs

-- the last byte, which is the highest, isn't 0
abbrev pub IsShort : List ℕ → Type 0
IsShort bytes = (bytes ≡ []) ⊎ (256 ^ length bytes ≤ 256 * low_value bytes)
