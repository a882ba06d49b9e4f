-- The multibase table: the prefix of each base, and its digits.
use Rattle.std.specs.Prelude.{ℕ, ◌+◌, Bool, ◌||◌, List, [], ◌∷◌, ◌==◌, if◌then◌else◌, codes, Option, Some, None, Result, Ok, Err}
use Rattle.std.specs.List.{position}
use Rattle.std.specs.Char.{to_ascii_lowercase}
pub use Rattle.ix_cid.specs.Results.{◌>>=◌}
use Rattle.ix_cid_text.specs.declared.base.Base.{Base}
use Rattle.ix_cid_text.specs.declared.base.Base.TheVariants.{Base16, Base32, Base36, Base58Btc, Base64, Base64Url}
use Rattle.ix_cid_text.specs.declared.fault.CidTextFault.{CidTextFault}
use Rattle.ix_cid_text.specs.declared.fault.CidTextFault.TheVariants.{Digit}

-- a byte is one of two
abbrev either : ℕ → ℕ → ℕ → Bool
either a b x = (x == a) || (x == b)

-- the base of a prefix: `f` or `F`, `b` or `B`, `k` or `K`, `z`, `m`, `u`
abbrev pub base_of : ℕ → Option Base
base_of x =
    if either 102 70 x then Some Base16 else (if either 98 66 x then Some Base32 else (if either 107 75 x then Some Base36 else
    (if x == 122 then Some Base58Btc else (if x == 109 then Some Base64 else (if x == 117 then Some Base64Url else None)))))

-- the digits of a base, from that of 0 on
abbrev pub alphabet : Base → List ℕ
alphabet Base16 = codes "0123456789abcdef"
alphabet Base32 = codes "abcdefghijklmnopqrstuvwxyz234567"
alphabet Base36 = codes "0123456789abcdefghijklmnopqrstuvwxyz"
alphabet Base58Btc = codes "123456789ABCDEFGHJKLMNPQRSTUVWXYZabcdefghijkmnopqrstuvwxyz"
alphabet Base64 = codes "ABCDEFGHIJKLMNOPQRSTUVWXYZabcdefghijklmnopqrstuvwxyz0123456789+/"
alphabet Base64Url = codes "ABCDEFGHIJKLMNOPQRSTUVWXYZabcdefghijklmnopqrstuvwxyz0123456789-_"

-- how many digits a base has
abbrev pub radix : Base → ℕ
radix Base16 = 16
radix Base32 = 32
radix Base36 = 36
radix Base58Btc = 58
radix Base64 = 64
radix Base64Url = 64

-- in these bases a digit is the same in upper case
abbrev pub folded : Base → ℕ → ℕ
folded Base16 x = to_ascii_lowercase x
folded Base32 x = to_ascii_lowercase x
folded Base36 x = to_ascii_lowercase x
folded Base58Btc x = x
folded Base64 x = x
folded Base64Url x = x

-- the number of a digit: its place in the alphabet
abbrev pub digit_value : Base → ℕ → Option ℕ
digit_value base x = position (λ digit. digit == folded base x) (alphabet base)

-- a digit that is read, or that the base has none at this place
abbrev pub digit_at : Base → ℕ → Option ℕ → Result ℕ CidTextFault
digit_at base place (Some d) = Ok d
digit_at base place None = Err (Digit base place)

-- the numbers of the digits of a text that is at this place, or its first character that is no digit
abbrev pub digits_from : Base → ℕ → List ℕ → Result (List ℕ) CidTextFault
digits_from base place [] = Ok []
digits_from base place (x ∷ xs) = digit_at base place (digit_value base x) >>= (λ d. digits_from base (place + 1) xs >>= (λ ds. Ok (d ∷ ds)))
