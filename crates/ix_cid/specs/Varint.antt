-- Unsigned varints (multiformats unsigned-varint): base 128, least significant group first, at most nine bytes, no longer form.
use Rattle.std.specs.Prelude.{ℕ, zero, suc, ◌+◌, ◌*◌, ◌%◌, ◌/◌, List, [], ◌∷◌, length, take, nat_le, nat_lt, ◌==◌, ◌&&◌, if◌then◌else◌, slice_index, Result, Ok, Err, ◌<◌, ◌≤◌}
use Rattle.ix_cid.specs.declared.fault.VarintFault.{VarintFault}
use Rattle.ix_cid.specs.declared.fault.VarintFault.TheVariants.{Truncated, TooLong, NotMinimal}

-- the number that groups of seven bits spell, the lowest first
abbrev pub number_of_groups : List ℕ → ℕ
number_of_groups [] = 0
number_of_groups (b ∷ bs) = b % 128 + 128 * number_of_groups bs

-- how many bytes at the front have the high bit
abbrev pub continued : List ℕ → ℕ
continued [] = 0
continued (b ∷ bs) = if nat_le 128 b then continued bs + 1 else 0

-- the varint whose last byte is the byte k
abbrev pub varint_ending : List ℕ → ℕ → Result (ℕ × ℕ) VarintFault
varint_ending bytes k =
    if (slice_index bytes k == 0) && nat_lt 0 k then Err NotMinimal
    else Ok (number_of_groups (take (k + 1) bytes), k + 1)

-- the number at the front and its length, or why there is none
abbrev pub varint_at : List ℕ → Result (ℕ × ℕ) VarintFault
varint_at bytes =
    if nat_le 9 (continued bytes) then Err TooLong
    else (if continued bytes == length bytes then Err Truncated else varint_ending bytes (continued bytes))

-- The spelling of a number in exactly n groups more than one.
abbrev pub groups_of : ℕ → ℕ → List ℕ
groups_of zero n = n ∷ []
groups_of (suc more) n = (if nat_lt n 128 then n ∷ [] else (n % 128 + 128) ∷ groups_of more (n / 128))

-- the one spelling of a number below 2 ^ 63
abbrev pub varint_of : ℕ → List ℕ
varint_of n = groups_of 8 n

-- Seven bits of a number in each byte, the lowest first. The high bit is set where a byte follows, and what follows spells more than 0, so that the last byte isn't `00` unless it is alone.
pub data AreGroups : List ℕ → ℕ → Type 0 where
  last : {b : ℕ} → b < 128 → AreGroups (b ∷ []) b
  more : {b n : ℕ} {bs : List ℕ} → b < 128 → 0 < n → AreGroups bs n → AreGroups ((128 + b) ∷ bs) (b + 128 * n)

-- the bytes are the varint of the number
pub record IsVarint (b : List ℕ) (n : ℕ) : Type 0 where
  pub groups : AreGroups b n
  pub short : length b ≤ 9
