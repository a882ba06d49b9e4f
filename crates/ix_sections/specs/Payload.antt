-- The part of a file that is a CARv1 file: the whole, or the payload of a CARv2 file.
use Rattle.std.specs.Prelude.{ℕ, ◌+◌, ◌-◌, ◌≤◌, Bool, not, List, [], ◌∷◌, length, take, drop, nat_lt, ◌==◌, if◌then◌else◌, Result, Ok, Err}
use Rattle.std.specs.Int.{w64, from_le_bytes}
use Rattle.std.specs.List.{starts_with}
use Rattle.ix_sections.specs.declared.fault.CarKind.{CarKind}
use Rattle.ix_sections.specs.declared.fault.CarKind.TheVariants.{Truncated, Header}
use Rattle.ix_sections.specs.declared.payload.Payload.{Payload}
use Rattle.ix_sections.specs.Reading.{Fault}

-- what a CARv2 file begins with, and no CARv1 file: a header of version 2
abbrev pub pragma : List ℕ
pragma = 10 ∷ 161 ∷ 103 ∷ 118 ∷ 101 ∷ 114 ∷ 115 ∷ 105 ∷ 111 ∷ 110 ∷ 2 ∷ []

abbrev pub is_carv2 : List ℕ → Bool
is_carv2 b = starts_with (λ x y. x == y) b pragma

-- the number in the eight bytes at an offset, the least significant first
abbrev pub number_at : ℕ → List ℕ → ℕ
number_at n b = from_le_bytes w64 (take 8 (drop n b))

-- an error of the CARv2 header, which is after the pragma
abbrev pub fails_in_header : {A : Type 0} → CarKind → List ℕ → Result A Fault
fails_in_header kind b = Err (record { kind = kind; left = length b - 11 })

-- where the payload begins and ends, by the CARv2 header of 40 bytes after the pragma
abbrev pub payload_in : List ℕ → Result (ℕ × ℕ) Fault
payload_in b =
    if nat_lt (length b) 51 then fails_in_header Truncated b
    else (if nat_lt (number_at 27 b) 51 then fails_in_header Header b
    else (if nat_lt (length b) (number_at 27 b + number_at 35 b) then fails_in_header Truncated b
    else Ok (number_at 27 b, number_at 27 b + number_at 35 b)))

-- where the CARv1 file in a file begins and ends
abbrev pub payload_of : List ℕ → Result (ℕ × ℕ) Fault
payload_of b = if is_carv2 b then payload_in b else Ok (0, length b)

-- whether a CARv2 file has an index
abbrev pub has_index : List ℕ → Bool
has_index b = not (number_at 43 b == 0)

-- a payload lies in these bytes
abbrev pub IsWithin : Payload → List ℕ → Type 0
IsWithin payload b = (payload.start ≤ payload.end) × (payload.end ≤ length b)

-- the bytes up to the end of the payload, and those of the payload
abbrev pub bytes_to : Payload → List ℕ → List ℕ
bytes_to payload b = take payload.end b

abbrev pub bytes_of : Payload → List ℕ → List ℕ
bytes_of payload b = drop payload.start (bytes_to payload b)

-- an offset is of one of these bytes, or of their end
abbrev pub IsOffsetIn : ℕ → List ℕ → Type 0
IsOffsetIn offset b = offset ≤ length b
