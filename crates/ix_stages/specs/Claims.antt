-- What contracts see of claims and of their seats.
use Rattle.std.specs.Prelude.{◌≡◌, ◌≤◌, ℕ, ◌+◌, ◌==◌, nat_lt, Bool, true, false, cond, ◌||◌, List, [], ◌∷◌, ◌++◌, slice_get, Some}
use Rattle.atomic_table.specs.Seated.{TableId}

-- the ticket counter: which one it is, its values, and how many seats there are
pub record ClaimsMeaning (T : Type 0) : Type 0 where
  pub table : TableId
  pub values : List T
  pub seats : ℕ

-- a seat: of which counter, the positions claimed through it, and whether it was answered that all are claimed
pub record SeatMeaning (T : Type 0) : Type 0 where
  pub of : ClaimsMeaning T
  pub places : List ℕ
  pub ended : Bool

-- how often x occurs in the list
abbrev pub times : ℕ → List ℕ → ℕ
times x [] = 0
times x (y ∷ ys) = cond (y == x) 1 0 + times x ys

-- 1 if x is below n, and else 0
abbrev pub once_below : ℕ → ℕ → ℕ
once_below x n = cond (nat_lt x n) 1 0

-- no number occurs twice in the list, and each is below n
abbrev pub EachAtMostOnceBelow : ℕ → List ℕ → Type 0
EachAtMostOnceBelow n places = (place : ℕ) → times place places ≤ once_below place n

-- the numbers below n occur once each in the list, and no other does
abbrev pub EachOnceBelow : ℕ → List ℕ → Type 0
EachOnceBelow n places = (place : ℕ) → times place places ≡ once_below place n

module _ {T : Type 0} where
  -- the seat is one of this counter
  abbrev pub IsOfClaims : ClaimsMeaning T → SeatMeaning T → Type 0
  IsOfClaims c s = s.of ≡ c

  -- a seat of this counter that has claimed nothing
  abbrev pub new_seat : ClaimsMeaning T → SeatMeaning T
  new_seat c = record { of = c; places = []; ended = false }

  -- the seat after it has claimed one more position
  abbrev pub with_place : SeatMeaning T → ℕ → SeatMeaning T
  with_place s place = record { of = s.of; places = s.places ++ place ∷ []; ended = s.ended }

  -- the seat has claimed a value, with its position
  abbrev pub HasClaimed : ClaimsMeaning T → SeatMeaning T → ℕ → T → SeatMeaning T → Type 0
  HasClaimed c old place value new = (slice_get c.values place ≡ Some value) × (old.ended ≡ false) × (new ≡ with_place old place)

  -- the seat after it was answered that all are claimed
  abbrev pub at_end : SeatMeaning T → SeatMeaning T
  at_end s = record { of = s.of; places = s.places; ended = true }

  -- the positions that were claimed through any of the seats
  abbrev pub all_places : List (SeatMeaning T) → List ℕ
  all_places [] = []
  all_places (s ∷ ss) = s.places ++ all_places ss

  -- whether one of the seats was answered that all are claimed
  abbrev pub some_ended : List (SeatMeaning T) → Bool
  some_ended [] = false
  some_ended (s ∷ ss) = s.ended || some_ended ss
