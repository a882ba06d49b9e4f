-- What a view knows before seats are cut off it, and once seats were joined into it.
use Rattle.std.specs.Prelude.{◌≡◌, ◌+◌, ◌<◌, ℕ, true, cond, List, [], ◌++◌, length}
use Rattle.atomic_table.specs.Seated.{TableId}
use Rattle.ix_stages.specs.declared.claim_rule.ClaimView.{ClaimView}
use Rattle.ix_stages.specs.ClaimRule.{claimer}
use Rattle.ix_stages.specs.Claims.{ClaimsMeaning, SeatMeaning, new_seat, all_places, some_ended}

-- a seat of this table is one of this counter, which has one word
abbrev pub IsRowOf : TableId → TableId → Type 0
IsRowOf seat row = (seat ≡ row) × (row.words ≡ 1)

module _ {T : Type 0} where
  -- the view has so many seats, which have claimed nothing
  abbrev pub IsMakerOf : ℕ → ClaimView T → Type 0
  IsMakerOf seats v = (v.parts ≡ seats) × (v.places ≡ []) × (v.refusals ≡ 0)

  -- a seat that is split off the view
  abbrev pub seat_dealt : TableId → ClaimView T → SeatMeaning T
  seat_dealt t v = new_seat (record { table = t; values = v.values; seats = v.seats })

  -- the view with one seat more
  abbrev pub with_seat : ClaimView T → SeatMeaning T → ClaimView T
  with_seat v s = claimer (v.parts + 1) s.of.seats s.of.values (v.places ++ s.places) (v.refusals + cond s.ended 1 0)

  -- the view has joined exactly these seats of the counter
  pub record HasJoined (c : ClaimsMeaning T) (ss : List (SeatMeaning T)) (v : ClaimView T) : Type 0 where
    pub parts : v.parts ≡ length ss
    pub places : v.places ≡ all_places ss
    pub known : 0 < v.parts → (v.values ≡ c.values) × (v.seats ≡ c.seats)
    pub over : some_ended ss ≡ true → 0 < v.refusals
