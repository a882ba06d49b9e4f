-- What contracts see of the two ends of a lane, and of all lanes.
use Rattle.std.specs.Prelude.{◌≡◌, ℕ, List, [], ◌∷◌, ◌++◌}
use mathlib.Core.List.{IsPrefix}
use Rattle.rtrb.specs.Ring.{sent, received, known_free, known_items, IsPair, SameProducer, SameConsumer}
use Rattle.ix_stages.specs.declared.verdicted.Verdicted.{Verdicted}
use Rattle.ix_stages.specs.declared.lanes.LaneIn.{LaneIn}
use Rattle.ix_stages.specs.declared.lanes.LaneOut.{LaneOut}

-- all that was sent into the lane, in order
abbrev pub sent_by : LaneIn → List Verdicted
sent_by l = sent l.producer

-- all that was received from the lane, in order
abbrev pub received_by : LaneOut → List Verdicted
received_by l = received l.consumer

-- how many items the sender knows to have room for
abbrev pub room_in : LaneIn → ℕ
room_in l = known_free l.producer

-- the items that the receiver has seen in the lane: the next that it receives
abbrev pub seen_in : LaneOut → List Verdicted
seen_in l = known_items l.consumer

-- sender and receiver of one lane
abbrev pub IsLane : LaneIn → LaneOut → Type 0
IsLane i o = IsPair i.producer o.consumer

-- the same sender of the same lane
abbrev pub SameIn : LaneIn → LaneIn → Type 0
SameIn a b = SameProducer a.producer b.producer

-- the same receiver of the same lane
abbrev pub SameOut : LaneOut → LaneOut → Type 0
SameOut a b = SameConsumer a.consumer b.consumer

-- a new lane, with room for so many items
abbrev pub IsNewLane : ℕ → LaneIn → LaneOut → Type 0
IsNewLane room i o = IsLane i o × (sent_by i ≡ []) × (received_by o ≡ []) × (room_in i ≡ room) × (seen_in o ≡ [])

-- the item was sent, after what was sent before
abbrev pub HasSent : LaneIn → Verdicted → LaneIn → Type 0
HasSent old x new = sent_by new ≡ sent_by old ++ x ∷ []

-- the receiver looked into the lane, and received nothing
abbrev pub HasLooked : LaneOut → LaneOut → Type 0
HasLooked old new = SameOut old new × (received_by new ≡ received_by old)

-- the item was received, after what was received before
abbrev pub HasReceived : LaneOut → Verdicted → LaneOut → Type 0
HasReceived old x new = received_by new ≡ received_by old ++ x ∷ []

-- the item is the next that the receiver gets
abbrev pub IsFront : LaneOut → Verdicted → Type 0
IsFront l x = IsPrefix (x ∷ []) (seen_in l)

-- the item is the next of those that the receiver had seen
abbrev pub IsSeen : LaneOut → Verdicted → LaneOut → Type 0
IsSeen old x new = IsPrefix (seen_in old) (x ∷ seen_in new)

-- the same ends of the same lane, into which nothing was sent in between
abbrev pub IsSameLane : LaneIn → LaneIn → LaneOut → LaneOut → Type 0
IsSameLane i i' o o' = SameIn i i' × SameOut o o' × (sent_by i' ≡ sent_by i)

-- nothing more was received, and all that was sent has been received
abbrev pub IsEmptied : LaneIn → LaneOut → LaneOut → Type 0
IsEmptied i old new = (received_by new ≡ received_by old) × (received_by new ≡ sent_by i)

-- what was received from all lanes, lane by lane
abbrev pub all_received : List LaneOut → List Verdicted
all_received [] = []
all_received (l ∷ ls) = received_by l ++ all_received ls

-- what was sent into all lanes, lane by lane
abbrev pub all_sent : List LaneIn → List Verdicted
all_sent [] = []
all_sent (l ∷ ls) = sent_by l ++ all_sent ls

-- the same receivers of the same lanes
abbrev pub EachSameOut : List LaneOut → List LaneOut → Type 0
EachSameOut [] [] = Unit {0}
EachSameOut (x ∷ xs) (y ∷ ys) = SameOut x y × EachSameOut xs ys
EachSameOut xs ys = ⊥

-- sender and receiver of the same lanes, in the same order
abbrev pub EachLane : List LaneIn → List LaneOut → Type 0
EachLane [] [] = Unit {0}
EachLane (x ∷ xs) (y ∷ ys) = IsLane x y × EachLane xs ys
EachLane xs ys = ⊥
