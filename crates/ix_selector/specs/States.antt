-- Places of a selector, each in the innermost recursion around it, and what they enter.
use Rattle.std.specs.Prelude.{◌≡◌, ◌⊎◌, ℕ, ◌+◌, ◌-◌, ◌<◌, ◌≤◌, max, nat_le, if◌then◌else◌, List, [], ◌∷◌, map, length, Option, Some, None}
use Rattle.std.specs.List.{All, Contains}
use Rattle.ix_selector.specs.declared.selector_node.SelectorNode.{SelectorNode}
use Rattle.ix_selector.specs.declared.state.State.{State}
use Rattle.ix_selector.specs.declared.state.Recursion.{Recursion}
use Rattle.ix_selector.specs.declared.reached.Reached.{Reached}
use Rattle.ix_selector.specs.Pattern.{Pattern, matcher, all, fields, index, range, recursive, union, edge, Around, outside, unguarded, guarded, after_step, MayStand, IsGuarded}
use Rattle.ix_selector.specs.Enters.{Step, Path, Frame, Enters}
use Rattle.ix_selector.specs.Places.{at, places_of}
use Rattle.ix_selector.specs.Standing.{IsStandingIn}
use Rattle.ix_selector.specs.Residual.{Place}

-- the recursion after one of its edges, if it may be entered again
abbrev pub decremented : Recursion → Option Recursion
decremented r = by r.depth where
  by : Option ℕ → Option Recursion
  by None = Some r
  by (Some d) = if nat_le 2 d then Some (record { sequence = r.sequence; depth = Some (d - 1) }) else None

-- the greater depth; no limit is the greatest
abbrev pub deeper : Option ℕ → Option ℕ → Option ℕ
deeper None e = None
deeper (Some d) None = None
deeper (Some d) (Some e) = Some (max d e)

-- one recursion for two with one sequence, with the greater depth
abbrev pub IsDeeper : Option Recursion → Option Recursion → Option Recursion → Type 0
IsDeeper None None None = Unit {0}
IsDeeper (Some a) (Some b) (Some c) = (a.sequence ≡ b.sequence) × (c.sequence ≡ a.sequence) × (c.depth ≡ deeper a.depth b.depth)
IsDeeper a b c = ⊥

-- one state for two with one place, with the greater depth
abbrev pub IsJoined : State → State → State → Type 0
IsJoined a b c = (a.place ≡ b.place) × (c.place ≡ a.place) × IsDeeper a.recursion b.recursion c.recursion

-- the recursion around a place, with its sequence
abbrev pub frames : List Pattern → Option Recursion → List Frame
frames places None = []
frames places (Some r) = record { sequence = at places r.sequence; depth = r.depth } ∷ []

-- the selector of the state
abbrev pub selector_at : List SelectorNode → State → Pattern
selector_at nodes x = at (places_of nodes) x.place

-- it enters the path
abbrev pub EntersAt : List SelectorNode → State → Path → Type 0
EntersAt nodes x p = Enters (selector_at nodes x) (frames (places_of nodes) x.recursion) p

-- one of them enters the path
pub record SomeEnter (nodes : List SelectorNode) (xs : List State) (p : Path) : Type 0 where
  pub state : State
  pub among : Contains xs state
  pub enters : EntersAt nodes state p

-- inside a recursion a step was made since its start
abbrev pub around : Option Recursion → Around
around None = outside
around (Some r) = guarded

-- the sequence is in the table, and in it a step is before each edge
abbrev pub IsSequence : List SelectorNode → Option Recursion → Type 0
IsSequence nodes None = Unit {0}
IsSequence nodes (Some r) = (r.sequence < length nodes) × IsGuarded unguarded (at (places_of nodes) r.sequence)

-- the sequence of the innermost recursion
abbrev pub sequence_of : Option Recursion → Option ℕ
sequence_of None = None
sequence_of (Some r) = Some r.sequence

-- the selector of a state, inside its recursion
abbrev pub place_of : List SelectorNode → State → Place
place_of nodes x = record { selector = at (places_of nodes) x.place; around = frames (places_of nodes) x.recursion; number = x.place; sequence = sequence_of x.recursion }

-- states as places
abbrev pub seen_states : List SelectorNode → List State → List Place
seen_states nodes xs = map (place_of nodes) xs

-- a place of these, in the innermost recursion around it
pub record IsState (nodes : List SelectorNode) (x : State) : Type 0 where
  pub within : x.place < length nodes
  pub guarded : IsGuarded (around x.recursion) (selector_at nodes x)
  pub sequence : IsSequence nodes x.recursion
  pub stands : IsStandingIn nodes x.place (sequence_of x.recursion)

-- at the same place in the same recursion, with whatever depth
pub record IsAt (x y : State) : Type 0 where
  pub place : y.place ≡ x.place
  pub sequence : sequence_of y.recursion ≡ sequence_of x.recursion

-- states with one place are in one recursion
abbrev pub AgreesWith : State → State → Type 0
AgreesWith x y = x.place ≡ y.place → sequence_of x.recursion ≡ sequence_of y.recursion

-- any two of them agree
pub record Agree (xs : List State) : Type 0 where
  pub at : (x y : State) → Contains xs x → Contains xs y → AgreesWith x y

-- each place is greater than those before it, and none is below a number
abbrev pub AreRisingFrom : ℕ → List State → Type 0
AreRisingFrom n [] = Unit {0}
AreRisingFrom n (x ∷ xs) = (n ≤ x.place) × AreRisingFrom (x.place + 1) xs

abbrev pub ArePlacesRising : List State → Type 0
ArePlacesRising xs = AreRisingFrom 0 xs

-- it is at the place of x or before it, and at that place in the recursion of x
abbrev pub IsUpTo : State → State → Type 0
IsUpTo x y = (y.place ≤ x.place) × AgreesWith y x

-- at the place of one of these
pub record IsOf (xs : List State) (y : State) : Type 0 where
  pub state : State
  pub among : Contains xs state
  pub at : IsAt state y

-- a matcher or one of the four explorers: it enters its own place
abbrev pub Stands : Pattern → Type 0
Stands matcher = Unit {0}
Stands (all s) = Unit {0}
Stands (fields fs) = Unit {0}
Stands (index i s) = Unit {0}
Stands (range i j s) = Unit {0}
Stands (recursive limit s) = ⊥
Stands (union ss) = ⊥
Stands edge = ⊥

-- the selector of the state is a matcher or explorer
abbrev pub IsStanding : List SelectorNode → State → Type 0
IsStanding nodes x = Stands (selector_at nodes x)

-- states of these places that are matchers and explorers
abbrev pub AreStandingStates : List SelectorNode → List State → Type 0
AreStandingStates nodes xs = All (IsState nodes) xs × All (IsStanding nodes) xs

-- each edge in it is after a step
pub record NoEdge (s : Pattern) : Type 0 where
  pub around : Around
  pub never : MayStand around → ⊥
  pub guarded : IsGuarded around s

-- each edge in the selector of the state is after a step
abbrev pub HasNoEdge : List SelectorNode → State → Type 0
HasNoEdge nodes x = NoEdge (selector_at nodes x)

-- one of those that were reached enters the path
abbrev pub ReachedEnters : List SelectorNode → Reached → Path → Type 0
ReachedEnters nodes r p = SomeEnter nodes r.explore.items p ⊎ SomeEnter nodes r.reentries.items p

-- the same paths
abbrev pub Same : (Path → Type 0) → (Path → Type 0) → Type 0
Same A B = (p : Path) → (A p → B p) × (B p → A p)

-- the paths of the second and of the third
abbrev pub Joins : (Path → Type 0) → (Path → Type 0) → (Path → Type 0) → Type 0
Joins A B C = (p : Path) → (A p → B p ⊎ C p) × (B p ⊎ C p → A p)

-- the same paths, whatever the table
abbrev pub EnterSame : List State → List State → Type 0
EnterSame xs ys = (nodes : List SelectorNode) → Same (SomeEnter nodes xs) (SomeEnter nodes ys)

-- the paths of ys and of x
abbrev pub EnterMore : List State → List State → State → Type 0
EnterMore xs ys x = (nodes : List SelectorNode) → Joins (SomeEnter nodes xs) (SomeEnter nodes ys) (EntersAt nodes x)

-- after the step it enters what r enters, and its edges stay guarded
pub record LeadsTo (s : Pattern) (t : Step) (r : Pattern) : Type 0 where
  pub enters : (e : List Frame) (p : Path) → (Enters s e (t ∷ p) → Enters r e p) × (Enters r e p → Enters s e (t ∷ p))
  pub guarded : (a : Around) → IsGuarded a s → IsGuarded (after_step a) r

-- after the step nothing is entered
abbrev pub LeadsNowhere : Pattern → Step → Type 0
LeadsNowhere s t = (e : List Frame) (p : Path) → Enters s e (t ∷ p) → ⊥
