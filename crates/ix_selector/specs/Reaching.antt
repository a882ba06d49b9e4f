-- Where members of a union and edges lead.
use Rattle.std.specs.Prelude.{◌≡◌, ℕ, ◌-◌, ◌≤◌, List, [], ◌∷◌, ◌++◌, map, length, Option, Some, None}
use Rattle.ix_selector.specs.declared.state.State.{State}
use Rattle.ix_selector.specs.declared.state.Recursion.{Recursion}
use Rattle.ix_selector.specs.declared.selector_node.SelectorNode.{SelectorNode}
use Rattle.ix_selector.specs.declared.reached.Reached.{Reached}
use Rattle.ix_selector.specs.Pattern.{Pattern}
use Rattle.ix_selector.specs.Enters.{Step, Frame}
use Rattle.std.specs.List.{All}
use Rattle.ix_selector.specs.Places.{at}
use Rattle.ix_selector.specs.Laid.{IsTable}
use Rattle.ix_selector.specs.declared.step.Step.{Step as RustStep}
use Rattle.ix_selector.specs.Residual.{Place, step_of}
use Rattle.ix_selector.specs.States.{decremented, place_of, seen_states, IsState, IsStanding, AreStandingStates, HasNoEdge, Stands, EntersAt, SomeEnter, ReachedEnters, Same, Joins, LeadsTo, LeadsNowhere}
use Rattle.ix_selector.specs.Behind.{inside_of, leads, leads_from, all_lead, standing, again, entering, leads_after, residual_after}

-- the members of a union, in the recursion around it
abbrev pub members_at : State → List ℕ → List State
members_at x ks = map (λ k. record { place = k; recursion = x.recursion }) ks

-- the sequence of a recursion, at its start
abbrev pub at_start : Option Recursion → List State
at_start None = []
at_start (Some r) = record { place = r.sequence; recursion = Some r } ∷ []

-- the sequence that an edge re-enters, or none
abbrev pub reenter_edges : Option Recursion → List State
reenter_edges None = []
reenter_edges (Some r) = at_start (decremented r)

-- what was reached are states of a table: matchers and explorers, and sequences that edges re-enter
pub record AreReached (nodes : List SelectorNode) (r : Reached) : Type 0 where
  pub table : IsTable nodes
  pub states : All (IsState nodes) r.explore.items
  pub explore : All (IsStanding nodes) r.explore.items
  pub reentries : All (IsState nodes) r.reentries.items
  pub sequences : All (HasNoEdge nodes) r.reentries.items

-- the matchers and explorers among these are added to what was reached, and so are the sequences that their edges re-enter
abbrev pub Adds : List SelectorNode → Reached → Reached → List Place → Type 0
Adds nodes old new found =
    (seen_states nodes new.explore.items ≡ seen_states nodes old.explore.items ++ standing found)
    × (seen_states nodes new.reentries.items ≡ seen_states nodes old.reentries.items ++ again found)

-- these are the residual of what was reached
abbrev pub AreLeft : List SelectorNode → Reached → List State → Type 0
AreLeft nodes reached rs = seen_states nodes rs ≡ entering (seen_states nodes reached.explore.items) (seen_states nodes reached.reentries.items)

-- after the step the place n leads where the place k does
abbrev pub LeadsAs : List Pattern → ℕ → Step → ℕ → Type 0
LeadsAs places n t k =
    (e : List Frame) (q : Option ℕ) → leads_after (at places n) t (n - inside_of (at places n)) e q ≡ leads (at places k) (k - inside_of (at places k)) e q

-- after the step it leads nowhere
abbrev pub LeadsToNone : List Pattern → ℕ → Step → Type 0
LeadsToNone places n t = (e : List Frame) (q : Option ℕ) → leads_after (at places n) t (n - inside_of (at places n)) e q ≡ []

-- what was reached enters the paths of one more state
abbrev pub EntersState : List SelectorNode → State → Reached → Reached → Type 0
EntersState nodes x old new = Joins (ReachedEnters nodes new) (ReachedEnters nodes old) (EntersAt nodes x)

-- those of each of the members of a union
abbrev pub EntersEach : List SelectorNode → State → List ℕ → Reached → Reached → Type 0
EntersEach nodes x ks old new = Joins (ReachedEnters nodes new) (ReachedEnters nodes old) (SomeEnter nodes (members_at x ks))

-- where a state leads without a step is added to what was reached
abbrev pub AddsState : List SelectorNode → State → Reached → Reached → Type 0
AddsState nodes x old new = Adds nodes old new (leads_from (place_of nodes x))

-- where each of the members of a union leads
abbrev pub AddsEach : List SelectorNode → State → List ℕ → Reached → Reached → Type 0
AddsEach nodes x ks old new = Adds nodes old new (all_lead (seen_states nodes (members_at x ks)))

-- a state without an edge adds no sequence
abbrev pub StateKeeps : List SelectorNode → State → Reached → Reached → Type 0
StateKeeps nodes x old new = HasNoEdge nodes x → new.reentries.items ≡ old.reentries.items

-- nor do members without one
abbrev pub MembersKeep : List SelectorNode → State → List ℕ → Reached → Reached → Type 0
MembersKeep nodes x ks old new = All (HasNoEdge nodes) (members_at x ks) → new.reentries.items ≡ old.reentries.items

-- an edge in this recursion adds its sequence once more
abbrev pub EntersAgain : Option Recursion → Reached → Reached → Type 0
EntersAgain r old new = new.reentries.items ≡ old.reentries.items ++ reenter_edges r

-- these states enter the paths of what was reached
abbrev pub EnterAsReached : List SelectorNode → Reached → List State → Type 0
EnterAsReached nodes reached rs = Same (SomeEnter nodes rs) (ReachedEnters nodes reached)

-- these states enter what others enter after a step
abbrev pub EnterAfter : List SelectorNode → List State → RustStep → List State → Type 0
EnterAfter nodes xs t rs = Same (SomeEnter nodes rs) (λ p. SomeEnter nodes xs (step_of t ∷ p))

-- as places they are the residual after the step
abbrev pub AreLeftAfter : List SelectorNode → List State → RustStep → List State → Type 0
AreLeftAfter nodes xs t rs = seen_states nodes rs ≡ residual_after (seen_states nodes xs) (step_of t)

-- the place n leads to the place k after the step
abbrev pub LeadsBeside : List Pattern → ℕ → Step → ℕ → Type 0
LeadsBeside places n t k = LeadsTo (at places n) t (at places k)

-- if the place is a matcher or explorer, it enters nothing after the step
abbrev pub IsAtEnd : List Pattern → ℕ → Step → Type 0
IsAtEnd places n t = Stands (at places n) → LeadsNowhere (at places n) t

-- states of these places, all matchers and explorers, at most as many as places
abbrev pub AreLeftIn : List SelectorNode → List State → Type 0
AreLeftIn nodes xs =
    IsTable nodes × All (IsState nodes) xs × All (IsStanding nodes) xs × (length xs ≤ length nodes)

-- and these places are those that are shared
abbrev pub AreLeftInShared : List SelectorNode → List SelectorNode → List State → Type 0
AreLeftInShared shared nodes xs = (shared ≡ nodes) × AreLeftIn nodes xs

-- each step from the state x leaves the state y
pub record EachStepLeavesState (nodes : List SelectorNode) (x y : State) : Type 0 where
  pub states : AreStandingStates nodes (y ∷ [])
  pub enters : (t : RustStep) → EnterAfter nodes (x ∷ []) t (y ∷ [])
  pub exact : (t : RustStep) → AreLeftAfter nodes (x ∷ []) t (y ∷ [])
