-- Sequences that edges re-enter, each place of which is reached once.
use Rattle.std.specs.Prelude.{◌≡◌, ℕ, List, ◌∷◌, ◌++◌, length}
use Rattle.std.specs.List.{All}
use Rattle.ix_selector.specs.declared.state.State.{State}
use Rattle.ix_selector.specs.declared.selector_node.SelectorNode.{SelectorNode}
use Rattle.ix_selector.specs.declared.reached.Reached.{Reached}
use Rattle.ix_selector.specs.Enters.{Path}
use Rattle.ix_selector.specs.Residual.{Place}
use Rattle.ix_selector.specs.Places.{AreBelow}
use Rattle.ix_selector.specs.States.{place_of, seen_states, IsState, IsJoined, HasNoEdge, EntersAt, SomeEnter, ReachedEnters, Joins}
use Rattle.ix_selector.specs.Reaching.{members_at, AreReached}
use Rattle.ix_selector.specs.Behind.{leads_from, all_lead, standing, merged}

-- the matchers and explorers, and those to which the sequences lead that are still to be entered
abbrev pub all_reached : List SelectorNode → Reached → List Place
all_reached nodes r = seen_states nodes r.explore.items ++ standing (all_lead (seen_states nodes r.reentries.items))

-- one of these sequences is joined with a start of it, and takes the greater depth
pub record StartIsJoined (old new : List State) (x : State) : Type 0 where
  pub front : List State
  pub back : List State
  pub state : State
  pub joint : State
  pub was : old ≡ front ++ state ∷ back
  pub is : new ≡ front ++ joint ∷ back
  pub joined : IsJoined state x joint

-- a state of the table without an edge
pub record CanReenter (nodes : List SelectorNode) (x : State) (r : Reached) : Type 0 where
  pub state : IsState nodes x
  pub no_edge : HasNoEdge nodes x
  pub reached : AreReached nodes r

-- members of a union, whose places are before its own
pub record CanReenterEach (nodes : List SelectorNode) (x : State) (ks : List ℕ) (r : Reached) : Type 0 where
  pub below : AreBelow x.place ks
  pub states : All (IsState nodes) (members_at x ks)
  pub no_edges : All (HasNoEdge nodes) (members_at x ks)
  pub reached : AreReached nodes r

-- these matchers and explorers are added to what was reached or will be, with one place for each number
pub record Reenters (nodes : List SelectorNode) (old new : Reached) (E : Path → Type 0) (found : List Place) : Type 0 where
  pub reached : AreReached nodes new
  pub enters : Joins (ReachedEnters nodes new) (ReachedEnters nodes old) E
  pub exact : merged (all_reached nodes new) ≡ merged (standing found ++ all_reached nodes old)
  pub as_many : length new.reentries.items ≡ length old.reentries.items

-- those to which a state leads without a step
abbrev pub ReentersState : List SelectorNode → State → Reached → Reached → Type 0
ReentersState nodes x old new = Reenters nodes old new (EntersAt nodes x) (leads_from (place_of nodes x))

-- those to which each of the members of a union does
abbrev pub ReentersEach : List SelectorNode → State → List ℕ → Reached → Reached → Type 0
ReentersEach nodes x ks old new = Reenters nodes old new (SomeEnter nodes (members_at x ks)) (all_lead (seen_states nodes (members_at x ks)))
