-- Where a path leads (IPLD pathing): segment by segment from a root, through sound blocks.
use Rattle.std.specs.Prelude.{◌≡◌, ℕ, zero, suc, List, [], ◌∷◌, ◌++◌, map, if◌then◌else◌, Option, Some, None, option_and_then, Result, Ok, Err}
use Rattle.std.specs.Global.{Vec}
use Rattle.std.specs.Option.{ok_or}
use Rattle.ix_cbor.specs.Data.{Data, bytes, link}
use Rattle.ix_cbor.specs.Reading.{data_at}
use Rattle.ix_store.specs.Store.{Blocks, bytes_of, is_dag_cbor}
use Rattle.ix_store.specs.Verdict.{verdict_of}
use Rattle.ix_verdict.specs.Verdict.{passes}
use Rattle.ix_path.specs.declared.step.PathStep.{PathStep}
use Rattle.ix_path.specs.Children.{child_of}
use Rattle.ix_path.specs.declared.obstacle.Obstacle.{Obstacle}
use Rattle.ix_path.specs.declared.obstacle.Obstacle.TheVariants.{Block}
use Rattle.ix_path.specs.declared.resolution.Resolution.{Resolution}

-- how far a path leads: the CIDs of the blocks on the way, the steps, and the node at its end or what there is instead
pub record Route : Type 0 where
  pub blocks : List (List ℕ)
  pub steps : List PathStep
  pub end : Result Data Obstacle

-- a route, and from its end another, if it ends at a node
abbrev pub onward : Route → (Data → Route) → Result Data Obstacle → Route
onward r next (Ok d) = record { blocks = r.blocks ++ (next d).blocks; steps = r.steps ++ (next d).steps; end = (next d).end }
onward r next (Err obstacle) = r

infixl 10 ◌and_then◌
abbrev pub ◌and_then◌ : Route → (Data → Route) → Route
r and_then next = onward r next r.end

-- nowhere else
abbrev pub here : Data → Route
here d = record { blocks = []; steps = []; end = Ok d }

-- the node that the bytes of a CID are: the data that they spell, or of a raw block a byte string
abbrev pub node_of : List ℕ → List ℕ → Option Data
node_of c b = if is_dag_cbor c then data_at b else Some (bytes b)

-- the node that a CID names in a store, if the verdict on the CID passes
abbrev pub sound_node : Blocks → List ℕ → Option Data
sound_node store c = if passes (verdict_of store c) then option_and_then (node_of c) (bytes_of store c) else None

-- to the node that a CID names
abbrev pub entered : Blocks → List ℕ → Route
entered store c = record { blocks = c ∷ []; steps = []; end = ok_or (sound_node store c) (Block (verdict_of store c)) }

-- across links, at most so many one after another
unfoldable pub crossed : Blocks → ℕ → Data → Route
crossed store zero d = here d
crossed store (suc n) (link c) = entered store c and_then crossed store n
crossed store (suc n) d = here d

-- a step to a child, or what there is instead
abbrev pub one_step : Result (PathStep × Data) Obstacle → Route
one_step (Ok x) = record { blocks = []; steps = x.0 ∷ []; end = Ok x.1 }
one_step (Err obstacle) = record { blocks = []; steps = []; end = Err obstacle }

-- to the child that a segment names
abbrev pub stepped : List ℕ → Data → Route
stepped s d = one_step (child_of d s)

-- along segments, where at most so many links are crossed one after another
abbrev pub followed : Blocks → ℕ → List (List ℕ) → Data → Route
followed store links [] d = here d
followed store links (s ∷ ss) d = stepped s d and_then crossed store links and_then followed store links ss

-- where segments lead from a root
abbrev pub resolution : Blocks → ℕ → List (List ℕ) → List ℕ → Route
resolution store links segments root = entered store root and_then crossed store links and_then followed store links segments

-- ---- in the program

-- the blocks on a route are appended to others, and this is its end
pub record Goes (old new : List (List ℕ)) (found : Result Data Obstacle) (route : Route) : Type 0 where
  pub blocks : new ≡ old ++ route.blocks
  pub end : found ≡ route.end

-- the same, and the steps on the route are appended to others
pub record GoesBy (old new : List (List ℕ)) (before after : List PathStep) (found : Result Data Obstacle) (route : Route) : Type 0 where
  pub blocks : new ≡ old ++ route.blocks
  pub steps : after ≡ before ++ route.steps
  pub end : found ≡ route.end

-- the segments of a path
abbrev pub segments_in : List (Vec ℕ) → List (List ℕ)
segments_in segments = map (λ (s : Vec ℕ). s.items) segments

-- a call returned this route
pub record IsRoute (result : Resolution) (route : Route) : Type 0 where
  pub blocks : result.blocks.items ≡ route.blocks
  pub steps : result.steps.items ≡ route.steps
  pub end : result.end ≡ route.end
