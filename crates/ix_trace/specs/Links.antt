-- The links in a block, by the steps to them.
use Rattle.std.specs.Prelude.{◌≡◌, ℕ, ◌≤◌, ◌==◌, List, [], ◌∷◌, ◌++◌, length, reverse, if◌then◌else◌, Option, None, Some, Ok}
use Rattle.std.specs.List.{AllByRecursion}
use Rattle.ix_cbor.specs.Data.{Data, Items, Entries, list, map, link}
use Rattle.ix_cbor.specs.Reading.{item_at, items_at, entries_at}
use Rattle.ix_selector.specs.Enters.{Path}
use Rattle.ix_selector.specs.Residual.{step_of}
use Rattle.ix_trace.specs.declared.expansion.Expansion.{Expansion}
use Rattle.ix_trace.specs.declared.expansion.Link.{Link}
use Rattle.ix_trace.specs.declared.expansion.StepFrom.{StepFrom}
use Rattle.ix_trace.specs.Leads.{HasChild, LeadsWithin}

-- the steps to the node of this number, where the last one is first
abbrev pub steps_back_to : List StepFrom → ℕ → Path
steps_back_to [] n = []
steps_back_to (s ∷ older) n = if n == length (s ∷ older) then steps_back_to older s.parent ++ step_of s.step ∷ [] else steps_back_to older n

-- the steps to the node of this number
abbrev pub steps_to : List StepFrom → ℕ → Path
steps_to steps n = steps_back_to (reverse steps) n

-- the node of this number is these data of a block
pub record IsNodeOf (block : Data) (steps : List StepFrom) (n : ℕ) (d : Data) : Type 0 where
  pub within : n ≤ length steps
  pub leads : LeadsWithin block (steps_to steps n) d

-- each link is in the block where the steps to it lead
abbrev pub AreLinksOf : Data → List StepFrom → List Link → Type 0
AreLinksOf block steps links = AllByRecursion (λ l. IsNodeOf block steps l.node (link l.cid)) links

-- the same of the data of a CID; without data there is none
abbrev pub AreLinksInside : Option Data → List StepFrom → List Link → Type 0
AreLinksInside None steps links = links ≡ []
AreLinksInside (Some d) steps links = AreLinksOf d steps links

-- nodes keep their numbers, and links that are of a block stay so
pub record Grows (block : Data) (old new : Expansion) : Type 0 where
  pub more : List StepFrom
  pub steps : new.steps.items ≡ old.steps.items ++ more
  pub links : AreLinksOf block old.steps.items old.links.items → AreLinksOf block new.steps.items new.links.items

-- where this node is these data of a block, what is found below is of the block
abbrev pub GrowsBelow : ℕ → Data → Expansion → Expansion → Type 0
GrowsBelow n d old new = (block : Data) → IsNodeOf block old.steps.items n d → Grows block old new

-- the item at these bytes, which is the node of this number, ends before the rest, and this is found below it
abbrev pub FindsBelow : List ℕ → ℕ → Expansion → Expansion → List ℕ → Type 0
FindsBelow at n old new rest = (d : Data) (r : List ℕ) → item_at 512 at ≡ Ok (d, r) → (rest ≡ r) × GrowsBelow n d old new

-- the same of so many elements of a list
abbrev pub FindsInElements : List ℕ → ℕ → ℕ → Expansion → Expansion → List ℕ → Type 0
FindsInElements at count n old new rest =
    (ds : Items) (r : List ℕ) → items_at (item_at 512) count at ≡ Ok (ds, r) → (rest ≡ r) × GrowsBelow n (list ds) old new

-- the same of so many entries of a map
abbrev pub FindsInEntries : List ℕ → ℕ → ℕ → Expansion → Expansion → List ℕ → Type 0
FindsInEntries at count n old new rest =
    (es : Entries) (r : List ℕ) → entries_at (item_at 512) None count at ≡ Ok (es, r) → (rest ≡ r) × GrowsBelow n (map es) old new

-- the same of the child after a step from a node
abbrev pub FindsInChild : List ℕ → StepFrom → Expansion → Expansion → List ℕ → Type 0
FindsInChild at from old new rest =
    (c : Data) (r : List ℕ) → item_at 512 at ≡ Ok (c, r) → (rest ≡ r) × ((d : Data) → HasChild d (step_of from.step) c → GrowsBelow from.parent d old new)
