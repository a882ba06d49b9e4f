-- The laws of link-visit-once, for a traversal of any graph of CIDs.
use Rattle.std.specs.Prelude.{◌≡◌, ◌↔◌, ℕ, suc, ◌≤◌, Bool, List, length}
use Rattle.std.specs.List.{Contains}
use Rattle.ix_selector.specs.Enters.{Path}
use Rattle.ix_selector.specs.Residual.{Place}
use Rattle.ix_walk.specs.Arrivals.{Arrival, Inside, arrivals_from}
use Rattle.ix_walk.specs.Once.{once_from, EndsBefore, TellsRests, cids_of, first_ones}

-- which paths are entered, the residual after one, which residuals are equal, and what data a CID has inside
pub record Traversal : Type 0 where
  pub enters : Path → Bool
  pub rest : Path → List Place
  pub same : List Place → List Place → Bool
  pub inside : Inside

-- its visits from roots if it expands a CID at every link to it, and follows at most so many links on a path
abbrev pub traversed : Traversal → ℕ → List (List ℕ) → List Arrival
traversed t links roots = arrivals_from t.enters t.inside links 0 roots

-- its first visits from roots, at most so many, if it expands a CID once with each residual
abbrev pub traversed_once : Traversal → ℕ → List (List ℕ) → List Arrival
traversed_once t most roots = once_from t.enters t.rest t.same t.inside most roots

-- after paths with equal residuals it enters the same
abbrev pub RestsTell : Traversal → Type 0
RestsTell t = TellsRests t.enters t.rest t.same

-- expanding a CID at every link ends before so many links are followed
abbrev pub Ends : Traversal → ℕ → List (List ℕ) → Type 0
Ends t links roots = EndsBefore t.enters t.inside links roots

-- link-visit-once takes no more visits than a limit
abbrev pub FitsOnce : Traversal → ℕ → List (List ℕ) → Type 0
FitsOnce t limit roots = length (traversed_once t (suc limit) roots) ≤ limit

-- if both ways end, they meet the same CIDs, each first in the same order
abbrev pub OnceMeetsTheSame : Type 0
OnceMeetsTheSame =
    (t : Traversal) (links limit : ℕ) (roots : List (List ℕ)) → RestsTell t → Ends t links roots → FitsOnce t limit roots
    → first_ones (cids_of (traversed_once t (suc limit) roots)) ≡ first_ones (cids_of (traversed t links roots))

-- link-visit-once takes no more visits
abbrev pub OnceArrivesNoMore : Type 0
OnceArrivesNoMore =
    (t : Traversal) (links most : ℕ) (roots : List (List ℕ)) → Ends t links roots
    → length (traversed_once t most roots) ≤ length (traversed t links roots)

-- if it takes no more visits than a limit, the other way follows no more links than that on a path
abbrev pub LimitHoldsForLinks : Type 0
LimitHoldsForLinks =
    (t : Traversal) (links limit : ℕ) (roots : List (List ℕ)) → RestsTell t → Ends t links roots → FitsOnce t limit roots
    → cids_of (traversed t limit roots) ≡ cids_of (traversed t links roots)

-- if it ends, it has met exactly the CIDs that can be reached by following links, however many
abbrev pub OnceMeetsWhatIsReached : Type 0
OnceMeetsWhatIsReached =
    (t : Traversal) (limit : ℕ) (roots : List (List ℕ)) → RestsTell t → FitsOnce t limit roots
    → (c : List ℕ) → (Contains (cids_of (traversed_once t (suc limit) roots)) c ↔ ((links : ℕ) × Contains (cids_of (traversed t links roots)) c))
