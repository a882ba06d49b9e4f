-- A traversal by lists over sections as a store, after so many visits.
use Rattle.std.specs.Prelude.{◌≡◌, ℕ, ◌+◌, ◌≤◌, List, ◌++◌, map, length, Some}
use Rattle.std.specs.List.{Contains}
use Rattle.std.specs.BTreeSet.{BTreeSet, contains}
use Rattle.ix_selector.specs.Pattern.{Pattern}
use Rattle.ix_selector.specs.Residual.{Place}
use Rattle.ix_store.specs.Store.{Blocks}
use Rattle.ix_walk.specs.declared.subtree.PendingLink.{PendingLink}
use Rattle.ix_walk.specs.JobMeaning.{JobMeaning}
use Rattle.ix_walk.specs.VisitedSet.{cid_order}
use Rattle.ix_walk.specs.Walking.{waiting, Going, data_inside, expanded_after, links_inside, first_arrivals, NoDeeper}
use Rattle.ix_walk.specs.Once.{cids_of, sound_value}
use Rattle.ix_receive.specs.Waiting.{IsPutBefore, all_waiting}
use Rattle.ix_receive.specs.declared.traversal.WaitingLink.{WaitingLink}
use Rattle.ix_receive.specs.declared.traversal.Traversal.{Traversal}
use Rattle.ix_receive.specs.Receiving.{first_visits}

-- a link that waits
abbrev pub as_pending : WaitingLink → PendingLink
as_pending w = waiting w.residual w.depth w.cid

-- what was expanded, by a set of CIDs with residuals
abbrev pub expanded_by : BTreeSet (List ℕ × List Place) → Going
expanded_by set c places = contains cid_order set (c, places)

-- a link is expanded: what was expanded after it, and the links in its block come before those that wait
pub record Expands (store : Blocks) (f : PendingLink) (had : BTreeSet (List ℕ × List Place)) (old : List PendingLink) (has : BTreeSet (List ℕ × List Place)) (new : List PendingLink) : Type 0 where
  pub expanded : Some (expanded_by has) ≡ expanded_after (data_inside store (Some (expanded_by had)) f) f (Some (expanded_by had))
  pub links : IsPutBefore (links_inside f.residual (f.depth + 1) (data_inside store (Some (expanded_by had)) f)) old new

-- the CIDs of the first visits, so many of them
abbrev pub visited : ℕ → JobMeaning → Blocks → List (List ℕ)
visited n job sections = cids_of (first_visits n job sections)

-- another store has the same data at these CIDs
abbrev pub HasSameAt : List (List ℕ) → Blocks → Blocks → Type 0
HasSameAt cids store other = (c : List ℕ) → Contains cids c → sound_value other c ≡ sound_value store c

-- After so many visits this was expanded and these links wait: over each store with the same data at the CIDs visited, the visits
-- go on with those of the links.
abbrev pub GoesOnWith : ℕ → JobMeaning → Blocks → Going → List PendingLink → Type 0
GoesOnWith n job sections expanded links =
    (other : Blocks) → HasSameAt (visited n job sections) sections other → (m : ℕ)
    → visited (n + m) job other ≡ visited n job sections ++ cids_of (first_arrivals other (Some expanded) m links)

-- a traversal has made so many visits within the limit, none of a link deeper than that, and goes on with these links
pub record IsTraversed (n : ℕ) (job : JobMeaning) (sections : Blocks) (expanded : Going) (links : List PendingLink) : Type 0 where
  pub low : n ≤ job.limit
  pub counted : length (visited n job sections) ≡ n
  pub goes_on : GoesOnWith n job sections expanded links
  pub deep : NoDeeper n links

-- all links that wait: those kept, and after them the roots
abbrev pub links_of : Pattern → Traversal → List PendingLink
links_of selector t = all_waiting selector (map as_pending t.links.items) t.roots.now
