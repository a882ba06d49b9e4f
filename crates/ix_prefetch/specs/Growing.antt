-- What is added to a table.
use Rattle.std.specs.Prelude.{◌≡◌, ℕ, ◌<◌, Bool, true, false, List, ◌++◌, length, Result, IfOk, OnOk, OnErr}
use Rattle.ix_selector.specs.Residual.{Place}
use Rattle.ix_walk.specs.declared.subtree.PendingLink.{PendingLink}
use Rattle.ix_store.specs.Store.{value_of}
use Rattle.ix_walk.specs.Walking.{waiting, links_inside, is_barren}
use Rattle.ix_prefetch.specs.declared.link.Pair.{Pair}
use Rattle.ix_prefetch.specs.declared.pair_index.Task.{Task}
use Rattle.ix_prefetch.specs.declared.reading.Block.{Block}
use Rattle.ix_prefetch.specs.declared.reading.Read.{Read}
use Rattle.ix_prefetch.specs.declared.stop.TableStop.{TableStop}
use Rattle.ix_prefetch.specs.Reading.{IsBlockAt, IsReadAt}
use Rattle.ix_prefetch.specs.Expansions.{ExpansionTable, IsPair, IsTableOf}

-- these links were added, and perhaps residuals
pub record Adds (old new : ExpansionTable) (links : List PendingLink) : Type 0 where
  pub residuals : List (List Place)
  pub store : new.store ≡ old.store
  pub job : new.job ≡ old.job
  pub more : new.residuals ≡ old.residuals ++ residuals
  pub added : new.links ≡ old.links ++ links

-- some links were added, and perhaps residuals
abbrev pub AddsSome : ExpansionTable → ExpansionTable → Type 0
AddsSome old new = (links : List PendingLink) × Adds old new links

-- the link at another depth
abbrev pub at_depth : ℕ → PendingLink → PendingLink
at_depth depth f = waiting f.residual depth f.cid

-- the links in the block of a CID that a residual enters were added, or nothing is visited below it
abbrev pub AddsBlock : ExpansionTable → ExpansionTable → List ℕ → List Place → Bool → Type 0
AddsBlock old new c places true = (is_barren old.store c ≡ true) × (new ≡ old)
AddsBlock old new c places false = Adds old new (links_inside places 0 (value_of old.store c))

-- the residual of a task is in the table, and this was read at its place
pub record IsTaskRead (t : ExpansionTable) (task : Task) (r : Read) : Type 0 where
  pub residual : task.residual < length t.residuals
  pub read : IsReadAt t.store task.place r

-- the same of its block
pub record IsTaskBlock (t : ExpansionTable) (task : Task) (b : Block) : Type 0 where
  pub residual : task.residual < length t.residuals
  pub block : IsBlockAt t.store task.place b.cid b.bytes

-- a pair of another table of the same job
pub record IsPairBeside (t other : ExpansionTable) (p : Pair) : Type 0 where
  pub table : IsTableOf other t
  pub pair : IsPair other p

-- a call that may fail added these links, or some
pub record AddsOrSome {T : Type 0} (old new : ExpansionTable) (links : List PendingLink) (result : Result T TableStop) : Type 0 where
  pub added : OnOk result (Adds old new links)
  pub err : OnErr result (AddsSome old new)

-- it added the links in a block, or some
pub record AddsBlockOrSome (old new : ExpansionTable) (c : List ℕ) (places : List Place) (result : Result Bool TableStop) : Type 0 where
  pub block : IfOk result (AddsBlock old new c places)
  pub err : OnErr result (AddsSome old new)

-- it added some links, and returns a pair of the table
pub record AddsPair (old new : ExpansionTable) (result : Result Pair TableStop) : Type 0 where
  pub some : AddsSome old new
  pub pair : IfOk result (IsPair new)
