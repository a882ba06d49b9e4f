-- Which blocks may be missing, and which are.
use Rattle.std.specs.Prelude.{ℕ, Bool, not, ◌&&◌, List}
use Rattle.ix_store.specs.Store.{Blocks}
use Rattle.ix_check.specs.Verdict.{verdict_of}
use Rattle.ix_verdict.specs.Verdict.{is_missing, passes}

-- a CID could have a block, and has none among the sections
abbrev pub lacks_block : Blocks → List ℕ → Bool
lacks_block sections c = is_missing (verdict_of sections c)

-- a traversal doesn't continue at a CID although it lacks no block
abbrev pub is_unread : Blocks → List ℕ → Bool
is_unread sections c = not (passes (verdict_of sections c)) && not (lacks_block sections c)
