-- The verdict on a CID in a store.
use Rattle.std.specs.Prelude.{ℕ, List}
use Rattle.ix_verdict.specs.declared.verdict.Verdict.{Verdict}
use Rattle.ix_verdict.specs.Verdict.{verdict_with}
use Rattle.ix_store.specs.Store.{Blocks, block_of}

-- the verdict on a CID, with the block that a store has under it, if it has one
abbrev pub verdict_of : Blocks → List ℕ → Verdict
verdict_of store c = verdict_with c (block_of store c)
