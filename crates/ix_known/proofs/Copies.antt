-- A copy of a block in a section, beside the block of a store.
use Rattle.std.proofs.Common.{◌≡◌, ℕ, List, map, sym, ap, ◌∙◌}
use Rattle.std.specs.Prelude.{Option, Some, true, bytes_eq, slice_get}
use Rattle.std.proofs.lemmas.Slice.Eq.{bytes_eq-Decides}
use Rattle.ix_verdict.specs.Verdict.{verdict_with, is_sound}
use Rattle.ix_store.specs.Store.{Blocks, position_of}
use Rattle.ix_store.proofs.Blocks.{block_at}
use Rattle.ix_known.specs.Known.{knows}

-- if a copy is the very block of the store, both are sound or neither is
pub known-copy : (store : Blocks) (place : ℕ) (c stored block : List ℕ) → position_of store c ≡ Some place → slice_get (map (λ e. e.1) store) place ≡ Some stored → bytes_eq stored block ≡ true
    → knows store c ≡ is_sound (verdict_with c (Some block))
known-copy store place c stored block at read same =
    ap (λ (o : Option (List ℕ)). is_sound (verdict_with c o)) (block_at place store c stored (sym at) read ∙ ap Some ((bytes_eq-Decides stored block).0 same))
