use Rattle.ix_cid_text.proofs.Places.{NotBefore}
use Rattle.ix_cid_text.proofs.base.place_in.Given as goal

abbrev pub invariant-loop-place : goal.invariant-loop-place
invariant-loop-place l = NotBefore l.byte l.alphabet l.place
