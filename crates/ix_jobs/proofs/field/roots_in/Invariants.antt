use Rattle.std.proofs.Common.{◌≡◌, map, length, Ok}
use Rattle.ix_jobs.specs.Jobs.{cids_in}
use Rattle.ix_jobs.proofs.field.roots_in.Given as goal

abbrev pub invariant-loop-part : goal.invariant-loop-part
invariant-loop-part l = record {
  read : cids_in (map (λ x. x.now) l.yielded) ≡ Ok l.roots.items;
  many : length l.roots.items ≡ length l.yielded;
}
