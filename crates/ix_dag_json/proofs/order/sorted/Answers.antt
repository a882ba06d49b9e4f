use Rattle.std.proofs.Common.{rules, Bool}
use Rattle.std.specs.Ordering.{nat_cmp, is_lt}
use Rattle.std.specs.Cmp.Lexicographic.{slice_cmp}
use Rattle.std.proofs.lemmas.Cmp.{nat_list_cmp_total}
use Rattle.std.proofs.lemmas.Fn.{always_returns_same}
use Rattle.std.proofs.lemmas.List.Sorted.{ranks_by}
use Rattle.ix_dag_json.specs.declared.order.Entry.{Entry}
use Rattle.ix_dag_json.proofs.order.sorted.Goals as goal

-- the test by which the entries are sorted
abbrev below : Entry → Entry → Bool
below a b = is_lt (slice_cmp nat_cmp a.key.now b.key.now)

pub returns : goal.returns
returns c = record {
  same = c.sort_unstable_by.ensures.permutation;
  rise = c.sort_unstable_by.ensures.sorted below (ranks_by nat_list_cmp_total (λ (e : Entry). e.key.now)) (always_returns_same _ _ _ (λ a r f called. search rules));
}
