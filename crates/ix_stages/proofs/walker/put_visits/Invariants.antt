use Rattle.std.proofs.Common.{◌≡◌, ◌≤◌, false, length, drop}
use Rattle.ix_walk.specs.Visits.{visits_of, is_over_limit}
use Rattle.ix_stages.proofs.walker.put_visits.Given as goal

abbrev pub invariant-loop-item : goal.invariant-loop-item
invariant-loop-item g l = record {
  table : l.seat.table ≡ l.fn.seat.table;
  job : l.seat.job ≡ l.number;
  going : l.seat.closed ≡ false;
  course : l.seat.pass.course ≡ l.fn.seat.pass.course;
  within : l.seat.next ≤ length (visits_of l.shared.task.now.walks.now.store l.number l.job);
  left : l.item-iterator.visits ≡ drop l.seat.next (visits_of l.shared.task.now.walks.now.store l.number l.job);
  limited : l.item-iterator.limited ≡ is_over_limit l.shared.task.now.walks.now.store l.job;
}
