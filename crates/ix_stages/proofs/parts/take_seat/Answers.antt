use Rattle.std.proofs.Common.{◌<◌, ap, arith}
use Rattle.crossbeam_queue.specs.Passes.{view}
use Rattle.ix_stages.specs.declared.pass_view.PassView.{PassView}
use Rattle.ix_stages.proofs.NewSeats.{forks, take_seat_is_new}
use Rattle.ix_stages.proofs.parts.take_seat.Goals as goal

pub another-requires-clause-rule : goal.another-requires-clause-rule
another-requires-clause-rule c =
    let e = c.requires.pass.1 in
    let parts : 1 < (view c.args.pass.now).parts = (let p = ap (λ (v : PassView). v.parts) e in let q = c.requires.parts in omega (arith, p, q)) in
    forks _ _ _ (ap (λ (v : PassView). v.blank) e) (ap (λ (v : PassView). v.maker) e) parts (take_seat_is_new _)
