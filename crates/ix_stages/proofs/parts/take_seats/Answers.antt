use Rattle.std.proofs.Common.{rules, ◌≡◌, ◌+◌, refl, sym, subst}
use Rattle.crossbeam_queue.specs.Passes.{view}
use Rattle.ix_stages.specs.declared.pass_view.PassView.{PassView}
use Rattle.ix_stages.specs.Seats.{maker_pass}
use Rattle.ix_stages.proofs.parts.take_seats.Goals as goal

pub take_seat-requires-clause-pass : goal.take_seat-requires-clause-pass
take_seat-requires-clause-pass c =
    let v = view c.args.pass.now in
    let e : view c.loop.pass ≡ maker_pass v.course v.all (c.args.jobs + c.loop.counter) = c.loop.invariant.1 in
    (search rules, subst (λ (w : PassView). w ≡ maker_pass w.course w.all w.made) (sym e) refl)
