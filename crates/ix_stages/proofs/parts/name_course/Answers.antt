use Rattle.std.proofs.Common.{subst, sym}
use Rattle.crossbeam_queue.specs.Fifo.{Forks}
use Rattle.ix_stages.specs.declared.pass_view.PassView.{PassView}
use Rattle.ix_stages.specs.PassViews.{root, spent}
use Rattle.ix_stages.specs.QueueState.{IsQueueState}
use Rattle.ix_stages.proofs.NewSeats.{names}
use Rattle.ix_stages.proofs.parts.name_course.Goals as goal

pub another-requires-clause-rule : goal.another-requires-clause-rule
another-requires-clause-rule g c =
    subst (λ (v : PassView). Forks IsQueueState c.args.pass.now.id v (root g.N.Naming.course g.N.Naming.seats) spent) (sym c.requires.pass.1) (names _ _ _)
