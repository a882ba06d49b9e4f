use Rattle.std.proofs.Common.{subst, sym}
use Rattle.ix_car.specs.ArchiveMeaning.{HasArchived}
use Rattle.ix_run.proofs.observer.ObservedSink.close.Goals as goal

pub returns-clause-kept : goal.returns-clause-kept
returns-clause-kept g c = λ about store job first h. c.close.ensures.kept about store job first (subst (λ a. HasArchived g.W.Write.contents a about store job first) (sym c.self.view_is) h)
