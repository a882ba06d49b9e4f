use Rattle.std.proofs.Common.{rules, subst, sym}
use Rattle.ix_car.specs.ArchiveMeaning.{HasArchived}
use Rattle.ix_run.proofs.observer.ObservedSink.deliver.Goals as goal

pub returns-clause-ok : goal.returns-clause-ok
returns-clause-ok g c = search rules

pub returns-clause-refused : goal.returns-clause-refused
returns-clause-refused g c = search rules

pub returns-clause-kept : goal.returns-clause-kept
returns-clause-kept g c = λ about store job first h. c.deliver-taken.ensures.kept about store job first (subst (λ a. HasArchived g.W.Write.contents a about store job first) (sym c.self.view_is) h)
