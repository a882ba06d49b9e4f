use Rattle.std.proofs.Common.{◌≡◌, [], ◌∷◌, rules}
use Rattle.ix_car.specs.Archive.{known_at}
use Rattle.ix_car.specs.ArchiveMeaning.{borrowed}
use Rattle.ix_run.proofs.Alone.{alone}
use Rattle.ix_run.proofs.execution.run_one_without.Goals as goal

pub returns-in-Some-Some-clause-ran : goal.returns-in-Some-Some-clause-ran
returns-in-Some-Some-clause-ran g c =
    alone g.W.Write.contents (known_at c.args.store.now (borrowed c.args.known)) c.args.store.now c.args.job.now c.args.writer c.in-Some-Some.result c.in-Some-Some.writer c.from_ref.result.now c.push.new.self.items c.in_ok-results.writers.items _ c.in_ok-results.results.items _
    c.from_ref.ensures.value (search rules) c.in_ok-results.ensures.ran c.in-Some-Some.ensures.items c.in-Some-Some.ensures'.items
