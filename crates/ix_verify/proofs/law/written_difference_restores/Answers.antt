use Rattle.ix_car.specs.Archive.{difference_of, known_by}
use Rattle.ix_verify.proofs.Differences.{difference-then_files, difference-beside_skips, written-difference}
use Rattle.ix_verify.proofs.law.written_difference_restores.Goals as goal

pub returns-clause-written : goal.returns-clause-written
returns-clause-written g c a store base places number job of_base guarantee faithful = written-difference g.W.Write.contents a store base places number job of_base guarantee faithful

pub returns-clause-restores : goal.returns-clause-restores
returns-clause-restores g c a store base files places number job of_base guarantee faithful read readable agrees done = (
  difference_of (known_by base) store number job,
  written-difference g.W.Write.contents a store base places number job of_base guarantee faithful,
  difference-then_files store base files number job read readable agrees done,
)

pub returns-clause-restores_beside_skips : goal.returns-clause-restores_beside_skips
returns-clause-restores_beside_skips g c a store base files places number job of_base guarantee faithful read readable agrees skips = (
  difference_of (known_by base) store number job,
  written-difference g.W.Write.contents a store base places number job of_base guarantee faithful,
  difference-beside_skips store base files number job read readable agrees skips,
)
