use Rattle.std.proofs.Common.{All, map}
use Rattle.std.specs.Prelude.{Contains}
use Rattle.std.specs.Vec.Iter.{into_iter_items}
use Rattle.ix_cli_io.specs.Failure.{RefusesOutputs}
use Rattle.ix_cli_io.specs.Output.{path_of}
use Rattle.ix_cli_io.proofs.outputs.publish_outputs.Given as goal

abbrev pub invariant-loop-output : goal.invariant-loop-output
invariant-loop-output g l = record {
  can_next : (goal.iterator-loop-output g).can_next l.output-iterator;
  finite : (goal.iterator-loop-output g).is_finite l.output-iterator;
  left : All (λ o. Contains (map path_of l.fn.outputs.items) (path_of o)) (into_iter_items l.output-iterator.a);
  refuses : RefusesOutputs (map path_of l.fn.outputs.items) l.notes;
}
