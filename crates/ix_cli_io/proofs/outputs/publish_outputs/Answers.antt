use Rattle.std.proofs.Common.{◌≡◌, All, map, rules, subst, sym}
use Rattle.std.specs.Prelude.{Contains}
use Rattle.std.specs.Vec.Iter.{into_iter_items}
use Rattle.ix_cli_io.specs.Output.{path_of}
use Rattle.ix_cli_io.proofs.Paths.{All-path_of, next_of, joined_refuses}
use Rattle.ix_cli_io.proofs.outputs.publish_outputs.Goals as goal

pub loop-output-init : goal.loop-output-init
loop-output-init g c =
    let paths = map path_of c.args.outputs.items in
    let rest : into_iter_items c.into_iter-output-iterator.result.a ≡ c.args.outputs.items = search rules in record {
      can_next = (tt, (tt, tt));
      finite = tt;
      left = subst (All (λ o. Contains paths (path_of o))) (sym rest) (All-path_of c.args.outputs.items);
      refuses = tt;
    }

pub loop-output-preserved : goal.loop-output-preserved
loop-output-preserved g c =
    let was = c.loop-output.invariant in
    let paths = map path_of c.args.outputs.items in
    let output = c.in-Some.output in
    let next = next_of paths (into_iter_items c.loop-output.output-iterator.a) (into_iter_items c.next.new.self.a) output was.left c.in-Some.ensures.steps.0.0 in record {
      can_next = (tt, (tt, tt));
      finite = tt;
      left = next.1;
      refuses = joined_refuses paths (path_of output) c.loop-output.notes c.publish-note.result c.joined-notes.result c.joined-notes.ensures next.0 was.refuses c.publish-note.ensures.refused;
    }
