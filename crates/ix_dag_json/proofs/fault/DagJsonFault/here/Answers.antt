use Rattle.std.proofs.Common.{refl}
use Rattle.ix_dag_json.proofs.fault.DagJsonFault.here.Goals as goal

pub returns : goal.returns
returns c = record { lacking = record { path = c.new.result; wrong = c.args.wrong }; same = refl; here = c.new.ensures.items; reason = refl }
