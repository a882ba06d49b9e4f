use Rattle.std.proofs.Common.{refl}
use Rattle.ix_cbor.specs.Data.{text}
use Rattle.ix_dag_json.specs.declared.fault.Wrong.TheVariants.{Text}
use Rattle.ix_dag_json.proofs.Lacking.{wrong_here}
use Rattle.ix_dag_json.proofs.print.push_text.Goals as goal

pub returns-in-Err-clause-refused : goal.returns-in-Err-clause-refused
returns-in-Err-clause-refused c = wrong_here (text c.args.text.now) Text c.here.result c.here.ensures (c.args.text.now, refl, c.in-Err.ensures.cases.0)
