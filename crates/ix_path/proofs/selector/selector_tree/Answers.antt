use Rattle.ix_cbor.specs.Data.{data_of}
use Rattle.ix_path.proofs.Along.{deep_by_data}
use Rattle.ix_path.proofs.selector.selector_tree.Goals as goal

pub returns-in-Err-clause-refused : goal.returns-in-Err-clause-refused
returns-in-Err-clause-refused c = λ s spelled guarded spellable. deep_by_data (data_of c.args.node) s c.in-Err.ensures.none spelled spellable
