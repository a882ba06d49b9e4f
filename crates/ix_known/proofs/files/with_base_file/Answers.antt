use Rattle.ix_known.proofs.BaseFiles.{adds-base-file}
use Rattle.ix_known.proofs.files.with_base_file.Goals as goal

pub returns-clause-added : goal.returns-clause-added
returns-clause-added g c = adds-base-file c.args.carv2 c.args.bytes.now c.in_ok-payload.payload c.args.base c.with_file.result c.in_ok-payload.ensures.gives c.with_file.ensures.added
