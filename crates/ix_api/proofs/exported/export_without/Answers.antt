use Rattle.ix_api.proofs.OfBase.{exported_of_base, whole_of_base, begun_of_base}
use Rattle.ix_api.proofs.exported.export_without.Goals as goal

pub returns-clause-exported : goal.returns-clause-exported
returns-clause-exported c = exported_of_base c.args.store.now c.args.base.now c.in_ok-known.known c.in_ok-known.ensures c.args.job.now c.export_at.result c.export_at.ensures.exported

pub returns-clause-whole : goal.returns-clause-whole
returns-clause-whole c = whole_of_base c.args.store.now c.args.base.now c.in_ok-known.known c.in_ok-known.ensures c.args.job.now c.export_at.result c.export_at.ensures.whole

pub returns-clause-beginning : goal.returns-clause-beginning
returns-clause-beginning c = begun_of_base c.args.store.now c.args.base.now c.in_ok-known.known c.in_ok-known.ensures c.args.job.now c.export_at.result c.export_at.ensures.beginning
