use Rattle.ix_known.proofs.base.Base.new.Goals as goal

pub returns-clause-empty : goal.returns-clause-empty
returns-clause-empty c = c.new.ensures c.args.store.now
