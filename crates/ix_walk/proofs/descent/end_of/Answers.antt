use Rattle.ix_walk.proofs.Parts.{leaf_ends}
use Rattle.ix_walk.proofs.descent.end_of.Goals as goal

pub returns-in_default-clause-exact : goal.returns-in_default-clause-exact
returns-in_default-clause-exact c = λ d rest e. leaf_ends c.args.front c.args.at.now c.args.behind.now c.requires.exact c.in_default.not-List c.in_default.not-Map d rest e
