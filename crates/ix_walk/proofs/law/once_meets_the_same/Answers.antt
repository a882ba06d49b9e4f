use Rattle.ix_walk.proofs.GoingOnce.{once-fewer_from, once-by_depth}
use Rattle.ix_walk.proofs.Links.{roots-by_depth}
use Rattle.ix_walk.proofs.Reaches.{limit-cids}
use Rattle.ix_walk.proofs.law.once_meets_the_same.Goals as goal

pub returns-clause-same : goal.returns-clause-same
returns-clause-same c t links limit roots tells shallow short = once-by_depth t.enters t.rest t.same t.inside tells links limit roots shallow short

pub returns-clause-fewer : goal.returns-clause-fewer
returns-clause-fewer c t links most roots shallow =
    once-fewer_from t.enters t.rest t.same t.inside links most roots (roots-by_depth t.enters t.inside links roots shallow)

pub returns-clause-links : goal.returns-clause-links
returns-clause-links c t links limit roots tells shallow short =
    limit-cids t.enters t.rest t.same t.inside tells limit roots short links (roots-by_depth t.enters t.inside links roots shallow)
