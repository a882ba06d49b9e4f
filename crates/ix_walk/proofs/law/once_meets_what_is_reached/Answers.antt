use Rattle.ix_walk.proofs.Reaches.{once-reaches}
use Rattle.ix_walk.proofs.law.once_meets_what_is_reached.Goals as goal

pub returns : goal.returns
returns c t limit roots tells short = once-reaches t.enters t.rest t.same t.inside tells limit roots short
