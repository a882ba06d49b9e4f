use Rattle.ix_selector.proofs.SpelledAgain.{selector_of-iff, spells-some, spells-one}
use Rattle.ix_selector.proofs.law.selector_is_read_where_it_is_spelled.Goals as goal

pub returns-clause-read : goal.returns-clause-read
returns-clause-read c = selector_of-iff

pub returns-clause-some : goal.returns-clause-some
returns-clause-some c = spells-some

pub returns-clause-one : goal.returns-clause-one
returns-clause-one c = spells-one
