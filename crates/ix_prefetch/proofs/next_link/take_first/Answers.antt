use Rattle.ix_prefetch.proofs.Listing.{first_is}
use Rattle.ix_prefetch.proofs.next_link.take_first.Goals as goal

pub returns-clause-first : goal.returns-clause-first
returns-clause-first c = first_is c.args.table.now c.args.list.now c.link-link.result c.requires.left c.requires.within c.link-link.ensures
