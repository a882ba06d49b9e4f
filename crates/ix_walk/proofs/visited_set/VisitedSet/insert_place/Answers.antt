use Rattle.std.proofs.Common.{sym, ◌∙◌}
use Rattle.ix_walk.proofs.Going.{noted_whole, noted_whole_again}
use Rattle.ix_walk.proofs.visited_set.VisitedSet.insert_place.Goals as goal

pub returns-then-contains : goal.returns-then-contains
returns-then-contains c = λ cid places whole. noted_whole_again c.args.self.now c.args.place cid places whole (sym c.contains.ensures ∙ c.if-contains.true)

pub returns : goal.returns
returns c = λ cid places whole.
    noted_whole c.args.self.now c.insert.new.self c.args.place cid places whole (sym c.contains.ensures ∙ c.if-contains.false) c.in_ok-insert.ensures.inserted
