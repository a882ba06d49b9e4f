use Rattle.std.proofs.Common.{◌∙◌, ◌++◌, ◌∷◌, [], ap}
use Rattle.ix_prefetch.specs.declared.state.Waits.{Waits}
use Rattle.ix_prefetch.proofs.Listing.{next_listed, next_found}
use Rattle.ix_prefetch.proofs.next_link.next_link.Goals as goal

pub returns-in-Some-List : goal.returns-in-Some-List
returns-in-Some-List c =
    next_listed c.args.table.now c.args.state.now c.pop.new.self c.in-Some-List.list c.take_first-in-Some-List.new.list c.take_first-in-Some-List.result c.requires c.if-state.false
    (c.in-Some-List.ensures.items ∙ ap (λ (w : Waits). c.pop.new.self.items ++ w ∷ []) c.in-Some-List.field-0-is) c.take_first-in-Some-List.ensures.first c.take_first-in-Some-List.ensures.rest

pub returns-in-Some-Link : goal.returns-in-Some-Link
returns-in-Some-Link c =
    next_found c.args.table.now c.args.state.now c.pop.new.self c.in-Some-Link.link c.requires c.if-state.false
    (c.in-Some-Link.ensures.items ∙ ap (λ (w : Waits). c.pop.new.self.items ++ w ∷ []) c.in-Some-Link.field-0-is)
