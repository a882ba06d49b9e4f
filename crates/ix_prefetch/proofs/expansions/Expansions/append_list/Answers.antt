use Rattle.std.proofs.Common.{◌≡◌, ℕ, ◌<◌, length, slice_range, subst, arith}
use Rattle.std.proofs.lemmas.Result.{err_from_is_err_and}
use Rattle.ix_prefetch.specs.Growing.{Adds}
use Rattle.ix_prefetch.proofs.Adding.{list_none, list_more, table_still, some_added, some_after}
use Rattle.ix_prefetch.proofs.expansions.Expansions.append_list.Goals as goal

pub loop-link-init : goal.loop-link-init
loop-link-init c = list_none c.args.self.now c.args.part.now.links c.args.pair.from

pub append_link-requires-clause-table : goal.append_link-requires-clause-table
append_link-requires-clause-table c = table_still c.args.part.now c.args.self.now c.loop-link.self (slice_range c.args.part.now.links c.args.pair.from c.loop-link.link) c.requires.table c.loop-link.invariant

pub loop-link-preserved : goal.loop-link-preserved
loop-link-preserved c =
    let within = c.requires.pair.within in
    let lt : c.loop-link.link < length c.args.part.now.links = omega arith in
    list_more c.args.part.now c.args.self.now c.loop-link.self c.append_link.new.self c.args.pair.from c.loop-link.link c.loop-link.auto.link lt c.loop-link.invariant c.in_ok-append_link.ensures.added

pub returns-in_err-append_link : goal.returns-in_err-append_link
returns-in_err-append_link c =
    let links = c.args.part.now.links in
    let p = err_from_is_err_and c.from_residual.result c.from_residual.ensures.1 in
    some_added c.args.self.now c.append_link.new.self (slice_range links c.args.pair.from c.args.pair.to) c.from_residual.result p.0 p.1
    (some_after c.args.self.now c.loop-link.self c.append_link.new.self (slice_range links c.args.pair.from c.loop-link.link) c.loop-link.invariant c.in_err-append_link.ensures.err)

pub returns : goal.returns
returns c =
    let to = c.args.pair.to in
    let last : c.loop-link.link ≡ to = let within = c.loop-link.auto.link-end c.requires.pair.ordered in omega (arith, within) in
    record { added = subst (λ (k : ℕ). Adds c.args.self.now c.loop-link.self (slice_range c.args.part.now.links c.args.pair.from k)) last c.loop-link.invariant; err = tt }
