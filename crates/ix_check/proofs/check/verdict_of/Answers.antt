use Rattle.std.proofs.Common.{false, sym, ap, ◌∙◌}
use Rattle.ix_store.specs.Memo.{hash_matches}
use Rattle.ix_store.proofs.Stores.{asked-there}
use Rattle.ix_verdict.specs.Needed.{needed_of}
use Rattle.ix_store.proofs.Verdicts.{verdict-absent}
use Rattle.ix_check.proofs.Verdicts.{verdict-there}
use Rattle.ix_check.proofs.check.verdict_of.Goals as goal

pub returns-in-None : goal.returns-in-None
returns-in-None c =
    verdict-absent c.args.store.now c.args.visit.now.cid c.in-Block.field-0 (c.in-Block.ensures ∙ ap needed_of c.parts.ensures) (sym c.in-None.is ∙ c.requires.block)

pub returns-in-Some : goal.returns-in-Some
returns-in-Some c =
    let store = c.args.store.now in
    let cid = c.args.visit.now.cid in
    let there = asked-there hash_matches store c.in-Some.place cid c.hash_matches.result false (sym c.in-Some.is ∙ c.requires.block) c.hash_matches.ensures in
    c.of_block.ensures
    ∙ verdict-there store cid c.in-Block.field-0 (c.in-Block.ensures ∙ ap needed_of c.parts.ensures) there.0 c.hash_matches.result c.args.visit.now.malformed there.1 there.2 c.requires.malformed
