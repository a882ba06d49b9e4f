use Rattle.std.proofs.Common.{sym, ◌∙◌}
use Rattle.ix_known.proofs.KnownCopies.{known-none, known-lacks, known-there}
use Rattle.ix_known.proofs.blocks.KnownBlocks.store_with.Goals as goal

pub returns-then-knows : goal.returns-then-knows
returns-then-knows c =
    known-there c.self.inside.store c.args.self.now c.in-Some.store c.args.cid.now c.self.view_is c.in-Some.is (sym c.knows.ensures ∙ c.if-knows.true)

pub returns-else-knows : goal.returns-else-knows
returns-else-knows c =
    known-lacks c.self.inside.store c.args.self.now c.in-Some.store c.args.cid.now c.self.view_is c.in-Some.is (sym c.knows.ensures ∙ c.if-knows.false)

pub returns-in-None : goal.returns-in-None
returns-in-None c = known-none c.self.inside.store c.args.self.now c.args.cid.now c.self.view_is c.in-None.is
