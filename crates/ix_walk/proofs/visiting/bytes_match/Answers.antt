use Rattle.std.proofs.Common.{sym, ◌∙◌, ap}
use Rattle.ix_verdict.specs.Needed.{needed_of}
use Rattle.ix_walk.proofs.Goes.{sound_absent, sound_stored}
use Rattle.ix_walk.proofs.visiting.bytes_match.Goals as goal

pub returns-in-None : goal.returns-in-None
returns-in-None c =
    sound_absent c.args.store.now c.args.visit.now.cid c.in-Block.field-0 (c.in-Block.ensures ∙ ap needed_of c.parts.ensures) (sym c.in-None.is ∙ c.requires)

pub returns-in-Some : goal.returns-in-Some
returns-in-Some c =
    sound_stored c.args.store.now c.args.visit.now.cid c.in-Block.field-0 (c.in-Block.ensures ∙ ap needed_of c.parts.ensures) c.in-Some.place c.hash_matches.result (sym c.in-Some.is ∙ c.requires) c.hash_matches.ensures
