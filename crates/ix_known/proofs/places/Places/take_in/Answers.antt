use Rattle.ix_known.proofs.Decided.{taken-nothing, taken-copy, kept-copy}
use Rattle.ix_known.proofs.places.Places.take_in.Goals as goal

pub returns-in-Nothing-clause-taken : goal.returns-in-Nothing-clause-taken
returns-in-Nothing-clause-taken c = taken-nothing c.args.self.now c.args.finding c.in-Nothing.is

pub returns-in-CopyOf-clause-taken : goal.returns-in-CopyOf-clause-taken
returns-in-CopyOf-clause-taken c = taken-copy c.decide.result c.args.self.now c.decide.new.self c.args.finding c.in-CopyOf.place c.in-CopyOf.is_sound c.in-CopyOf.is c.decide.ensures

pub returns-in-CopyOf-clause-kept : goal.returns-in-CopyOf-clause-kept
returns-in-CopyOf-clause-kept c = kept-copy c.decide.result c.args.self.now c.decide.new.self c.in-CopyOf.place c.in-CopyOf.is_sound c.decide.ensures
