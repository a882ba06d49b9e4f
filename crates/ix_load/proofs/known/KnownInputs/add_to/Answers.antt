use Rattle.ix_load.proofs.Receivers.{adds-both}
use Rattle.ix_load.proofs.known.KnownInputs.add_to.Goals as goal

pub returns-in-Some : goal.returns-in-Some
returns-in-Some g c =
    adds-both c.args.self.now.files.reading c.args.self.now.list c.in-Some.path c.args.files.items c.args.blocks.now c.add_files.new.blocks c.add_listed.new.blocks c.add_listed.result
    c.in-Some.is c.in_ok-add_files.ensures c.add_listed.ensures
