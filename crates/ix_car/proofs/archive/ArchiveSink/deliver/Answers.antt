use Rattle.ix_car.specs.declared.sink.Delivery.{Delivery}
use Rattle.ix_car.specs.ArchiveMeaning.{known_in}
use Rattle.ix_car.specs.Archiving.{text_due}
use Rattle.ix_car.proofs.Open.{open_means}
use Rattle.ix_car.proofs.Delivered.{delivers-ok, delivers-unfailed, delivers-err, delivers-refused, delivers-memory, delivers-archived}
use Rattle.ix_car.proofs.archive.ArchiveSink.deliver.Goals as goal

pub take-requires-clause-unclosed : goal.take-requires-clause-unclosed
take-requires-clause-unclosed g c = open_means c.args.self.now.deliveries c.args.self.now.closed c.requires.open

pub returns-clause-ok : goal.returns-clause-ok
returns-clause-ok g c = let d : Delivery = record { visit = c.args.visit; verdict = c.args.verdict } in
    delivers-ok g.W.Write.contents d c.args.self.now (text_due (known_in c.args.self.now) c.args.self.now.store c.args.self.now.deliveries d) c.take.result c.take.new.self c.take.ensures c.requires.open

pub returns-clause-ok_failed : goal.returns-clause-ok_failed
returns-clause-ok_failed g c = let d : Delivery = record { visit = c.args.visit; verdict = c.args.verdict } in
    delivers-unfailed g.W.Write.contents d c.args.self.now (text_due (known_in c.args.self.now) c.args.self.now.store c.args.self.now.deliveries d) c.take.result c.take.new.self c.take.ensures

pub returns-clause-err : goal.returns-clause-err
returns-clause-err g c = let d : Delivery = record { visit = c.args.visit; verdict = c.args.verdict } in
    delivers-err g.W.Write.contents d c.args.self.now (text_due (known_in c.args.self.now) c.args.self.now.store c.args.self.now.deliveries d) c.take.result c.take.new.self c.take.ensures

pub returns-clause-refused : goal.returns-clause-refused
returns-clause-refused g c = let d : Delivery = record { visit = c.args.visit; verdict = c.args.verdict } in
    delivers-refused g.W.Write.contents d c.args.self.now (text_due (known_in c.args.self.now) c.args.self.now.store c.args.self.now.deliveries d) c.take.result c.take.new.self c.take.ensures c.requires.unfailed

pub returns-clause-kept : goal.returns-clause-kept
returns-clause-kept g c = let d : Delivery = record { visit = c.args.visit; verdict = c.args.verdict } in
    delivers-archived g.W.Write.contents d c.args.self.now c.take.result c.take.new.self c.take.ensures c.requires.unfailed

pub returns-clause-memory : goal.returns-clause-memory
returns-clause-memory g c = let d : Delivery = record { visit = c.args.visit; verdict = c.args.verdict } in
    delivers-memory g.W.Write.contents d c.args.self.now (text_due (known_in c.args.self.now) c.args.self.now.store c.args.self.now.deliveries d) c.take.result c.take.new.self c.take.ensures
