use Rattle.std.proofs.Common.{rules, subst}
use Rattle.std.specs.Prelude.{IsTrue}
use Rattle.ix_stages.specs.declared.verdicted.Verdicted.{Verdicted}
use Rattle.ix_stages.specs.Lanes.{seen_in}
use Rattle.ix_pipeline.specs.Collected.{HasRoom}
use Rattle.ix_pipeline.proofs.Room.{front_is}
use Rattle.ix_pipeline.proofs.gather.recv_if_room.Goals as goal

pub returns-clause-room : goal.returns-clause-room
returns-clause-room c =
    let has : IsTrue c.has_room.result = search rules in
    let front : HasRoom c.args.collector.now c.front.result.now = c.has_room.ensures.0 has in
    subst (λ (x : Verdicted). HasRoom c.args.collector.now x) (front_is c.is_empty.new.self c.front.result.now c.take_front.result (seen_in c.take_front.new.self) c.front.ensures c.take_front.ensures.front) front
