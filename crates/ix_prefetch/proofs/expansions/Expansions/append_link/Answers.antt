use Rattle.ix_prefetch.specs.Expansions.{table_of}
use Rattle.ix_prefetch.proofs.Adding.{stored_tried, written_tried}
use Rattle.ix_prefetch.proofs.expansions.Expansions.append_link.Goals as goal

pub returns-in_ok-pair-in-Stored : goal.returns-in_ok-pair-in-Stored
returns-in_ok-pair-in-Stored c =
    let s = c.self.inside in
    stored_tried c.args.part.now c.args.self.now c.number_of.new.self (table_of s.store.now s.job.now s.residuals.items s.cids.items s.links.items) c.push_stored.new.self c.args.link c.in-Stored.residual c.in-Stored.place c.in-Stored.pair
    c.in_ok-residual-in-Stored.residual c.residual.result.now c.push_stored.result c.requires.table c.in-Stored.ensures c.in_ok-residual-in-Stored.ensures.adds c.self.view_is c.residual.ensures.value c.in_ok-residual-in-Stored.ensures.number
    c.push_stored.ensures.added c.push_stored.ensures.err

pub returns-in_ok-residual-in-Written : goal.returns-in_ok-residual-in-Written
returns-in_ok-residual-in-Written c =
    written_tried c.args.part.now c.args.self.now c.number_of-in-Written.new.self c.push_written.new.self c.args.link c.in-Written.residual c.in_ok-residual-in-Written.residual c.in-Written.cid c.residual-in-Written.result.now c.push_written.result
    c.in-Written.ensures c.in_ok-residual-in-Written.ensures.adds c.residual-in-Written.ensures.value c.in_ok-residual-in-Written.ensures.number c.push_written.ensures.added c.push_written.ensures.err
