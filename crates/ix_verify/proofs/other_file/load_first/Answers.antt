use Rattle.ix_verify.proofs.FileFaults.{blocks-loaded, first-fault-along}
use Rattle.ix_verify.proofs.other_file.load_first.Goals as goal

pub returns-in-Err : goal.returns-in-Err
returns-in-Err g c = first-fault-along c.args.others.now c.args.car.now c.in-Err.fault c.new-empty.result c.new-empty.ensures c.in-Err.ensures

pub returns-in-Ok-load_others : goal.returns-in-Ok-load_others
returns-in-Ok-load_others g c =
    blocks-loaded c.args.others.now c.args.car.now c.new-empty.result c.in-Ok.first c.in-Ok-load_others.store c.new-empty.ensures c.in-Ok.ensures c.in-Ok-load_others.ensures
