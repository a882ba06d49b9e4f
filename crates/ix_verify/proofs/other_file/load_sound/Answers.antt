use Rattle.ix_verify.proofs.FileFaults.{copies-loaded, copies-fault-along}
use Rattle.ix_verify.proofs.other_file.load_sound.Goals as goal

pub returns-in-Err : goal.returns-in-Err
returns-in-Err g c = copies-fault-along c.args.others.now c.args.car.now c.in-Err.fault c.new-empty.result c.new-empty.ensures c.in-Err.ensures

pub returns-in-Ok-load_sound_others : goal.returns-in-Ok-load_sound_others
returns-in-Ok-load_sound_others g c =
    copies-loaded c.args.others.now c.args.car.now c.new-empty.result c.in-Ok.first c.in-Ok-load_sound_others.built.store c.in-Ok-load_sound_others.built.later_count c.new-empty.ensures c.in-Ok.ensures c.in-Ok-load_sound_others.ensures.store c.in-Ok-load_sound_others.ensures.later
