use Rattle.std.proofs.Common.{◌≡◌, sym, rules}
use Rattle.ix_store.specs.Sound.{unsound_count}
use Rattle.ix_store.proofs.SoundFirst.{none-unsound}
use Rattle.ix_store.proofs.sound.unsound_first_copies.Goals as goal

pub returns-then-unsound_count-eq0 : goal.returns-then-unsound_count-eq0
returns-then-unsound_count-eq0 g c =
    let none : unsound_count c.args.blocks.now.pairs ≡ 0 = search rules in
    sym (none-unsound c.args.blocks.now.pairs none)
