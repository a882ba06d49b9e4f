use Rattle.std.proofs.Common.{◌≡◌, ◌∙◌, ◌-◌, rules}
use Rattle.ix_store.specs.Sound.{unsound_count, first_copies, sound_copies}
use Rattle.ix_store.proofs.Later.{later-difference}
use Rattle.ix_store.proofs.sound.SoundBuilder.build.Goals as goal

pub returns-clause-later : goal.returns-clause-later
returns-clause-later g c =
    let difference : c.saturating_sub-later_count.result ≡ unsound_count (first_copies c.args.self.pairs) - unsound_count (sound_copies c.args.self.pairs) = search rules in
    difference ∙ later-difference c.args.self.pairs
