use Rattle.std.proofs.Common.{arith}
use Rattle.std.proofs.lemmas.Bool.{ltb-true, ltb-false}
use Rattle.ix_selector.proofs.Parts.{one_lacks}
use Rattle.ix_selector.proofs.read.only.Goals as goal
use Rattle.ix_selector.proofs.read.only.Goals.{in_default-via-then-entries-lt1, in_default-via-else-entries-lt1+else-entries-lt2}

pub returns-in_default : goal.returns-in_default
returns-in_default c =
    elim c.in_default.branch [
      | in_default-via-then-entries-lt1 w ↦ one_lacks c.args.key.now c.args.entries.now (λ e. omega (arith, ltb-true, ltb-false))
      | in_default-via-else-entries-lt1+else-entries-lt2 w ↦ one_lacks c.args.key.now c.args.entries.now (λ e. omega (arith, ltb-true, ltb-false))
    ]
