use Rattle.std.proofs.Common.{◌==◌, rules}
use Rattle.std.specs.List.{slice_split}
use Rattle.ix_jobs.proofs.Pieces.{four_fields_in_turn}
use Rattle.ix_jobs.proofs.line.fields_in.Goals as goal

pub returns-in_err-name : goal.returns-in_err-name
returns-in_err-name c = rw (four_fields_in_turn (slice_split (λ b. b == 32) c.args.text.now)) (search rules)

pub returns-in_err-roots : goal.returns-in_err-roots
returns-in_err-roots c = rw (four_fields_in_turn (slice_split (λ b. b == 32) c.args.text.now)) (search rules)

pub returns-in_err-limit : goal.returns-in_err-limit
returns-in_err-limit c = rw (four_fields_in_turn (slice_split (λ b. b == 32) c.args.text.now)) (search rules)

pub returns-in_err-selector : goal.returns-in_err-selector
returns-in_err-selector c = rw (four_fields_in_turn (slice_split (λ b. b == 32) c.args.text.now)) (search rules)

pub returns : goal.returns
returns c = rw (four_fields_in_turn (slice_split (λ b. b == 32) c.args.text.now)) (search rules)
