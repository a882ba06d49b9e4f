use Rattle.std.proofs.Common.{Ok, ap, sym, ◌∙◌}
use Rattle.ix_cid.proofs.Base32Laws as laws
use Rattle.ix_cid.proofs.text_law.base32_is_read_under_its_conditions.Goals as goal

pub returns-clause-read : goal.returns-clause-read
returns-clause-read c letters b = (laws.bytes_of_base32-only letters b, λ h. laws.bytes_of_base32-is letters h.0 ∙ ap Ok (sym h.1))

pub returns-clause-refused : goal.returns-clause-refused
returns-clause-refused c letters = (laws.bytes_of_base32-refused-only letters, laws.bytes_of_base32-refused letters)

pub returns-clause-spelled : goal.returns-clause-spelled
returns-clause-spelled c letters is = laws.base32_of-letters letters is
