use Rattle.std.proofs.Common.{◌≡◌, ◌∙◌, ap, sym}
use Rattle.ix_cli_io.specs.Naming.{is_named_by}
use Rattle.ix_cli_io.proofs.Rules.{complete_at_close, whole_at_close}
use Rattle.ix_cli_io.proofs.naming.NamingRule.names.Goals as goal

pub returns-then-is_done : goal.returns-then-is_done
returns-then-is_done c = λ told same left.
    let a = c.args in
    complete_at_close a.self.now.allowed a.job.now a.end a.skips.now c.has_root.result told (sym c.is_done.ensures ∙ c.if-is_done.true) c.has_root.ensures same left
    ∙ ap (λ n. is_named_by n a.job.now told) (sym c.in-Complete.is)

pub returns-then-is_done-2 : goal.returns-then-is_done-2
returns-then-is_done-2 c = λ told same left.
    let a = c.args in
    whole_at_close a.self.now.allowed a.job.now a.end a.skips.now c.has_any.result told (sym c.is_done-in-Whole.ensures ∙ c.if-is_done-2.true) c.has_any.ensures same left
    ∙ ap (λ n. is_named_by n a.job.now told) (sym c.in-Whole.is)
