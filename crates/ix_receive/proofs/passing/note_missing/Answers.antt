use Rattle.std.proofs.Common.{refl, sym, ◌∙◌}
use Rattle.ix_receive.proofs.Passings.{has-also}
use Rattle.ix_receive.proofs.passing.note_missing.Goals as goal

pub returns : goal.returns
returns c = (
  sym c.may_lack.ensures ∙ c.if-not-may_lack.false,
  has-also c.args.skips.now.missing c.insert.new.self c.args.cid.now c.in_ok-try_clone.field-0 c.in_ok-try_clone.ensures.same c.in_ok-insert.ensures.updates,
  refl,
  refl,
)
