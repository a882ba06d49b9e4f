use Rattle.std.proofs.Common.{◌∙◌, sym}
use Rattle.std.proofs.lemmas.Bool.{false≢true}
use Rattle.ix_store.proofs.Stores.{position-there, same-there, none-there}
use Rattle.ix_store.proofs.index.holds.Goals as goal

pub returns-in-Some : goal.returns-in-Some
returns-in-Some c = (
  λ h. position-there c.args.entries.now c.args.place _ c.args.cid.now c.requires (sym c.in-Some.ensures) (sym c.eq.ensures ∙ h),
  λ is. c.eq.ensures ∙ same-there c.args.entries.now c.args.place _ c.args.cid.now (sym c.in-Some.ensures) is,
)

pub returns-in-None : goal.returns-in-None
returns-in-None c = (
  λ h. absurd (false≢true h),
  λ is. absurd (none-there c.args.entries.now c.args.place c.args.cid.now (sym c.in-None.ensures) is),
)
