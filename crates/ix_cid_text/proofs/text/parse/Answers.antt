use Rattle.std.proofs.Common.{rules, sym, subst, ◌∙◌, ap}
use Rattle.std.specs.Prelude.{option_copied}
use Rattle.ix_cid_text.specs.Gives.{Gives}
use Rattle.ix_cid_text.proofs.TextLaws.{usual}
use Rattle.ix_cid_text.proofs.text.parse.Goals as goal

pub returns-then-is_usual : goal.returns-then-is_usual
returns-then-is_usual c =
    let text = c.args.text.now in
    let none = sym c.after_prefix.ensures.exact ∙ ap option_copied c.in_default.is in
    let is = sym c.is_usual.ensures ∙ c.if-is_usual.true in
    record { exact = subst (λ r. Gives (λ c. c) c.cid_of_digits-then-is_usual.result r) (sym (usual text none is)) (search (rules, c.cid_of_digits-then-is_usual.ensures)) }
