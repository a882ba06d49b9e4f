use Rattle.std.proofs.Common.{ap, sym, ◌∙◌, ◌==◌}
use Rattle.std.specs.List.{position}
use Rattle.ix_cid_text.specs.Base.{digit_value, alphabet}
use Rattle.ix_cid_text.specs.declared.base.Base.TheVariants.{Base16, Base32, Base36}
use Rattle.ix_cid_text.proofs.base.Base.digit.Goals as goal

pub returns-in-Base16-clause-exact : goal.returns-in-Base16-clause-exact
returns-in-Base16-clause-exact c =
    c.place_in.ensures ∙ ap (λ y. position (λ d. d == y) (alphabet Base16)) c.to_ascii_lowercase.ensures.value
    ∙ ap (λ b. digit_value b c.args.byte) (sym c.in-Base16.is)

pub returns-in-Base32-clause-exact : goal.returns-in-Base32-clause-exact
returns-in-Base32-clause-exact c =
    c.place_in-in-Base32.ensures ∙ ap (λ y. position (λ d. d == y) (alphabet Base32)) c.to_ascii_lowercase-in-Base32.ensures.value
    ∙ ap (λ b. digit_value b c.args.byte) (sym c.in-Base32.is)

pub returns-in-Base36-clause-exact : goal.returns-in-Base36-clause-exact
returns-in-Base36-clause-exact c =
    c.place_in-in-Base36.ensures ∙ ap (λ y. position (λ d. d == y) (alphabet Base36)) c.to_ascii_lowercase-in-Base36.ensures.value
    ∙ ap (λ b. digit_value b c.args.byte) (sym c.in-Base36.is)

pub returns-in-Base58Btc-clause-exact : goal.returns-in-Base58Btc-clause-exact
returns-in-Base58Btc-clause-exact c = c.place_in-in-Base58Btc.ensures ∙ ap (λ b. digit_value b c.args.byte) (sym c.in-Base58Btc.is)

pub returns-in-Base64-clause-exact : goal.returns-in-Base64-clause-exact
returns-in-Base64-clause-exact c = c.place_in-in-Base64.ensures ∙ ap (λ b. digit_value b c.args.byte) (sym c.in-Base64.is)

pub returns-in-Base64Url-clause-exact : goal.returns-in-Base64Url-clause-exact
returns-in-Base64Url-clause-exact c = c.place_in-in-Base64Url.ensures ∙ ap (λ b. digit_value b c.args.byte) (sym c.in-Base64Url.is)
