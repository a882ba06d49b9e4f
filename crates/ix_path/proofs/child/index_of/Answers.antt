use Rattle.std.proofs.Common.{◌≡◌, ◌<◌, ◌^◌, true, sym, ◌∙◌, subst, rules}
use Rattle.std.specs.Prelude.{Option}
use Rattle.std.specs.Option.{SomeIff}
use Rattle.std.specs.Str.Parse.{digits_value, ParsesUnsigned}
use Rattle.ix_path.specs.Children.{is_index}
use Rattle.ix_path.proofs.Digits.{index_is_text, index_parsed, no_text, ok_text}
use Rattle.ix_path.proofs.child.index_of.Goals as goal

pub returns-in_err-ok : goal.returns-in_err-ok
returns-in_err-ok c =
    let is : is_index c.args.segment.now ≡ true = search rules in
    absurd (no_text c.from_utf8.result c.args.segment.now _ c.from_utf8.ensures.cases (sym c.ok.ensures.value ∙ c.in_err-ok.was) (index_is_text c.args.segment.now is))

pub returns : goal.returns
returns c =
    let s = c.args.segment.now in
    let is : is_index s ≡ true = search rules in
    let same = ok_text c.from_utf8.result s _ c.in_ok-ok.field-0 c.from_utf8.ensures.cases (sym c.ok.ensures.value ∙ c.in_ok-ok.was) in
    let parses = subst (λ t. ParsesUnsigned 64 10 t c.parse.result) same c.parse.ensures.value.0 in
    subst (λ (o : Option _). SomeIff o ((is_index s ≡ true) × (digits_value 10 s < 2 ^ 64)) (digits_value 10 s)) (sym c.ok-2.ensures.value) (index_parsed s c.parse.result is parses)
