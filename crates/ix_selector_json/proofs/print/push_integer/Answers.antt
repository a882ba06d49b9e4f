use Rattle.std.proofs.Common.{sym, ap, subst, ◌∙◌}
use Rattle.std.specs.Fmt.{signed_decimal}
use Rattle.std.specs.Int.{w128}
use Rattle.std.proofs.lemmas.Int.{to_z-of_z}
use Rattle.json.specs.Print.{IsNumber}
use Rattle.ix_selector_json.proofs.Decimals.{IsNumber-integer}
use Rattle.ix_selector_json.proofs.print.push_integer.Goals as goal

pub number-requires : goal.number-requires
number-requires c =
    subst IsNumber (sym (c.as_str.ensures.value ∙ c.in_ok-digits.ensures.ok ∙ ap signed_decimal (to_z-of_z w128 c.args.integer c.ranges.integer))) (IsNumber-integer c.args.integer c.ranges.integer)
