use Rattle.std.proofs.Common.{sym, ap, subst, ◌∙◌}
use Rattle.std.specs.Fmt.{signed_decimal}
use Rattle.std.specs.Int.{w128}
use Rattle.std.proofs.lemmas.Int.{to_z-of_z}
use Rattle.json.specs.Print.{IsNumber}
use Rattle.ix_dag_json.proofs.Digits.{IsNumber-any}
use Rattle.ix_dag_json.proofs.leaf.push_integer.Goals as goal

pub token-requires : goal.token-requires
token-requires c =
    subst IsNumber (sym (c.as_str.ensures.value ∙ c.in_ok-digits.ensures.ok ∙ ap signed_decimal (to_z-of_z w128 c.args.integer c.ranges.integer))) (IsNumber-any c.args.integer c.ranges.integer)
