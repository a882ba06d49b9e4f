use Rattle.std.proofs.Common.{◌≡◌, false, refl, sym, ap, ◌∙◌}
use Rattle.std.specs.Prelude.{from_bits}
use Rattle.std.specs.Float.{binary64, float_is_finite}
use Rattle.json.proofs.Printed.Floats.{IsNumber-plain}
use Rattle.ix_cbor.specs.Data.{float}
use Rattle.ix_dag_json.specs.declared.fault.Wrong.TheVariants.{Float}
use Rattle.ix_dag_json.proofs.Lacking.{wrong_here}
use Rattle.ix_dag_json.proofs.leaf.push_float.Goals as goal

pub returns-then-not-is_finite-clause-refused : goal.returns-then-not-is_finite-clause-refused
returns-then-not-is_finite-clause-refused c =
    let other : float_is_finite (from_bits binary64 c.args.bits) ≡ false =
    ap float_is_finite (sym c.f64_from_bits_with_nan-float.ensures) ∙ sym c.is_finite.ensures.value ∙ c.if-not-is_finite.true in
    wrong_here (float c.args.bits) Float c.here.result c.here.ensures (c.args.bits, refl, other)

pub token-requires : goal.token-requires
token-requires c = IsNumber-plain c.format_finite-digits.result.now c.format_finite-digits.ensures.plain
