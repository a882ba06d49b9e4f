use Rattle.std.proofs.Common.{◌∙◌, ap, [], ◌∷◌, length, length-append, arith}
use Rattle.ix_jobs.proofs.selector_word.selector_hex.Goals as goal

pub returns-in_ok-format-in-Hex-clause-some : goal.returns-in_ok-format-in-Hex-clause-some
returns-in_ok-format-in-Hex-clause-some c =
    let count = ap length c.in_ok-format-in-Hex.ensures.ok ∙ length-append _ (10 ∷ []) in
    omega (arith, count)
