-- Where a section is that is taken next.
use Rattle.std.proofs.Common.{◌≡◌, ℕ, ◌-◌, List, ◌++◌, length, drop, ◌∙◌, ap, arith, length-append}
use Rattle.std.proofs.lemmas.List.{drop_at}

-- what is left of bytes is at their end
pub rest-at : (b moved rest : List ℕ) → b ≡ moved ++ rest → drop (length b - length rest) b ≡ rest
rest-at b moved rest is =
    let n = length b - length rest in
    let same : length moved ≡ n = omega (arith, ap length is, length-append moved rest) in
    ap (drop n) is ∙ drop_at moved rest n same
