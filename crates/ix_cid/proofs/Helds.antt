-- Where the bytes of CIDs are.
use Rattle.std.proofs.Common.{◌≡◌, ℕ, List, take, drop, ap, ◌∙◌, subst, length-take}
use Rattle.std.proofs.lemmas.List.{take_min}
use Rattle.ix_cid.specs.Held.{StandsAt}

-- what is taken from a place on is there
pub taken-stands : (whole : List ℕ) (start size : ℕ) (bytes : List ℕ) → take size (drop start whole) ≡ bytes → StandsAt whole start bytes
taken-stands whole start size bytes is =
    let rest = drop start whole in
    subst (StandsAt whole start) is (ap (λ (n : ℕ). take n rest) (length-take size rest) ∙ take_min size rest)
