-- Lists of bytes.
use Rattle.std.specs.Prelude.{ℕ, ◌^◌, ◌<◌, List}
use Rattle.std.specs.List.{All}

-- each number is a byte
abbrev pub AreBytes : List ℕ → Type 0
AreBytes b = All (λ x. x < 2 ^ 8) b
