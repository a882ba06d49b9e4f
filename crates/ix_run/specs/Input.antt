-- Standard input: bytes in hex, with spaces, tabs and line ends anywhere.
use Rattle.std.specs.Prelude.{ℕ, Bool, not, ◌||◌, ◌==◌, List, filter, IsErr}
use Rattle.hex.specs.Hex.{decode_of}
use Rattle.ix_run.specs.declared.fault.RunFault.{RunFault}
use Rattle.ix_run.specs.declared.fault.RunFault.TheVariants.{Hex, Root, Car, Jobs, Write, Memory}

-- a space, a tab or a part of a line end
abbrev pub is_blank : ℕ → Bool
is_blank b = (b == 32) || (b == 9) || (b == 10) || (b == 13)

abbrev pub without_blanks : List ℕ → List ℕ
without_blanks text = filter (λ b. not (is_blank b)) text

-- why a text is rejected: it is not hex, or memory ran out
abbrev pub IsInputFault : List ℕ → RunFault → Type 0
IsInputFault text Hex = IsErr (decode_of (without_blanks text))
IsInputFault text Memory = Unit {0}
IsInputFault text (Root f) = ⊥
IsInputFault text (Car f) = ⊥
IsInputFault text (Jobs f) = ⊥
IsInputFault text (Write number) = ⊥
