-- Proper parts of texts.
use Rattle.std.proofs.Common.{◌≡◌, ℕ, ◌<◌, List, ◌++◌, length, take, drop, ap, ◌∙◌, arith}
use Rattle.std.proofs.lemmas.List.{append_assoc, take-append-drop, length-drop}
use Rattle.ix_car.specs.ArchiveMeaning.{IsProperPrefix}

-- fewer bytes than a text has are a proper part of it
pub proper-take : (n : ℕ) (text : List ℕ) → n < length text → IsProperPrefix (take n text) text
proper-take n text short = (
  drop n text,
  take-append-drop n text,
  λ e. let none : length (drop n text) ≡ 0 = ap length e in absurd (omega (arith, none, length-drop n text)),
)

-- a proper part after other bytes
pub proper-behind : (xs part text : List ℕ) → IsProperPrefix part text → IsProperPrefix (xs ++ part) (xs ++ text)
proper-behind xs part text h = (h.0, append_assoc xs part h.0 ∙ ap (λ l. xs ++ l) h.1, h.2)
