-- One item by its own head, as the code takes it apart.
use Rattle.std.proofs.Common.{◌≡◌, ◌≤◌, ◌-◌, ◌/◌, ◌%◌, arith, ℕ, List, [], ◌∷◌, length, get_or, take, drop}
use Rattle.std.specs.Prelude.{Result, Ok}
use Rattle.std.proofs.lemmas.List.{take_all}
use Rattle.ix_cbor.specs.Data.{Data}
use Rattle.ix_cbor.specs.Reading.{Fault, Own, leaf, own_after, own_at}

-- all bytes after the first one
tail_is : (x : ℕ) (b : List ℕ) → take (length (x ∷ b) - 1) b ≡ b
tail_is x b = take_all (length (x ∷ b) - 1) b (omega arith)

-- an item by the major type and the information in its first byte
pub own_at-behind : (b : List ℕ) (major info : ℕ) → 1 ≤ length b → major ≡ get_or b 0 0 / 32 → info ≡ get_or b 0 0 % 32 → own_after b major info (take (length b - 1) (drop 1 b)) ≡ own_at b
own_at-behind [] major info h is is_info = absurd (omega arith)
own_at-behind (x ∷ b) major info h is is_info = (λ i. own_after (x ∷ b) (is i) (is_info i) (tail_is x b i))

-- a byte string or a text, as data
abbrev pub as_leaf : (List ℕ → Data) → List ℕ × List ℕ → Result (Own × List ℕ) Fault
as_leaf as_data s = Ok (leaf (as_data s.0), s.1)
