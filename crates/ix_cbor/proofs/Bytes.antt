-- Lists of bytes, place by place.
use Rattle.std.proofs.Common.{◌≡◌, ℕ, suc, ◌+◌, ◌<◌, List, ◌∷◌, ◌++◌, length, get_or, take, subst, arith, inl, inr, length-take, get_or-take, get_or-append-add}
use Rattle.std.proofs.lemmas.Bool.{cases_lt}
use Rattle.std.proofs.lemmas.List.{get_or_past}
use Rattle.std.proofs.lemmas.List.Elements.{All-get_or}
use Rattle.ix_cid.specs.Bytes.{AreBytes}

-- no byte is past the end, where 0 is read
abbrev pub IsBytes : List ℕ → Type 0
IsBytes b = (i : ℕ) → get_or b i 0 < 256

-- bytes, as the contracts state them
pub IsBytes-from_are_bytes : (b : List ℕ) → AreBytes b → IsBytes b
IsBytes-from_are_bytes b h i =
    elim (cases_lt i (length b)) [
      | inl lt ↦ All-get_or (λ x. x < 256) b i 0 lt h
      | inr le ↦ rw (get_or_past b i 0 le) (omega arith)
    ]

-- the first n bytes
pub IsBytes-take : (n : ℕ) (b : List ℕ) → IsBytes b → IsBytes (take n b)
IsBytes-take n b h i =
    elim (cases_lt i n) [
      | inl lt ↦ rw (get_or-take n b i 0 lt) (h i)
      | inr le ↦ rw (get_or_past (take n b) i 0 (omega (arith, length-take n b))) (omega arith)
    ]

-- after the first byte
pub IsBytes-rest : (x : ℕ) (b : List ℕ) → IsBytes (x ∷ b) → IsBytes b
IsBytes-rest x b h i = h (suc i)

-- after bytes that are before it
pub IsBytes-behind : (whole front rest : List ℕ) → IsBytes whole → whole ≡ front ++ rest → IsBytes rest
IsBytes-behind whole front rest h is i =
    let at : get_or (front ++ rest) (length front + i) 0 < 256 = subst (λ (b : List ℕ). get_or b (length front + i) 0 < 256) is (h (length front + i)) in
    rw (get_or-append-add front rest i 0) at at
