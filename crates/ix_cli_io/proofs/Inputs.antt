-- An input that is shorter than what was asked for was read whole.
use Rattle.std.proofs.Common.{◌≡◌, ◌∙◌, ap, ℕ, ◌<◌, ◌≤◌, List, [], ◌++◌, length, take, arith}
use Rattle.std.specs.Prelude.{Option, Some, None, IfSome, option_map, min}
use Rattle.std.proofs.lemmas.List.{length-take, take_all}

-- the least of two is below the first, so it is the second
min_below : (n m k : ℕ) → k ≡ min n m → k < n → m ≤ n
min_below n m k same less = omega arith

pub whole_read : (n : ℕ) (known : Option (List ℕ)) (old read : List ℕ) → old ≡ [] → IfSome (option_map (take n) known) (λ xs. read ≡ old ++ xs) → length read < n → IfSome known (λ bytes. read ≡ bytes)
whole_read n None old read empty told less = tt
whole_read n (Some bytes) old read empty told less =
    let front : read ≡ take n bytes = told ∙ ap (λ (l : List ℕ). l ++ take n bytes) empty in
    front ∙ take_all n bytes (min_below n (length bytes) (length read) (ap length front ∙ length-take n bytes) less)
