-- The steps to a node, the last one first.
use Rattle.std.proofs.Common.{◌≡◌, ℕ, zero, suc, ◌-◌, ◌<◌, ◌≤◌, Bool, false, List, [], ◌∷◌, ◌++◌, length, take, drop, reverse, refl, sym, ◌∙◌, ap, append_assoc, length-append, arith}
use Rattle.std.specs.Prelude.{Option, None, Some, IfSome, IfNone, ◌==◌, if◌then◌else◌}
use Rattle.std.specs.Borrow.{Bor}
use Rattle.std.specs.Option.{option_copied}
use Rattle.std.specs.Slice.{IsItemAt}
use Rattle.std.proofs.Math.Seq.{split_at}
use Rattle.std.proofs.lemmas.Bool.Decides.{nat_tests}
use Rattle.std.proofs.lemmas.List.{length-reverse, length-take}
use Rattle.ix_selector.specs.Residual.{step_of}
use Rattle.ix_trace.specs.declared.expansion.StepFrom.{StepFrom}
use Rattle.ix_trace.specs.Links.{steps_back_to, steps_to}
use Rattle.ix_trace.proofs.Found.{steps_stay, new_steps}

-- no step leads to a number that no node has
past : (n l : ℕ) → l < n → (n == l) ≡ false
past n l more = grind (arith, nat_tests)

back_past : (ss : List StepFrom) (n : ℕ) → length ss < n → steps_back_to ss n ≡ []
back_past [] n more = refl
back_past (s ∷ older) n more =
    ap (λ (b : Bool). if b then steps_back_to older s.parent ++ step_of s.step ∷ [] else steps_back_to older n) (past n (length (s ∷ older)) more) ∙ back_past older n (omega (arith, more))

-- nor to the root
not_last : (l : ℕ) → (0 == suc l) ≡ false
not_last l = grind (arith, nat_tests)

back_root : (ss : List StepFrom) → steps_back_to ss 0 ≡ []
back_root [] = refl
back_root (s ∷ older) =
    ap (λ (b : Bool). if b then steps_back_to older s.parent ++ step_of s.step ∷ [] else steps_back_to older 0) (not_last (length older)) ∙ back_root older

pub no_steps : (steps : List StepFrom) (n : ℕ) → (1 ≤ n → ⊥) → steps_to steps n ≡ []
no_steps steps zero not = back_root (reverse steps)
no_steps steps (suc n) not = absurd (not (omega arith))

-- the step to a node, and those to its parent
pub last_there : (steps : List StepFrom) (n k : ℕ) (r : Option (Bor StepFrom)) → 1 ≤ n → k ≡ n - 1 → IsItemAt steps k r
    → IfSome (option_copied r) (λ from. steps_to steps n ≡ steps_to (take (n - 1) steps) from.parent ++ step_of from.step ∷ [])
last_there steps n k None some is item = tt
last_there steps n k (Some x) some is item =
    let lt : k < length steps = item.3.0 in
    let whole : steps ≡ take k steps ++ x.now ∷ drop (suc k) steps = split_at steps k x.now lt ∙ ap (λ y. take k steps ++ y ∷ drop (suc k) steps) (sym item.1) in
    let size : length (take k steps) ≡ k = let s = length-take k steps in omega (arith, s, lt) in
    let here : n ≡ suc (length (take k steps)) = omega (arith, size, is, some) in
    ap (λ ss. steps_to ss n) (whole ∙ sym (append_assoc (take k steps) (x.now ∷ []) (drop (suc k) steps)))
    ∙ steps_stay (take k steps ++ x.now ∷ []) (drop (suc k) steps) n (let l = length-append (take k steps) (x.now ∷ []) in omega (arith, l, here))
    ∙ ap (steps_to (take k steps ++ x.now ∷ [])) here
    ∙ new_steps (take k steps) x.now
    ∙ ap (λ m. steps_to (take m steps) x.now.parent ++ step_of x.now.step ∷ []) is

-- or there is none
pub last_none : (steps : List StepFrom) (n k : ℕ) (r : Option (Bor StepFrom)) → 1 ≤ n → k ≡ n - 1 → IsItemAt steps k r → IfNone (option_copied r) (steps_to steps n ≡ [])
last_none steps n k None some is item = back_past (reverse steps) n (let l = length-reverse steps in let le : length steps ≤ k = item.3 in omega (arith, l, le, is, some))
last_none steps n k (Some x) some is item = tt
