-- Known bytes that grow, and parts of texts.
use Rattle.std.proofs.Common.{◌≡◌, ℕ, ◌+◌, ◌≤◌, List, ◌++◌, length, take, drop, sym, ap, ◌∙◌, subst, arith}
use Rattle.std.specs.Prelude.{Option, Some, None}
use Rattle.std.specs.Io.KnownBytes.{Appends}
use Rattle.std.proofs.lemmas.List.{take-take, drop-take, take-append-drop, take-append-le, drop_at}
use Rattle.std.proofs.KnownBytes.{Appends-trans}

-- what known bytes are once they have grown
pub appended : (xs text : List ℕ) (after : Option (List ℕ)) → Appends (Some xs) after text → after ≡ Some (xs ++ text)
appended xs text None h = absurd h
appended xs text (Some ys) h = ap Some h

-- a part of a text, and a part of what follows
pub take-more : (n m : ℕ) (xs : List ℕ) → take n xs ++ take m (drop n xs) ≡ take (n + m) xs
take-more n m xs =
    let within : n ≤ n + m = omega arith in
    ap (λ l. l ++ take m (drop n xs)) (sym (take-take n (n + m) xs within)) ∙ ap (λ l. take n (take (n + m) xs) ++ l) (sym (drop-take n m xs))
    ∙ take-append-drop n (take (n + m) xs)

-- a turn of the loop that writes a text
pub appends-turn : (a b c : Option (List ℕ)) (n m : ℕ) (text : List ℕ) → Appends a b (take n text) → Appends b c (take m (drop n text)) → Appends a c (take (n + m) text)
appends-turn a b c n m text h k =
    subst (λ l. Appends a c l) (take-more n m text) (Appends-trans a b c (take n text) (take m (drop n text)) h k)

-- a head that was written whole, and a part of the block after it
pub appends-section : (a b c : Option (List ℕ)) (n m : ℕ) (head block : List ℕ) → n ≤ length head → length head ≤ n → Appends a b (take n head) → Appends b c (take m block) → Appends a c (take (n + m) (head ++ block))
appends-section a b c n m head block within whole h k =
    let same : length head ≡ n = omega arith in
    appends-turn a b c n m (head ++ block) (subst (λ l. Appends a b l) (sym (take-append-le n head block within)) h)
    (subst (λ l. Appends b c (take m l)) (sym (drop_at head block n same)) k)
