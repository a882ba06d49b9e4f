-- The turns of a loop over two lists side by side.
use Rattle.std.proofs.Common.{◌≡◌, ◌⊎◌, ◌+◌, ◌<◌, List, [], ◌∷◌, ◌++◌, length, map, sym, ◌∙◌, ap, arith, append_assoc, append-nil, length-append}
use Rattle.std.proofs.lemmas.List.{length-map, nil_from_length, map_push}

-- what was taken so far and what is left, after a turn
pub turn : {A B : Type 0} (f : A → B) (all : List B) (ys : List A) (rest more : List B) (x : A) → all ≡ map f ys ++ rest → rest ≡ f x ∷ more → all ≡ map f (ys ++ x ∷ []) ++ more
turn f all ys rest more x is step =
    is ∙ ap (λ l. map f ys ++ l) step ∙ sym (append_assoc (map f ys) (f x ∷ []) more) ∙ ap (λ l. l ++ more) (sym (map_push f ys x))

-- what was taken so far is shorter than the whole
pub room : {A B : Type 0} (f : A → B) (all : List B) (ys : List A) (rest more : List B) (x : A) → all ≡ map f ys ++ rest → rest ≡ f x ∷ more → length ys < length all
room f all ys rest more x is step =
    omega (arith, ap length is, length-append (map f ys) rest, ap length step, length-map ys f)

-- two lists of one length, of which as many were taken, are both taken where one of them is
pub all_taken : {A B C : Type 0} (f : A → B) (g : A → C) (all : List B) (others : List C) (ys : List A) (rest : List B) (left : List C)
    → all ≡ map f ys ++ rest → others ≡ map g ys ++ left → length all ≡ length others → (length rest ≡ 0) ⊎ (length left ≡ 0) → (map f ys ≡ all) × (map g ys ≡ others)
all_taken f g all others ys rest left first second same ended =
    let whole : length all ≡ length ys + length rest = ap length first ∙ length-append (map f ys) rest ∙ ap (λ n. n + length rest) (length-map ys f) in
    let other : length others ≡ length ys + length left = ap length second ∙ length-append (map g ys) left ∙ ap (λ n. n + length left) (length-map ys g) in
    let none : length rest ≡ 0 = omega (arith, ended) in
    let nothing : length left ≡ 0 = omega (arith, ended) in
    (sym (first ∙ ap (λ l. map f ys ++ l) (nil_from_length rest none) ∙ append-nil (map f ys)), sym (second ∙ ap (λ l. map g ys ++ l) (nil_from_length left nothing) ∙ append-nil (map g ys)))
