-- The numbers of a job's items in a list, and weights.
use Rattle.std.proofs.Common.{◌≡◌, ℕ, zero, suc, ◌+◌, ◌≤◌, true, false, cond, List, [], ◌∷◌, ◌++◌, sym, refl, ap, ◌∙◌, arith, append-nil, append_assoc}
use Rattle.ix_stages.specs.declared.item.Item.{Item}
use Rattle.ix_stages.specs.Items.{is_of, seq_of, numbers, count_up, Rises, concat}

-- 1 where the item is of the job
abbrev pub held : ℕ → Item → ℕ
held j x = cond (is_of j x) 1 0

-- a job's numbers in a concatenation are those in its parts
pub numbers-append : (j : ℕ) (xs ys : List Item) → numbers j (xs ++ ys) ≡ numbers j xs ++ numbers j ys
numbers-append j [] ys = refl
numbers-append j (x ∷ xs) ys = elim (is_of j x) as (λ b. cond b (seq_of x ∷ numbers j (xs ++ ys)) (numbers j (xs ++ ys)) ≡ cond b (seq_of x ∷ numbers j xs) (numbers j xs) ++ numbers j ys)
    [ true ↦ ap (λ l. seq_of x ∷ l) (numbers-append j xs ys) | false ↦ numbers-append j xs ys ]

-- one number more at the end of a range
pub count_up-snoc : (n k : ℕ) → count_up n (k + 1) ≡ count_up n k ++ (n + k) ∷ []
count_up-snoc n zero = let e : n ≡ n + 0 = omega arith in ap (λ (m : ℕ). m ∷ []) e
count_up-snoc n (suc k) =
    let e : suc n + k ≡ n + suc k = omega arith in
    let f : suc k + 1 ≡ suc (k + 1) = omega arith in
    ap (count_up n) f ∙ ap (λ l. n ∷ l) (count_up-snoc (suc n) k ∙ ap (λ (m : ℕ). count_up (suc n) k ++ m ∷ []) e)

-- an upper bound may be raised
pub Rises-more : (lo hi top : ℕ) (xs : List ℕ) → hi ≤ top → Rises lo hi xs → Rises lo top xs
Rises-more lo hi top [] le r = omega arith
Rises-more lo hi top (x ∷ xs) le r = (r.0, Rises-more (suc x) hi top xs le r.1)

-- a number that isn't below the bound may follow
pub Rises-snoc : (lo hi x : ℕ) (xs : List ℕ) → Rises lo hi xs → hi ≤ x → Rises lo (suc x) (xs ++ x ∷ [])
Rises-snoc lo hi x [] r le = (omega arith, omega arith)
Rises-snoc lo hi x (y ∷ ys) r le = (r.0, Rises-snoc (suc y) hi x ys r.1 le)

-- one list more at the end
pub concat-snoc : (xss : List (List Item)) (ys : List Item) → concat (xss ++ ys ∷ []) ≡ concat xss ++ ys
concat-snoc [] ys = append-nil ys
concat-snoc (xs ∷ xss) ys = ap (λ l. xs ++ l) (concat-snoc xss ys) ∙ sym (append_assoc xs (concat xss) ys)
