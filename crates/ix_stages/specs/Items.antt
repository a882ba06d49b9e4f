-- What goes through the queue, and its numbers.
use Rattle.std.specs.Prelude.{ℕ, zero, suc, ◌≤◌, Bool, false, cond, ◌==◌, List, [], ◌∷◌, ◌++◌}
use Rattle.ix_stages.specs.declared.item.Item.{Item}
use Rattle.ix_stages.specs.declared.item.Item.TheVariants as item

-- the item is a visit or the close of the job
abbrev pub is_of : ℕ → Item → Bool
is_of j (item.Visit v) = v.job == j
is_of j (item.Close k n e) = k == j
is_of j item.Stop = false

-- the number of a visit or a close in its job
abbrev pub seq_of : Item → ℕ
seq_of (item.Visit v) = v.seq
seq_of (item.Close k n e) = n
seq_of item.Stop = 0

-- the numbers of the items of a job, in their order
abbrev pub numbers : ℕ → List Item → List ℕ
numbers j [] = []
numbers j (x ∷ xs) = cond (is_of j x) (seq_of x ∷ numbers j xs) (numbers j xs)

-- k numbers from n on
abbrev pub count_up : ℕ → ℕ → List ℕ
count_up n zero = []
count_up n (suc k) = n ∷ count_up (suc n) k

-- the numbers rise, from lo on and below hi
abbrev pub Rises : ℕ → ℕ → List ℕ → Type 0
Rises lo hi [] = lo ≤ hi
Rises lo hi (x ∷ xs) = (lo ≤ x) × Rises (suc x) hi xs

-- the concatenation of the lists
abbrev pub concat : List (List Item) → List Item
concat [] = []
concat (x ∷ xs) = x ++ concat xs
