-- Places that are numbered one after another, as a table of them grows.
use Rattle.std.proofs.Common.{◌≡◌, ℕ, ◌+◌, ◌<◌, ◌≤◌, ◌⊎◌, inl, inr, List, [], ◌∷◌, ◌++◌, map, get_or, length, refl, sym, ◌∙◌, ap, subst, arith}
use Rattle.std.specs.Global.{Vec}
use Rattle.std.proofs.lemmas.Bool.{cases_lt}
use Rattle.std.proofs.lemmas.List.{length-append, get_or_append_left, get_or_push}
use Rattle.ix_selector.specs.declared.selector_node.SelectorNode.{SelectorNode}
use Rattle.ix_selector.specs.declared.selector_node.SelectorNode.TheVariants.{Matcher, All, Fields, Index, Range, Recursive, Union, Edge}
use Rattle.ix_selector.specs.Pattern.{Pattern, fields_of, members_of}
use Rattle.ix_selector.specs.Places.{at, named_at, places_of, seen}
use Rattle.ix_selector.specs.Grown.{Grows}
use Rattle.ix_selector.specs.Behind.{inside_of, fields_size, members_size}
use Rattle.ix_selector.specs.Laid.{number_of, numbers_of, AreRow, IsLaid, AreLaidFrom}
use Rattle.ix_selector.proofs.Nodes.{at-grown}

-- ---- rows

-- a row ends no earlier than it starts
pub row-rises : (ps : List Pattern) (m : ℕ) (ks : List ℕ) (n : ℕ) → AreRow ps m ks n → m ≤ n
row-rises ps m [] n h = omega arith
row-rises ps m (k ∷ ks) n h = let here = h.0 in let rest = row-rises ps (k + 1) ks n h.1 in omega arith

-- a row of one place
pub row-one : (ps : List Pattern) (m k n : ℕ) (s : Pattern) → at ps k ≡ s → k ≡ m + inside_of s → k + 1 ≡ n → AreRow ps m (k ∷ []) n
row-one ps m k n s there is last = (is ∙ ap (λ r. m + inside_of r) (sym there), last)

-- one more place at the end of a row
pub row-push : (ps : List Pattern) (m : ℕ) (ks : List ℕ) (l k n : ℕ) (s : Pattern) → AreRow ps m ks l → at ps k ≡ s → k ≡ l + inside_of s → k + 1 ≡ n → AreRow ps m (ks ++ k ∷ []) n
row-push ps m [] l k n s h there is last = row-one ps m k n s there (is ∙ ap (λ i. i + inside_of s) (sym h)) last
row-push ps m (j ∷ ks) l k n s h there is last = (h.0, row-push ps (j + 1) ks l k n s h.1 there is last)

-- a row stays as the table grows, since it reads only what was there
row_grown : (xs ys : List SelectorNode) (m : ℕ) (ks : List ℕ) (n : ℕ) → n ≤ length xs → AreRow (places_of xs) m ks n → AreRow (places_of (xs ++ ys)) m ks n
row_grown xs ys m [] n le h = h
row_grown xs ys m (k ∷ ks) n le h =
    let rest = row-rises (places_of xs) (k + 1) ks n h.1 in
    (h.0 ∙ ap (λ s. m + inside_of s) (sym (at-grown xs ys k (omega arith))), row_grown xs ys (k + 1) ks n le h.1)

-- the same for a table that grows by nodes
pub row-kept : (xs ys : List SelectorNode) (m : ℕ) (ks : List ℕ) (n : ℕ) → Grows xs ys → n ≤ length xs → AreRow (places_of xs) m ks n → AreRow (places_of ys) m ks n
row-kept xs ys m ks n g le h = subst (λ l. AreRow (places_of l) m ks n) (sym g.grown) (row_grown xs g.more m ks n le h)

-- ---- how many places a row has

-- fields take as many places as their row
fields_row : (ps : List Pattern) (m : ℕ) (fs : List (Vec ℕ × ℕ)) (n : ℕ) → AreRow ps m (map number_of fs) n → m + fields_size (fields_of (map (named_at ps) fs)) ≡ n
fields_row ps m [] n h = omega arith
fields_row ps m (f ∷ fs) n h = let here = h.0 in let rest = fields_row ps (f.1 + 1) fs n h.1 in omega arith

-- and so do members
members_row : (ps : List Pattern) (m : ℕ) (ks : List ℕ) (n : ℕ) → AreRow ps m ks n → m + members_size (members_of (map (at ps) ks)) ≡ n
members_row ps m [] n h = omega arith
members_row ps m (k ∷ ks) n h = let here = h.0 in let rest = members_row ps (k + 1) ks n h.1 in omega arith

-- and one inner selector
one_row : (ps : List Pattern) (m k n : ℕ) → AreRow ps m (k ∷ []) n → m + (inside_of (at ps k) + 1) ≡ n
one_row ps m k n h = let here = h.0 in let rest = h.1 in omega arith

-- so a node is numbered by what is inside it
pub row-inside : (ps : List Pattern) (m : ℕ) (x : SelectorNode) (n : ℕ) → AreRow ps m (numbers_of x) n → m + inside_of (seen ps x) ≡ n
row-inside ps m Matcher n h = omega arith
row-inside ps m (All k) n h = one_row ps m k n h
row-inside ps m (Fields names) n h = fields_row ps m names.items n h
row-inside ps m (Index i k) n h = one_row ps m k n h
row-inside ps m (Range i j k) n h = one_row ps m k n h
row-inside ps m (Recursive limit k) n h = one_row ps m k n h
row-inside ps m (Union ks) n h = members_row ps m ks.items n h
row-inside ps m Edge n h = omega arith

-- ---- tables

-- a node stays in place as the table grows
laid_grown : (xs ys : List SelectorNode) (n : ℕ) (x : SelectorNode) → n ≤ length xs → IsLaid (places_of xs) n x → IsLaid (places_of (xs ++ ys)) n x
laid_grown xs ys n x le h = record { first = h.first; row = row_grown xs ys h.first (numbers_of x) n le h.row }

-- what was laid, and what was laid after it
pub laid-twice : (m : ℕ) (xs ys : List SelectorNode) → Grows xs ys → AreLaidFrom m xs → AreLaidFrom (length xs) ys → AreLaidFrom m ys
laid-twice m xs ys g old new = record { laid = λ n x above below is. by n x above below is (cases_lt n (length xs)) } where
  by : (n : ℕ) (x : SelectorNode) → m ≤ n → n < length ys → x ≡ get_or ys n x → (n < length xs) ⊎ (length xs ≤ n) → IsLaid (places_of ys) n x
  by n x above below is (inl front) =
      let here : x ≡ get_or xs n x = is ∙ ap (λ l. get_or l n x) g.grown ∙ get_or_append_left xs g.more x n front in
      subst (λ l. IsLaid (places_of l) n x) (sym g.grown) (laid_grown xs g.more n x (omega arith) (old.laid n x above front here))
  by n x above below is (inr behind) = new.laid n x behind below is

-- a selector's own node is put last
pub laid-last : (m : ℕ) (xs : List SelectorNode) (x : SelectorNode) → AreLaidFrom m xs → AreRow (places_of xs) m (numbers_of x) (length xs) → AreLaidFrom m (xs ++ x ∷ [])
laid-last m xs x old row = record { laid = λ n y above below is. by n y above (let long = length-append xs (x ∷ []) in omega arith) is (cases_lt n (length xs)) } where
  by : (n : ℕ) (y : SelectorNode) → m ≤ n → n < length xs + 1 → y ≡ get_or (xs ++ x ∷ []) n y → (n < length xs) ⊎ (length xs ≤ n) → IsLaid (places_of (xs ++ x ∷ [])) n y
  by n y above below is (inl front) =
      laid_grown xs (x ∷ []) n y (omega arith) (old.laid n y above front (is ∙ get_or_append_left xs (x ∷ []) y n front))
  by n y above below is (inr behind) =
      let last : n ≡ length xs = omega arith in
      let same : y ≡ x = is ∙ ap (λ i. get_or (xs ++ x ∷ []) i y) last ∙ get_or_push xs x y (length xs) refl in
      subst (λ z. IsLaid (places_of (xs ++ x ∷ [])) n z) (sym same)
      (subst (λ i. IsLaid (places_of (xs ++ x ∷ [])) i x) (sym last) (laid_grown xs (x ∷ []) (length xs) x (omega arith) (record { first = m; row = row })))
