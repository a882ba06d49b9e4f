-- The blocks of lists of pairs.
use Rattle.std.proofs.Common.{◌≡◌, ℕ, Bool, true, false, List, [], ◌∷◌, ◌++◌, refl, sym, ap, append_assoc, append-nil, ◌∙◌}
use Rattle.std.specs.Prelude.{Some, None, is_some, if◌then◌else◌, ◌||◌, bytes_eq}
use Rattle.std.proofs.lemmas.Slice.Eq.{bytes_eq-Decides}
use Rattle.ix_store.specs.Store.{Blocks, has_cid, block_of, with_block, with_blocks}

-- a CID that is there has a block
pub has-block : (store : Blocks) (c : List ℕ) → is_some (block_of store c) ≡ has_cid store c
has-block [] c = refl
has-block (e ∷ es) c = by (bytes_eq e.0 c) (has-block es c) where
  by : (b : Bool) → is_some (block_of es c) ≡ has_cid es c → is_some (if b then Some e.1 else block_of es c) ≡ (b || has_cid es c)
  by true h = refl
  by false h = h

-- one that isn't has none
pub no-block : (store : Blocks) (c : List ℕ) → has_cid store c ≡ false → block_of store c ≡ None
no-block [] c h = refl
no-block (e ∷ es) c h = by (bytes_eq e.0 c) h (no-block es c) where
  by : (b : Bool) → (b || has_cid es c) ≡ false → (has_cid es c ≡ false → block_of es c ≡ None) → (if b then Some e.1 else block_of es c) ≡ None
  by true bad later = absurd (cc bad)
  by false out later = later out

-- a CID of the first list has its block there
pub block-left : (xs ys : Blocks) (c : List ℕ) → has_cid xs c ≡ true → block_of (xs ++ ys) c ≡ block_of xs c
block-left [] ys c h = absurd (cc h)
block-left (e ∷ es) ys c h = by (bytes_eq e.0 c) h (block-left es ys c) where
  by : (b : Bool) → (b || has_cid es c) ≡ true → (has_cid es c ≡ true → block_of (es ++ ys) c ≡ block_of es c) → (if b then Some e.1 else block_of (es ++ ys) c) ≡ (if b then Some e.1 else block_of es c)
  by true h later = refl
  by false h later = later h

-- any other in the second
pub block-right : (xs ys : Blocks) (c : List ℕ) → has_cid xs c ≡ false → block_of (xs ++ ys) c ≡ block_of ys c
block-right [] ys c h = refl
block-right (e ∷ es) ys c h = by (bytes_eq e.0 c) h (block-right es ys c) where
  by : (b : Bool) → (b || has_cid es c) ≡ false → (has_cid es c ≡ false → block_of (es ++ ys) c ≡ block_of ys c) → (if b then Some e.1 else block_of (es ++ ys) c) ≡ block_of ys c
  by true h later = absurd (cc h)
  by false h later = later h

-- both have the CIDs of either
pub has-append : (xs ys : Blocks) (c : List ℕ) → has_cid (xs ++ ys) c ≡ (has_cid xs c || has_cid ys c)
has-append [] ys c = refl
has-append (e ∷ es) ys c = by (bytes_eq e.0 c) (has-append es ys c) where
  by : (b : Bool) → has_cid (es ++ ys) c ≡ (has_cid es c || has_cid ys c) → (b || has_cid (es ++ ys) c) ≡ ((b || has_cid es c) || has_cid ys c)
  by true h = refl
  by false h = h

-- so they lack those that neither has
pub in-neither : (xs ys : Blocks) (c : List ℕ) → has_cid xs c ≡ false → has_cid ys c ≡ false → has_cid (xs ++ ys) c ≡ false
in-neither xs ys c left right = has-append xs ys c ∙ ap (λ b. b || has_cid ys c) left ∙ right

-- ---- the first of each CID

-- a pair of another CID changes nothing
block-between : (xs ys : Blocks) (p : List ℕ × List ℕ) (c : List ℕ) → bytes_eq p.0 c ≡ false → block_of (xs ++ ys) c ≡ block_of (xs ++ p ∷ ys) c
block-between [] ys p c h = sym (ap (λ v. if v then Some p.1 else block_of ys c) h)
block-between (x ∷ xs) ys p c h = ap (λ o. if bytes_eq x.0 c then Some x.1 else o) (block-between xs ys p c h)

-- nor does one whose CID is there before it
block-later : (xs ys : Blocks) (p : List ℕ × List ℕ) (c : List ℕ) → has_cid xs p.0 ≡ true → block_of (xs ++ ys) c ≡ block_of (xs ++ p ∷ ys) c
block-later xs ys p c there = by (bytes_eq p.0 c) refl where
  under : (es : Blocks) → has_cid es c ≡ true → block_of (es ++ ys) c ≡ block_of (es ++ p ∷ ys) c
  under [] h = absurd (cc h)
  under (e ∷ es) h =
      (elim (bytes_eq e.0 c) as (λ v. (v || has_cid es c) ≡ true → (if v then Some e.1 else block_of (es ++ ys) c) ≡ (if v then Some e.1 else block_of (es ++ p ∷ ys) c))
      [ true ↦ λ g. refl | false ↦ λ g. under es g ]) h

  by : (b : Bool) → bytes_eq p.0 c ≡ b → block_of (xs ++ ys) c ≡ block_of (xs ++ p ∷ ys) c
  by true is = under xs (ap (has_cid xs) (sym ((bytes_eq-Decides p.0 c).0 is)) ∙ there)
  by false isnt = block-between xs ys p c isnt

-- the blocks of a store with many more are the first of all
pub blocks-first : (store ps : Blocks) (c : List ℕ) → block_of (with_blocks store ps) c ≡ block_of (store ++ ps) c
blocks-first store [] c = ap (λ l. block_of l c) (sym (append-nil store))
blocks-first store (p ∷ ps) c = blocks-first (with_block store p) ps c ∙ by (has_cid store p.0) refl where
  by : (b : Bool) → has_cid store p.0 ≡ b → block_of ((if b then store else store ++ p ∷ []) ++ ps) c ≡ block_of (store ++ p ∷ ps) c
  by true there = block-later store ps p c there
  by false new = ap (λ l. block_of l c) (append_assoc store (p ∷ []) ps)
