-- Places that are put in the order of their numbers: in which order they are put doesn't matter.
use Rattle.std.proofs.Common.{◌≡◌, ℕ, zero, suc, ◌<◌, ◌⊎◌, inl, inr, ⊎_elim, Bool, true, false, nat_lt, if◌then◌else◌, List, [], ◌∷◌, ◌++◌, length, get_or, set, swap, Contains, refl, sym, ◌∙◌, ap, arith}
use Rattle.std.specs.Prelude.{Option, Some, None}
use Rattle.std.specs.List.Sorted.{IsPermutation}
use Rattle.std.proofs.lemmas.Bool.{ltb-true, ltb-false, lt-ltb, le-ltb}
use Rattle.std.proofs.lemmas.List.{get_or_default, set-get_or}
use Rattle.std.proofs.lemmas.List.Sorted.{Contains-permutation, IsPermutation-sym, IsPermutation-refl, IsPermutation-trans, IsPermutation-swap, IsPermutation-keeps}
use Rattle.ix_selector.specs.Enters.{Frame}
use Rattle.ix_selector.specs.Residual.{Place}
use Rattle.ix_selector.specs.States.{deeper}
use Rattle.ix_selector.specs.Behind.{deeper_around, both, put, merged}

-- ---- the greater depth

-- of three depths the last two may change places
pub deeper-swap : (a b c : Option ℕ) → deeper (deeper a b) c ≡ deeper (deeper a c) b
deeper-swap None b c = refl
deeper-swap (Some a) None None = refl
deeper-swap (Some a) None (Some c) = refl
deeper-swap (Some a) (Some b) None = refl
deeper-swap (Some a) (Some b) (Some c) = ap Some (omega arith)

-- and so may two
pub deeper-flip : (a b : Option ℕ) → deeper a b ≡ deeper b a
deeper-flip None None = refl
deeper-flip None (Some b) = refl
deeper-flip (Some a) None = refl
deeper-flip (Some a) (Some b) = ap Some (omega arith)

-- the same of recursions
deeper_around_swap : (e d c : List Frame) → deeper_around (deeper_around e d) c ≡ deeper_around (deeper_around e c) d
deeper_around_swap [] d c = refl
deeper_around_swap (f ∷ e) [] [] = refl
deeper_around_swap (f ∷ e) [] (h ∷ c) = refl
deeper_around_swap (f ∷ e) (g ∷ d) [] = refl
deeper_around_swap (f ∷ e) (g ∷ d) (h ∷ c) = ap (λ n. record { sequence = f.sequence; depth = n } ∷ e) (deeper-swap f.depth g.depth h.depth)

-- of three ways to a place the last two may be joined in either order
both-swap : (x y z : Place) → both (both x y) z ≡ both (both x z) y
both-swap x y z = ap (λ e. record { selector = x.selector; around = e; number = x.number; sequence = x.sequence }) (deeper_around_swap x.around y.around z.around)

-- ---- a place put among others

-- a place before the first one is put in front
pub put-below : (x y : Place) (ys : List Place) → x.number < y.number → put x (y ∷ ys) ≡ x ∷ y ∷ ys
put-below x y ys h = ap (λ b. if b then x ∷ y ∷ ys else (if nat_lt y.number x.number then y ∷ put x ys else both y x ∷ ys)) (lt-ltb x.number y.number h)

-- a place after the first one is put into the rest
pub put-above : (x y : Place) (ys : List Place) → y.number < x.number → put x (y ∷ ys) ≡ y ∷ put x ys
put-above x y ys h =
    ap (λ b. if b then x ∷ y ∷ ys else (if nat_lt y.number x.number then y ∷ put x ys else both y x ∷ ys)) (le-ltb x.number y.number (omega arith))
    ∙ ap (λ b. if b then y ∷ put x ys else both y x ∷ ys) (lt-ltb y.number x.number h)

-- a place that is there already is joined with it
pub put-beside : (x y : Place) (ys : List Place) → x.number ≡ y.number → put x (y ∷ ys) ≡ both y x ∷ ys
put-beside x y ys h =
    ap (λ b. if b then x ∷ y ∷ ys else (if nat_lt y.number x.number then y ∷ put x ys else both y x ∷ ys)) (le-ltb x.number y.number (omega arith))
    ∙ ap (λ b. if b then y ∷ put x ys else both y x ∷ ys) (le-ltb y.number x.number (omega arith))

-- numbers are ordered
pub less-same-greater : (a b : ℕ) → (a < b) ⊎ ((a ≡ b) ⊎ (b < a))
less-same-greater a b = by (nat_lt a b) refl (nat_lt b a) refl where
  by : (s : Bool) → nat_lt a b ≡ s → (t : Bool) → nat_lt b a ≡ t → (a < b) ⊎ ((a ≡ b) ⊎ (b < a))
  by true e t g = inl (ltb-true a b e)
  by false e true g = inr (inr (ltb-true b a g))
  by false e false g = inr (inl (let one = ltb-false a b e in let other = ltb-false b a g in omega arith))

-- at one place it doesn't matter which of the two joins the other
abbrev pub Alike : Place → Place → Type 0
Alike x y = x.number ≡ y.number → both x y ≡ both y x

-- so two places may be put in either order
pub put-swap : (x y : Place) (zs : List Place) → Alike x y → put x (put y zs) ≡ put y (put x zs)
put-swap x y [] alike =
    ⊎_elim
    (λ (l : x.number < y.number). put-below x y [] l ∙ sym (put-above y x [] l))
    (λ (r : (x.number ≡ y.number) ⊎ (y.number < x.number)).
    ⊎_elim
    (λ (e : x.number ≡ y.number). put-beside x y [] e ∙ ap (λ z. z ∷ []) (sym (alike e)) ∙ sym (put-beside y x [] (sym e)))
    (λ (g : y.number < x.number). put-above x y [] g ∙ sym (put-below y x [] g))
    r)
    (less-same-greater x.number y.number)
put-swap x y (z ∷ zs) alike =
    ⊎_elim
    (λ (xl : x.number < z.number).
    ⊎_elim
    (λ (yl : y.number < z.number). both_below xl yl)
    (λ (r : (y.number ≡ z.number) ⊎ (z.number < y.number)).
    ⊎_elim
    (λ (ye : y.number ≡ z.number). low_beside x y xl ye)
    (λ (yg : z.number < y.number). low_above x y xl yg)
    r)
    (less-same-greater y.number z.number))
    (λ (r : (x.number ≡ z.number) ⊎ (z.number < x.number)).
    ⊎_elim
    (λ (xe : x.number ≡ z.number).
    ⊎_elim
    (λ (yl : y.number < z.number). sym (low_beside y x yl xe))
    (λ (s : (y.number ≡ z.number) ⊎ (z.number < y.number)).
    ⊎_elim
    (λ (ye : y.number ≡ z.number). both_beside xe ye)
    (λ (yg : z.number < y.number). beside_above x y xe yg)
    s)
    (less-same-greater y.number z.number))
    (λ (xg : z.number < x.number).
    ⊎_elim
    (λ (yl : y.number < z.number). sym (low_above y x yl xg))
    (λ (s : (y.number ≡ z.number) ⊎ (z.number < y.number)).
    ⊎_elim
    (λ (ye : y.number ≡ z.number). sym (beside_above y x ye xg))
    (λ (yg : z.number < y.number). both_above (put-swap x y zs alike) xg yg)
    s)
    (less-same-greater y.number z.number))
    r)
    (less-same-greater x.number z.number) where
      both_below : x.number < z.number → y.number < z.number → put x (put y (z ∷ zs)) ≡ put y (put x (z ∷ zs))
      both_below xl yl =
          ap (put x) (put-below y z zs yl)
          ∙ ⊎_elim
          (λ (l : x.number < y.number). put-below x y (z ∷ zs) l ∙ sym (put-above y x (z ∷ zs) l ∙ ap (λ l. x ∷ l) (put-below y z zs yl)))
          (λ (r : (x.number ≡ y.number) ⊎ (y.number < x.number)).
          ⊎_elim
          (λ (e : x.number ≡ y.number). put-beside x y (z ∷ zs) e ∙ ap (λ w. w ∷ z ∷ zs) (sym (alike e)) ∙ sym (put-beside y x (z ∷ zs) (sym e)))
          (λ (g : y.number < x.number). put-above x y (z ∷ zs) g ∙ ap (λ l. y ∷ l) (put-below x z zs xl) ∙ sym (put-below y x (z ∷ zs) g))
          r)
          (less-same-greater x.number y.number)
          ∙ sym (ap (put y) (put-below x z zs xl))

      low_beside : (x y : Place) → x.number < z.number → y.number ≡ z.number → put x (put y (z ∷ zs)) ≡ put y (put x (z ∷ zs))
      low_beside x y xl ye =
          ap (put x) (put-beside y z zs ye)
          ∙ put-below x (both z y) zs xl
          ∙ sym (ap (put y) (put-below x z zs xl) ∙ put-above y x (z ∷ zs) (omega arith) ∙ ap (λ l. x ∷ l) (put-beside y z zs ye))

      low_above : (x y : Place) → x.number < z.number → z.number < y.number → put x (put y (z ∷ zs)) ≡ put y (put x (z ∷ zs))
      low_above x y xl yg =
          ap (put x) (put-above y z zs yg)
          ∙ put-below x z (put y zs) xl
          ∙ sym (ap (put y) (put-below x z zs xl) ∙ put-above y x (z ∷ zs) (omega arith) ∙ ap (λ l. x ∷ l) (put-above y z zs yg))

      both_beside : x.number ≡ z.number → y.number ≡ z.number → put x (put y (z ∷ zs)) ≡ put y (put x (z ∷ zs))
      both_beside xe ye =
          ap (put x) (put-beside y z zs ye)
          ∙ put-beside x (both z y) zs xe
          ∙ ap (λ w. w ∷ zs) (both-swap z y x)
          ∙ sym (ap (put y) (put-beside x z zs xe) ∙ put-beside y (both z x) zs ye)

      beside_above : (x y : Place) → x.number ≡ z.number → z.number < y.number → put x (put y (z ∷ zs)) ≡ put y (put x (z ∷ zs))
      beside_above x y xe yg =
          ap (put x) (put-above y z zs yg)
          ∙ put-beside x z (put y zs) xe
          ∙ sym (ap (put y) (put-beside x z zs xe) ∙ put-above y (both z x) zs yg)

      both_above : put x (put y zs) ≡ put y (put x zs) → z.number < x.number → z.number < y.number → put x (put y (z ∷ zs)) ≡ put y (put x (z ∷ zs))
      both_above inner xg yg =
          ap (put x) (put-above y z zs yg)
          ∙ put-above x z (put y zs) xg
          ∙ ap (λ l. z ∷ l) inner
          ∙ sym (ap (put y) (put-above x z zs xg) ∙ put-above y z (put x zs) yg)

-- ---- many places

-- it is alike with each of these
abbrev pub AlikeAll : Place → List Place → Type 0
AlikeAll x [] = Unit {0}
AlikeAll x (y ∷ ys) = Alike x y × AlikeAll x ys

-- one in the midst may be put last
pub merged-front : (xs : List Place) (x : Place) (ys : List Place) → AlikeAll x xs → merged (xs ++ x ∷ ys) ≡ put x (merged (xs ++ ys))
merged-front [] x ys alike = refl
merged-front (y ∷ xs) x ys alike = ap (put y) (merged-front xs x ys alike.1) ∙ sym (put-swap x y (merged (xs ++ ys)) alike.0)

-- the list without what is at an index
abbrev dropped : List Place → ℕ → List Place
dropped [] i = []
dropped (z ∷ zs) zero = zs
dropped (z ∷ zs) (suc i) = z ∷ dropped zs i

-- replacing an element is putting it among the others
put_set : (zs : List Place) (i : ℕ) (x : Place) → i < length zs → AlikeAll x zs → merged (set zs i x) ≡ put x (merged (dropped zs i))
put_set [] i x h alike = absurd (omega arith)
put_set (z ∷ zs) zero x h alike = refl
put_set (z ∷ zs) (suc i) x h alike = ap (put z) (put_set zs i x (omega arith) alike.1) ∙ sym (put-swap x z (merged (dropped zs i)) alike.0)

-- two that change places
merged_exchanged : (zs : List Place) (i j : ℕ) (x y : Place) → i < length zs → j < length zs → (i ≡ j → x ≡ y) → Alike x y → AlikeAll x zs → AlikeAll y zs → merged (set (set zs i y) j x) ≡ merged (set (set zs i x) j y)
merged_exchanged [] i j x y a b same alike ax ay = absurd (omega arith)
merged_exchanged (z ∷ zs) zero zero x y a b same alike ax ay = let is : x ≡ y = same refl in ap (λ w. put w (merged zs)) is
merged_exchanged (z ∷ zs) zero (suc j) x y a b same alike ax ay =
    ap (put y) (put_set zs j x (omega arith) ax.1) ∙ sym (put-swap x y (merged (dropped zs j)) alike) ∙ ap (put x) (sym (put_set zs j y (omega arith) ay.1))
merged_exchanged (z ∷ zs) (suc i) zero x y a b same alike ax ay =
    ap (put x) (put_set zs i y (omega arith) ay.1) ∙ put-swap x y (merged (dropped zs i)) alike ∙ ap (put y) (sym (put_set zs i x (omega arith) ax.1))
merged_exchanged (z ∷ zs) (suc i) (suc j) x y a b same alike ax ay = ap (put z) (merged_exchanged zs i j x y (omega arith) (omega arith) (λ e. same (ap suc e)) alike ax.1 ay.1)

-- any two of these are alike
pub record AreAlike (xs : List Place) : Type 0 where
  pub at : (x y : Place) → Contains xs x → Contains xs y → Alike x y

-- a place of a list whose places are alike is alike to all of a part of it
alike_each : (x : Place) (xs ys : List Place) → AreAlike xs → Contains xs x → ((y : Place) → Contains ys y → Contains xs y) → AlikeAll x ys
alike_each x xs [] alike here all = tt
alike_each x xs (y ∷ ys) alike here all = (alike.at x y here (all y (0, omega arith, refl)), alike_each x xs ys alike here (λ z h. all z (suc h.0, let within = h.1 in omega arith, h.2)))

-- and to all of it
pub alike-all : (x : Place) (xs : List Place) → AreAlike xs → Contains xs x → AlikeAll x xs
alike-all x xs alike here = alike_each x xs xs alike here (λ y h. h)

-- and so are those of a permutation
alike_permuted : (xs ys : List Place) → IsPermutation xs ys → AreAlike xs → AreAlike ys
alike_permuted xs ys moved alike = record {
  at = λ x y a b. alike.at x y (Contains-permutation ys xs x (IsPermutation-sym xs ys moved) a) (Contains-permutation ys xs y (IsPermutation-sym xs ys moved) b);
}

-- swapping two elements changes nothing of what is merged
merged_swap : (l : List Place) (i j : ℕ) → i < length l → j < length l → AreAlike l → merged (swap l i j) ≡ merged l
merged_swap [] i j a b alike = refl
merged_swap (d ∷ ds) i j a b alike =
    let l = d ∷ ds in
    let x = get_or l i d in
    let y = get_or l j d in
    let has_x : Contains l x = (i, a, get_or_default l i x d a) in
    let has_y : Contains l y = (j, b, get_or_default l j y d b) in
    let kept : set (set l i x) j y ≡ l = ap (λ k. set k j y) (set-get_or l i d) ∙ set-get_or l j d in
    merged_exchanged l i j x y a b (λ e. ap (λ k. get_or l k d) e) (alike.at x y has_x has_y) (alike-all x l alike has_x) (alike-all y l alike has_y) ∙ ap merged kept

-- in another order the same is put
pub merged-permutation : (xs ys : List Place) → IsPermutation xs ys → AreAlike xs → merged ys ≡ merged xs
merged-permutation xs ys moved alike =
    (IsPermutation-keeps xs (λ l. IsPermutation xs l × (merged l ≡ merged xs)) (IsPermutation-refl xs, refl)
    (λ l i j p q h. (IsPermutation-trans xs l (swap l i j) h.0 (IsPermutation-swap l (swap l i j) i j p q refl), merged_swap l i j p q (alike_permuted xs l h.0 alike) ∙ h.1)) ys moved).1
