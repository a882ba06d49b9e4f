-- The selectors at the places of a table, as it grows.
use Rattle.std.proofs.Common.{◌≡◌, ℕ, zero, suc, ◌+◌, ◌<◌, ◌≤◌, ◌⊎◌, inl, inr, ⊎_elim, List, [], ◌∷◌, ◌++◌, map, get_or, length, refl, sym, ◌∙◌, ap, subst, arith}
use Rattle.std.specs.Global.{Vec}
use Rattle.std.proofs.lemmas.List.{append_assoc, append-nil, length-append}
use Rattle.ix_selector.specs.declared.selector_node.SelectorNode.{SelectorNode}
use Rattle.ix_selector.specs.declared.selector_node.SelectorNode.TheVariants.{Matcher, All, Fields, Index, Range, Recursive, Union, Edge}
use Rattle.ix_selector.specs.Pattern.{Pattern, all, fields, index, range, recursive, union, fields_of, members_of}
use Rattle.ix_selector.specs.Places.{at, named_at, seen, seen_after, places_of, AreBelow, AreNamedBelow, IsNode, AreNodes, IsNumber, HasNumber, Names, IsFree, AreNamedOnce, AreFrom, IsFreeFrom}
use Rattle.ix_selector.specs.Grown.{Grows}

-- what is in the front stays there
pub at-front : (ps more : List Pattern) (k : ℕ) → k < length ps → at (ps ++ more) k ≡ at ps k
at-front [] more k h = absurd (omega arith)
at-front (p ∷ ps) more zero h = refl
at-front (p ∷ ps) more (suc k) h = at-front ps more k (omega arith)

-- the first after the front
pub at-behind : (ps : List Pattern) (p : Pattern) (more : List Pattern) → at (ps ++ p ∷ more) (length ps) ≡ p
at-behind [] p more = refl
at-behind (q ∷ ps) p more = at-behind ps p more

-- numbers below a length read the first places alone
map-front : (ps more : List Pattern) (ks : List ℕ) → AreBelow (length ps) ks → map (at (ps ++ more)) ks ≡ map (at ps) ks
map-front ps more [] h = refl
map-front ps more (k ∷ ks) h = λ i. at-front ps more k h.0 i ∷ map-front ps more ks h.1 i

-- and so do names
named-front : (ps more : List Pattern) (fs : List (Vec ℕ × ℕ)) → AreNamedBelow (length ps) fs → map (named_at (ps ++ more)) fs ≡ map (named_at ps) fs
named-front ps more [] h = refl
named-front ps more (f ∷ fs) h = λ i. (f.0.items, at-front ps more f.1 h.0 i) ∷ named-front ps more fs h.1 i

-- a node that names places in the front alone is the same selector when more places follow
pub seen-front : (ps more : List Pattern) (x : SelectorNode) → IsNode (length ps) x → seen (ps ++ more) x ≡ seen ps x
seen-front ps more Matcher h = refl
seen-front ps more (All k) h = ap all (at-front ps more k h)
seen-front ps more (Fields names) h = ap (λ l. fields (fields_of l)) (named-front ps more names.items h.0)
seen-front ps more (Index i k) h = ap (index i) (at-front ps more k h)
seen-front ps more (Range i j k) h = ap (range i j) (at-front ps more k h)
seen-front ps more (Recursive limit k) h = ap (recursive limit) (at-front ps more k h)
seen-front ps more (Union ks) h = ap (λ l. union (members_of l)) (map-front ps more ks.items h)
seen-front ps more Edge h = refl

-- all places after some, as a list after those
abbrev pub rest_of : List Pattern → List SelectorNode → List Pattern
rest_of before [] = []
rest_of before (x ∷ xs) = seen before x ∷ rest_of (before ++ seen before x ∷ []) xs

-- the places that were there stay in front
pub seen_after-rest : (before : List Pattern) (xs : List SelectorNode) → seen_after before xs ≡ before ++ rest_of before xs
seen_after-rest before [] = sym (append-nil before)
seen_after-rest before (x ∷ xs) = seen_after-rest (before ++ seen before x ∷ []) xs ∙ append_assoc before (seen before x ∷ []) (rest_of (before ++ seen before x ∷ []) xs)

-- there is one place for each node
pub length-seen_after : (before : List Pattern) (xs : List SelectorNode) → length (seen_after before xs) ≡ length before + length xs
length-seen_after before [] = omega arith
length-seen_after before (x ∷ xs) = length-seen_after (before ++ seen before x ∷ []) xs ∙ ap (λ n. n + length xs) (length-append before (seen before x ∷ [])) ∙ omega arith

-- as many places as nodes
pub length-places : (xs : List SelectorNode) → length (places_of xs) ≡ length xs
length-places xs = let n = length-seen_after [] xs in omega arith

-- nodes may be added in two parts
pub seen_after-append : (before : List Pattern) (xs ys : List SelectorNode) → seen_after before (xs ++ ys) ≡ seen_after (seen_after before xs) ys
seen_after-append before [] ys = refl
seen_after-append before (x ∷ xs) ys = seen_after-append (before ++ seen before x ∷ []) xs ys

-- a place of the front stays when the table grows
pub at-grown : (xs ys : List SelectorNode) (k : ℕ) → k < length xs → at (places_of (xs ++ ys)) k ≡ at (places_of xs) k
at-grown xs ys k h =
    ap (λ ps. at ps k) (seen_after-append [] xs ys ∙ seen_after-rest (places_of xs) ys)
    ∙ at-front (places_of xs) (rest_of (places_of xs) ys) k (let n = length-places xs in omega arith)

-- what is put last is what its node is
pub at-last : (xs : List SelectorNode) (x : SelectorNode) → at (places_of (xs ++ x ∷ [])) (length xs) ≡ seen (places_of xs) x
at-last xs x =
    ap (λ ps. at ps (length xs)) (seen_after-append [] xs (x ∷ []))
    ∙ ap (at (places_of xs ++ seen (places_of xs) x ∷ [])) (sym (length-places xs))
    ∙ at-behind (places_of xs) (seen (places_of xs) x) []

-- what is at a place is what its node is, with all places
pub at-seen : (before : List Pattern) (xs : List SelectorNode) (n : ℕ) (d : SelectorNode) → AreNodes (length before) xs → n < length xs
    → at (seen_after before xs) (length before + n) ≡ seen (seen_after before xs) (get_or xs n d)
at-seen before [] n d nodes h = absurd (omega arith)
at-seen before (x ∷ xs) zero d nodes h =
    let here : at (seen_after before (x ∷ xs)) (length before) ≡ seen before x = ap (λ ps. at ps (length before)) (seen_after-rest before (x ∷ xs)) ∙ at-behind before (seen before x) (rest_of (before ++ seen before x ∷ []) xs) in
    let same : seen (seen_after before (x ∷ xs)) x ≡ seen before x = ap (λ ps. seen ps x) (seen_after-rest before (x ∷ xs)) ∙ seen-front before (rest_of before (x ∷ xs)) x nodes.0 in
    subst (λ m. at (seen_after before (x ∷ xs)) m ≡ seen (seen_after before (x ∷ xs)) x) {x = length before} (omega arith) (here ∙ sym same)
at-seen before (x ∷ xs) (suc n) d nodes h =
    let longer : length (before ++ seen before x ∷ []) ≡ length before + 1 = length-append before (seen before x ∷ []) in
    let rest = at-seen (before ++ seen before x ∷ []) xs n d (subst (λ m. AreNodes m xs) (sym longer) nodes.1) (omega arith) in
    subst (λ m. at (seen_after before (x ∷ xs)) m ≡ seen (seen_after before (x ∷ xs)) (get_or xs n d)) {x = length (before ++ seen before x ∷ []) + n} (omega arith) rest

-- the selector at a place of the table
pub place-seen : (xs : List SelectorNode) (n : ℕ) (d : SelectorNode) → AreNodes 0 xs → n < length xs → at (places_of xs) n ≡ seen (places_of xs) (get_or xs n d)
place-seen xs n d nodes h = subst (λ m. at (places_of xs) m ≡ seen (places_of xs) (get_or xs n d)) {x = 0 + n} (omega arith) (at-seen [] xs n d nodes h)

-- and its node names places before it alone
pub node-at : (m : ℕ) (xs : List SelectorNode) (n : ℕ) (d : SelectorNode) → AreNodes m xs → n < length xs → IsNode (m + n) (get_or xs n d)
node-at m [] n d nodes h = absurd (omega arith)
node-at m (x ∷ xs) zero d nodes h = subst (λ k. IsNode k x) {x = m} (omega arith) nodes.0
node-at m (x ∷ xs) (suc n) d nodes h = subst (λ k. IsNode k (get_or xs n d)) {x = m + 1 + n} (omega arith) (node-at (m + 1) xs n d nodes.1 (omega arith))

-- nodes appended to others
pub nodes-append : (m : ℕ) (xs ys : List SelectorNode) → AreNodes m xs → AreNodes (m + length xs) ys → AreNodes m (xs ++ ys)
nodes-append m [] ys h more = subst (λ k. AreNodes k ys) {x = m + 0} (omega arith) more
nodes-append m (x ∷ xs) ys h more = (h.0, nodes-append (m + 1) xs ys h.1 (subst (λ k. AreNodes k ys) {x = m + suc (length xs)} (omega arith) more))

-- ---- numbers stay below as the table grows

-- a bound may be raised
pub below-more : (m n : ℕ) (ks : List ℕ) → m ≤ n → AreBelow m ks → AreBelow n ks
below-more m n [] le h = tt
below-more m n (k ∷ ks) le h = (omega (arith, h.0), below-more m n ks le h.1)

-- and so may that of names
pub named_below-more : (m n : ℕ) (fs : List (Vec ℕ × ℕ)) → m ≤ n → AreNamedBelow m fs → AreNamedBelow n fs
named_below-more m n [] le h = tt
named_below-more m n (f ∷ fs) le h = (omega (arith, h.0), named_below-more m n fs le h.1)

-- one more number below the bound
pub below-push : (n : ℕ) (ks : List ℕ) (k : ℕ) → AreBelow n ks → k < n → AreBelow n (ks ++ k ∷ [])
below-push n [] k h one = (one, tt)
below-push n (j ∷ ks) k h one = (h.0, below-push n ks k h.1 one)

-- and one more name
pub named_below-push : (n : ℕ) (fs : List (Vec ℕ × ℕ)) (f : Vec ℕ × ℕ) → AreNamedBelow n fs → f.1 < n → AreNamedBelow n (fs ++ f ∷ [])
named_below-push n [] f h one = (one, tt)
named_below-push n (g ∷ fs) f h one = (h.0, named_below-push n fs f h.1 one)

-- the members and names that were put stay what they are
pub map-grown : (xs ys : List SelectorNode) (ks : List ℕ) → AreBelow (length xs) ks → map (at (places_of (xs ++ ys))) ks ≡ map (at (places_of xs)) ks
map-grown xs ys [] h = refl
map-grown xs ys (k ∷ ks) h = λ i. at-grown xs ys k h.0 i ∷ map-grown xs ys ks h.1 i

-- names read the same in a longer table
pub named-grown : (xs ys : List SelectorNode) (fs : List (Vec ℕ × ℕ)) → AreNamedBelow (length xs) fs → map (named_at (places_of (xs ++ ys))) fs ≡ map (named_at (places_of xs)) fs
named-grown xs ys [] h = refl
named-grown xs ys (f ∷ fs) h = λ i. (f.0.items, at-grown xs ys f.1 h.0 i) ∷ named-grown xs ys fs h.1 i

-- ---- which places are named

-- a number of a longer list is of the list or the last
number-push : (ks : List ℕ) (j k : ℕ) → IsNumber (ks ++ j ∷ []) k → IsNumber ks k ⊎ (j ≡ k)
number-push [] j k h = ⊎_elim (λ (here : j ≡ k). inr here) (λ (there : ⊥). absurd there) h
number-push (l ∷ ks) j k h = ⊎_elim (λ (here : l ≡ k). inl (inl here)) (λ (there : IsNumber (ks ++ j ∷ []) k). ⊎_elim (λ (a : IsNumber ks k). inl (inr a)) (λ (b : j ≡ k). inr b) (number-push ks j k there)) h

-- and so is one of names
named-push : (fs : List (Vec ℕ × ℕ)) (f : Vec ℕ × ℕ) (k : ℕ) → HasNumber (fs ++ f ∷ []) k → HasNumber fs k ⊎ (f.1 ≡ k)
named-push [] f k h = ⊎_elim (λ (here : f.1 ≡ k). inr here) (λ (there : ⊥). absurd there) h
named-push (g ∷ fs) f k h = ⊎_elim (λ (here : g.1 ≡ k). inl (inl here)) (λ (there : HasNumber (fs ++ f ∷ []) k). ⊎_elim (λ (a : HasNumber fs k). inl (inr a)) (λ (b : f.1 ≡ k). inr b) (named-push fs f k there)) h

-- a number of the list is below the bound
number-below : (n : ℕ) (ks : List ℕ) (k : ℕ) → AreBelow n ks → IsNumber ks k → k < n
number-below n [] k below h = absurd h
number-below n (j ∷ ks) k below h = ⊎_elim (λ (here : j ≡ k). subst (λ l. l < n) here below.0) (λ (there : IsNumber ks k). number-below n ks k below.1 there) h

-- and so is one of names
name-number-below : (n : ℕ) (fs : List (Vec ℕ × ℕ)) (k : ℕ) → AreNamedBelow n fs → HasNumber fs k → k < n
name-number-below n [] k below h = absurd h
name-number-below n (f ∷ fs) k below h = ⊎_elim (λ (here : f.1 ≡ k). subst (λ l. l < n) here below.0) (λ (there : HasNumber fs k). name-number-below n fs k below.1 there) h

-- a node names places before it
pub names-before : (n : ℕ) (x : SelectorNode) (k : ℕ) → IsNode n x → Names x k → k < n
names-before n Matcher k is h = absurd h
names-before n (All j) k is h = subst (λ l. l < n) h is
names-before n (Fields names) k is h = name-number-below n names.items k is.0 h
names-before n (Index i j) k is h = subst (λ l. l < n) h is
names-before n (Range i l j) k is h = subst (λ l. l < n) h is
names-before n (Recursive limit j) k is h = subst (λ l. l < n) h is
names-before n (Union js) k is h = number-below n js.items k is h
names-before n Edge k is h = absurd h

-- no node names the last place
last_free : (m : ℕ) (xs : List SelectorNode) (n : ℕ) → AreNodes m xs → m + length xs ≤ n + 1 → IsFree xs n
last_free m [] n nodes far = tt
last_free m (x ∷ xs) n nodes far = (λ h. let before = names-before m x n nodes.0 h in absurd (omega arith), last_free (m + 1) xs n nodes.1 (omega arith))

-- no node names the last place, since each names places before itself
pub last-free : (xs : List SelectorNode) (n : ℕ) → AreNodes 0 xs → n + 1 ≡ length xs → IsFree xs n
last-free xs n nodes is = last_free 0 xs n nodes (omega arith)

-- a place that neither part names
free-append : (xs ys : List SelectorNode) (k : ℕ) → IsFree xs k → IsFree ys k → IsFree (xs ++ ys) k
free-append [] ys k a b = b
free-append (x ∷ xs) ys k a b = (a.0, free-append xs ys k a.1 b)

-- nodes that name places from m on leave those before free
from_free : (m : ℕ) (xs : List SelectorNode) (k : ℕ) → AreFrom m xs → k < m → IsFree xs k
from_free m [] k from below = tt
from_free m (x ∷ xs) k from below = (λ h. let above = from.0 k h in absurd (omega arith), from_free m xs k from.1 below)

-- a lower bound may be lowered
from-weaker : (m n : ℕ) (xs : List SelectorNode) → m ≤ n → AreFrom n xs → AreFrom m xs
from-weaker m n [] le from = tt
from-weaker m n (x ∷ xs) le from = (λ k h. let above = from.0 k h in omega arith, from-weaker m n xs le from.1)

-- and holds of a concatenation
from-append : (m : ℕ) (xs ys : List SelectorNode) → AreFrom m xs → AreFrom m ys → AreFrom m (xs ++ ys)
from-append m [] ys a b = b
from-append m (x ∷ xs) ys a b = (a.0, from-append m xs ys a.1 b)

-- one more node, which names places that were free
once-push : (xs : List SelectorNode) (y : SelectorNode) → AreNamedOnce xs → ((k : ℕ) → Names y k → IsFree xs k) → AreNamedOnce (xs ++ y ∷ [])
once-push [] y once free = (λ k h. tt, tt)
once-push (x ∷ xs) y once free = (λ k h. free-append xs (y ∷ []) k (once.0 k h) (λ g. (free k g).0 h, tt), once-push xs y once.1 (λ k h. (free k h).1))

-- ---- growing

-- a table doesn't shrink
pub length-grows : (xs ys : List SelectorNode) → Grows xs ys → length xs ≤ length ys
length-grows xs ys g = let n : length ys ≡ length xs + length g.more = ap length g.grown ∙ length-append xs g.more in omega arith

-- growing is transitive
pub grows-twice : (xs ys zs : List SelectorNode) → Grows xs ys → Grows ys zs → Grows xs zs
grows-twice xs ys zs g h = record {
  more = g.more ++ h.more;
  grown = h.grown ∙ ap (λ l. l ++ h.more) g.grown ∙ append_assoc xs g.more h.more;
  from = from-append (length xs) g.more h.more g.from (from-weaker (length xs) (length ys) h.more (length-grows xs ys g) h.from);
  nodes = h.nodes;
  once = h.once;
}

-- a node that names places that were free after the front
pub grows-one : (xs ys : List SelectorNode) (x : SelectorNode) → Grows xs ys → IsNode (length ys) x → ((k : ℕ) → Names x k → IsFreeFrom (length xs) ys k) → Grows xs (ys ++ x ∷ [])
grows-one xs ys x g one free = record {
  more = g.more ++ x ∷ [];
  grown = ap (λ l. l ++ x ∷ []) g.grown ∙ append_assoc xs g.more (x ∷ []);
  from = from-append (length xs) g.more (x ∷ []) g.from (λ k h. (free k h).0, tt);
  nodes = nodes-append 0 ys (x ∷ []) g.nodes (subst (λ n. IsNode n x) {x = length ys} (omega arith) one, tt);
  once = once-push ys x g.once (λ k h. (free k h).1);
}

-- a place that is free stays so
pub free-kept : (xs ys : List SelectorNode) → Grows xs ys → (k : ℕ) → k < length xs → IsFree xs k → IsFree ys k
free-kept xs ys g k below free = subst (λ l. IsFree l k) (sym g.grown) (free-append xs g.more k free (from_free (length xs) g.more k g.from below))

-- the last place is free
pub one-free : (xs ys : List SelectorNode) (n : ℕ) → length xs ≤ n → n + 1 ≡ length ys → AreNodes 0 ys → (k : ℕ) → n ≡ k → IsFreeFrom (length xs) ys k
one-free xs ys n behind is nodes k same = subst (IsFreeFrom (length xs) ys) same (behind, last-free ys n nodes is)

-- numbers that were free, and the last place
pub numbers-free : (xs ms ys : List SelectorNode) (ks : List ℕ) (n : ℕ) → length xs ≤ length ms → Grows ms ys → AreBelow (length ms) ks → ((k : ℕ) → IsNumber ks k → IsFreeFrom (length xs) ms k) → length ms ≤ n → n + 1 ≡ length ys
    → (k : ℕ) → IsNumber (ks ++ n ∷ []) k → IsFreeFrom (length xs) ys k
numbers-free xs ms ys ks n le g below free behind is k h =
    ⊎_elim
    (λ (old : IsNumber ks k). let was = free k old in (was.0, free-kept ms ys g k (number-below (length ms) ks k below old) was.1))
    (λ (new : n ≡ k). one-free xs ys n (omega arith) is g.nodes k new)
    (number-push ks n k h)

-- one more field's place is free, as are those before
pub names-free : (xs ms ys : List SelectorNode) (fs : List (Vec ℕ × ℕ)) (f : Vec ℕ × ℕ) → length xs ≤ length ms → Grows ms ys → AreNamedBelow (length ms) fs → ((k : ℕ) → HasNumber fs k → IsFreeFrom (length xs) ms k) → length ms ≤ f.1 → f.1 + 1 ≡ length ys
    → (k : ℕ) → HasNumber (fs ++ f ∷ []) k → IsFreeFrom (length xs) ys k
names-free xs ms ys fs f le g below free behind is k h =
    ⊎_elim
    (λ (old : HasNumber fs k). let was = free k old in (was.0, free-kept ms ys g k (name-number-below (length ms) fs k below old) was.1))
    (λ (new : f.1 ≡ k). one-free xs ys f.1 (omega arith) is g.nodes k new)
    (named-push fs f k h)

-- numbers read the same after the table has grown
pub map-kept : (xs ys : List SelectorNode) → Grows xs ys → (ks : List ℕ) → AreBelow (length xs) ks → map (at (places_of ys)) ks ≡ map (at (places_of xs)) ks
map-kept xs ys g ks h = ap (λ l. map (at (places_of l)) ks) g.grown ∙ map-grown xs g.more ks h

-- and so do names
pub named-kept : (xs ys : List SelectorNode) → Grows xs ys → (fs : List (Vec ℕ × ℕ)) → AreNamedBelow (length xs) fs → map (named_at (places_of ys)) fs ≡ map (named_at (places_of xs)) fs
named-kept xs ys g fs h = ap (λ l. map (named_at (places_of l)) fs) g.grown ∙ named-grown xs g.more fs h
