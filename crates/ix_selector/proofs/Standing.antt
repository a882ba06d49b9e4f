-- A place is in one recursion, where each is named once.
use Rattle.std.proofs.Common.{◌≡◌, ℕ, zero, suc, ◌<◌, List, [], ◌∷◌, get_or, length, refl, sym, ◌∙◌, ap, subst, arith}
use Rattle.std.specs.Prelude.{Option, Some}
use Rattle.std.proofs.lemmas.List.{get_or_default}
use Rattle.ix_selector.specs.declared.selector_node.SelectorNode.{SelectorNode}
use Rattle.ix_selector.specs.declared.selector_node.SelectorNode.TheVariants.{Matcher, All, Fields, Index, Range, Recursive, Union, Edge}
use Rattle.ix_selector.specs.Places.{Names, IsFree, AreNamedOnce}
use Rattle.ix_selector.specs.Standing.{NamesBeside, IsBeside, IsSequenceOf, IsStandingIn, in_none, in_same, in_own}

-- a node names what is inside it in the same recursion
beside_names : (x : SelectorNode) (k : ℕ) → NamesBeside x k → Names x k
beside_names Matcher k h = absurd h
beside_names (All j) k h = h
beside_names (Fields names) k h = h
beside_names (Index i j) k h = h
beside_names (Range i l j) k h = h
beside_names (Recursive limit j) k h = absurd h
beside_names (Union js) k h = h
beside_names Edge k h = absurd h

-- the node at the place names the other
abbrev At : List SelectorNode → ℕ → ℕ → Type 0
At nodes n k = Names (get_or nodes n Edge) k

-- by its position in the table
names_at : (nodes : List SelectorNode) (n k : ℕ) (x : SelectorNode) → n < length nodes → x ≡ get_or nodes n x → Names x k → At nodes n k
names_at nodes n k x within is h = subst (λ y. Names y k) (is ∙ get_or_default nodes n x Edge within) h

-- a place that no node names isn't named at any position
free_at : (nodes : List SelectorNode) (n k : ℕ) → IsFree nodes k → n < length nodes → At nodes n k → ⊥
free_at [] n k free within h = omega arith
free_at (x ∷ xs) zero k free within h = free.0 h
free_at (x ∷ xs) (suc n) k free within h = free_at xs n k free.1 (omega arith) h

-- a place is named at one position at most
once_at : (nodes : List SelectorNode) (n m k : ℕ) → AreNamedOnce nodes → n < length nodes → m < length nodes → At nodes n k → At nodes m k → n ≡ m
once_at [] n m k once a b g h = absurd (omega arith)
once_at (x ∷ xs) zero zero k once a b g h = refl
once_at (x ∷ xs) zero (suc m) k once a b g h = absurd (free_at xs m k (once.0 k g) (omega arith) h)
once_at (x ∷ xs) (suc n) zero k once a b g h = absurd (free_at xs n k (once.0 k h) (omega arith) g)
once_at (x ∷ xs) (suc n) (suc m) k once a b g h = ap suc (once_at xs n m k once.1 (omega arith) (omega arith) g h)

-- being inside in the same recursion is being named
beside_at : (nodes : List SelectorNode) (n k : ℕ) → IsBeside nodes n k → At nodes n k
beside_at nodes n k b = names_at nodes n k b.node b.within b.is (beside_names b.node k b.names)

-- and so is being a sequence
sequence_at : (nodes : List SelectorNode) (n k : ℕ) → IsSequenceOf nodes n k → At nodes n k
sequence_at nodes n k s = names_at nodes n k (Recursive s.depth k) s.within s.is refl

-- a node is no recursion where it names a place beside
beside_no_sequence : (nodes : List SelectorNode) (n k l : ℕ) → IsBeside nodes n k → IsSequenceOf nodes n l → ⊥
beside_no_sequence nodes n k l b s =
    let same : b.node ≡ Recursive s.depth l = b.is ∙ get_or_default nodes n b.node (Recursive s.depth l) b.within ∙ sym s.is in
    let named : NamesBeside (Recursive s.depth l) k = subst (λ y. NamesBeside y k) same b.names in
    named

-- so the innermost recursion of a place is unique
pub stands-once : {nodes : List SelectorNode} {k : ℕ} {q r : Option ℕ} → AreNamedOnce nodes → IsStandingIn nodes k q → IsStandingIn nodes k r → q ≡ r
stands-once once (in_none free) (in_none other) = refl
stands-once {nodes} once (in_none {k = k} free) (in_same {n = m} b t) = absurd (free_at nodes m k free b.within (beside_at nodes m k b))
stands-once {nodes} once (in_none {k = k} free) (in_own {n = m} s) = absurd (free_at nodes m k free s.within (sequence_at nodes m k s))
stands-once {nodes} once (in_same {n = n} {k = k} a t) (in_none free) = absurd (free_at nodes n k free a.within (beside_at nodes n k a))
stands-once {nodes} once (in_same {n = n} {k = k} a t) (in_same {n = m} {q = r} b u) =
    let same : m ≡ n = once_at nodes m n k once b.within a.within (beside_at nodes m k b) (beside_at nodes n k a) in
    stands-once once t (subst (λ j. IsStandingIn nodes j r) same u)
stands-once {nodes} once (in_same {n = n} {k = k} a t) (in_own {n = m} s) =
    let same : m ≡ n = once_at nodes m n k once s.within a.within (sequence_at nodes m k s) (beside_at nodes n k a) in
    absurd (beside_no_sequence nodes n k k a (subst (λ j. IsSequenceOf nodes j k) same s))
stands-once {nodes} once (in_own {n = n} {k = k} s) (in_none free) = absurd (free_at nodes n k free s.within (sequence_at nodes n k s))
stands-once {nodes} once (in_own {n = n} {k = k} s) (in_same {n = m} b u) =
    let same : m ≡ n = once_at nodes m n k once b.within s.within (beside_at nodes m k b) (sequence_at nodes n k s) in
    absurd (beside_no_sequence nodes n k k (subst (λ j. IsBeside nodes j k) same b) s)
stands-once once (in_own s) (in_own t) = refl

-- the sequence of a recursion is in it
pub own-start : {nodes : List SelectorNode} {k s : ℕ} {q : Option ℕ} → IsStandingIn nodes k q → q ≡ Some s → IsStandingIn nodes s (Some s)
own-start (in_none free) is = absurd cc
own-start (in_same b t) is = own-start t is
own-start {nodes} {s = s} (in_own {n = n} {k = k} o) is =
    let same : k ≡ s = cc in
    subst (λ j. IsStandingIn nodes j (Some j)) same (in_own o)
