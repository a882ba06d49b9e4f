-- The innermost recursion around a place.
use Rattle.std.specs.Prelude.{◌≡◌, ℕ, ◌<◌, List, get_or, length, Option, Some, None}
use Rattle.ix_selector.specs.declared.selector_node.SelectorNode.{SelectorNode}
use Rattle.ix_selector.specs.declared.selector_node.SelectorNode.TheVariants.{Matcher, All, Fields, Index, Range, Recursive, Union, Edge}
use Rattle.ix_selector.specs.Places.{IsNumber, HasNumber, IsFree}

-- the node names the place, which is in the same recursions as itself
abbrev pub NamesBeside : SelectorNode → ℕ → Type 0
NamesBeside Matcher k = ⊥
NamesBeside (All j) k = j ≡ k
NamesBeside (Fields names) k = HasNumber names.items k
NamesBeside (Index i j) k = j ≡ k
NamesBeside (Range i l j) k = j ≡ k
NamesBeside (Recursive limit j) k = ⊥
NamesBeside (Union js) k = IsNumber js.items k
NamesBeside Edge k = ⊥

-- the node at the first place names the second, which is in the same recursions
pub record IsBeside (nodes : List SelectorNode) (n k : ℕ) : Type 0 where
  pub node : SelectorNode
  pub within : n < length nodes
  pub is : node ≡ get_or nodes n node
  pub names : NamesBeside node k

-- the node at the place is a recursion with this sequence
pub record IsSequenceOf (nodes : List SelectorNode) (n k : ℕ) : Type 0 where
  pub depth : Option ℕ
  pub within : n < length nodes
  pub is : Recursive depth k ≡ get_or nodes n (Recursive depth k)

-- the place is in no recursion, or the innermost one around it has this sequence
pub data IsStandingIn : List SelectorNode → ℕ → Option ℕ → Type 0 where
  in_none : {nodes : List SelectorNode} {k : ℕ} → IsFree nodes k → IsStandingIn nodes k None
  in_same : {nodes : List SelectorNode} {n k : ℕ} {q : Option ℕ} → IsBeside nodes n k → IsStandingIn nodes n q → IsStandingIn nodes k q
  in_own : {nodes : List SelectorNode} {n k : ℕ} → IsSequenceOf nodes n k → IsStandingIn nodes k (Some k)
