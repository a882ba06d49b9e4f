-- The table of places while fields and members are put into it.
use Rattle.std.proofs.Common.{◌≡◌, ℕ, zero, suc, ◌+◌, ◌<◌, ◌≤◌, inl, inr, ⊎_elim, List, [], ◌∷◌, ◌++◌, map, take, get_or, length, refl, sym, ◌∙◌, ap, subst, arith}
use Rattle.std.specs.Global.{Vec}
use Rattle.std.specs.declared.cmp.Ordering.TheVariants.{Less}
use Rattle.std.proofs.lemmas.List.{map_push, take_more, length-append, append-nil}
use Rattle.ix_cbor.specs.Spelling.{key_cmp}
use Rattle.ix_selector.specs.declared.sel.Sel.{Sel}
use Rattle.ix_selector.specs.declared.selector_node.SelectorNode.{SelectorNode}
use Rattle.ix_selector.specs.declared.selector_node.SelectorNode.TheVariants.{Matcher, All, Fields, Index, Range, Recursive, Union, Edge}
use Rattle.ix_selector.specs.Pattern.{Pattern, pattern_of, fields_of, members_of}
use Rattle.ix_selector.specs.Views.{seen_field}
use Rattle.ix_selector.specs.Ordered.{IsBeforeAll, IsOrdered, AreOrdered, EachOrdered}
use Rattle.ix_selector.specs.Places.{at, named_at, places_of, IsBefore, AreRising, AreBelow, AreNamedBelow, Names, IsNumber, HasNumber, IsFreeFrom, IsNodeOf}
use Rattle.ix_selector.specs.Grown.{Grows, CanPut}
use Rattle.ix_selector.specs.Behind.{inside_of}
use Rattle.ix_selector.specs.Laid.{number_of, numbers_of, AreRow, AreLaidFrom, GrowsInOrder, GrowsBy, IsNumberAfter}
use Rattle.ix_selector.proofs.Laid.{row-one, row-push, row-kept, laid-twice, laid-last}
use Rattle.ix_selector.proofs.Nodes.{at-last, one-free, grows-one, grows-twice, length-grows, map-kept, named-kept, below-more, named_below-more, below-push, named_below-push, numbers-free, names-free}

-- so many fields were put
pub record FieldsPut (old new : List SelectorNode) (names : List (Vec ℕ × ℕ)) (done : List (Vec ℕ × Sel)) : Type 0 where
  pub grows : Grows old new
  pub below : AreNamedBelow (length new) names
  pub named : map (named_at (places_of new)) names ≡ map seen_field done
  pub free : (k : ℕ) → HasNumber names k → IsFreeFrom (length old) new k
  pub row : AreRow (places_of new) (length old) (map number_of names) (length new)
  pub laid : AreLaidFrom (length old) new

pub record MembersPut (old new : List SelectorNode) (numbers : List ℕ) (done : List Sel) : Type 0 where
  pub grows : Grows old new
  pub below : AreBelow (length new) numbers
  pub members : map (at (places_of new)) numbers ≡ map pattern_of done
  pub free : (k : ℕ) → IsNumber numbers k → IsFreeFrom (length old) new k
  pub row : AreRow (places_of new) (length old) numbers (length new)
  pub laid : AreLaidFrom (length old) new

-- one more
pub fields-more : (old mid new : List SelectorNode) (names : List (Vec ℕ × ℕ)) (fs : List (Vec ℕ × Sel)) (i : ℕ) (f : Vec ℕ × Sel) (name : Vec ℕ) (n : ℕ)
    → i < length fs → f ≡ get_or fs i f → name.items ≡ f.0.items → FieldsPut old mid names (take i fs) → Grows mid new → n < length new → length mid ≤ n → n + 1 ≡ length new → at (places_of new) n ≡ pattern_of f.1 → n ≡ length mid + inside_of (pattern_of f.1) → AreLaidFrom (length mid) new
    → FieldsPut old new (names ++ (name, n) ∷ []) (take (i + 1) fs)
fields-more old mid new names fs i f name n within is same put grows below behind last there number laid = record {
  grows = grows-twice old mid new put.grows grows;
  below = named_below-push (length new) names (name, n) (named_below-more (length mid) (length new) names (length-grows mid new grows) put.below) below;
  named =
      map_push (named_at (places_of new)) names (name, n)
      ∙ (λ j. (named-kept mid new grows names put.below ∙ put.named) j ++ (same j, there j) ∷ [])
      ∙ sym (map_push seen_field (take i fs) f)
      ∙ ap (map seen_field) (sym (take_more fs i f within ∙ ap (λ x. take i fs ++ x ∷ []) (sym is)));
  free = names-free old mid new names (name, n) (length-grows old mid put.grows) grows put.below put.free behind last;
  row =
      subst (λ l. AreRow (places_of new) (length old) l (length new)) (sym (map_push number_of names (name, n)))
      (row-push (places_of new) (length old) (map number_of names) (length mid) n (length new) (pattern_of f.1) (row-kept mid new (length old) (map number_of names) (length mid) grows (omega arith) put.row) there number last);
  laid = laid-twice (length old) mid new grows put.laid laid;
}

-- the loop's step: one more member was put
pub members-more : (old mid new : List SelectorNode) (numbers : List ℕ) (ss : List Sel) (i : ℕ) (s : Sel) (n : ℕ)
    → i < length ss → s ≡ get_or ss i s → MembersPut old mid numbers (take i ss) → Grows mid new → n < length new → length mid ≤ n → n + 1 ≡ length new → at (places_of new) n ≡ pattern_of s → n ≡ length mid + inside_of (pattern_of s) → AreLaidFrom (length mid) new
    → MembersPut old new (numbers ++ n ∷ []) (take (i + 1) ss)
members-more old mid new numbers ss i s n within is put grows below behind last there number laid = record {
  grows = grows-twice old mid new put.grows grows;
  below = below-push (length new) numbers n (below-more (length mid) (length new) numbers (length-grows mid new grows) put.below) below;
  members =
      map_push (at (places_of new)) numbers n
      ∙ (λ j. (map-kept mid new grows numbers put.below ∙ put.members) j ++ there j ∷ [])
      ∙ sym (map_push pattern_of (take i ss) s)
      ∙ ap (map pattern_of) (sym (take_more ss i s within ∙ ap (λ x. take i ss ++ x ∷ []) (sym is)));
  free = numbers-free old mid new numbers n (length-grows old mid put.grows) grows put.below put.free behind last;
  row = row-push (places_of new) (length old) numbers (length mid) n (length new) (pattern_of s) (row-kept mid new (length old) numbers (length mid) grows (omega arith) put.row) there number last;
  laid = laid-twice (length old) mid new grows put.laid laid;
}

-- each of ordered fields is ordered, and each member
pub field-ordered : (fs : List (Vec ℕ × Sel)) (i : ℕ) (d : Vec ℕ × Sel) → AreOrdered (fields_of (map seen_field fs)) → i < length fs → IsOrdered (pattern_of (get_or fs i d).1)
field-ordered [] i d h within = absurd (omega arith)
field-ordered (f ∷ fs) zero d h within = h.1
field-ordered (f ∷ fs) (suc i) d h within = field-ordered fs i d h.2 (omega arith)

-- each member's names rise
pub member-ordered : (ss : List Sel) (i : ℕ) (d : Sel) → EachOrdered (members_of (map pattern_of ss)) → i < length ss → IsOrdered (pattern_of (get_or ss i d))
member-ordered [] i d h within = absurd (omega arith)
member-ordered (s ∷ ss) zero d h within = h.0
member-ordered (s ∷ ss) (suc i) d h within = member-ordered ss i d h.1 (omega arith)

-- the names of ordered fields rise
first_of : (x y : List ℕ × Pattern) (xs ys : List (List ℕ × Pattern)) → x ∷ xs ≡ y ∷ ys → (x ≡ y) × (xs ≡ ys)
first_of x y xs ys h = (cc, cc)

-- the order of names is that of the fields
before-put : (ps : List Pattern) (k : List ℕ) (names : List (Vec ℕ × ℕ)) (fs : List (Vec ℕ × Sel)) → map (named_at ps) names ≡ map seen_field fs → IsBeforeAll k (fields_of (map seen_field fs)) → IsBefore k names
before-put ps k [] fs h before = tt
before-put ps k (n ∷ names) [] h before = absurd cc
before-put ps k (n ∷ names) (f ∷ fs) h before =
    let both = first_of (named_at ps n) (seen_field f) _ _ h in
    (subst (λ l. key_cmp k l ≡ Less) (sym (ap (λ (p : List ℕ × Pattern). p.0) both.0)) before.0, before-put ps k names fs both.1 before.1)

-- so they rise
pub rising-put : (ps : List Pattern) (names : List (Vec ℕ × ℕ)) (fs : List (Vec ℕ × Sel)) → map (named_at ps) names ≡ map seen_field fs → AreOrdered (fields_of (map seen_field fs)) → AreRising names
rising-put ps [] fs h ordered = tt
rising-put ps (n ∷ names) [] h ordered = absurd cc
rising-put ps (n ∷ names) (f ∷ fs) h ordered =
    let both = first_of (named_at ps n) (seen_field f) _ _ h in
    (subst (λ l. IsBefore l names) (sym (ap (λ (p : List ℕ × Pattern). p.0) both.0)) (before-put ps f.0.items names fs both.1 ordered.0), rising-put ps names fs both.1 ordered.2)

-- ---- which places are named by what was put

-- a number of fields is one of the row
names_numbers : (fs : List (Vec ℕ × ℕ)) (k : ℕ) → HasNumber fs k → IsNumber (map number_of fs) k
names_numbers [] k h = h
names_numbers (f ∷ fs) k h = ⊎_elim (λ (here : f.1 ≡ k). inl here) (λ (there : HasNumber fs k). inr (names_numbers fs k there)) h

-- and back
numbers_names : (fs : List (Vec ℕ × ℕ)) (k : ℕ) → IsNumber (map number_of fs) k → HasNumber fs k
numbers_names [] k h = h
numbers_names (f ∷ fs) k h = ⊎_elim (λ (here : f.1 ≡ k). inl here) (λ (there : IsNumber (map number_of fs) k). inr (numbers_names fs k there)) h

-- what a node names is in its row
named_numbers : (x : SelectorNode) (k : ℕ) → Names x k → IsNumber (numbers_of x) k
named_numbers Matcher k h = h
named_numbers (All j) k h = inl h
named_numbers (Fields names) k h = names_numbers names.items k h
named_numbers (Index i j) k h = inl h
named_numbers (Range i l j) k h = inl h
named_numbers (Recursive limit j) k h = inl h
named_numbers (Union js) k h = h
named_numbers Edge k h = h

-- nothing was put
pub none-grown : (nodes : Vec SelectorNode) (s : Pattern) → CanPut nodes.items s → GrowsBy nodes nodes []
none-grown nodes s can = record {
  grows = (record { more = []; grown = sym (append-nil nodes.items); from = tt; nodes = can.nodes; once = can.once }, record { laid = λ n x above below is. absurd (omega arith) });
  free = λ k h. absurd h;
  row = refl;
}

-- one selector was put, with what is inside it
pub one-grown : (old new : Vec SelectorNode) (s : Pattern) (n : ℕ) → GrowsInOrder old.items new.items → at (places_of new.items) n ≡ s → n + 1 ≡ length new.items → length old.items ≤ n → IsNumberAfter old.items s n → GrowsBy old new (n ∷ [])
one-grown old new s n grows there last behind number = record {
  grows = grows;
  free = λ k h. ⊎_elim (λ (here : n ≡ k). one-free old.items new.items n behind last grows.0.nodes k here) (λ (there : ⊥). absurd there) h;
  row = row-one (places_of new.items) (length old.items) n (length new.items) s there number last;
}

-- fields were put, and members
pub fields-grown : (old new : Vec SelectorNode) (names : List (Vec ℕ × ℕ)) (done : List (Vec ℕ × Sel)) → FieldsPut old.items new.items names done → GrowsBy old new (map number_of names)
fields-grown old new names done put = record { grows = (put.grows, put.laid); free = λ k h. put.free k (numbers_names names k h); row = put.row }

-- after the loop the table has grown by all members
pub members-grown : (old new : Vec SelectorNode) (numbers : List ℕ) (done : List Sel) → MembersPut old.items new.items numbers done → GrowsBy old new numbers
members-grown old new numbers done put = record { grows = (put.grows, put.laid); free = put.free; row = put.row }

-- the selector's own node is put last
pub last-put : (old mid : Vec SelectorNode) (x : SelectorNode) (s : Pattern) → IsNodeOf mid.items s x → GrowsBy old mid (numbers_of x)
    → GrowsInOrder old.items (mid.items ++ x ∷ []) × (length mid.items < length (mid.items ++ x ∷ [])) × (at (places_of (mid.items ++ x ∷ [])) (length mid.items) ≡ s)
last-put old mid x s is grown = ((grows, laid), below, at-last mid.items x ∙ is.1) where
  grows : Grows old.items (mid.items ++ x ∷ [])
  grows = grows-one old.items mid.items x grown.grows.0 is.0 (λ k h. grown.free k (named_numbers x k h))

  laid : AreLaidFrom (length old.items) (mid.items ++ x ∷ [])
  laid = laid-last (length old.items) mid.items x grown.grows.1 grown.row

  below : length mid.items < length (mid.items ++ x ∷ [])
  below = let n = length-append mid.items (x ∷ []) in omega arith
