-- An open list or map, gone through child by child.
use Rattle.std.proofs.Common.{◌≡◌, ℕ, zero, suc, ◌+◌, ◌-◌, ◌<◌, ◌≤◌, Bool, true, false, List, [], ◌++◌, refl, sym, ◌∙◌, ap, subst, arith}
use Rattle.std.specs.Prelude.{Option, Some, None, Result, Ok, Err, is_some, nat_lt, if◌then◌else◌, ◌==◌}
use Rattle.std.proofs.lemmas.Bool.Decides.{nat_tests}
use Rattle.std.proofs.lemmas.Option.{same_Some}
use Rattle.std.proofs.lemmas.Bool.{ltb-false}
use Rattle.std.specs.Result.{result_ok}
use Rattle.ix_cbor.specs.Data.{Data, Items, Entries, item, entry, no_items, no_entries}
use Rattle.ix_cbor.specs.Reading.{Fault, ◌>>=◌, item_at, items_at, entries_at, key_at}
use Rattle.ix_cbor.proofs.Deeper.{entries_first}
use Rattle.ix_cbor.proofs.Steps.{bind_ok, ok_same, with_item, items_after, with_entry, entries_after, value_behind}
use Rattle.ix_selector.specs.Enters.{Step, key, nth}
use Rattle.ix_selector.specs.Residual.{Place}
use Rattle.ix_walk.specs.declared.subtree.Children.{Children}
use Rattle.ix_walk.specs.declared.subtree.Children.TheVariants.{Members, Values}
use Rattle.ix_walk.specs.declared.subtree.Child.{Child}
use Rattle.ix_walk.specs.Walking.{is_spent, links_in_items, Part, part_links, members, values, weight_of, part_weight, part_at}
use Rattle.ix_walk.specs.Descent.{IsItem, IsKey, IsPart, child_links, IsChild, IsNext}
use Rattle.ix_walk.proofs.Parts.{members_here, values_here}

-- ---- a part is read only where its items are

-- what is read from a result is its value
some_read : {A : Type 0} (r : Result A Fault) (x : A) → result_ok r ≡ Some x → r ≡ Ok x
some_read (Ok y) x e = ap (λ z. Ok z) (same_Some y x e)
some_read (Err f) x e = absurd cc

-- a part that is there passed the test
no_part : {A : Type 0} (b : Bool) (o : Option A) (x : A) → (if b then None else o) ≡ Some x → (b ≡ false) × (o ≡ Some x)
no_part true o x e = absurd cc
no_part false o x e = (refl, e)

-- the elements of an open list can be read
pub members_read : (count left : ℕ) (b : List ℕ) (x : Part × List ℕ) → part_at (Members count left) b ≡ Some x
    → (ds : Items × List ℕ) × (items_at (item_at 512) left b ≡ Ok ds) × ((members (count - left) ds.0, ds.1) ≡ x) × (left ≤ count)
members_read count left b x e =
    let p = no_part (nat_lt count left) _ x e in
    let m = bind_ok (items_at (item_at 512) left b) (λ ds. Ok (members (count - left) ds.0, ds.1)) x (some_read (items_at (item_at 512) left b >>= (λ ds. Ok (members (count - left) ds.0, ds.1))) x p.1) in
    (m.0, m.1, ok_same (members (count - left) m.0.0, m.0.1) x m.2, ltb-false count left p.0)

-- and so can the entries of an open map
pub values_read : (left : ℕ) (b : List ℕ) (x : Part × List ℕ) → part_at (Values left) b ≡ Some x → (es : Entries × List ℕ) × (entries_at (item_at 512) None left b ≡ Ok es) × ((values es.0, es.1) ≡ x)
values_read left b x e =
    let m = bind_ok (entries_at (item_at 512) None left b) (λ es. Ok (values es.0, es.1)) x (some_read (entries_at (item_at 512) None left b >>= (λ es. Ok (values es.0, es.1))) x e) in
    (m.0, m.1, ok_same (values m.0.0, m.0.1) x m.2)

-- the first of many members, and the others
pub record IsFirst (left : ℕ) (b : List ℕ) (ds : Items) (rest : List ℕ) : Type 0 where
  pub head : Data
  pub tail : Items
  pub middle : List ℕ
  pub here : item_at 512 b ≡ Ok (head, middle)
  pub others : items_at (item_at 512) left middle ≡ Ok (tail, rest)
  pub all : item head tail ≡ ds

-- the first element, and those after it
pub first_member : (left : ℕ) (b : List ℕ) (ds : Items) (rest : List ℕ) → items_at (item_at 512) (suc left) b ≡ Ok (ds, rest) → IsFirst left b ds rest
first_member left b ds rest e =
    let a = bind_ok (item_at 512 b) (items_after (item_at 512) left) (ds, rest) e in
    let m = bind_ok (items_at (item_at 512) left a.0.1) (with_item a.0.0) (ds, rest) a.2 in
    let same = ok_same (item a.0.0 m.0.0, m.0.1) (ds, rest) m.2 in
    record {
      head = a.0.0;
      tail = m.0.0;
      middle = a.0.1;
      here = a.1;
      others = m.1 ∙ ap (λ (l : List ℕ). Ok (m.0.0, l)) (ap (λ (x : Items × List ℕ). x.1) same);
      all = ap (λ (x : Items × List ℕ). x.0) same;
    }

-- the first of many keys and values, and the others
pub record IsFirstEntry (left : ℕ) (b : List ℕ) (es : Entries) (rest : List ℕ) : Type 0 where
  pub name : List ℕ
  pub value : List ℕ
  pub head : Data
  pub tail : Entries
  pub middle : List ℕ
  pub named : key_at None b ≡ Ok (name, value)
  pub here : item_at 512 value ≡ Ok (head, middle)
  pub others : entries_at (item_at 512) None left middle ≡ Ok (tail, rest)
  pub all : entry name head tail ≡ es

-- the first entry, and those after it
pub first_entry : (left : ℕ) (b : List ℕ) (es : Entries) (rest : List ℕ) → entries_at (item_at 512) None (suc left) b ≡ Ok (es, rest) → IsFirstEntry left b es rest
first_entry left b es rest e =
    let k = bind_ok (key_at None b) (value_behind (item_at 512) left) (es, rest) e in
    let a = bind_ok (item_at 512 k.0.1) (entries_after (item_at 512) left k.0.0) (es, rest) k.2 in
    let m = bind_ok (entries_at (item_at 512) (Some k.0.0) left a.0.1) (with_entry k.0.0 a.0.0) (es, rest) a.2 in
    let same = ok_same (entry k.0.0 a.0.0 m.0.0, m.0.1) (es, rest) m.2 in
    record {
      name = k.0.0;
      value = k.0.1;
      head = a.0.0;
      tail = m.0.0;
      middle = a.0.1;
      named = k.1;
      here = a.1;
      others = entries_first (item_at 512) (Some k.0.0) left a.0.1 m.0 m.1 ∙ ap (λ (l : List ℕ). Ok (m.0.0, l)) (ap (λ (x : Entries × List ℕ). x.1) same);
      all = ap (λ (x : Entries × List ℕ). x.0) same;
    }

-- ---- the first child and the others

-- a part is its first child, which is at a value after a step, and the others
pub record IsSplit (new : Children) (t : Step) (value : List ℕ) (x : Part × List ℕ) : Type 0 where
  pub head : Data
  pub middle : List ℕ
  pub others : Part
  pub here : item_at 512 value ≡ Ok (head, middle)
  pub behind : part_at new middle ≡ Some (others, x.1)
  pub links : (places : List Place) (depth : ℕ) → part_links places depth x.0 ≡ child_links places t depth head ++ part_links places depth others
  pub lighter : weight_of head + part_weight others < part_weight x.0

-- an open list is its next element and the rest
pub member_split : (count left : ℕ) (b : List ℕ) (x : Part × List ℕ) → part_at (Members count (suc left)) b ≡ Some x → IsSplit (Members count left) (nth (count - suc left)) b x
member_split count left b x e =
    let i = members_read count (suc left) b x e in
    let f = first_member left b i.0.0 i.0.1 i.1 in
    let h = i.3 in
    let next : count - suc left + 1 ≡ count - left = omega arith in
    let is : (members (count - suc left) (item f.head f.tail), i.0.1) ≡ x = ap (λ ds. (members (count - suc left) ds, i.0.1)) f.all ∙ i.2 in
    subst (IsSplit (Members count left) (nth (count - suc left)) b) is (record {
      head = f.head;
      middle = f.middle;
      others = members (count - left) f.tail;
      here = f.here;
      behind = members_here count left f.middle i.0.1 f.tail (omega (arith, h)) f.others;
      links = λ places depth. ap (λ n. child_links places (nth (count - suc left)) depth f.head ++ links_in_items places depth n f.tail) next;
      lighter = omega arith;
    })

-- an open map is its next value and the rest
pub value_split : (left : ℕ) (b k v : List ℕ) (x : Part × List ℕ) → key_at None b ≡ Ok (k, v) → part_at (Values (suc left)) b ≡ Some x → IsSplit (Values left) (key k) v x
value_split left b k v x named e =
    let i = values_read (suc left) b x e in
    let f = first_entry left b i.0.0 i.0.1 i.1 in
    let is : (values (entry f.name f.head f.tail), i.0.1) ≡ x = ap (λ es. (values es, i.0.1)) f.all ∙ i.2 in
    subst (λ (n : List ℕ × List ℕ). IsSplit (Values left) (key n.0) n.1 x) (ok_same (f.name, f.value) (k, v) (sym f.named ∙ named)) (subst (IsSplit (Values left) (key f.name) f.value) is (record {
      head = f.head;
      middle = f.middle;
      others = values f.tail;
      here = f.here;
      behind = values_here left f.middle i.0.1 f.tail f.others;
      links = λ places depth. refl;
      lighter = omega arith;
    }))

-- nothing is left where no child is
pub spent_part : (c : Children) (b : List ℕ) (x : Part × List ℕ) → is_spent c ≡ true → part_at c b ≡ Some x
    → (b ≡ x.1) × ((places : List Place) (depth : ℕ) → part_links places depth x.0 ≡ [])
spent_part (Members count zero) b x spent e =
    let i = members_read count 0 b x e in
    let is : (members (count - 0) no_items, b) ≡ x = ap (λ (ds : Items × List ℕ). (members (count - 0) ds.0, ds.1)) (ok_same (no_items, b) i.0 i.1) ∙ i.2 in
    (ap (λ (y : Part × List ℕ). y.1) is, λ places depth. ap (λ (y : Part × List ℕ). part_links places depth y.0) (sym is))
spent_part (Members count (suc left)) b x spent e = absurd (no_more left spent) where
  no_more : (n : ℕ) → (suc n == 0) ≡ true → ⊥
  no_more n h = grind (arith, nat_tests)
spent_part (Values zero) b x spent e =
    let i = values_read 0 b x e in
    let is : (values no_entries, b) ≡ x = ap (λ (es : Entries × List ℕ). (values es.0, es.1)) (ok_same (no_entries, b) i.0 i.1) ∙ i.2 in
    (ap (λ (y : Part × List ℕ). y.1) is, λ places depth. ap (λ (y : Part × List ℕ). part_links places depth y.0) (sym is))
spent_part (Values (suc left)) b x spent e = absurd (no_more left spent) where
  no_more : (n : ℕ) → (suc n == 0) ≡ true → ⊥
  no_more n h = grind (arith, nat_tests)

-- ---- children that nothing comes of are passed

-- what is left has the same links
pub record IsPassed (places : List Place) (depth : ℕ) (x : Part × List ℕ) (new : Children) (now : List ℕ) : Type 0 where
  pub part : Part
  pub here : part_at new now ≡ Some (part, x.1)
  pub links : part_links places depth x.0 ≡ part_links places depth part
  pub light : part_weight part ≤ part_weight x.0

pub record Passes (places : List Place) (depth : ℕ) (old : Children) (at : List ℕ) (new : Children) (now : List ℕ) : Type 0 where
  pub of : (x : Part × List ℕ) → part_at old at ≡ Some x → IsPassed places depth x new now

-- no child was passed
pub passes_none : (places : List Place) (depth : ℕ) (c : Children) (at : List ℕ) → Passes places depth c at c at
passes_none places depth c at = record { of = λ x e. record { part = x.0; here = e; links = refl; light = omega arith } }

-- a child from a part
abbrev pub Splits : Children → List ℕ → Children → Step → List ℕ → Type 0
Splits mid now new t value = (x : Part × List ℕ) → part_at mid now ≡ Some x → IsSplit new t value x

-- one more child without links was passed
pub passes_child : (places : List Place) (depth : ℕ) (old mid new : Children) (at now value rest : List ℕ) (t : Step) → Passes places depth old at mid now → Splits mid now new t value → IsChild places t value depth None rest
    → Passes places depth old at new rest
passes_child places depth old mid new at now value rest t passes splits child = record {
  of = λ x e.
      let p = passes.of x e in
      let s = splits (p.part, x.1) p.here in
      let c = child s.head s.middle s.here in
      let l = p.light in
      let k = s.lighter in record {
        part = s.others;
        here = ap (part_at new) c.0 ∙ s.behind;
        links = p.links ∙ s.links places depth ∙ ap (λ z. z ++ part_links places depth s.others) c.1;
        light = omega (arith, l, k);
      };
}

-- a child is entered after those passed
pub gives_child : (places : List Place) (depth : ℕ) (old mid new : Children) (at now value rest : List ℕ) (t : Step) (e : Child) → Passes places depth old at mid now → Splits mid now new t value → IsChild places t value depth (Some e) rest
    → IsNext places depth old at (Some e) new rest
gives_child places depth old mid new at now value rest t e passes splits child = λ x h.
    let p = passes.of x h in
    let s = splits (p.part, x.1) p.here in
    let l = p.light in
    let k = s.lighter in record {
      first = child_links places t depth s.head;
      weight = weight_of s.head;
      middle = s.middle;
      others = s.others;
      entered = child s.head s.middle s.here;
      behind = s.behind;
      links = p.links ∙ s.links places depth;
      lighter = omega (arith, l, k);
    }

-- or none is left
pub gives_none : (places : List Place) (depth : ℕ) (old new : Children) (at now : List ℕ) → is_spent new ≡ true → Passes places depth old at new now → IsNext places depth old at None new now
gives_none places depth old new at now spent passes = λ x e.
    let p = passes.of x e in
    let s = spent_part new now (p.part, x.1) spent p.here in
    (s.0, p.links ∙ s.1 places depth)

-- ---- what is where

-- an element that is left can be read
pub member_item : (count left : ℕ) (b : List ℕ) → (left ≡ 0 → ⊥) → IsPart (Members count left) b → IsItem b
member_item count zero b some p = absurd (some refl)
member_item count (suc left) b some p =
    let i = members_read count (suc left) b p.0 p.1 in
    let f = first_member left b i.0.0 i.0.1 i.1 in ((f.head, f.middle), f.here)

-- so can a key that is left
pub value_key : (left : ℕ) (b : List ℕ) → (left ≡ 0 → ⊥) → IsPart (Values left) b → IsKey b
value_key zero b some p = absurd (some refl)
value_key (suc left) b some p =
    let i = values_read (suc left) b p.0 p.1 in
    let f = first_entry left b i.0.0 i.0.1 i.1 in ((f.name, f.value), f.named)

-- and its value
pub value_item : (left : ℕ) (b k v : List ℕ) → (left ≡ 0 → ⊥) → IsPart (Values left) b → key_at None b ≡ Ok (k, v) → IsItem v
value_item zero b k v some p named = absurd (some refl)
value_item (suc left) b k v some p named =
    let i = values_read (suc left) b p.0 p.1 in
    let f = first_entry left b i.0.0 i.0.1 i.1 in
    let same : (k, v) ≡ (f.name, f.value) = ok_same (k, v) (f.name, f.value) (sym named ∙ f.named) in
    ((f.head, f.middle), ap (item_at 512) (ap (λ (x : List ℕ × List ℕ). x.1) same) ∙ f.here)

-- ---- the children in turn

-- the loop's step in a list
pub member_splits : (count left : ℕ) (b : List ℕ) → 0 < left → Splits (Members count left) b (Members count (left - 1)) (nth (count - left)) b
member_splits count zero b some = absurd (omega (arith, some))
member_splits count (suc left) b some = λ x e.
    let less : left ≡ suc left - 1 = omega arith in subst (λ n. IsSplit (Members count n) (nth (count - suc left)) b x) less (member_split count left b x e)

-- the loop's step in a map
pub value_splits : (left : ℕ) (b k v : List ℕ) → 0 < left → key_at None b ≡ Ok (k, v) → Splits (Values left) b (Values (left - 1)) (key k) v
value_splits zero b k v some named = absurd (omega (arith, some))
value_splits (suc left) b k v some named = λ x e.
    let less : left ≡ suc left - 1 = omega arith in subst (λ n. IsSplit (Values n) (key k) v x) less (value_split left b k v x named e)

-- what is left can be read where what was there can
pub passed_part : (places : List Place) (depth : ℕ) (old new : Children) (at now : List ℕ) → Passes places depth old at new now → IsPart old at → IsPart new now
passed_part places depth old new at now passes is = let p = passes.of is.0 is.1 in ((p.part, is.0.1), p.here)

-- at most as many elements are left as there were
pub members_within : (count left : ℕ) (b : List ℕ) → IsPart (Members count left) b → left ≤ count
members_within count left b is = (members_read count left b is.0 is.1).3

-- what came of a child, and what didn't
pub gives_some : (places : List Place) (depth : ℕ) (old mid new : Children) (at now value rest : List ℕ) (t : Step) (o : Option Child) → is_some o ≡ true → Passes places depth old at mid now → Splits mid now new t value
    → IsChild places t value depth o rest → IsNext places depth old at o new rest
gives_some places depth old mid new at now value rest t None some passes splits child = absurd cc
gives_some places depth old mid new at now value rest t (Some e) some passes splits child = gives_child places depth old mid new at now value rest t e passes splits child

-- a child that isn't entered is passed
pub passes_on : (places : List Place) (depth : ℕ) (old mid new : Children) (at now value rest : List ℕ) (t : Step) (o : Option Child) → is_some o ≡ false → Passes places depth old at mid now → Splits mid now new t value
    → IsChild places t value depth o rest → Passes places depth old at new rest
passes_on places depth old mid new at now value rest t None none passes splits child = passes_child places depth old mid new at now value rest t passes splits child
passes_on places depth old mid new at now value rest t (Some e) none passes splits child = absurd cc

-- a positive number isn't 0
pub not_none : (n : ℕ) → 0 < n → n ≡ 0 → ⊥
not_none n some none = omega (arith, some, none)

-- a list without elements left is spent
pub members_spent : (count n : ℕ) → n ≤ 0 → is_spent (Members count n) ≡ true
members_spent count zero none = refl
members_spent count (suc n) none = absurd (omega (arith, none))

-- and so is a map without values left
pub values_spent : (n : ℕ) → n ≤ 0 → is_spent (Values n) ≡ true
values_spent zero none = refl
values_spent (suc n) none = absurd (omega (arith, none))
