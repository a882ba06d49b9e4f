-- Where a step leads from a matcher or explorer.
use Rattle.std.proofs.Common.{◌≡◌, ℕ, ◌<◌, ⊎_elim, pos, Bool, true, false, true≢false, List, [], ◌∷◌, length, refl, sym, ◌∙◌, subst, inl, inr}
use Rattle.std.specs.Prelude.{ℤ, Option, Some, None, IfSome, IfNone, int_le, int_lt}
use Rattle.std.specs.Bool.{then_some}
use Rattle.std.specs.Global.{Vec}
use Rattle.std.specs.Int.Signed.{le_z_yes, lt_z_yes}
use Rattle.std.proofs.lemmas.Bool.Decides.{Decides-int_eq}
use Rattle.std.proofs.lemmas.Bool.{and_parts, and_from}
use Rattle.ix_selector.specs.declared.selector_node.SelectorNode.{SelectorNode}
use Rattle.ix_selector.specs.declared.selector_node.SelectorNode.TheVariants.{Matcher, All as AllNode, Fields as FieldsNode, Index as IndexNode, Range as RangeNode, Recursive, Union, Edge}
use Rattle.ix_selector.specs.declared.state.State.{State}
use Rattle.ix_selector.specs.declared.state.Recursion.{Recursion}
use Rattle.ix_selector.specs.Pattern.{Pattern, matcher, all, index, range, after_step, IsGuarded}
use Rattle.ix_selector.specs.Enters.{Step, key, nth, Path, Frame, Enters, below_all, below_index, below_range}
use Rattle.ix_selector.specs.Steps.{is_at, is_within}
use Rattle.ix_selector.specs.Places.{at, places_of, seen, AreNamedBelow, HasNumber}
use Rattle.ix_selector.specs.Standing.{IsBeside, in_same}
use Rattle.ix_selector.specs.Named.{IsNumbered, HasName}
use Rattle.ix_selector.specs.States.{frames, selector_at, EntersAt, around, IsState, Stands, Same, LeadsTo, LeadsNowhere}
use Rattle.ix_selector.proofs.Decides.{true-holds, holds-true}

-- `all` enters only what its inner selector enters after the step
pub out_all : {s : Pattern} {e : List Frame} {t : Step} {p : Path} → Enters (all s) e (t ∷ p) → Enters s e p
out_all (below_all h) = h

-- so it leads there
pub all_leads : (s : Pattern) (t : Step) → LeadsTo (all s) t s
all_leads s t = record { enters = λ e p. (λ h. out_all h, λ h. below_all h); guarded = λ a g. g }

-- `index` enters only at its position
out_index : {i : ℤ} {s : Pattern} {e : List Frame} {t : Step} {p : Path} → Enters (index i s) e (t ∷ p) → (is_at i t ≡ true) × Enters s e p
out_index (below_index {n = n} h) = ((Decides-int_eq (pos n) (pos n)).1 refl, h)

-- and there what its inner selector enters
into_index : (i : ℤ) (s : Pattern) (e : List Frame) (t : Step) (p : Path) → is_at i t ≡ true → Enters s e p → Enters (index i s) e (t ∷ p)
into_index i s e (key l) p is h = absurd (true≢false (sym is))
into_index i s e (nth n) p is h = subst (λ z. Enters (index z s) e (nth n ∷ p)) (sym ((Decides-int_eq i (pos n)).0 is)) (below_index h)

-- so it leads there
pub index_leads : (i : ℤ) (s : Pattern) (t : Step) → is_at i t ≡ true → LeadsTo (index i s) t s
index_leads i s t is = record { enters = λ e p. (λ h. (out_index h).1, λ h. into_index i s e t p is h); guarded = λ a g. g }

-- and nowhere elsewhere
pub index_nowhere : (i : ℤ) (s : Pattern) (t : Step) → is_at i t ≡ false → LeadsNowhere (index i s) t
index_nowhere i s t is e p h = true≢false (sym (out_index h).0 ∙ is)

-- `range` enters only within its bounds
out_range : {i j : ℤ} {s : Pattern} {e : List Frame} {t : Step} {p : Path} → Enters (range i j s) e (t ∷ p) → (is_within i j t ≡ true) × Enters s e p
out_range (below_range {n = n} low high h) = (and_from _ _ (holds-true _ low.le) (holds-true _ high.lt), h)

-- and there what its inner selector enters
into_range : (i j : ℤ) (s : Pattern) (e : List Frame) (t : Step) (p : Path) → is_within i j t ≡ true → Enters s e p → Enters (range i j s) e (t ∷ p)
into_range i j s e (key l) p is h = absurd (true≢false (sym is))
into_range i j s e (nth n) p is h =
    let both = and_parts (int_le i (pos n)) (int_lt (pos n) j) is in
    below_range (le_z_yes (true-holds _ both.0)) (lt_z_yes (true-holds _ both.1)) h

-- so it leads there
pub range_leads : (i j : ℤ) (s : Pattern) (t : Step) → is_within i j t ≡ true → LeadsTo (range i j s) t s
range_leads i j s t is = record { enters = λ e p. (λ h. (out_range h).1, λ h. into_range i j s e t p is h); guarded = λ a g. g }

-- and nowhere elsewhere
pub range_nowhere : (i j : ℤ) (s : Pattern) (t : Step) → is_within i j t ≡ false → LeadsNowhere (range i j s) t
range_nowhere i j s t is e p h = true≢false (sym (out_range h).0 ∙ is)

-- a matcher enters no child
pub matcher_nowhere : (t : Step) → LeadsNowhere matcher t
matcher_nowhere t e p h = elim h [ ]

-- ---- the state after a step

-- one step more changes nothing inside a recursion that had one
after_around : (r : Option Recursion) → after_step (around r) ≡ around r
after_around None = refl
after_around (Some r) = refl

-- the place after the step is a state of the table, in the same recursion
pub behind-state : (nodes : List SelectorNode) (x : State) (t : Step) (k : ℕ) → IsState nodes x → k < length nodes → IsBeside nodes x.place k → LeadsTo (selector_at nodes x) t (at (places_of nodes) k) → IsState nodes (record { place = k; recursion = x.recursion })
behind-state nodes x t k is within beside leads = record {
  within = within;
  guarded = subst (λ a. IsGuarded a (at (places_of nodes) k)) (after_around x.recursion) (leads.guarded (around x.recursion) is.guarded);
  sequence = is.sequence;
  stands = in_same beside is.stands;
}

-- and enters what the state before enters after the step
pub behind-enters : (nodes : List SelectorNode) (x : State) (t : Step) (k : ℕ) → LeadsTo (selector_at nodes x) t (at (places_of nodes) k) → Same (EntersAt nodes (record { place = k; recursion = x.recursion })) (λ p. EntersAt nodes x (t ∷ p))
behind-enters nodes x t k leads p = let both = leads.enters (frames (places_of nodes) x.recursion) p in (both.1, both.0)

-- ---- what a test chooses

-- what `then_some` returns holds if the test does
pub chosen-some : (P : ℕ → Type 0) (b : Bool) (k : ℕ) (o : Option ℕ) → o ≡ then_some b k → (b ≡ true → P k) → IfSome o P
chosen-some P b k o is h = subst (λ q. IfSome q P) (sym is) (by b h) where
  by : (b : Bool) → (b ≡ true → P k) → IfSome (then_some b k) P
  by true h = h refl
  by false h = tt

-- and `None` means that the test failed
pub chosen-none : (Q : Type 0) (b : Bool) (k : ℕ) (o : Option ℕ) → o ≡ then_some b k → (b ≡ false → Q) → IfNone o Q
chosen-none Q b k o is h = subst (λ q. IfNone q Q) (sym is) (by b h) where
  by : (b : Bool) → (b ≡ false → Q) → IfNone (then_some b k) Q
  by true h = tt
  by false h = h refl

-- a consequence in the case of `None`
pub if-none : (P Q : Type 0) (o : Option ℕ) → (P → Q) → IfNone o P → IfNone o Q
if-none P Q None f h = f h
if-none P Q (Some k) f h = tt

-- what leads on is one of four forms, or no matcher and no explorer
pub default-nowhere : (ps : List Pattern) (y : SelectorNode) → ((k : ℕ) → y ≡ AllNode k → ⊥) → ((names : _) → y ≡ FieldsNode names → ⊥) → ((i : ℤ) (k : ℕ) → y ≡ IndexNode i k → ⊥) → ((i j : ℤ) (k : ℕ) → y ≡ RangeNode i j k → ⊥)
    → (t : Step) → Stands (seen ps y) → LeadsNowhere (seen ps y) t
default-nowhere ps Matcher a f i r t stands = matcher_nowhere t
default-nowhere ps (AllNode k) a f i r t stands = absurd (a k refl)
default-nowhere ps (FieldsNode names) a f i r t stands = absurd (f names refl)
default-nowhere ps (IndexNode n k) a f i r t stands = absurd (i n k refl)
default-nowhere ps (RangeNode n m k) a f i r t stands = absurd (r n m k refl)
default-nowhere ps (Recursive d k) a f i r t stands = absurd stands
default-nowhere ps (Union ks) a f i r t stands = absurd stands
default-nowhere ps Edge a f i r t stands = absurd stands

-- the number that belongs to the name of a step is a place before
pub name-below : (n : ℕ) (names : List (Vec ℕ × ℕ)) (t : Step) (k : ℕ) → AreNamedBelow n names → HasName names t k → k < n
name-below n names (nth m) k below h = absurd h
name-below n names (key l) k below h = by names below h where
  by : (names : List (Vec ℕ × ℕ)) → AreNamedBelow n names → IsNumbered names l k → k < n
  by [] below h = absurd h
  by (f ∷ fs) below h = ⊎_elim (λ (here : (f.0.items ≡ l) × (f.1 ≡ k)). subst (λ j. j < n) here.1 below.0) (λ (there : IsNumbered fs l k). by fs below.1 there) h

-- the number that belongs to the name of a step is one of those that fields name
pub name-number : (names : List (Vec ℕ × ℕ)) (t : Step) (k : ℕ) → HasName names t k → HasNumber names k
name-number names (nth m) k h = absurd h
name-number names (key l) k h = by names h where
  by : (names : List (Vec ℕ × ℕ)) → IsNumbered names l k → HasNumber names k
  by [] h = absurd h
  by (f ∷ fs) h = ⊎_elim (λ (here : (f.0.items ≡ l) × (f.1 ≡ k)). inl here.1) (λ (there : IsNumbered fs l k). inr (by fs there)) h
