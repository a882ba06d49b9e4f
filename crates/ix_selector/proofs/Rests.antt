-- What is left of a selector after a path enters what the selector enters from there.
use Rattle.std.proofs.Common.{◌≡◌, ℕ, ◌+◌, ◌⊎◌, inl, inr, ⊎_elim, Bool, true, false, true≢false, List, [], ◌∷◌, ◌++◌, refl, sym, ◌∙◌, subst, arith}
use Rattle.std.specs.List.{AllByRecursion}
use Rattle.std.specs.Prelude.{◌↔◌, Option, Some, None, if◌then◌else◌, bytes_eq}
use Rattle.std.proofs.lemmas.Slice.Eq.{bytes_eq-Decides}
use Rattle.ix_selector.specs.Pattern.{Pattern, Fields, Members, matcher, all, fields, index, range, recursive, union, edge, no_fields, field, no_members, member, Around, outside, unguarded, guarded, after_step, MayStand, IsGuarded, AreGuarded, EachGuarded}
use Rattle.ix_selector.specs.Enters.{Step, key, nth, Path, Frame, IsNamed, first, later, IsMember, head, tail, Enters, below_all, below_fields, in_union, in_recursion}
use Rattle.ix_selector.specs.Steps.{is_at, is_within}
use Rattle.ix_selector.specs.Residual.{Place}
use Rattle.ix_selector.specs.States.{Stands}
use Rattle.ix_selector.specs.Behind.{inside_of, leads, each_leads, before, is_edge, standing, named_lead, leads_after}
use Rattle.ix_selector.proofs.Entering.{inner_only}
use Rattle.ix_selector.proofs.Inside.{guarded-later, out_recursion, out_union}
use Rattle.ix_selector.proofs.Leading.{index_leads, index_nowhere, range_leads, range_nowhere, matcher_nowhere, out_all}
use Rattle.ix_selector.proofs.Adding.{standing-append}
use Rattle.ix_selector.proofs.Within.{Inner, In, in_all, in_fields, in_index, in_range, in_recursive, in_union, InFields, in_field, later_field, InMembers, in_member, later_member}

-- ---- what places enter

-- one of them enters the path
abbrev pub Enter : List Place → Path → Type 0
Enter [] p = ⊥
Enter (x ∷ xs) p = Enters x.selector x.around p ⊎ Enter xs p

-- equivalence is transitive
pub iff_twice : {A B C : Type 0} → (A ↔ B) → (B ↔ C) → (A ↔ C)
iff_twice f g = (λ a. g.0 (f.0 a), λ c. f.1 (g.1 c))

-- reflexive
pub iff_same : {A : Type 0} → (A ↔ A)
iff_same = (λ a. a, λ a. a)

-- and symmetric
pub iff_back : {A B : Type 0} → (A ↔ B) → (B ↔ A)
iff_back f = (f.1, f.0)

-- and respected by alternatives
pub either_iff : {A B C D : Type 0} → (A ↔ B) → (C ↔ D) → ((A ⊎ C) ↔ (B ⊎ D))
either_iff {A} {B} {C} {D} f g = (
  λ h. ⊎_elim (λ (a : A). inl (f.0 a)) (λ (c : C). inr (g.0 c)) h,
  λ h. ⊎_elim (λ (b : B). inl (f.1 b)) (λ (d : D). inr (g.1 d)) h,
)

-- an impossible alternative may be left out
pub either-never : {A : Type 0} → ((A ⊎ ⊥) ↔ A)
either-never {A} = (λ h. ⊎_elim (λ (a : A). a) (λ (n : ⊥). absurd n) h, λ a. inl a)

-- alternatives may be grouped
pub either-grouped : {A B C : Type 0} → ((A ⊎ (B ⊎ C)) ↔ ((A ⊎ B) ⊎ C))
either-grouped {A} {B} {C} = (
  λ h. ⊎_elim (λ (a : A). inl (inl a)) (λ (r : B ⊎ C). ⊎_elim (λ (b : B). inl (inr b)) (λ (c : C). inr c) r) h,
  λ h. ⊎_elim (λ (l : A ⊎ B). ⊎_elim (λ (a : A). inl a) (λ (b : B). inr (inl b)) l) (λ (c : C). inr (inr c)) h,
)

-- a concatenation enters what either part enters
pub enter-append : (xs ys : List Place) (p : Path) → (Enter (xs ++ ys) p ↔ (Enter xs p ⊎ Enter ys p))
enter-append [] ys p = (λ h. inr h, λ h. ⊎_elim (λ (n : ⊥). absurd n) (λ (y : Enter ys p). y) h)
enter-append (x ∷ xs) ys p = iff_twice (either_iff iff_same (enter-append xs ys p)) either-grouped

-- equal lists enter the same
pub enter_by : (xs ys : List Place) (p : Path) → xs ≡ ys → (Enter xs p ↔ Enter ys p)
enter_by xs ys p same = (λ h. subst (λ l. Enter l p) same h, λ h. subst (λ l. Enter l p) (sym same) h)

-- each of them is such
abbrev pub Each : (Place → Type 0) → List Place → Type 0
Each P xs = AllByRecursion P xs

-- what holds of each part holds of the concatenation
pub each-append : (P : Place → Type 0) (xs ys : List Place) → Each P xs → Each P ys → Each P (xs ++ ys)
each-append P [] ys a b = b
each-append P (x ∷ xs) ys a b = (a.0, each-append P xs ys a.1 b)

-- ---- where a selector leads, it enters

mutual
  pub leads-enter : (s : Pattern) (n : ℕ) (e : List Frame) (q : Option ℕ) (p : Path) → (Enter (leads s n e q) p ↔ Enters s e p)
  leads-enter matcher n e q p = either-never
  leads-enter (all s) n e q p = either-never
  leads-enter (fields fs) n e q p = either-never
  leads-enter (index i s) n e q p = either-never
  leads-enter (range i j s) n e q p = either-never
  leads-enter (recursive d s) n e q p =
      let f : Frame = record { sequence = s; depth = d } in
      iff_twice (leads-enter s n (f ∷ []) (Some (n + inside_of s)) p) (λ h. in_recursion (inner_only f [] e h), λ h. inner_only f e [] (out_recursion h))
  leads-enter (union ss) n e q p = iff_twice (each_leads-enter ss n e q p) (λ h. in_union h.1 h.2, λ h. out_union h)
  leads-enter edge n e q p = either-never

  each_leads-enter : (ss : Members) (n : ℕ) (e : List Frame) (q : Option ℕ) (p : Path) → (Enter (each_leads ss n e q) p ↔ ((s : Pattern) × IsMember s ss × Enters s e p))
  each_leads-enter no_members n e q p = (λ h. absurd h, λ h. no_member h.1) where
    no_member : {s : Pattern} → IsMember s no_members → ⊥
    no_member h = elim h [ ]
  each_leads-enter (member s ss) n e q p =
      iff_twice (enter-append (leads s n e q) (each_leads ss (n + (inside_of s + 1)) e q) p)
      (iff_twice (either_iff (leads-enter s n e q p) (each_leads-enter ss (n + (inside_of s + 1)) e q p)) (one_more s ss e p)) where
        one_more : (s : Pattern) (ss : Members) (e : List Frame) (p : Path)
            → ((Enters s e p ⊎ ((r : Pattern) × IsMember r ss × Enters r e p)) ↔ ((r : Pattern) × IsMember r (member s ss) × Enters r e p))
        one_more s ss e p = (
          λ h. ⊎_elim (λ (a : Enters s e p). (s, head, a)) (λ (b : (r : Pattern) × IsMember r ss × Enters r e p). (b.0, tail b.1, b.2)) h,
          λ h. by h.1 h.2,
        ) where
          by : {r : Pattern} → IsMember r (member s ss) → Enters r e p → Enters s e p ⊎ ((r : Pattern) × IsMember r ss × Enters r e p)
          by head h = inl h
          by (tail {s = r} n) h = inr (r, n, h)

-- ---- matchers and explorers, and no edge

-- the place is an edge, a matcher or an explorer
abbrev pub IsLead : Place → Type 0
IsLead x = is_edge x.selector ≡ false → Stands x.selector

mutual
  pub leads-lead : (s : Pattern) (n : ℕ) (e : List Frame) (q : Option ℕ) → Each IsLead (leads s n e q)
  leads-lead matcher n e q = (λ h. tt, tt)
  leads-lead (all s) n e q = (λ h. tt, tt)
  leads-lead (fields fs) n e q = (λ h. tt, tt)
  leads-lead (index i s) n e q = (λ h. tt, tt)
  leads-lead (range i j s) n e q = (λ h. tt, tt)
  leads-lead (recursive d s) n e q = leads-lead s n _ _
  leads-lead (union ss) n e q = each_leads-lead ss n e q
  leads-lead edge n e q = (λ h. absurd (true≢false h), tt)

  each_leads-lead : (ss : Members) (n : ℕ) (e : List Frame) (q : Option ℕ) → Each IsLead (each_leads ss n e q)
  each_leads-lead no_members n e q = tt
  each_leads-lead (member s ss) n e q = each-append IsLead (leads s n e q) (each_leads ss (n + (inside_of s + 1)) e q) (leads-lead s n e q) (each_leads-lead ss (n + (inside_of s + 1)) e q)

-- what is kept of places that are such is such
pub standing-each : (P : Place → Type 0) (xs : List Place) → Each P xs → Each P (standing xs)
standing-each P [] h = tt
standing-each P (x ∷ xs) h = by (is_edge x.selector) (standing-each P xs h.1) where
  by : (b : Bool) → Each P (standing xs) → Each P (if b then standing xs else x ∷ standing xs)
  by true rest = rest
  by false rest = (h.0, rest)

-- of those, what is no edge is a matcher or explorer
pub standing-stands : (xs : List Place) → Each IsLead xs → Each (λ x. Stands x.selector) (standing xs)
standing-stands [] h = tt
standing-stands (x ∷ xs) h = by (is_edge x.selector) refl (standing-stands xs h.1) where
  by : (b : Bool) → is_edge x.selector ≡ b → Each (λ x. Stands x.selector) (standing xs) → Each (λ x. Stands x.selector) (if b then standing xs else x ∷ standing xs)
  by true is rest = rest
  by false is rest = (h.0 is, rest)

-- lists without edges, concatenated
pub no_edges : (xs ys : List Place) → standing xs ≡ xs → standing ys ≡ ys → standing (xs ++ ys) ≡ xs ++ ys
no_edges xs ys a b = standing-append xs ys ∙ (λ i. a i ++ b i)

mutual
  -- where no edge is allowed, none is among them
  pub leads-no_edge : (a : Around) (s : Pattern) (n : ℕ) (e : List Frame) (q : Option ℕ) → (MayStand a → ⊥) → IsGuarded a s → standing (leads s n e q) ≡ leads s n e q
  leads-no_edge a matcher n e q never g = refl
  leads-no_edge a (all s) n e q never g = refl
  leads-no_edge a (fields fs) n e q never g = refl
  leads-no_edge a (index i s) n e q never g = refl
  leads-no_edge a (range i j s) n e q never g = refl
  leads-no_edge a (recursive d s) n e q never g = leads-no_edge unguarded s n _ _ (λ m. m) g.1
  leads-no_edge a (union ss) n e q never g = each_leads-no_edge a ss n e q never g
  leads-no_edge a edge n e q never g = absurd (never g)

  each_leads-no_edge : (a : Around) (ss : Members) (n : ℕ) (e : List Frame) (q : Option ℕ) → (MayStand a → ⊥) → EachGuarded a ss → standing (each_leads ss n e q) ≡ each_leads ss n e q
  each_leads-no_edge a no_members n e q never g = refl
  each_leads-no_edge a (member s ss) n e q never g =
      no_edges (leads s n e q) (each_leads ss (n + (inside_of s + 1)) e q) (leads-no_edge a s n e q never g.0) (each_leads-no_edge a ss (n + (inside_of s + 1)) e q never g.1)

-- ---- after a step

-- a list under a condition enters what it does if the condition holds
if_enter : (b : Bool) (xs : List Place) (p : Path) (A : Type 0) → (b ≡ true → (Enter xs p ↔ A)) → (b ≡ false → A → ⊥) → (Enter (if b then xs else []) p ↔ A)
if_enter true xs p A some none = some refl
if_enter false xs p A some none = (λ h. absurd h, λ h. none refl h)

-- where a key leads enters what a selector of that key enters
named-enter : (fs : Fields) (k : List ℕ) (n : ℕ) (e : List Frame) (q : Option ℕ) (p : Path) → (Enter (named_lead fs k n e q) p ↔ ((s : Pattern) × IsNamed k s fs × Enters s e p))
named-enter no_fields k n e q p = (λ h. absurd h, λ h. no_name h.1) where
  no_name : {s : Pattern} → IsNamed k s no_fields → ⊥
  no_name h = elim h [ ]
named-enter (field l s fs) k n e q p =
    iff_twice (enter-append (if bytes_eq l k then leads s n e q else []) (named_lead fs k (n + (inside_of s + 1)) e q) p)
    (iff_twice
    (either_iff
    (if_enter (bytes_eq l k) (leads s n e q) p ((l ≡ k) × Enters s e p)
    (λ is. iff_twice (leads-enter s n e q p) (λ h. ((bytes_eq-Decides l k).0 is, h), λ h. h.1))
    (λ other h. true≢false (sym ((bytes_eq-Decides l k).1 h.0) ∙ other)))
    (named-enter fs k (n + (inside_of s + 1)) e q p))
    (one_more l s fs k e p)) where
      one_more : (l : List ℕ) (s : Pattern) (fs : Fields) (k : List ℕ) (e : List Frame) (p : Path)
          → ((((l ≡ k) × Enters s e p) ⊎ ((r : Pattern) × IsNamed k r fs × Enters r e p)) ↔ ((r : Pattern) × IsNamed k r (field l s fs) × Enters r e p))
      one_more l s fs k e p = (
        λ h.
            ⊎_elim
            (λ (a : (l ≡ k) × Enters s e p). (s, subst (λ m. IsNamed m s (field l s fs)) a.0 first, a.1))
            (λ (b : (r : Pattern) × IsNamed k r fs × Enters r e p). (b.0, later b.1, b.2))
            h,
        λ h. by refl h.1 h.2,
      ) where
        by : {m : List ℕ} {r : Pattern} → m ≡ k → IsNamed m r (field l s fs) → Enters r e p → ((l ≡ k) × Enters s e p) ⊎ ((r : Pattern) × IsNamed k r fs × Enters r e p)
        by same first h = inl (same, h)
        by same (later {s = r} n) h = inr (r, subst (λ m. IsNamed m r fs) same n, h)

-- fields enter only through a key
out_fields : {fs : Fields} {e : List Frame} {k : List ℕ} {p : Path} → Enters (fields fs) e (key k ∷ p) → (s : Pattern) × IsNamed k s fs × Enters s e p
out_fields (below_fields {s = s} named h) = (s, named, h)

-- and not through a position
no_position : {fs : Fields} {e : List Frame} {n : ℕ} {p : Path} → Enters (fields fs) e (nth n ∷ p) → ⊥
no_position h = elim h [ ]

-- where a matcher or explorer leads after a step enters what it enters after the step
pub behind-enter : (s : Pattern) → Stands s → (t : Step) (n : ℕ) (e : List Frame) (q : Option ℕ) (p : Path) → (Enter (leads_after s t n e q) p ↔ Enters s e (t ∷ p))
behind-enter matcher stands t n e q p = (λ h. absurd h, λ h. matcher_nowhere t e p h)
behind-enter (all s) stands t n e q p = iff_twice (leads-enter s n e q p) (λ h. below_all h, λ h. out_all h)
behind-enter (fields fs) stands (key k) n e q p = iff_twice (named-enter fs k n e q p) (λ h. below_fields h.1 h.2, λ h. out_fields h)
behind-enter (fields fs) stands (nth m) n e q p = (λ h. absurd h, λ h. no_position h)
behind-enter (index i s) stands t n e q p =
    if_enter (is_at i t) (leads s n e q) p (Enters (index i s) e (t ∷ p)) (λ is. iff_twice (leads-enter s n e q p) (iff_back ((index_leads i s t is).enters e p))) (λ is h. index_nowhere i s t is e p h)
behind-enter (range i j s) stands t n e q p =
    if_enter (is_within i j t) (leads s n e q) p (Enters (range i j s) e (t ∷ p)) (λ is. iff_twice (leads-enter s n e q p) (iff_back ((range_leads i j s t is).enters e p))) (λ is h. range_nowhere i j s t is e p h)
behind-enter (recursive d s) stands t n e q p = absurd stands
behind-enter (union ss) stands t n e q p = absurd stands
behind-enter edge stands t n e q p = absurd stands

-- what holds of each holds of a list under a condition
if_each : (P : Place → Type 0) (b : Bool) (xs : List Place) → Each P xs → Each P (if b then xs else [])
if_each P true xs h = h
if_each P false xs h = tt

-- where a key leads are edges, matchers and explorers
named-lead : (fs : Fields) (k : List ℕ) (n : ℕ) (e : List Frame) (q : Option ℕ) → Each IsLead (named_lead fs k n e q)
named-lead no_fields k n e q = tt
named-lead (field l s fs) k n e q =
    each-append IsLead (if bytes_eq l k then leads s n e q else []) (named_lead fs k (n + (inside_of s + 1)) e q) (if_each IsLead (bytes_eq l k) (leads s n e q) (leads-lead s n e q)) (named-lead fs k (n + (inside_of s + 1)) e q)

-- and so it is after any step
pub behind-lead : (s : Pattern) (t : Step) (n : ℕ) (e : List Frame) (q : Option ℕ) → Each IsLead (leads_after s t n e q)
behind-lead matcher t n e q = tt
behind-lead (all s) t n e q = leads-lead s n e q
behind-lead (fields fs) (key k) n e q = named-lead fs k n e q
behind-lead (fields fs) (nth m) n e q = tt
behind-lead (index i s) t n e q = if_each IsLead (is_at i t) (leads s n e q) (leads-lead s n e q)
behind-lead (range i j s) t n e q = if_each IsLead (is_within i j t) (leads s n e q) (leads-lead s n e q)
behind-lead (recursive d s) t n e q = tt
behind-lead (union ss) t n e q = tt
behind-lead edge t n e q = tt

-- ---- places of one selector

-- the recursions around a place, with a depth
abbrev pub frames_in : Inner → Option ℕ → List Frame
frames_in None d = []
frames_in (Some c) d = record { sequence = c.1; depth = d } ∷ []

-- the number of the innermost sequence
abbrev pub number_in : Inner → Option ℕ
number_in None = None
number_in (Some c) = Some c.0

-- what surrounds the place
abbrev pub around_in : Inner → Around
around_in None = outside
around_in (Some c) = guarded

-- all that is inside it is inside the whole
abbrev pub Up : Pattern → Pattern → ℕ → Inner → Type 0
Up whole s m q = (t : Pattern) (l : ℕ) (v : Inner) → In s m q t l v → In whole 0 None t l v

-- the sequence of a recursion is a place of the whole
abbrev pub Home : Pattern → Inner → Type 0
Home whole None = Unit {0}
Home whole (Some c) = (k : ℕ) × (c.0 ≡ k + inside_of c.1) × Up whole c.1 k (Some c) × IsGuarded unguarded c.1

-- it is a place of the whole
pub record IsIn (whole : Pattern) (x : Place) : Type 0 where
  pub first : ℕ
  pub inner : Inner
  pub depth : Option ℕ
  pub up : Up whole x.selector first inner
  pub home : Home whole inner
  pub guard : IsGuarded (around_in inner) x.selector
  pub number : x.number ≡ first + inside_of x.selector
  pub around : x.around ≡ frames_in inner depth
  pub sequence : x.sequence ≡ number_in inner

module _ (whole : Pattern) where
  -- a form that leads to itself is a place of the whole
  lone_in : (s : Pattern) (m : ℕ) (r : Inner) (d : Option ℕ) → Up whole s m r → Home whole r → IsGuarded (around_in r) s
      → Each (IsIn whole) (record { selector = s; around = frames_in r d; number = m + inside_of s; sequence = number_in r } ∷ [])
  lone_in s m r d up home g = (record { first = m; inner = r; depth = d; up = up; home = home; guard = g; number = refl; around = refl; sequence = refl }, tt)

  mutual
    pub leads-in : (s : Pattern) (m : ℕ) (r : Inner) (d : Option ℕ) → Up whole s m r → Home whole r → IsGuarded (around_in r) s → Each (IsIn whole) (leads s m (frames_in r d) (number_in r))
    leads-in matcher m r d up home g = lone_in matcher m r d up home g
    leads-in (all s) m r d up home g = lone_in (all s) m r d up home g
    leads-in (fields fs) m r d up home g = lone_in (fields fs) m r d up home g
    leads-in (index i s) m r d up home g = lone_in (index i s) m r d up home g
    leads-in (range i j s) m r d up home g = lone_in (range i j s) m r d up home g
    leads-in (recursive limit s) m r d up home g =
        let up_in : Up whole s m (Some (m + inside_of s, s)) = λ t l v h. up t l v (in_recursive h) in
        leads-in s m (Some (m + inside_of s, s)) limit up_in (m, refl, up_in, g.1) (guarded-later s g.1)
    leads-in (union ss) m r d up home g = each_leads-in ss m r d (λ t l v h. up t l v (in_union h)) home g
    leads-in edge m r d up home g = lone_in edge m r d up home g

    each_leads-in : (ss : Members) (m : ℕ) (r : Inner) (d : Option ℕ) → ((t : Pattern) (l : ℕ) (v : Inner) → InMembers ss m r t l v → In whole 0 None t l v) → Home whole r → EachGuarded (around_in r) ss
        → Each (IsIn whole) (each_leads ss m (frames_in r d) (number_in r))
    each_leads-in no_members m r d up home g = tt
    each_leads-in (member s ss) m r d up home g =
        each-append (IsIn whole) (leads s m (frames_in r d) (number_in r)) (each_leads ss (m + (inside_of s + 1)) (frames_in r d) (number_in r))
        (leads-in s m r d (λ t l v h. up t l v (in_member h)) home g.0)
        (each_leads-in ss (m + (inside_of s + 1)) r d (λ t l v h. up t l v (later_member h)) home g.1)

  -- a step changes nothing inside a recursion that had one
  after_guard : (r : Inner) → after_step (around_in r) ≡ around_in r
  after_guard None = refl
  after_guard (Some c) = refl

  -- so a child is guarded as its parent is
  child : (r : Inner) (s : Pattern) → IsGuarded (after_step (around_in r)) s → IsGuarded (around_in r) s
  child r s g = subst (λ a. IsGuarded a s) (after_guard r) g

  -- where a key leads are places of the whole
  named-in : (fs : Fields) (k : List ℕ) (m : ℕ) (r : Inner) (d : Option ℕ) → ((t : Pattern) (l : ℕ) (v : Inner) → InFields fs m r t l v → In whole 0 None t l v) → Home whole r → AreGuarded (around_in r) fs
      → Each (IsIn whole) (named_lead fs k m (frames_in r d) (number_in r))
  named-in no_fields k m r d up home g = tt
  named-in (field l s fs) k m r d up home g =
      each-append (IsIn whole) (if bytes_eq l k then leads s m (frames_in r d) (number_in r) else []) (named_lead fs k (m + (inside_of s + 1)) (frames_in r d) (number_in r))
      (if_each (IsIn whole) (bytes_eq l k) (leads s m (frames_in r d) (number_in r)) (leads-in s m r d (λ t l v h. up t l v (in_field h)) home (child r s g.0)))
      (named-in fs k (m + (inside_of s + 1)) r d (λ t l v h. up t l v (later_field h)) home g.1)

  -- and so it is after any step
  pub behind-in : (s : Pattern) (t : Step) (m : ℕ) (r : Inner) (d : Option ℕ) → Up whole s m r → Home whole r → IsGuarded (around_in r) s → Each (IsIn whole) (leads_after s t m (frames_in r d) (number_in r))
  behind-in matcher t m r d up home g = tt
  behind-in (all s) t m r d up home g = leads-in s m r d (λ t l v h. up t l v (in_all h)) home (child r s g)
  behind-in (fields fs) (key k) m r d up home g = named-in fs k m r d (λ t l v h. up t l v (in_fields h)) home g
  behind-in (fields fs) (nth n) m r d up home g = tt
  behind-in (index i s) t m r d up home g = if_each (IsIn whole) (is_at i t) _ (leads-in s m r d (λ t l v h. up t l v (in_index h)) home (child r s g))
  behind-in (range i j s) t m r d up home g = if_each (IsIn whole) (is_within i j t) _ (leads-in s m r d (λ t l v h. up t l v (in_range h)) home (child r s g))
  behind-in (recursive limit s) t m r d up home g = tt
  behind-in (union ss) t m r d up home g = tt
  behind-in edge t m r d up home g = tt

  -- the first of the places in it
  pub before_is : (x : Place) (is : IsIn whole x) → before x ≡ is.first
  before_is x is = let number = is.number in omega arith
