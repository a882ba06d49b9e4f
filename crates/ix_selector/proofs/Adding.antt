-- What is added to what was reached, as places.
use Rattle.std.proofs.Common.{◌≡◌, ℕ, ◌+◌, ◌-◌, ◌<◌, ⊎_elim, Bool, true, false, ℤ, List, [], ◌∷◌, ◌++◌, map, take, get_or, length, refl, sym, ◌∙◌, ap, subst, arith, append-nil, append_assoc}
use Rattle.std.specs.Prelude.{Option, Some, None, nat_le, if◌then◌else◌, bytes_eq}
use Rattle.std.specs.Global.{Vec}
use Rattle.std.proofs.lemmas.List.{take_more}
use Rattle.std.proofs.lemmas.Slice.Eq.{bytes_eq-Decides}
use Rattle.ix_selector.specs.declared.selector_node.SelectorNode.{SelectorNode}
use Rattle.ix_selector.specs.declared.selector_node.SelectorNode.TheVariants.{Matcher, All, Fields, Index, Range, Recursive, Union, Edge}
use Rattle.ix_selector.specs.declared.state.State.{State}
use Rattle.ix_selector.specs.declared.state.Recursion.{Recursion}
use Rattle.ix_selector.specs.declared.reached.Reached.{Reached}
use Rattle.ix_selector.specs.Pattern.{Pattern, matcher, all, fields, index, range, recursive, union, edge, fields_of, members_of}
use Rattle.ix_selector.specs.Enters.{Step, key, nth, Frame}
use Rattle.ix_selector.specs.Places.{at, named_at, places_of, seen, IsBefore, AreRising, AreNodes}
use Rattle.ix_selector.specs.Named.{IsNumbered, IsUnnamed, HasName, HasNoName}
use Rattle.ix_selector.specs.Residual.{Place}
use Rattle.ix_selector.specs.Steps.{is_at, is_within}
use Rattle.ix_selector.specs.Merging.{AreMerged}
use Rattle.ix_selector.specs.States.{frames, sequence_of, selector_at, place_of, seen_states, Stands}
use Rattle.ix_selector.specs.Reaching.{members_at, at_start, reenter_edges, Adds, AreLeft, LeadsAs, LeadsToNone}
use Rattle.ix_selector.specs.Laid.{number_of, numbers_of, AreRow, AreLaidFrom}
use Rattle.ix_selector.specs.Behind.{inside_of, leads, each_leads, leads_from, all_lead, is_edge, standing, again, started, restarted, innermost, named_lead, leads_after, leads_after_from, all_lead_after, merged, residual_of, residual_after}
use Rattle.ix_selector.proofs.Inside.{place-is}
use Rattle.ix_selector.proofs.Laid.{row-inside}
use Rattle.ix_selector.proofs.Named.{before_unnumbered, not_before}

-- ---- lists of places

-- one more in front of what is kept of a list
kept_cons : (b : Bool) (x : Place) (xs ys zs : List Place) → xs ≡ ys ++ zs → (if b then xs else x ∷ xs) ≡ (if b then ys else x ∷ ys) ++ zs
kept_cons true x xs ys zs h = h
kept_cons false x xs ys zs h = ap (λ l. x ∷ l) h

-- keeping matchers and explorers commutes with concatenation
pub standing-append : (xs ys : List Place) → standing (xs ++ ys) ≡ standing xs ++ standing ys
standing-append [] ys = refl
standing-append (x ∷ xs) ys = kept_cons (is_edge x.selector) x (standing (xs ++ ys)) (standing xs) (standing ys) (standing-append xs ys)

-- one more list before what an edge adds
more_in_front : (b : Bool) (ws xs ys zs : List Place) → xs ≡ ys ++ zs → (if b then ws ++ xs else xs) ≡ (if b then ws ++ ys else ys) ++ zs
more_in_front true ws xs ys zs h = ap (λ l. ws ++ l) h ∙ sym (append_assoc ws ys zs)
more_in_front false ws xs ys zs h = h

-- so does collecting the sequences that edges re-enter
pub again-append : (xs ys : List Place) → again (xs ++ ys) ≡ again xs ++ again ys
again-append [] ys = refl
again-append (x ∷ xs) ys = more_in_front (is_edge x.selector) (innermost x.around x.sequence) (again (xs ++ ys)) (again xs) (again ys) (again-append xs ys)

-- adding twice is adding the concatenation
pub adds-twice : (nodes : List SelectorNode) (old mid new : Reached) (f g : List Place) → Adds nodes old mid f → Adds nodes mid new g → Adds nodes old new (f ++ g)
adds-twice nodes old mid new f g a b = (
  b.0
      ∙ ap (λ l. l ++ standing g) a.0
      ∙ append_assoc (seen_states nodes old.explore.items) (standing f) (standing g)
      ∙ ap (λ l. seen_states nodes old.explore.items ++ l) (sym (standing-append f g)),
  b.1
      ∙ ap (λ l. l ++ again g) a.1
      ∙ append_assoc (seen_states nodes old.reentries.items) (again f) (again g)
      ∙ ap (λ l. seen_states nodes old.reentries.items ++ l) (sym (again-append f g)),
)

-- adding nothing
pub adds-none : (nodes : List SelectorNode) (old : Reached) → Adds nodes old old []
adds-none nodes old = (sym (append-nil (seen_states nodes old.explore.items)), sym (append-nil (seen_states nodes old.reentries.items)))

-- states as places, over a concatenation
pub seen-append : (nodes : List SelectorNode) (xs ys : List State) → seen_states nodes (xs ++ ys) ≡ seen_states nodes xs ++ seen_states nodes ys
seen-append nodes [] ys = refl
seen-append nodes (x ∷ xs) ys = ap (λ l. place_of nodes x ∷ l) (seen-append nodes xs ys)

-- where one more place leads
pub lead-push : (xs : List Place) (x : Place) → all_lead (xs ++ x ∷ []) ≡ all_lead xs ++ leads_from x
lead-push [] x = append-nil (leads_from x)
lead-push (y ∷ xs) x = ap (λ l. leads_from y ++ l) (lead-push xs x) ∙ sym (append_assoc (leads_from y) (all_lead xs) (leads_from x))

-- ---- a place of a table

pub record First (nodes : List SelectorNode) (n : ℕ) (x : SelectorNode) : Type 0 where
  pub first : ℕ
  pub row : AreRow (places_of nodes) first (numbers_of x) n
  pub inside : first + inside_of (at (places_of nodes) n) ≡ n

-- the places inside a node are numbered right before it, so the first of them is known
pub first-of : (nodes : List SelectorNode) (n : ℕ) (x : SelectorNode) → AreNodes 0 nodes → AreLaidFrom 0 nodes → n < length nodes → x ≡ get_or nodes n x → First nodes n x
first-of nodes n x table laid within is =
    let here = laid.laid n x (omega arith) within is in record {
      first = here.first;
      row = here.row;
      inside = ap (λ s. here.first + inside_of s) (place-is nodes n x table within is) ∙ row-inside (places_of nodes) here.first x n here.row;
    }

-- where a state leads, from the first of the places in it
leads_at : (nodes : List SelectorNode) (x : State) (s : Pattern) (m : ℕ) → at (places_of nodes) x.place ≡ s → m + inside_of s ≡ x.place → leads_from (place_of nodes x) ≡ leads s m (frames (places_of nodes) x.recursion) (sequence_of x.recursion)
leads_at nodes x s m is inside =
    ap (λ r. leads r (x.place - inside_of r) (frames (places_of nodes) x.recursion) (sequence_of x.recursion)) is
    ∙ ap (λ n. leads s n (frames (places_of nodes) x.recursion) (sequence_of x.recursion)) (let e = inside in omega arith)

-- ---- what an edge enters again

-- what an edge re-enters is the same in the table as in the definition
limit_again : (nodes : List SelectorNode) (n : ℕ) (d : Option ℕ) → seen_states nodes (reenter_edges (Some (record { sequence = n; depth = d }))) ≡ restarted (at (places_of nodes) n) n d
limit_again nodes n None = refl
limit_again nodes n (Some d) = by (nat_le 2 d) where
  by : (b : Bool) → seen_states nodes (at_start (if b then Some (record { sequence = n; depth = Some (d - 1) }) else None)) ≡ (if b then started (at (places_of nodes) n) n (Some (d - 1)) else [])
  by true = refl
  by false = refl

-- the same by whether there is a recursion
pub places-reentered : (nodes : List SelectorNode) (r : Option Recursion) → seen_states nodes (reenter_edges r) ≡ innermost (frames (places_of nodes) r) (sequence_of r)
places-reentered nodes None = refl
places-reentered nodes (Some r) = limit_again nodes r.sequence r.depth

-- ---- matchers and explorers

-- a matcher or explorer leads to itself alone, and is no edge
stands_leads : (s : Pattern) (n : ℕ) (e : List Frame) (q : Option ℕ) → Stands s → (leads s n e q ≡ record { selector = s; around = e; number = n + inside_of s; sequence = q } ∷ []) × (is_edge s ≡ false)
stands_leads matcher n e q h = (refl, refl)
stands_leads (all s) n e q h = (refl, refl)
stands_leads (fields fs) n e q h = (refl, refl)
stands_leads (index i s) n e q h = (refl, refl)
stands_leads (range i j s) n e q h = (refl, refl)
stands_leads (recursive d s) n e q h = absurd h
stands_leads (union ss) n e q h = absurd h
stands_leads edge n e q h = absurd h

module _ (nodes : List SelectorNode) (table : AreNodes 0 nodes) (laid : AreLaidFrom 0 nodes) (x : State) (within : x.place < length nodes) where
  -- a matcher or explorer leads to itself
  pub leads-itself : (y : SelectorNode) → y ≡ get_or nodes x.place y → Stands (selector_at nodes x) → leads_from (place_of nodes x) ≡ place_of nodes x ∷ []
  leads-itself y is stands =
      let here = first-of nodes x.place y table laid within is in
      leads_at nodes x (selector_at nodes x) here.first refl here.inside
      ∙ (stands_leads (selector_at nodes x) here.first (frames (places_of nodes) x.recursion) (sequence_of x.recursion) stands).0
      ∙ ap (λ n. record { selector = selector_at nodes x; around = frames (places_of nodes) x.recursion; number = n; sequence = sequence_of x.recursion } ∷ []) here.inside

  -- so reaching it adds it
  pub standing-adds : (y : SelectorNode) → y ≡ get_or nodes x.place y → Stands (selector_at nodes x) → (old new : Reached) → new.explore.items ≡ old.explore.items ++ x ∷ [] → new.reentries ≡ old.reentries
      → Adds nodes old new (leads_from (place_of nodes x))
  standing-adds y is stands old new more same =
      let itself = leads-itself y is stands in
      let no_edge = (stands_leads (selector_at nodes x) 0 [] None stands).1 in
      subst (Adds nodes old new) (sym itself) (
        ap (seen_states nodes) more ∙ seen-append nodes old.explore.items (x ∷ []) ∙ ap (λ b. seen_states nodes old.explore.items ++ (if b then [] else place_of nodes x ∷ [])) (sym no_edge),
        ap (λ l. seen_states nodes l.items) same
            ∙ sym (append-nil (seen_states nodes old.reentries.items))
            ∙ ap (λ b. seen_states nodes old.reentries.items ++ (if b then innermost (frames (places_of nodes) x.recursion) (sequence_of x.recursion) ++ [] else [])) (sym no_edge),
      )

  -- ---- a recursion

  -- a recursion leads where its sequence does
  pub recursive-leads : (d : Option ℕ) (k : ℕ) → Recursive d k ≡ get_or nodes x.place (Recursive d k) → leads_from (place_of nodes (record { place = k; recursion = Some (record { sequence = k; depth = d }) })) ≡ leads_from (place_of nodes x)
  recursive-leads d k is =
      let here = first-of nodes x.place (Recursive d k) table laid within is in
      let s = at (places_of nodes) k in
      let start : k ≡ here.first + inside_of s = here.row.0 in
      leads_at nodes (record { place = k; recursion = Some (record { sequence = k; depth = d }) }) s here.first refl (sym start)
      ∙ ap (λ n. leads s here.first (record { sequence = s; depth = d } ∷ []) (Some n)) start
      ∙ sym (leads_at nodes x (recursive d s) here.first (place-is nodes x.place (Recursive d k) table within is) (let last = here.row.1 in omega arith))

  -- ---- a union

  -- where members lead, one after another
  each_lead : (m : ℕ) (ks : List ℕ) (n : ℕ) → AreRow (places_of nodes) m ks n
      → each_leads (members_of (map (at (places_of nodes)) ks)) m (frames (places_of nodes) x.recursion) (sequence_of x.recursion) ≡ all_lead (seen_states nodes (members_at x ks))
  each_lead m [] n row = refl
  each_lead m (k ∷ ks) n row =
      let s = at (places_of nodes) k in
      let e = frames (places_of nodes) x.recursion in
      let q = sequence_of x.recursion in
      let start = row.0 in
      let low : m ≡ k - inside_of s = omega arith in
      let next : m + (inside_of s + 1) ≡ k + 1 = omega arith in
      ap (λ j. leads s j e q ++ each_leads (members_of (map (at (places_of nodes)) ks)) (m + (inside_of s + 1)) e q) low
      ∙ ap (λ j. leads s (k - inside_of s) e q ++ each_leads (members_of (map (at (places_of nodes)) ks)) j e q) next
      ∙ ap (λ l. leads s (k - inside_of s) e q ++ l) (each_lead (k + 1) ks n row.1)

  -- a union leads where its members do
  pub union-leads : (ks : _) → Union ks ≡ get_or nodes x.place (Union ks) → all_lead (seen_states nodes (members_at x ks.items)) ≡ leads_from (place_of nodes x)
  union-leads ks is =
      let here = first-of nodes x.place (Union ks) table laid within is in
      let s = union (members_of (map (at (places_of nodes)) ks.items)) in
      let there : at (places_of nodes) x.place ≡ s = place-is nodes x.place (Union ks) table within is in
      sym (each_lead here.first ks.items x.place here.row)
      ∙ sym (leads_at nodes x s here.first there (row-inside (places_of nodes) here.first (Union ks) x.place here.row))

  -- ---- an edge

  -- it leads to itself
  pub edge-itself : Edge ≡ get_or nodes x.place Edge → leads_from (place_of nodes x) ≡ place_of nodes x ∷ []
  edge-itself is =
      let there : at (places_of nodes) x.place ≡ edge = place-is nodes x.place Edge table within is in
      let e = frames (places_of nodes) x.recursion in
      let q = sequence_of x.recursion in
      let whole : x.place + 0 ≡ x.place = omega arith in
      leads_at nodes x edge x.place there (omega arith) ∙ (λ i. record { selector = sym there i; around = e; number = whole i; sequence = q } ∷ [])

  -- an edge adds the sequence that it re-enters
  pub edge-adds : Edge ≡ get_or nodes x.place Edge → (old new : Reached) → new.explore ≡ old.explore → new.reentries.items ≡ old.reentries.items ++ reenter_edges x.recursion → Adds nodes old new (leads_from (place_of nodes x))
  edge-adds is old new same more =
      let there : at (places_of nodes) x.place ≡ edge = place-is nodes x.place Edge table within is in
      let e = frames (places_of nodes) x.recursion in
      let q = sequence_of x.recursion in
      subst (Adds nodes old new) (sym (leads_at nodes x edge x.place there (omega arith))) (
        ap (λ l. seen_states nodes l.items) same ∙ sym (append-nil (seen_states nodes old.explore.items)),
        ap (seen_states nodes) more
            ∙ seen-append nodes old.reentries.items (reenter_edges x.recursion)
            ∙ ap (λ l. seen_states nodes old.reentries.items ++ l) (places-reentered nodes x.recursion ∙ sym (append-nil (innermost e q))),
      )

-- ---- after a step

-- a key that isn't among the names leads nowhere
named_lead_nowhere : (ps : List Pattern) (fs : List (Vec ℕ × ℕ)) (l : List ℕ) → IsUnnamed fs l → (m : ℕ) (e : List Frame) (q : Option ℕ) → named_lead (fields_of (map (named_at ps) fs)) l m e q ≡ []
named_lead_nowhere ps [] l none m e q = refl
named_lead_nowhere ps (f ∷ fs) l none m e q =
    ap (λ b. (if b then leads (at ps f.1) m e q else []) ++ named_lead (fields_of (map (named_at ps) fs)) l (m + (inside_of (at ps f.1) + 1)) e q) (other (bytes_eq f.0.items l) refl)
    ∙ named_lead_nowhere ps fs l none.1 (m + (inside_of (at ps f.1) + 1)) e q where
      other : (b : Bool) → bytes_eq f.0.items l ≡ b → bytes_eq f.0.items l ≡ false
      other true is = absurd (none.0 ((bytes_eq-Decides f.0.items l).0 is))
      other false is = is

-- a key before all names isn't among them
before_unnamed : (l : List ℕ) (fs : List (Vec ℕ × ℕ)) → IsBefore l fs → IsUnnamed fs l
before_unnamed l [] h = tt
before_unnamed l (f ∷ fs) h = (λ same. not_before l f.0.items h.0 (sym same), before_unnamed l fs h.1)

-- a key leads where its selector does, since the names rise and so no other has it
named_lead_to : (ps : List Pattern) (fs : List (Vec ℕ × ℕ)) (l : List ℕ) (k : ℕ) → AreRising fs → IsNumbered fs l k → (m n : ℕ) → AreRow ps m (map number_of fs) n → (e : List Frame) (q : Option ℕ)
    → named_lead (fields_of (map (named_at ps) fs)) l m e q ≡ leads (at ps k) (k - inside_of (at ps k)) e q
named_lead_to ps [] l k rising h m n row e q = absurd h
named_lead_to ps (f ∷ fs) l k rising h m n row e q =
    let s = at ps f.1 in
    let rest = named_lead (fields_of (map (named_at ps) fs)) l in
    let start = row.0 in
    ⊎_elim
    (λ (here : (f.0.items ≡ l) × (f.1 ≡ k)).
    ap (λ b. (if b then leads s m e q else []) ++ rest (m + (inside_of s + 1)) e q) ((bytes_eq-Decides f.0.items l).1 here.0)
    ∙ ap (λ r. leads s m e q ++ r) (named_lead_nowhere ps fs l (before_unnamed l fs (subst (λ c. IsBefore c fs) here.0 rising.0)) (m + (inside_of s + 1)) e q)
    ∙ append-nil (leads s m e q)
    ∙ ap (λ j. leads s j e q) (let low : m ≡ f.1 - inside_of s = omega arith in low)
    ∙ ap (λ j. leads (at ps j) (j - inside_of (at ps j)) e q) here.1)
    (λ (there : IsNumbered fs l k).
    ap (λ b. (if b then leads s m e q else []) ++ rest (m + (inside_of s + 1)) e q) (other there (bytes_eq f.0.items l) refl)
    ∙ named_lead_to ps fs l k rising.1 there (m + (inside_of s + 1)) n (subst (λ j. AreRow ps j (map number_of fs) n) (let next : f.1 + 1 ≡ m + (inside_of s + 1) = omega arith in next) row.1) e q)
    h where
      other : IsNumbered fs l k → (b : Bool) → bytes_eq f.0.items l ≡ b → bytes_eq f.0.items l ≡ false
      other there true is = absurd (before_unnumbered fs l k (subst (λ c. IsBefore c fs) ((bytes_eq-Decides f.0.items l).0 is) rising.0) there)
      other there false is = is

-- ---- states one by one

-- the loop's step: one more state
pub adds-next : (nodes : List SelectorNode) (old mid new : Reached) (xs : List State) (x : State) → Adds nodes old mid (all_lead (seen_states nodes xs)) → Adds nodes mid new (leads_from (place_of nodes x))
    → Adds nodes old new (all_lead (seen_states nodes (xs ++ x ∷ [])))
adds-next nodes old mid new xs x so_far one =
    subst (Adds nodes old new) (sym (ap all_lead (seen-append nodes xs (x ∷ [])) ∙ lead-push (seen_states nodes xs) (place_of nodes x)))
    (adds-twice nodes old mid new (all_lead (seen_states nodes xs)) (leads_from (place_of nodes x)) so_far one)

-- the next of some
next_of : (xs : List State) (i : ℕ) (x : State) → i < length xs → x ≡ get_or xs i x → take (i + 1) xs ≡ take i xs ++ x ∷ []
next_of xs i x within is = take_more xs i x within ∙ ap (λ y. take i xs ++ y ∷ []) (sym is)

-- ---- after a step

-- where one more place leads after a step
lead_after-push : (xs : List Place) (x : Place) (t : Step) → all_lead_after (xs ++ x ∷ []) t ≡ all_lead_after xs t ++ leads_after_from x t
lead_after-push [] x t = append-nil (leads_after_from x t)
lead_after-push (y ∷ xs) x t = ap (λ l. leads_after_from y t ++ l) (lead_after-push xs x t) ∙ sym (append_assoc (leads_after_from y t) (all_lead_after xs t) (leads_after_from x t))

-- the loop's step: one more state, after a step
pub steps-take : (nodes : List SelectorNode) (t : Step) (old mid new : Reached) (xs : List State) (i : ℕ) (x : State) → i < length xs → x ≡ get_or xs i x → Adds nodes old mid (all_lead_after (seen_states nodes (take i xs)) t)
    → Adds nodes mid new (leads_after_from (place_of nodes x) t) → Adds nodes old new (all_lead_after (seen_states nodes (take (i + 1) xs)) t)
steps-take nodes t old mid new xs i x within is so_far one =
    let front = take i xs in
    let sees : all_lead_after (seen_states nodes (take (i + 1) xs)) t ≡ all_lead_after (seen_states nodes front) t ++ leads_after_from (place_of nodes x) t =
    ap (λ l. all_lead_after (seen_states nodes l) t) (next_of xs i x within is) ∙ ap (λ l. all_lead_after l t) (seen-append nodes front (x ∷ [])) ∙ lead_after-push (seen_states nodes front) (place_of nodes x) t in
    subst (Adds nodes old new) (sym sees) (adds-twice nodes old mid new (all_lead_after (seen_states nodes front) t) (leads_after_from (place_of nodes x) t) so_far one)

-- all steps, from nothing
pub derivative-exact : (nodes : List SelectorNode) (t : Step) (start last : Reached) (xs rs : List State) → start.explore.items ≡ [] → start.reentries.items ≡ [] → Adds nodes start last (all_lead_after (seen_states nodes xs) t)
    → AreLeft nodes last rs
    → seen_states nodes rs ≡ residual_after (seen_states nodes xs) t
unfolding residual_after
derivative-exact nodes t start last xs rs nothing none adds is =
    let found = all_lead_after (seen_states nodes xs) t in
    let stand : seen_states nodes last.explore.items ≡ standing found = adds.0 ∙ ap (λ l. seen_states nodes l ++ standing found) nothing in
    let anew : seen_states nodes last.reentries.items ≡ again found = adds.1 ∙ ap (λ l. seen_states nodes l ++ again found) none in
    is ∙ (λ i. merged (stand i ++ standing (all_lead (merged (anew i)))))

module _ (nodes : List SelectorNode) (table : AreNodes 0 nodes) (laid : AreLaidFrom 0 nodes) (n : ℕ) (within : n < length nodes) (t : Step) where
  -- the place's form and first inner number, instead of its position in the table
  after_at : (s : Pattern) (m : ℕ) → at (places_of nodes) n ≡ s → m + inside_of s ≡ n → (e : List Frame) (q : Option ℕ)
      → leads_after (at (places_of nodes) n) t (n - inside_of (at (places_of nodes) n)) e q ≡ leads_after s t m e q
  after_at s m is inside e q = ap (λ r. leads_after r t (n - inside_of r) e q) is ∙ ap (λ j. leads_after s t j e q) (let i = inside in omega arith)

  -- a node that names one place, right before it
  one_as : (y : SelectorNode) (s : Pattern) (k : ℕ) → y ≡ get_or nodes n y → at (places_of nodes) n ≡ s → numbers_of y ≡ k ∷ [] → inside_of s ≡ inside_of (at (places_of nodes) k) + 1
      → ((m : ℕ) (e : List Frame) (q : Option ℕ) → leads_after s t m e q ≡ leads (at (places_of nodes) k) m e q) → LeadsAs (places_of nodes) n t k
  one_as y s k is there names size leads_on e q =
      let here = first-of nodes n y table laid within is in
      let row : AreRow (places_of nodes) here.first (k ∷ []) n = subst (λ l. AreRow (places_of nodes) here.first l n) names here.row in
      let start : k ≡ here.first + inside_of (at (places_of nodes) k) = row.0 in
      let last : k + 1 ≡ n = row.1 in
      after_at s here.first there (omega arith) e q
      ∙ leads_on here.first e q
      ∙ ap (λ j. leads (at (places_of nodes) k) j e q) (let low : here.first ≡ k - inside_of (at (places_of nodes) k) = omega arith in low)

  -- after any step `all` leads to its only inner place
  pub all-as : (k : ℕ) → All k ≡ get_or nodes n (All k) → LeadsAs (places_of nodes) n t k
  all-as k is = one_as (All k) (all (at (places_of nodes) k)) k is (place-is nodes n (All k) table within is) refl refl (λ m e q. refl)

  -- `index` leads to its inner place at its position
  pub index-as : (i : ℤ) (k : ℕ) → Index i k ≡ get_or nodes n (Index i k) → is_at i t ≡ true → LeadsAs (places_of nodes) n t k
  index-as i k is inside =
      one_as (Index i k) (index i (at (places_of nodes) k)) k is (place-is nodes n (Index i k) table within is) refl refl (λ m e q. ap (λ b. if b then leads (at (places_of nodes) k) m e q else []) inside)

  -- `range` leads to its inner place within its bounds
  pub range-as : (i j : ℤ) (k : ℕ) → Range i j k ≡ get_or nodes n (Range i j k) → is_within i j t ≡ true → LeadsAs (places_of nodes) n t k
  range-as i j k is inside =
      one_as (Range i j k) (range i j (at (places_of nodes) k)) k is (place-is nodes n (Range i j k) table within is) refl refl (λ m e q. ap (λ b. if b then leads (at (places_of nodes) k) m e q else []) inside)

  -- it leads nowhere
  none_as : (s : Pattern) → at (places_of nodes) n ≡ s → ((m : ℕ) (e : List Frame) (q : Option ℕ) → leads_after s t m e q ≡ []) → LeadsToNone (places_of nodes) n t
  none_as s there none e q = ap (λ r. leads_after r t (n - inside_of r) e q) there ∙ none (n - inside_of s) e q

  -- and nowhere elsewhere
  pub index-none : (i : ℤ) (k : ℕ) → Index i k ≡ get_or nodes n (Index i k) → is_at i t ≡ false → LeadsToNone (places_of nodes) n t
  index-none i k is out = none_as (index i (at (places_of nodes) k)) (place-is nodes n (Index i k) table within is) (λ m e q. ap (λ b. if b then leads (at (places_of nodes) k) m e q else []) out)

  -- and nowhere elsewhere
  pub range-none : (i j : ℤ) (k : ℕ) → Range i j k ≡ get_or nodes n (Range i j k) → is_within i j t ≡ false → LeadsToNone (places_of nodes) n t
  range-none i j k is out = none_as (range i j (at (places_of nodes) k)) (place-is nodes n (Range i j k) table within is) (λ m e q. ap (λ b. if b then leads (at (places_of nodes) k) m e q else []) out)

  -- any other form leads nowhere after a step
  pub default-none : (y : SelectorNode) → y ≡ get_or nodes n y → ((k : ℕ) → y ≡ All k → ⊥) → ((names : _) → y ≡ Fields names → ⊥) → ((i : ℤ) (k : ℕ) → y ≡ Index i k → ⊥) → ((i j : ℤ) (k : ℕ) → y ≡ Range i j k → ⊥) → LeadsToNone (places_of nodes) n t
  default-none y is a f i r = none_as (seen (places_of nodes) y) (place-is nodes n y table within is) (by (places_of nodes) y a f i r t) where
    by : (ps : List Pattern) (y : SelectorNode) → ((k : ℕ) → y ≡ All k → ⊥) → ((names : _) → y ≡ Fields names → ⊥) → ((i : ℤ) (k : ℕ) → y ≡ Index i k → ⊥) → ((i j : ℤ) (k : ℕ) → y ≡ Range i j k → ⊥)
        → (t : Step) (m : ℕ) (e : List Frame) (q : Option ℕ) → leads_after (seen ps y) t m e q ≡ []
    by ps Matcher a f i r t m e q = refl
    by ps (All k) a f i r t m e q = absurd (a k refl)
    by ps (Fields names) a f i r t m e q = absurd (f names refl)
    by ps (Index n k) a f i r t m e q = absurd (i n k refl)
    by ps (Range n o k) a f i r t m e q = absurd (r n o k refl)
    by ps (Recursive d k) a f i r t m e q = refl
    by ps (Union ks) a f i r t m e q = refl
    by ps Edge a f i r t m e q = refl

  -- `fields` lead to the place that belongs to the key
  pub fields-as : (names : _) → Fields names ≡ get_or nodes n (Fields names) → AreRising names.items → (k : ℕ) → HasName names.items t k → LeadsAs (places_of nodes) n t k
  fields-as names is rising k has e q =
      let here = first-of nodes n (Fields names) table laid within is in
      let s = fields (fields_of (map (named_at (places_of nodes)) names.items)) in
      after_at s here.first (place-is nodes n (Fields names) table within is) (row-inside (places_of nodes) here.first (Fields names) n here.row) e q
      ∙ by names.items t has rising here.first here.row where
        by : (fs : List (Vec ℕ × ℕ)) (t : Step) → HasName fs t k → AreRising fs → (m : ℕ) → AreRow (places_of nodes) m (map number_of fs) n
            → leads_after (fields (fields_of (map (named_at (places_of nodes)) fs))) t m e q ≡ leads (at (places_of nodes) k) (k - inside_of (at (places_of nodes) k)) e q
        by fs (key l) has rising m row = named_lead_to (places_of nodes) fs l k rising has m n row e q
        by fs (nth j) has rising m row = absurd has

  -- and nowhere for another step
  pub fields-none : (names : _) → Fields names ≡ get_or nodes n (Fields names) → HasNoName names.items t → LeadsToNone (places_of nodes) n t
  fields-none names is none = none_as (fields (fields_of (map (named_at (places_of nodes)) names.items))) (place-is nodes n (Fields names) table within is) (by names.items t none) where
    by : (fs : List (Vec ℕ × ℕ)) (t : Step) → HasNoName fs t → (m : ℕ) (e : List Frame) (q : Option ℕ) → leads_after (fields (fields_of (map (named_at (places_of nodes)) fs))) t m e q ≡ []
    by fs (key l) none m e q = named_lead_nowhere (places_of nodes) fs l none m e q
    by fs (nth j) none m e q = refl

-- ---- from the root

-- what is reached from the root is the definition's residual
pub start-exact : (nodes : List SelectorNode) (n : ℕ) (s : Pattern) → at (places_of nodes) n ≡ s → n ≡ inside_of s → (start last : Reached) (rs : List State) → start.explore.items ≡ []
    → Adds nodes start last (leads_from (place_of nodes (record { place = n; recursion = None }))) → AreMerged rs last.explore.items → seen_states nodes rs ≡ residual_of s
unfolding residual_of
start-exact nodes n s is size start last rs nothing adds joined =
    let root = place_of nodes (record { place = n; recursion = None }) in
    joined nodes
    ∙ ap merged (adds.0 ∙ ap (λ l. seen_states nodes l ++ standing (leads_from root)) nothing)
    ∙ ap (λ l. merged (standing l)) (leads_at nodes (record { place = n; recursion = None }) s 0 is (let e = size in omega arith))
