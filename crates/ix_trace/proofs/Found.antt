-- What is found in a block is where the steps lead.
use Rattle.std.proofs.Common.{◌≡◌, ℕ, suc, ◌+◌, ◌-◌, ◌<◌, ◌≤◌, Bool, true, false, List, [], ◌∷◌, ◌++◌, length, reverse, refl, sym, ◌∙◌, ap, subst, append_assoc, append-nil, length-append, arith}
use Rattle.std.specs.Prelude.{None, Some, Ok, ◌==◌, if◌then◌else◌}
use Rattle.std.proofs.lemmas.Bool.Decides.{nat_tests}
use Rattle.std.proofs.lemmas.List.{reverse-append, length-reverse}
use Rattle.ix_cbor.specs.declared.front.Front.{Front}
use Rattle.ix_cbor.specs.declared.front.Front.TheVariants as fronts
use Rattle.ix_cbor.specs.Data as nodes
use Rattle.ix_cbor.specs.Data.{Data, Items, Entries, item, entry, list, link}
use Rattle.ix_cbor.specs.Fronts.{own_of_front}
use Rattle.ix_cbor.specs.Reading.{◌>>=◌, own_at, leaf, list_of, map_of, item_at, items_at, entries_at, key_at, with_members, decoded}
use Rattle.ix_cbor.proofs.Fronts.{item_at-above}
use Rattle.ix_cbor.proofs.Deeper.{item_deeper, items_also, entries_also}
use Rattle.ix_cbor.proofs.Steps.{bind_ok, ok_same, ok_data, as_list, as_map}
use Rattle.ix_selector.specs.Enters.{Step, key, nth, Path}
use Rattle.ix_selector.specs.Residual.{step_of}
use Rattle.ix_path.specs.Children.{nth_item}
use Rattle.ix_walk.proofs.Openings.{first_member, first_entry}
use Rattle.ix_walk.proofs.Parts.{leaf_ends}
use Rattle.ix_walk.proofs.Readings.{item_of_block}
use Rattle.ix_trace.specs.declared.expansion.Expansion.{Expansion}
use Rattle.ix_trace.specs.declared.expansion.Link.{Link}
use Rattle.ix_trace.specs.declared.expansion.StepFrom.{StepFrom}
use Rattle.ix_trace.specs.Leads.{HasEntry, first, later, HasChild, element, value, LeadsWithin}
use Rattle.ix_trace.specs.Links.{steps_back_to, steps_to, IsNodeOf, AreLinksOf, Grows, GrowsBelow, FindsBelow, FindsInElements, FindsInEntries, FindsInChild}

-- ---- steps

-- one more step
pub leads_on : (d : Data) (p : Path) (c : Data) (t : Step) (e : Data) → LeadsWithin d p c → HasChild c t e → LeadsWithin d (p ++ t ∷ []) e
leads_on d [] c t e same child = (e, subst (λ x. HasChild x t e) (sym same) child, refl)
leads_on d (u ∷ p) c t e leads child = (leads.0, leads.1, leads_on leads.0 p c t e leads.2 child)

-- a test that fails
no_match : (n l : ℕ) → n < l → (n == l) ≡ false
no_match n l less = grind (arith, nat_tests)

matches : (n : ℕ) → (n == n) ≡ true
matches n = grind (arith, nat_tests)

-- the steps to a node that was there before
back_stays : (newer older : List StepFrom) (n : ℕ) → n ≤ length older → steps_back_to (newer ++ older) n ≡ steps_back_to older n
back_stays [] older n le = refl
back_stays (s ∷ newer) older n le =
    let size = length-append newer older in
    let other : (n == length (s ∷ (newer ++ older))) ≡ false = no_match n (length (s ∷ (newer ++ older))) (omega (arith, le, size)) in
    ap (λ (b : Bool). if b then steps_back_to (newer ++ older) s.parent ++ step_of s.step ∷ [] else steps_back_to (newer ++ older) n) other ∙ back_stays newer older n le

pub steps_stay : (old more : List StepFrom) (n : ℕ) → n ≤ length old → steps_to (old ++ more) n ≡ steps_to old n
steps_stay old more n le =
    let size = length-reverse old in
    ap (λ ss. steps_back_to ss n) (reverse-append old more) ∙ back_stays (reverse more) (reverse old) n (omega (arith, le, size))

-- so nodes stay
pub node_stays : (block : Data) (old more : List StepFrom) (n : ℕ) (d : Data) → IsNodeOf block old n d → IsNodeOf block (old ++ more) n d
node_stays block old more n d is = record {
  within = let w = is.within in let size = length-append old more in omega (arith, w, size);
  leads = subst (λ p. LeadsWithin block p d) (sym (steps_stay old more n is.within)) is.leads;
}

-- and links
links_stay : (block : Data) (old more : List StepFrom) (links : List Link) → AreLinksOf block old links → AreLinksOf block (old ++ more) links
links_stay block old more [] are = tt
links_stay block old more (l ∷ links) are = (node_stays block old more l.node (link l.cid) are.0, links_stay block old more links are.1)

-- the steps to a node that was pushed
pub new_steps : (old : List StepFrom) (s : StepFrom) → steps_to (old ++ s ∷ []) (suc (length old)) ≡ steps_to old s.parent ++ step_of s.step ∷ []
new_steps old s =
    let size : length (s ∷ reverse old) ≡ suc (length old) = ap suc (length-reverse old) in
    ap (λ ss. steps_back_to ss (suc (length old))) (reverse-append old (s ∷ []))
    ∙ ap (λ (b : Bool). if b then steps_back_to (reverse old) s.parent ++ step_of s.step ∷ [] else steps_back_to (reverse old) (suc (length old)))
    (ap (λ n. suc (length old) == n) size ∙ matches (suc (length old)))

-- it is the child of its parent
pub new_node : (block : Data) (old : List StepFrom) (s : StepFrom) (d c : Data) → IsNodeOf block old s.parent d → HasChild d (step_of s.step) c → IsNodeOf block (old ++ s ∷ []) (suc (length old)) c
new_node block old s d c is child = record {
  within = let size = length-append old (s ∷ []) in omega (arith, size);
  leads = subst (λ p. LeadsWithin block p c) (sym (new_steps old s)) (leads_on block (steps_to old s.parent) d (step_of s.step) c is.leads child);
}

-- ---- what grows

pub grows_none : (block : Data) (old : Expansion) → Grows block old old
grows_none block old = record { more = []; steps = sym (append-nil old.steps.items); links = λ are. are }

pub grows_then : (block : Data) (old mid new : Expansion) → Grows block old mid → Grows block mid new → Grows block old new
grows_then block old mid new one two = record {
  more = one.more ++ two.more;
  steps = two.steps ∙ ap (λ ss. ss ++ two.more) one.steps ∙ append_assoc old.steps.items one.more two.more;
  links = λ are. two.links (one.links are);
}

-- a node of what was there is one of what has grown
pub node_grows : (block : Data) (old new : Expansion) (n : ℕ) (d : Data) → Grows block old new → IsNodeOf block old.steps.items n d → IsNodeOf block new.steps.items n d
node_grows block old new n d grows is = subst (λ ss. IsNodeOf block ss n d) (sym grows.steps) (node_stays block old.steps.items grows.more n d is)

-- a step more
pub grows_step : (block : Data) (old new : Expansion) (s : StepFrom) → new.steps.items ≡ old.steps.items ++ s ∷ [] → new.links.items ≡ old.links.items → Grows block old new
grows_step block old new s steps links = record {
  more = s ∷ [];
  steps = steps;
  links = λ are. subst (λ ss. AreLinksOf block ss new.links.items) (sym steps) (links_stay block old.steps.items (s ∷ []) new.links.items (subst (AreLinksOf block old.steps.items) (sym links) are));
}

links_then : (block : Data) (steps : List StepFrom) (links : List Link) (l : Link) → AreLinksOf block steps links → IsNodeOf block steps l.node (link l.cid) → AreLinksOf block steps (links ++ l ∷ [])
links_then block steps [] l are is = (is, tt)
links_then block steps (m ∷ links) l are is = (are.0, links_then block steps links l are.1 is)

-- a link more
pub grows_link : (block : Data) (old new : Expansion) (l : Link) → new.steps.items ≡ old.steps.items → new.links.items ≡ old.links.items ++ l ∷ [] → IsNodeOf block old.steps.items l.node (link l.cid) → Grows block old new
grows_link block old new l steps links is = record {
  more = [];
  steps = steps ∙ sym (append-nil old.steps.items);
  links = λ are.
      subst (λ ss. AreLinksOf block ss new.links.items) (sym steps) (subst (AreLinksOf block old.steps.items) (sym links) (links_then block old.steps.items old.links.items l are is));
}

-- ---- an item by its front

-- what is read after the front
read_after : (f : Front) (at behind : List ℕ) (d : Data) (r : List ℕ) → own_at at ≡ Ok (own_of_front f, behind) → item_at 512 at ≡ Ok (d, r) → with_members (Some (item_at 511)) at (own_of_front f, behind) ≡ Ok (d, r)
read_after f at behind d r own e = ap (λ x. x >>= with_members (Some (item_at 511)) at) (sym own) ∙ sym (item_at-above 512 at (omega arith)) ∙ e

pub link_here : (c : List ℕ) (f : Front) (at behind : List ℕ) (d : Data) (r : List ℕ) → own_of_front f ≡ leaf (link c) → own_at at ≡ Ok (own_of_front f, behind) → item_at 512 at ≡ Ok (d, r) → (link c ≡ d) × (behind ≡ r)
link_here c f at behind d r is own e =
    let x = read_after f at behind d r own e in
    let same : ok_data (link c, behind) ≡ ok_data (d, r) = ap (λ o. with_members (Some (item_at 511)) at (o, behind)) (sym is) ∙ x in
    let p = ok_same (link c, behind) (d, r) same in (ap (λ y. y.0) p, ap (λ y. y.1) p)

pub list_here : (n : ℕ) (f : Front) (at behind : List ℕ) (d : Data) (r : List ℕ) → own_of_front f ≡ list_of n → own_at at ≡ Ok (own_of_front f, behind) → item_at 512 at ≡ Ok (d, r)
    → (ds : Items) × (list ds ≡ d) × (items_at (item_at 512) n behind ≡ Ok (ds, r))
list_here n f at behind d r is own e =
    let x = ap (λ o. with_members (Some (item_at 511)) at (o, behind)) (sym is) ∙ read_after f at behind d r own e in
    let m = bind_ok (items_at (item_at 511) n behind) as_list (d, r) x in
    let p = ok_same (list m.0.0, m.0.1) (d, r) m.2 in (
      m.0.0,
      ap (λ y. y.0) p,
      items_also (item_at 511) (item_at 512) (item_deeper 511) n behind m.0 m.1 ∙ ap (λ l. Ok (m.0.0, l)) (ap (λ y. y.1) p),
    )

pub map_here : (n : ℕ) (f : Front) (at behind : List ℕ) (d : Data) (r : List ℕ) → own_of_front f ≡ map_of n → own_at at ≡ Ok (own_of_front f, behind) → item_at 512 at ≡ Ok (d, r)
    → (es : Entries) × (nodes.map es ≡ d) × (entries_at (item_at 512) None n behind ≡ Ok (es, r))
map_here n f at behind d r is own e =
    let x = ap (λ o. with_members (Some (item_at 511)) at (o, behind)) (sym is) ∙ read_after f at behind d r own e in
    let m = bind_ok (entries_at (item_at 511) None n behind) as_map (d, r) x in
    let p = ok_same (nodes.map m.0.0, m.0.1) (d, r) m.2 in (
      m.0.0,
      ap (λ y. y.0) p,
      entries_also (item_at 511) (item_at 512) (item_deeper 511) None n behind m.0 m.1 ∙ ap (λ l. Ok (m.0.0, l)) (ap (λ y. y.1) p),
    )

-- ---- the elements of a list in turn

-- so many elements were passed, and this was found in them
pub record IsPassed (ds : Items) (r : List ℕ) (count n : ℕ) (old now : Expansion) (i : ℕ) (at : List ℕ) : Type 0 where
  pub others : Items
  pub read : items_at (item_at 512) (count - i) at ≡ Ok (others, r)
  pub same : (k : ℕ) (c : Data) → nth_item k others ≡ Some c → nth_item (i + k) ds ≡ Some c
  pub grows : GrowsBelow n (list ds) old now

abbrev pub ElementsPassed : List ℕ → ℕ → ℕ → Expansion → Expansion → ℕ → List ℕ → Type 0
ElementsPassed begin count n old now i at = (ds : Items) (r : List ℕ) → items_at (item_at 512) count begin ≡ Ok (ds, r) → IsPassed ds r count n old now i at

pub elements_begin : (begin : List ℕ) (count n : ℕ) (old : Expansion) → ElementsPassed begin count n old old 0 begin
elements_begin begin count n old ds r e = record {
  others = ds;
  read = let z : count - 0 ≡ count = omega arith in ap (λ k. items_at (item_at 512) k begin) z ∙ e;
  same = λ k c is. let up : k ≡ 0 + k = omega arith in subst (λ q. nth_item q ds ≡ Some c) up is;
  grows = λ block is. grows_none block old;
}

-- an element begins where one is left
pub element_is : (begin : List ℕ) (count n : ℕ) (old now : Expansion) (i : ℕ) (at : List ℕ) → i < count → ((x : Items × List ℕ) × (items_at (item_at 512) count begin ≡ Ok x)) → ElementsPassed begin count n old now i at
    → (x : Data × List ℕ) × (item_at 512 at ≡ Ok x)
element_is begin count n old now i at lt have passed =
    let p = passed have.0.0 have.0.1 have.1 in
    let k : count - i ≡ suc (count - (i + 1)) = omega arith in
    let f = first_member (count - (i + 1)) at p.others have.0.1 (subst (λ m. items_at (item_at 512) m at ≡ Ok (p.others, have.0.1)) k p.read) in ((f.head, f.middle), f.here)

pub element_more : (begin : List ℕ) (count n : ℕ) (old now new : Expansion) (i : ℕ) (at next : List ℕ) (from : StepFrom) → i < count → from.parent ≡ n → step_of from.step ≡ nth i → ElementsPassed begin count n old now i at → FindsInChild at from now new next
    → ElementsPassed begin count n old new (i + 1) next
element_more begin count n old now new i at next from lt parent step passed finds ds r e =
    let p = passed ds r e in
    let k : count - i ≡ suc (count - (i + 1)) = omega arith in
    let f = first_member (count - (i + 1)) at p.others r (subst (λ m. items_at (item_at 512) m at ≡ Ok (p.others, r)) k p.read) in
    let c = finds f.head f.middle f.here in
    let z : i + 0 ≡ i = omega arith in
    let here : nth_item i ds ≡ Some f.head = subst (λ m. nth_item m ds ≡ Some f.head) z (p.same 0 f.head (ap (nth_item 0) (sym f.all))) in
    record {
      others = f.tail;
      read = ap (items_at (item_at 512) (count - (i + 1))) c.0 ∙ f.others;
      same = λ m x is.
          let up : i + suc m ≡ i + 1 + m = omega arith in
          subst (λ q. nth_item q ds ≡ Some x) up (p.same (suc m) x (ap (nth_item (suc m)) (sym f.all) ∙ is));
      grows = λ block is.
          let so_far = p.grows block is in
          let there = node_grows block old now n (list ds) so_far is in
          grows_then block old now new so_far
          (c.1 (list ds) (subst (λ t. HasChild (list ds) t f.head) (sym step) (element here)) block (subst (λ m. IsNodeOf block now.steps.items m (list ds)) (sym parent) there));
    }

pub elements_end : (begin : List ℕ) (count n : ℕ) (old now : Expansion) (i : ℕ) (at : List ℕ) (ds : Items) (r : List ℕ) → count ≤ i → ElementsPassed begin count n old now i at → items_at (item_at 512) count begin ≡ Ok (ds, r)
    → (at ≡ r) × GrowsBelow n (list ds) old now
elements_end begin count n old now i at ds r le passed e =
    let p = passed ds r e in
    let z : count - i ≡ 0 = omega arith in
    let none : items_at (item_at 512) 0 at ≡ Ok (p.others, r) = subst (λ m. items_at (item_at 512) m at ≡ Ok (p.others, r)) z p.read in
    (ap (λ y. y.1) (ok_same (nodes.no_items, at) (p.others, r) none), p.grows)

-- ---- the entries of a map in turn

pub record IsPassedIn (es : Entries) (r : List ℕ) (count n : ℕ) (old now : Expansion) (i : ℕ) (at : List ℕ) : Type 0 where
  pub others : Entries
  pub read : entries_at (item_at 512) None (count - i) at ≡ Ok (others, r)
  pub same : (k : List ℕ) (c : Data) → HasEntry k c others → HasEntry k c es
  pub grows : GrowsBelow n (nodes.map es) old now

abbrev pub EntriesPassed : List ℕ → ℕ → ℕ → Expansion → Expansion → ℕ → List ℕ → Type 0
EntriesPassed begin count n old now i at = (es : Entries) (r : List ℕ) → entries_at (item_at 512) None count begin ≡ Ok (es, r) → IsPassedIn es r count n old now i at

pub entries_begin : (begin : List ℕ) (count n : ℕ) (old : Expansion) → EntriesPassed begin count n old old 0 begin
entries_begin begin count n old es r e = record {
  others = es;
  read = let z : count - 0 ≡ count = omega arith in ap (λ k. entries_at (item_at 512) None k begin) z ∙ e;
  same = λ k c is. is;
  grows = λ block is. grows_none block old;
}

pub entry_key : (begin : List ℕ) (count n : ℕ) (old now : Expansion) (i : ℕ) (at : List ℕ) → i < count → ((x : Entries × List ℕ) × (entries_at (item_at 512) None count begin ≡ Ok x)) → EntriesPassed begin count n old now i at
    → (k : List ℕ × List ℕ) × (key_at None at ≡ Ok k)
entry_key begin count n old now i at lt have passed =
    let p = passed have.0.0 have.0.1 have.1 in
    let k : count - i ≡ suc (count - (i + 1)) = omega arith in
    let f = first_entry (count - (i + 1)) at p.others have.0.1 (subst (λ m. entries_at (item_at 512) None m at ≡ Ok (p.others, have.0.1)) k p.read) in ((f.name, f.value), f.named)

pub entry_value : (begin : List ℕ) (count n : ℕ) (old now : Expansion) (i : ℕ) (at name val : List ℕ) → i < count → ((x : Entries × List ℕ) × (entries_at (item_at 512) None count begin ≡ Ok x)) → EntriesPassed begin count n old now i at → key_at None at ≡ Ok (name, val)
    → (x : Data × List ℕ) × (item_at 512 val ≡ Ok x)
entry_value begin count n old now i at name val lt have passed named =
    let p = passed have.0.0 have.0.1 have.1 in
    let k : count - i ≡ suc (count - (i + 1)) = omega arith in
    let f = first_entry (count - (i + 1)) at p.others have.0.1 (subst (λ m. entries_at (item_at 512) None m at ≡ Ok (p.others, have.0.1)) k p.read) in
    let same = ok_same (f.name, f.value) (name, val) (sym f.named ∙ named) in
    ((f.head, f.middle), ap (λ (y : List ℕ × List ℕ). item_at 512 y.1) (sym same) ∙ f.here)

pub entry_more : (begin : List ℕ) (count n : ℕ) (old now new : Expansion) (i : ℕ) (at name val next : List ℕ) (from : StepFrom) → i < count → from.parent ≡ n → step_of from.step ≡ key name → EntriesPassed begin count n old now i at → key_at None at ≡ Ok (name, val) → FindsInChild val from now new next
    → EntriesPassed begin count n old new (i + 1) next
entry_more begin count n old now new i at name val next from lt parent step passed named finds es r e =
    let p = passed es r e in
    let k : count - i ≡ suc (count - (i + 1)) = omega arith in
    let f = first_entry (count - (i + 1)) at p.others r (subst (λ m. entries_at (item_at 512) None m at ≡ Ok (p.others, r)) k p.read) in
    let same = ok_same (f.name, f.value) (name, val) (sym f.named ∙ named) in
    let c = finds f.head f.middle (ap (λ (y : List ℕ × List ℕ). item_at 512 y.1) (sym same) ∙ f.here) in
    let here : HasEntry name f.head es = p.same name f.head (subst (HasEntry name f.head) f.all (subst (λ m. HasEntry name f.head (entry m f.head f.tail)) (ap (λ (y : List ℕ × List ℕ). y.0) (sym same)) first)) in
    record {
      others = f.tail;
      read = ap (entries_at (item_at 512) None (count - (i + 1))) c.0 ∙ f.others;
      same = λ m x is. p.same m x (subst (HasEntry m x) f.all (later is));
      grows = λ block is.
          let so_far = p.grows block is in
          let there = node_grows block old now n (nodes.map es) so_far is in
          grows_then block old now new so_far
          (c.1 (nodes.map es) (subst (λ t. HasChild (nodes.map es) t f.head) (sym step) (value here)) block (subst (λ m. IsNodeOf block now.steps.items m (nodes.map es)) (sym parent) there));
    }

pub entries_end : (begin : List ℕ) (count n : ℕ) (old now : Expansion) (i : ℕ) (at : List ℕ) (es : Entries) (r : List ℕ) → count ≤ i → EntriesPassed begin count n old now i at → entries_at (item_at 512) None count begin ≡ Ok (es, r)
    → (at ≡ r) × GrowsBelow n (nodes.map es) old now
entries_end begin count n old now i at es r le passed e =
    let p = passed es r e in
    let z : count - i ≡ 0 = omega arith in
    let none : entries_at (item_at 512) None 0 at ≡ Ok (p.others, r) = subst (λ m. entries_at (item_at 512) None m at ≡ Ok (p.others, r)) z p.read in
    (ap (λ y. y.1) (ok_same (nodes.no_entries, at) (p.others, r) none), p.grows)

-- ---- an item that begins here

module _ (f : Front) (at behind : List ℕ) (n : ℕ) (old : Expansion) (own : own_at at ≡ Ok (own_of_front f, behind)) where
  -- a link is found
  pub below_link : (c : List ℕ) (new : Expansion) (l : Link) → own_of_front f ≡ leaf (link c) → l.node ≡ n → new.links.items ≡ old.links.items ++ l ∷ [] → new.steps.items ≡ old.steps.items → l.cid ≡ c → FindsBelow at n old new behind
  below_link c new l is node links steps cid d r e =
      let h = link_here c f at behind d r is own e in (
        h.1,
        λ block there.
            grows_link block old new l steps links
            (subst (λ m. IsNodeOf block old.steps.items m (link l.cid)) (sym node) (subst (IsNodeOf block old.steps.items n) (sym h.0 ∙ ap (λ b. link b) (sym cid)) there)),
      )

  -- a list is gone through
  pub elements_of : (m : ℕ) → own_of_front f ≡ list_of m → ((x : Data × List ℕ) × (item_at 512 at ≡ Ok x)) → (x : Items × List ℕ) × (items_at (item_at 512) m behind ≡ Ok x)
  elements_of m is have = let h = list_here m f at behind have.0.0 have.0.1 is own have.1 in ((h.0, have.0.1), h.2)

  pub below_list : (m : ℕ) (new : Expansion) (rest : List ℕ) → own_of_front f ≡ list_of m → FindsInElements behind m n old new rest → FindsBelow at n old new rest
  below_list m new rest is finds d r e =
      let h = list_here m f at behind d r is own e in
      let x = finds h.0 r h.2 in (x.0, subst (λ y. GrowsBelow n y old new) h.1 x.1)

  -- so is a map
  pub entries_of : (m : ℕ) → own_of_front f ≡ map_of m → ((x : Data × List ℕ) × (item_at 512 at ≡ Ok x)) → (x : Entries × List ℕ) × (entries_at (item_at 512) None m behind ≡ Ok x)
  entries_of m is have = let h = map_here m f at behind have.0.0 have.0.1 is own have.1 in ((h.0, have.0.1), h.2)

  pub below_map : (m : ℕ) (new : Expansion) (rest : List ℕ) → own_of_front f ≡ map_of m → FindsInEntries behind m n old new rest → FindsBelow at n old new rest
  below_map m new rest is finds d r e =
      let h = map_here m f at behind d r is own e in
      let x = finds h.0 r h.2 in (x.0, subst (λ y. GrowsBelow n y old new) h.1 x.1)

  -- in anything else nothing is
  pub below_leaf : ((m : ℕ) → f ≡ fronts.List m → ⊥) → ((m : ℕ) → f ≡ fronts.Map m → ⊥) → FindsBelow at n old old behind
  below_leaf not_list not_map d r e = (leaf_ends f at behind own not_list not_map d r e, λ block there. grows_none block old)

-- a child that is entered
pub in_child : (from : StepFrom) (old mid new : Expansion) (at rest : List ℕ) (n : ℕ) → mid.steps.items ≡ old.steps.items ++ from ∷ [] → mid.links.items ≡ old.links.items → n ≡ length mid.steps.items → FindsBelow at n mid new rest
    → FindsInChild at from old new rest
in_child from old mid new at rest n steps links size finds c r e =
    let x = finds c r e in
    let long : suc (length old.steps.items) ≡ n = let s = length-append old.steps.items (from ∷ []) in omega (arith, s, ap length steps, size) in (
      x.0,
      λ d child block there.
          grows_then block old mid new (grows_step block old mid from steps links)
          (x.1 block (subst (λ ss. IsNodeOf block ss n c) (sym steps) (subst (λ m. IsNodeOf block (old.steps.items ++ from ∷ []) m c) long (new_node block old.steps.items from d c there child)))),
    )

-- all links in a block
pub all_found : (b : List ℕ) (d : Data) (old new : Expansion) (rest : List ℕ) → decoded b ≡ Ok d → old.links.items ≡ [] → old.steps.items ≡ [] → FindsBelow b 0 old new rest → AreLinksOf d new.steps.items new.links.items
all_found b d old new rest e none empty finds =
    let x = finds d [] (item_of_block b d e) in
    let root : LeadsWithin d (steps_to old.steps.items 0) d = subst (λ ss. LeadsWithin d (steps_to ss 0) d) (sym empty) refl in
    (x.1 d (record { within = omega arith; leads = root })).links (subst (AreLinksOf d old.steps.items) (sym none) tt)
