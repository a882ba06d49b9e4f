-- The elements and entries of a list or map, passed one by one.
use Rattle.std.proofs.Common.{◌≡◌, ℕ, suc, ◌+◌, ◌-◌, ◌<◌, ◌≤◌, Bool, true, false, List, sym, ◌∙◌, ap, subst, arith}
use Rattle.std.specs.Prelude.{Some, None, Ok, bytes_eq, if◌then◌else◌}
use Rattle.ix_cbor.specs.Data.{Data, Items, Entries, item, entry, no_entries}
use Rattle.ix_cbor.specs.Reading.{item_at, entries_at, key_at}
use Rattle.ix_cbor.specs.Fronts.{after_item}
use Rattle.ix_cbor.proofs.Steps.{ok_same}
use Rattle.ix_path.specs.Node.{IsItemAt, AreItemsAt, AreEntriesAt}
use Rattle.ix_path.specs.Children.{nth_item, value_of_key}
use Rattle.ix_path.proofs.Nodes.{items_split, entries_split, rest_same}

-- the elements from the i-th on begin at the rest, and with these the index counts from i
abbrev pub ElementsLeft : ℕ → ℕ → List ℕ → ℕ → List ℕ → Type 0
ElementsLeft count index at i rest = (ds : Items) → AreItemsAt count at ds → (es : Items) × AreItemsAt (count - i) rest es × (nth_item index ds ≡ nth_item (index - i) es)

-- an element begins here
pub element_here : (count i : ℕ) (rest : List ℕ) (es : Items) → i < count → AreItemsAt (count - i) rest es
    → (d : Data) × (fs : Items) × (middle : List ℕ) × (es ≡ item d fs) × (item_at 512 rest ≡ Ok (d, middle)) × AreItemsAt (count - (i + 1)) middle fs
element_here count i rest es lt h =
    let k : count - i ≡ suc (count - (i + 1)) = omega arith in items_split (count - (i + 1)) rest es (subst (λ (n : ℕ). AreItemsAt n rest es) k h)

-- so an item does
pub element_is_item : (count index i : ℕ) (at rest : List ℕ) → i < count → ((ds : Items) × AreItemsAt count at ds) → ElementsLeft count index at i rest → (d : Data) × IsItemAt rest d
element_is_item count index i at rest lt have left =
    let a = left have.0 have.1 in
    let s = element_here count i rest a.0 lt a.1 in (s.0, (s.2, s.4))

-- one element is passed
pub elements_more : (count index i : ℕ) (at rest next : List ℕ) → i < index → index < count → ElementsLeft count index at i rest → after_item 512 rest ≡ Ok next → ElementsLeft count index at (i + 1) next
elements_more count index i at rest next lt within left after = λ ds h.
    let a = left ds h in
    let s = element_here count i rest a.0 (omega arith) a.1 in
    let n : next ≡ s.2 = rest_same rest next s.0 s.2 after s.4 in
    let k : index - i ≡ suc (index - (i + 1)) = omega arith in (
      s.1,
      subst (λ (l : List ℕ). AreItemsAt (count - (i + 1)) l s.1) (sym n) s.5,
      a.2 ∙ ap (nth_item (index - i)) s.3 ∙ ap (λ (m : ℕ). nth_item m (item s.0 s.1)) k,
    )

-- the element with the index is here
pub element_found : (count index i : ℕ) (at rest : List ℕ) (found : Data) → index < count → index ≤ i → i ≤ index → ElementsLeft count index at i rest → ((d : Data) → IsItemAt rest d → found ≡ d)
    → (ds : Items) → AreItemsAt count at ds → nth_item index ds ≡ Some found
element_found count index i at rest found within le ge left is ds h =
    let a = left ds h in
    let s = element_here count i rest a.0 (omega arith) a.1 in
    let z : index - i ≡ 0 = omega arith in
    a.2 ∙ ap (λ (m : ℕ). nth_item m a.0) z ∙ ap (nth_item 0) s.3 ∙ ap (λ (d : Data). Some d) (sym (is s.0 (s.2, s.4)))

-- ---- the same of a map

abbrev pub EntriesLeft : ℕ → List ℕ → List ℕ → ℕ → List ℕ → Type 0
EntriesLeft count key at i rest = (es : Entries) → AreEntriesAt count at es → (fs : Entries) × AreEntriesAt (count - i) rest fs × (value_of_key key es ≡ value_of_key key fs)

pub entry_here : (count i : ℕ) (rest : List ℕ) (es : Entries) → i < count → AreEntriesAt (count - i) rest es
    → (name : List ℕ) × (d : Data) × (fs : Entries) × (value : List ℕ) × (middle : List ℕ) × (es ≡ entry name d fs) × (key_at None rest ≡ Ok (name, value)) × (item_at 512 value ≡ Ok (d, middle)) × AreEntriesAt (count - (i + 1)) middle fs
entry_here count i rest es lt h =
    let k : count - i ≡ suc (count - (i + 1)) = omega arith in entries_split (count - (i + 1)) rest es (subst (λ (n : ℕ). AreEntriesAt n rest es) k h)

module _ (count i : ℕ) (key at rest : List ℕ) (lt : i < count) (left : EntriesLeft count key at i rest) where
  -- a key begins here
  pub entry_is_key : ((es : Entries) × AreEntriesAt count at es) → (k : List ℕ × List ℕ) × (key_at None rest ≡ Ok k)
  entry_is_key have =
      let a = left have.0 have.1 in
      let s = entry_here count i rest a.0 lt a.1 in ((s.0, s.3), s.6)

  module _ (name value : List ℕ) (named : key_at None rest ≡ Ok (name, value)) where
    -- a value begins after it
    pub entry_is_item : ((es : Entries) × AreEntriesAt count at es) → (d : Data) × IsItemAt value d
    entry_is_item have =
        let a = left have.0 have.1 in
        let s = entry_here count i rest a.0 lt a.1 in
        let same = ok_same (s.0, s.3) (name, value) (sym s.6 ∙ named) in
        subst (λ (l : List ℕ). (d : Data) × IsItemAt l d) (ap (λ (x : List ℕ × List ℕ). x.1) same) (s.1, (s.4, s.7))

    -- the value of the key is here
    pub entry_found : (found : Data) → bytes_eq name key ≡ true → ((d : Data) → IsItemAt value d → found ≡ d) → (es : Entries) → AreEntriesAt count at es → Some found ≡ value_of_key key es
    entry_found found equal is es h =
        let a = left es h in
        let s = entry_here count i rest a.0 lt a.1 in
        let same = ok_same (s.0, s.3) (name, value) (sym s.6 ∙ named) in
        let k : bytes_eq s.0 key ≡ true = ap (λ (x : List ℕ × List ℕ). bytes_eq x.0 key) same ∙ equal in
        let v : item_at 512 value ≡ Ok (s.1, s.4) = ap (λ (x : List ℕ × List ℕ). item_at 512 x.1) (sym same) ∙ s.7 in
        sym (a.2 ∙ ap (value_of_key key) s.5 ∙ ap (λ (t : Bool). if t then Some s.1 else value_of_key key s.2) k ∙ ap (λ (d : Data). Some d) (sym (is s.1 (s.4, v))))

    -- another entry is passed
    pub entries_more : (next : List ℕ) → bytes_eq name key ≡ false → after_item 512 value ≡ Ok next → EntriesLeft count key at (i + 1) next
    entries_more next other after = λ es h.
        let a = left es h in
        let s = entry_here count i rest a.0 lt a.1 in
        let same = ok_same (s.0, s.3) (name, value) (sym s.6 ∙ named) in
        let k : bytes_eq s.0 key ≡ false = ap (λ (x : List ℕ × List ℕ). bytes_eq x.0 key) same ∙ other in
        let v : item_at 512 value ≡ Ok (s.1, s.4) = ap (λ (x : List ℕ × List ℕ). item_at 512 x.1) (sym same) ∙ s.7 in
        let n : next ≡ s.4 = rest_same value next s.1 s.4 after v in (
          s.2,
          subst (λ (l : List ℕ). AreEntriesAt (count - (i + 1)) l s.2) (sym n) s.8,
          a.2 ∙ ap (value_of_key key) s.5 ∙ ap (λ (t : Bool). if t then Some s.1 else value_of_key key s.2) k,
        )

-- no entry is left
pub entries_all : (count i : ℕ) (key at rest : List ℕ) → count ≤ i → EntriesLeft count key at i rest → (es : Entries) → AreEntriesAt count at es → None ≡ value_of_key key es
entries_all count i key at rest le left es h =
    let a = left es h in
    let z : count - i ≡ 0 = omega arith in
    let e : entries_at (item_at 512) None 0 rest ≡ Ok (a.0, a.1.0) = subst (λ (k : ℕ). entries_at (item_at 512) None k rest ≡ Ok (a.0, a.1.0)) z a.1.1 in
    sym (a.2 ∙ ap (value_of_key key) (sym (ap (λ (x : Entries × List ℕ). x.0) (ok_same (no_entries, rest) (a.0, a.1.0) e))))
