-- Forms that a map's entries do or don't have.
use Rattle.std.proofs.Common.{◌≡◌, ◌<◌, arith, ℕ, true, false, ◌||◌, List, [], ◌∷◌, length, get_or, refl, sym, ◌∙◌, ap}
use Rattle.std.specs.Prelude.{Result, Ok, Err, bytes_eq, codes, if◌then◌else◌}
use Rattle.std.specs.List.{list_any}
use Rattle.std.specs.Global.{Vec}
use Rattle.ix_cbor.specs.declared.node.Node.{Node}
use Rattle.ix_cbor.specs.declared.node.Node.TheVariants.{Map}
use Rattle.ix_cbor.specs.Data.{Data, Entries, data_of}
use Rattle.ix_cbor.specs.Data as data_forms
use Rattle.ix_cbor.proofs.Fitting.{data_of-map}
use Rattle.ix_selector.specs.declared.fault.SelFault.{SelFault}
use Rattle.ix_selector.specs.declared.fault.SelFault.TheVariants.{Keys, Kind}
use Rattle.ix_selector.specs.Pattern.{Pattern, Around}
use Rattle.ix_selector.specs.Reading.{Reader, entries_of_map, one_of, has_key, limit_of, edge_form, form_of, read_with, without_envelope}
use Rattle.ix_selector.specs.Shapes.{entries_data, in_map, none_limit}
use Rattle.ix_selector.proofs.Guarded.{err_no_ok}

-- a node that is a map with these entries
pub is_map_node : (n : Node) (v : Vec (Vec ℕ × Node)) (es : List (Vec ℕ × Node)) → n ≡ Map v → es ≡ v.items → data_of n ≡ data_forms.map (entries_data es)
is_map_node n v es is at = ap data_of is ∙ data_of-map v ∙ ap (λ l. data_forms.map (entries_data l)) (sym at)

-- the entries of a map of the program
pub entries_are : (n : Node) (v : Vec (Vec ℕ × Node)) (es : List (Vec ℕ × Node)) → n ≡ Map v → es ≡ v.items → entries_of_map (data_of n) ≡ Ok (entries_data es)
entries_are n v es is at = ap entries_of_map (is_map_node n v es is at)

-- no one entry
pub one_lacks : (key : List ℕ) (es : List (Vec ℕ × Node)) → (length es ≡ 1 → ⊥) → one_of key (entries_data es) ≡ Err Keys
one_lacks key [] h = refl
one_lacks key (e ∷ []) h = absurd (h refl)
one_lacks key (e ∷ f ∷ es) h = refl

-- what has entries is a map
pub is_map : (d : Data) (es : Entries) → entries_of_map d ≡ Ok es → d ≡ data_forms.map es
is_map (data_forms.map fs) es h = cc
is_map other es h = err_no_ok Kind h

-- a form of a map is the form of its entries
pub map_ok : (form : Entries → Result Pattern SelFault) (d : Data) (es : Entries) → entries_of_map d ≡ Ok es → in_map form d ≡ form es
map_ok form d es h = ap (λ d. in_map form d) (is_map d es h)

-- an edge's map isn't empty
pub edge_lacks : (around : Around) (es : List (Vec ℕ × Node)) → 0 < length es → edge_form around (entries_data es) ≡ Err Keys
edge_lacks around [] h = absurd (omega arith)
edge_lacks around (e ∷ es) h = refl

-- the map of no limit isn't empty
pub none_lacks : (d : Data) (es : List (Vec ℕ × Node)) → 0 < length es → entries_of_map d ≡ Ok (entries_data es) → none_limit d ≡ Err Keys
none_lacks d [] h is = absurd (omega arith)
none_lacks d (e ∷ es) h is = ap none_limit (is_map d (entries_data (e ∷ es)) is)

-- a limit's map has no one entry
pub limit_lacks : (d : Data) (es : List (Vec ℕ × Node)) → (length es ≡ 1 → ⊥) → entries_of_map d ≡ Ok (entries_data es) → limit_of d ≡ Err Keys
limit_lacks d [] h is = ap limit_of (is_map d (entries_data []) is)
limit_lacks d (e ∷ []) h is = absurd (h refl)
limit_lacks d (e ∷ f ∷ es) h is = ap limit_of (is_map d (entries_data (e ∷ f ∷ es)) is)

-- a test of the keys in turn finds a key of the entries
pub any_key : (key : List ℕ) (es : List (Vec ℕ × Node)) → list_any (λ e. bytes_eq e.0.items key) es ≡ has_key key (entries_data es)
any_key key [] = refl
any_key key (e ∷ es) = ap (λ b. bytes_eq e.0.items key || b) (any_key key es)

-- a map with one entry
pub one_shape : (read : Reader) (around : Around) (d : Data) (es : List (Vec ℕ × Node)) (e f : Vec ℕ × Node) (k : List ℕ) → d ≡ data_forms.map (entries_data es) → length es ≡ 1 → k ≡ (get_or es 0 e).0.items
    → read_with read around d ≡ form_of read around k (data_of (get_or es 0 f).1)
one_shape read around d [] e f k is one named = absurd (omega arith)
one_shape read around d (x ∷ []) e f k is one named = ap (read_with read around) is ∙ ap (λ k. form_of read around k (data_of x.1)) (sym named)
one_shape read around d (x ∷ y ∷ es) e f k is one named = absurd (omega arith)

-- a map with none or more
pub no_shape : (read : Reader) (around : Around) (d : Data) (es : List (Vec ℕ × Node)) → d ≡ data_forms.map (entries_data es) → (length es ≡ 1 → ⊥) → read_with read around d ≡ Err Keys
no_shape read around d [] is h = ap (read_with read around) is
no_shape read around d (e ∷ []) is h = absurd (h refl)
no_shape read around d (e ∷ f ∷ es) is h = ap (read_with read around) is

-- a map with no one entry is no envelope
pub no_envelope : (d : Data) (es : List (Vec ℕ × Node)) → d ≡ data_forms.map (entries_data es) → (length es ≡ 1 → ⊥) → d ≡ without_envelope d
no_envelope d [] is h = is ∙ ap without_envelope (sym is)
no_envelope d (e ∷ []) is h = absurd (h refl)
no_envelope d (e ∷ f ∷ es) is h = is ∙ ap without_envelope (sym is)

-- the one key is another one
pub other_key : (d : Data) (es : List (Vec ℕ × Node)) (e : Vec ℕ × Node) (k : List ℕ) → d ≡ data_forms.map (entries_data es) → length es ≡ 1 → k ≡ (get_or es 0 e).0.items → bytes_eq k (codes "selector") ≡ false → d ≡ without_envelope d
other_key d [] e k is one named test = absurd (omega arith)
other_key d (x ∷ []) e k is one named test =
    is ∙ ap (λ b. if b then data_of x.1 else data_forms.map (entries_data (x ∷ []))) (sym (ap (λ l. bytes_eq l (codes "selector")) (sym named) ∙ test)) ∙ ap without_envelope (sym is)
other_key d (x ∷ y ∷ es) e k is one named test = absurd (omega arith)

-- what is in an envelope
pub in_envelope : (d : Data) (es : List (Vec ℕ × Node)) (e f : Vec ℕ × Node) (k : List ℕ) → d ≡ data_forms.map (entries_data es) → length es ≡ 1 → k ≡ (get_or es 0 e).0.items → bytes_eq k (codes "selector") ≡ true
    → data_of (get_or es 0 f).1 ≡ without_envelope d
in_envelope d [] e f k is one named test = absurd (omega arith)
in_envelope d (x ∷ []) e f k is one named test =
    ap (λ b. if b then data_of x.1 else data_forms.map (entries_data (x ∷ []))) (sym (ap (λ l. bytes_eq l (codes "selector")) (sym named) ∙ test)) ∙ ap without_envelope (sym is)
in_envelope d (x ∷ y ∷ es) e f k is one named test = absurd (omega arith)
