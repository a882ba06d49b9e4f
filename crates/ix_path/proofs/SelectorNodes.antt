-- Nodes of selectors: envelopes, and what has a spelling.
use Rattle.std.proofs.Common.{◌≡◌, ℕ, ◌<◌, ◌^◌, true, false, true≢false, List, [], ◌∷◌, ◌++◌, length, get_or, refl, sym, ◌∙◌, ap, arith}
use Rattle.std.specs.Prelude.{bytes_eq, codes, if◌then◌else◌}
use Rattle.std.specs.Global.{Vec}
use Rattle.ix_cbor.specs.declared.node.Node.{Node}
use Rattle.ix_cbor.specs.declared.node.Node.TheVariants as variants
use Rattle.ix_cbor.proofs.Fitting.{data_of-map}
use Rattle.ix_cbor.specs.Data.{Data, map, no_entries, entry, data_of, node_entries}
use Rattle.ix_cbor.specs.Spelling.{IsSpellable}
use Rattle.ix_selector.specs.Reading.{without_envelope}
use Rattle.ix_selector.specs.Examples.{matcher_data, everything_data}
use Rattle.ix_selector.specs.Spelled.{one_key}
use Rattle.ix_path.specs.End.{is_enveloped}

-- what is no envelope stays
pub no_envelope : (d : Data) → is_enveloped d ≡ false → d ≡ without_envelope d
no_envelope (map (entry k d no_entries)) h = ap (λ b. if b then d else map (entry k d no_entries)) (sym h)
no_envelope (map (entry k d (entry l e es))) h = refl
no_envelope (map no_entries) h = refl
no_envelope other h = refl

-- the last of one
last_of_one : {A : Type 0} (x y : A) (xs : List A) → x ∷ [] ≡ xs ++ y ∷ [] → y ≡ x
last_of_one x y [] h = cc
last_of_one x y (z ∷ []) h = absurd cc
last_of_one x y (z ∷ w ∷ xs) h = absurd cc

-- the last value of an envelope is what is in it
pub in_envelope : (es rest : List (Vec ℕ × Node)) (e : Vec ℕ × Node) → is_enveloped (map (node_entries es)) ≡ true → es ≡ rest ++ e ∷ [] → data_of e.1 ≡ without_envelope (map (node_entries es))
in_envelope [] rest e h is = absurd (true≢false (sym h))
in_envelope (x ∷ []) rest e h is =
    ap (λ (y : Vec ℕ × Node). data_of y.1) (last_of_one x e rest is) ∙ ap (λ b. if b then data_of x.1 else map (node_entries (x ∷ []))) (sym h)
in_envelope (x ∷ y ∷ es) rest e h is = absurd (true≢false (sym h))

-- a map with one key has a spelling
pub one_spellable : (k : List ℕ) (d : Data) → length k < 2 ^ 64 → IsSpellable d → IsSpellable (one_key k d)
one_spellable k d fits h = (omega arith, (fits, h, tt, tt))

-- so have the selectors of a scope
pub matcher_spellable : IsSpellable matcher_data
matcher_spellable = one_spellable (codes ".") (map no_entries) (omega arith) (omega arith, tt)

pub everything_spellable : IsSpellable everything_data
everything_spellable =
    let edge = one_spellable (codes "@") (map no_entries) (omega arith) (omega arith, tt) in
    let next = one_spellable (codes ">") (one_key (codes "@") (map no_entries)) (omega arith) edge in
    let sequence = one_spellable (codes "a") (one_key (codes ">") (one_key (codes "@") (map no_entries))) (omega arith) next in
    let limit = one_spellable (codes "none") (map no_entries) (omega arith) (omega arith, tt) in
    (omega arith, (omega arith, (omega arith, (omega arith, limit, refl, (omega arith, sequence, tt, tt))), tt, tt))

-- no one entry is no envelope
pub not_one : (es : List (Vec ℕ × Node)) → (length es ≡ 1 → ⊥) → false ≡ is_enveloped (map (node_entries es))
not_one [] h = refl
not_one (x ∷ []) h = absurd (h refl)
not_one (x ∷ y ∷ es) h = refl

-- one entry is one by its key
pub one_entry : (es : List (Vec ℕ × Node)) (e : Vec ℕ × Node) (k : List ℕ) → length es ≡ 1 → k ≡ (get_or es 0 e).0.items → bytes_eq k (codes "selector") ≡ is_enveloped (map (node_entries es))
one_entry [] e k is named = absurd (omega arith)
one_entry (x ∷ []) e k is named = ap (λ l. bytes_eq l (codes "selector")) named
one_entry (x ∷ y ∷ es) e k is named = absurd (omega arith)

-- the node of a map that is no envelope, and of one that is
pub other_map : (v : Vec (Vec ℕ × Node)) → is_enveloped (map (node_entries v.items)) ≡ false → data_of (variants.Map v) ≡ without_envelope (map (node_entries v.items))
other_map v h = data_of-map v ∙ no_envelope (map (node_entries v.items)) h
