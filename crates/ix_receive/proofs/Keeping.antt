-- What is kept of sections has their CIDs and their data.
use Rattle.std.proofs.Common.{◌≡◌, ℕ, Bool, true, false, List, [], ◌∷◌, ◌++◌, map, refl, sym, ap, ◌∙◌}
use Rattle.std.proofs.lemmas.List.{map-append}
use Rattle.std.specs.Prelude.{Some, None, is_some, option_and_then, ◌||◌, if◌then◌else◌, bytes_eq}
use Rattle.std.proofs.lemmas.Slice.Eq.{bytes_eq-Decides}
use Rattle.ix_cid.specs.Cid.{parts_of, digest_of, hash_function_of}
use Rattle.ix_cbor.specs.Reading.{data_at}
use Rattle.ix_store.specs.Store.{Blocks, has_cid, with_block, block_of, bytes_by, bytes_of, is_dag_cbor, value_of, position_of}
use Rattle.ix_store.proofs.Stores.{is_some-position}
use Rattle.ix_receive.specs.Keeping.{kept_of}

-- the same CIDs
same-cids : (sections : Blocks) (c : List ℕ) → has_cid (map kept_of sections) c ≡ has_cid sections c
same-cids [] c = refl
same-cids (e ∷ es) c = ap (λ b. bytes_eq e.0 c || b) (same-cids es c)

-- a CID has a position exactly if its section has come
pub has-come : (kept sections : Blocks) (c : List ℕ) (b : Bool) → kept ≡ map kept_of sections → b ≡ is_some (position_of kept c) → b ≡ has_cid sections c
has-come kept sections c b is at = at ∙ is_some-position 0 kept c ∙ ap (λ (ps : Blocks). has_cid ps c) is ∙ same-cids sections c

-- the same block under a CID that is DAG-CBOR
same-block : (sections : Blocks) (c : List ℕ) → is_dag_cbor c ≡ true → block_of (map kept_of sections) c ≡ block_of sections c
same-block [] c dag = refl
same-block (e ∷ es) c dag = by (bytes_eq e.0 c) refl (same-block es c dag) where
  by : (b : Bool) → bytes_eq e.0 c ≡ b → block_of (map kept_of es) c ≡ block_of es c → (if b then Some (if is_dag_cbor e.0 then e.1 else []) else block_of (map kept_of es) c) ≡ (if b then Some e.1 else block_of es c)
  by true is later = ap (λ d. Some (if d then e.1 else [])) (ap is_dag_cbor ((bytes_eq-Decides e.0 c).0 is) ∙ dag)
  by false isnt later = later

-- and the same data
pub same-value : (sections : Blocks) (c : List ℕ) → value_of (map kept_of sections) c ≡ value_of sections c
same-value sections c = by (is_dag_cbor c) refl where
  by : (b : Bool) → is_dag_cbor c ≡ b
      → (if b then option_and_then data_at (bytes_of (map kept_of sections) c) else None) ≡ (if b then option_and_then data_at (bytes_of sections c) else None)
  by true is = ap (λ o. option_and_then data_at (bytes_by (hash_function_of (parts_of c)) (digest_of c) o)) (same-block sections c is)
  by false isnt = refl

-- a section more, if its CID is new
pub added-one : (sections old new : Blocks) (p : List ℕ × List ℕ) → old ≡ map kept_of sections → has_cid sections p.0 ≡ false → new ≡ with_block old (kept_of p) → new ≡ map kept_of (sections ++ p ∷ [])
added-one sections old new p kept out added =
    let fresh : has_cid old p.0 ≡ false = ap (λ ps. has_cid ps p.0) kept ∙ same-cids sections p.0 ∙ out in
    added ∙ ap (λ b. if b then old else old ++ kept_of p ∷ []) fresh ∙ ap (λ (ps : Blocks). ps ++ kept_of p ∷ []) kept ∙ sym (map-append kept_of sections (p ∷ []))
