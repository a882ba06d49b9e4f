-- What a verdict says of the bytes that a CID names.
use Rattle.std.proofs.Common.{◌≡◌, ◌&&◌, Bool, true, false, ℕ, List, refl, sym, ◌∙◌, ap, not}
use Rattle.std.specs.Prelude.{Option, Some, None, Result, Ok, Err, bytes_eq, is_none, if◌then◌else◌, option_and_then}
use Rattle.sha2.specs.Sha256.{sha256}
use Rattle.sha2.specs.Sha512.{sha512}
use Rattle.ix_cid.specs.Cid.{parts_of, digest_of, hash_function_of}
use Rattle.ix_cid.specs.declared.hash_function.HashFunction.{HashFunction}
use Rattle.ix_cid.specs.declared.hash_function.HashFunction.TheVariants.{Identity, Sha2_256, Sha2_512}
use Rattle.ix_verdict.specs.declared.verdict.Verdict.TheVariants.{Codec, Damaged, Malformed, Sound, Inline}
use Rattle.ix_verdict.specs.Verdict.{is_no_data, verdict_by, has_codec, passes}
use Rattle.ix_store.specs.Store.{Blocks, block_of, bytes_by, bytes_of}
use Rattle.std.proofs.lemmas.Option.{same_Some}
use Rattle.std.proofs.lemmas.Bool.{false≢true}
use Rattle.ix_cbor.specs.Data.{Data, bytes}
use Rattle.ix_cbor.specs.Reading.{Fault, decoded, data_at}
use Rattle.ix_store.specs.Store.{is_dag_cbor}
use Rattle.ix_store.proofs.Blocks.{faulty_yes}
use Rattle.ix_path.specs.Node.{data_in, IsNode}
use Rattle.ix_path.specs.Resolution.{node_of, sound_node}
use Rattle.ix_store.specs.Verdict.{verdict_of}

-- bytes that a CID names, and that are what its codec says
abbrev Named : List ℕ → Option (List ℕ) → Type 0
Named c o = (b : List ℕ) × (o ≡ Some b) × (is_no_data c b ≡ false)

-- a block with the digest
hashed : (c b : List ℕ) (agrees bad : Bool) → bad ≡ is_no_data c b → passes (if agrees then (if bad then Malformed else Sound) else Damaged) ≡ true → Named c (Some b)
hashed c b true true is h = absurd cc
hashed c b true false is h = (b, refl, sym is)
hashed c b false bad is h = absurd cc

-- a CID that holds its bytes
inline : (c b : List ℕ) (bad : Bool) → bad ≡ is_no_data c b → passes (if bad then Malformed else Inline) ≡ true → Named c (Some b)
inline c b true is h = absurd cc
inline c b false is h = (b, refl, sym is)

-- by what the verdict goes by
by : (c : List ℕ) (codec : Bool) (function : Option HashFunction) (block : Option (List ℕ)) → passes (if codec then verdict_by function c block else Codec) ≡ true → Named c (bytes_by function (digest_of c) block)
by c false function block h = absurd cc
by c true None block h = absurd cc
by c true (Some Identity) block h = inline c (digest_of c) (is_no_data c (digest_of c)) refl h
by c true (Some Sha2_256) None h = absurd cc
by c true (Some Sha2_256) (Some b) h = hashed c b (bytes_eq (sha256 b) (digest_of c)) (is_no_data c b) refl h
by c true (Some Sha2_512) None h = absurd cc
by c true (Some Sha2_512) (Some b) h = hashed c b (bytes_eq (sha512 b) (digest_of c)) (is_no_data c b) refl h

-- the bytes of a CID whose verdict passes
pub passing : (store : Blocks) (c : List ℕ) → passes (verdict_of store c) ≡ true → (b : List ℕ) × (bytes_of store c ≡ Some b) × (is_no_data c b ≡ false)
passing store c h = by c (has_codec c) (hash_function_of (parts_of c)) (block_of store c) h

-- bytes that spell data, where they should
spells : (b : List ℕ) (r : Result Data Fault) → decoded b ≡ r → is_none (data_at b) ≡ false → IsNode false b
spells b (Ok d) e h = (d, e)
spells b (Err f) e h = absurd (false≢true (sym h ∙ faulty_yes b f e))

-- and so there are data
there : (b : List ℕ) → IsNode false b → data_at b ≡ Some (data_in false b)
there b n = let g = n.1 in rw g refl

-- bytes of either codec are a node
node_is : (c b : List ℕ) (dag_cbor : Bool) → is_dag_cbor c ≡ dag_cbor → (dag_cbor && is_none (data_at b)) ≡ false → IsNode (not dag_cbor) b × (node_of c b ≡ Some (data_in (not dag_cbor) b))
node_is c b true e h =
    let n = spells b (decoded b) refl h in
    (n, ap (λ (t : Bool). if t then data_at b else Some (bytes b)) e ∙ there b n)
node_is c b false e h = (tt, ap (λ (t : Bool). if t then data_at b else Some (bytes b)) e)

module _ (store : Blocks) (c b : List ℕ) (passed : passes (verdict_of store c) ≡ true) (named : bytes_of store c ≡ Some b) where
  -- what is named by a CID whose verdict passes
  found : (dag_cbor : Bool) → is_dag_cbor c ≡ dag_cbor → IsNode (not dag_cbor) b × (node_of c b ≡ Some (data_in (not dag_cbor) b))
  found dag_cbor e =
      let p = passing store c passed in
      let same : p.0 ≡ b = same_Some p.0 b (sym p.1 ∙ named) in
      node_is c b dag_cbor e (ap (λ (t : Bool). t && is_none (data_at b)) (sym e) ∙ ap (is_no_data c) (sym same) ∙ p.2)

  pub node_readable : IsNode (not (is_dag_cbor c)) b
  node_readable = (found (is_dag_cbor c) refl).0

  pub node_sound : sound_node store c ≡ Some (data_in (not (is_dag_cbor c)) b)
  node_sound =
      ap (λ (t : Bool). if t then option_and_then (node_of c) (bytes_of store c) else None) passed
      ∙ ap (option_and_then (node_of c)) named ∙ (found (is_dag_cbor c) refl).1
