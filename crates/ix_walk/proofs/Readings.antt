-- What the bytes that a CID names spell.
use Rattle.std.proofs.Common.{◌≡◌, ◌⊎◌, inl, inr, ⊎_elim, ℕ, Bool, true, false, List, [], ◌∷◌, map, refl, sym, ◌∙◌, ap}
use Rattle.std.specs.Prelude.{Option, Some, None, Result, Ok, Err, ◌==◌, if◌then◌else◌, slice_get, is_none}
use Rattle.std.proofs.lemmas.Bool.{false≢true, or_right}
use Rattle.ix_cid.specs.Cid.{parts_of, codec_of, digest_of, hash_function_of}
use Rattle.ix_cid.specs.declared.hash_function.HashFunction.{HashFunction}
use Rattle.ix_cid.specs.declared.hash_function.HashFunction.TheVariants.{Sha2_256, Sha2_512}
use Rattle.ix_cbor.specs.Data.{Data}
use Rattle.ix_cbor.specs.Reading.{item_at, nothing_after, decoded, data_at}
use Rattle.ix_cbor.proofs.Steps.{bind_ok, ok_same, ok_data}
use Rattle.ix_verdict.specs.declared.needed.Needed.TheVariants.{Block}
use Rattle.ix_verdict.specs.Verdict.{has_codec}
use Rattle.ix_verdict.specs.Needed.{needed_of}
use Rattle.ix_verdict.proofs.Needs.{known-codec-Block, known-Block, hashed-Block}
use Rattle.ix_store.specs.Store.{Blocks, block_of, position_of, bytes_by, bytes_of, is_dag_cbor, value_of}
use Rattle.ix_walk.specs.Visits.{is_malformed}
use Rattle.ix_walk.specs.Descent.{IsItem}
use Rattle.ix_walk.specs.Arriving.{known_bytes, IsReading}
use Rattle.ix_store.proofs.Blocks.{none_behind, block_at, faulty_yes}

-- the bytes of a CID, by its hash function
bytes_under : (store : Blocks) (c : List ℕ) (h : Option HashFunction) → h ≡ hash_function_of (parts_of c) → bytes_by h (digest_of c) (block_of store c) ≡ bytes_of store c
bytes_under store c h e = ap (λ f. bytes_by f (digest_of c) (block_of store c)) e

-- those of a block
pub bytes_stored : (store : Blocks) (c : List ℕ) (h : HashFunction) → (h ≡ Sha2_256) ⊎ (h ≡ Sha2_512) → Some h ≡ hash_function_of (parts_of c) → block_of store c ≡ bytes_of store c
bytes_stored store c h (inl is) e = bytes_under store c (Some Sha2_256) (ap (λ g. Some g) (sym is) ∙ e)
bytes_stored store c h (inr is) e = bytes_under store c (Some Sha2_512) (ap (λ g. Some g) (sym is) ∙ e)

-- those of a CID of a known codec
known : (store : Blocks) (c : List ℕ) (o : Option (List ℕ)) → has_codec c ≡ true → o ≡ bytes_of store c → o ≡ known_bytes store c
known store c o codec is = is ∙ ap (λ (t : Bool). if t then bytes_of store c else None) (sym codec)

module _ (store : Blocks) (c : List ℕ) (h : HashFunction) (needed : Block h ≡ needed_of (parts_of c)) where
  known_stored : (o : Option (List ℕ)) → o ≡ block_of store c → o ≡ known_bytes store c
  known_stored o is = known store c o (known-codec-Block (parts_of c) h needed) (is ∙ bytes_stored store c h (hashed-Block (parts_of c) h needed) (sym (known-Block (parts_of c) h needed)))

  -- no block
  pub bytes_absent : None ≡ position_of store c → None ≡ known_bytes store c
  bytes_absent absent = known_stored None (sym (none_behind 0 store c absent))

  -- a block
  pub bytes_at : (place : ℕ) (b : List ℕ) → Some place ≡ position_of store c → slice_get (map (λ e. e.1) store) place ≡ Some b → Some b ≡ known_bytes store c
  bytes_at place b there g = known_stored (Some b) (sym (block_at place store c b there g))

-- the codec
pub dag_cbor_is : (c : List ℕ) (codec : ℕ) → codec ≡ codec_of c → codec ≡ 0x71 → is_dag_cbor c ≡ true
dag_cbor_is c codec is e = ap (λ (n : ℕ). n == 0x71) (sym is ∙ e)

-- DAG-CBOR is known
pub codec_known : (c : List ℕ) → is_dag_cbor c ≡ true → has_codec c ≡ true
codec_known c is = or_right (codec_of c == 0x55) (is_dag_cbor c) is

-- so the bytes of a DAG-CBOR CID are known
pub known_dag_cbor : (store : Blocks) (c : List ℕ) → is_dag_cbor c ≡ true → bytes_of store c ≡ known_bytes store c
known_dag_cbor store c is = known store c (bytes_of store c) (codec_known c is) refl

-- a result is a value or an error
either_way : {X Y : Type 0} (r : Result X Y) → ((x : X) × (r ≡ Ok x)) ⊎ ((y : Y) × (r ≡ Err y))
either_way (Ok x) = inl (x, refl)
either_way (Err y) = inr (y, refl)

-- bytes that spell data decode
decodes : (b : List ℕ) → is_none (data_at b) ≡ false → (d : Data) × (decoded b ≡ Ok d)
decodes b e = ⊎_elim (λ h. h) (λ h. absurd (false≢true (sym e ∙ faulty_yes b h.0 h.1))) (either_way (decoded b))

-- bytes that spell data
spelled : (store : Blocks) (c b : List ℕ) (d : Data) → is_dag_cbor c ≡ true → bytes_of store c ≡ Some b → decoded b ≡ Ok d → (value_of store c ≡ Some d) × (false ≡ is_malformed store c)
spelled store c b d w k g = rw (w, k, g) (refl, refl)

-- so those of a DAG-CBOR block are what a walk expands
pub read_value : (store : Blocks) (c b : List ℕ) → is_dag_cbor c ≡ true → bytes_of store c ≡ Some b → is_none (data_at b) ≡ false → IsReading store c (Some b) false
read_value store c b w k e =
    let d = decodes b e in
    let v = spelled store c b d.0 w k d.1 in
    ((d.0, v.0, d.1), v.1)

-- ---- a block's root

-- all of a block is its item
pub item_of_block : (b : List ℕ) (d : Data) → decoded b ≡ Ok d → item_at 512 b ≡ Ok (d, [])
item_of_block b d e = let x = bind_ok (item_at 512 b) nothing_after d e in x.1 ∙ all x.0 d x.2 where
  all : (x : Data × List ℕ) (d : Data) → nothing_after x ≡ Ok d → ok_data x ≡ Ok (d, [])
  all (y, []) d e = ap (λ z. Ok (z, [])) (ok_same y d e)
  all (y, (l ∷ ls)) d e = absurd cc

-- a block that decodes is an item
pub checked_item : (b : List ℕ) → is_none (data_at b) ≡ false → IsItem b
checked_item b e = let d = decodes b e in ((d.0, []), item_of_block b d.0 d.1)
