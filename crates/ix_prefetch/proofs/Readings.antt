-- What is read of a block of the store.
use Rattle.std.proofs.Common.{◌≡◌, ℕ, true, false, List, map, slice_get, refl, sym, ◌∙◌, ap, subst}
use Rattle.std.specs.Prelude.{Option, Some, None, Result, Ok, Err, IfSome, is_none}
use Rattle.std.proofs.lemmas.Bool.{false≢true}
use Rattle.ix_cid.specs.Cid.{parts_of}
use Rattle.ix_cid.specs.declared.hash_function.HashFunction.{HashFunction}
use Rattle.ix_cbor.specs.Data.{Data}
use Rattle.ix_cbor.specs.Reading.{Fault, decoded, data_at}
use Rattle.ix_verdict.specs.declared.needed.Needed.TheVariants.{Block}
use Rattle.ix_verdict.specs.Needed.{needed_of}
use Rattle.ix_store.specs.Store.{Blocks, position_of, bytes_of, is_dag_cbor, value_of}
use Rattle.ix_store.proofs.Blocks.{place_within, faulty_not}
use Rattle.ix_walk.specs.Visits.{is_malformed}
use Rattle.ix_walk.proofs.Readings.{bytes_absent, bytes_at, known_dag_cbor}
use Rattle.ix_prefetch.specs.declared.reading.StoredAt.{StoredAt}
use Rattle.ix_verdict.specs.Needed.{NeedsBlock}
use Rattle.ix_prefetch.specs.Link.{IsStoredAt}
use Rattle.ix_prefetch.proofs.Tables.{named}

-- without a block there are no data
pub absent_value : (store : Blocks) (c : List ℕ) → is_dag_cbor c ≡ true → NeedsBlock c → None ≡ position_of store c → (value_of store c ≡ None) × (false ≡ is_malformed store c)
absent_value store c dag needed absent =
    let k : bytes_of store c ≡ None = known_dag_cbor store c dag ∙ sym (bytes_absent store c needed.0 needed.1 absent) in
    rw (dag, k) (refl, refl)

-- a block is what its CID names
pub stored_bytes : (store : Blocks) (c : List ℕ) (place : ℕ) (b : List ℕ) → is_dag_cbor c ≡ true → NeedsBlock c → Some place ≡ position_of store c → slice_get (map (λ e. e.1) store) place ≡ Some b → bytes_of store c ≡ Some b
stored_bytes store c place b dag needed there at = known_dag_cbor store c dag ∙ sym (bytes_at store c needed.0 needed.1 place b there at)

-- one that isn't valid has no data
pub faulty_value : (store : Blocks) (c b : List ℕ) → is_dag_cbor c ≡ true → bytes_of store c ≡ Some b → is_none (data_at b) ≡ true → (value_of store c ≡ None) × (true ≡ is_malformed store c)
faulty_value store c b dag k fault = by (decoded b) refl where
  by : (r : Result Data Fault) → decoded b ≡ r → (value_of store c ≡ None) × (true ≡ is_malformed store c)
  by (Ok d) g = absurd (false≢true (sym (faulty_not b d g) ∙ fault))
  by (Err f) g = rw (dag, k, g) (refl, refl)

-- the place of the block of a CID, where there is one
pub stored_is : (store : Blocks) (c d : List ℕ) (found : Option ℕ) (o : Option StoredAt) (function : HashFunction) → IfSome o (λ s. found ≡ Some s.place) → found ≡ position_of store d → d ≡ c → Block function ≡ needed_of (parts_of c)
    → IfSome o (λ s. IsStoredAt store c s.place)
stored_is store c d found None function at position same needed = tt
stored_is store c d found (Some s) function at position same needed =
    let there : Some s.place ≡ position_of store c = sym at ∙ position ∙ ap (position_of store) same in
    let cid = named store c s.place there in
    record { there = (place_within s.place store c there, (function, subst (λ (x : List ℕ). Block function ≡ needed_of (parts_of x)) (sym cid) needed)); cid = cid }
