-- What a traversal expands that expands only what has a good verdict.
use Rattle.std.proofs.Common.{◌≡◌, ℕ, Bool, true, false, ◌&&◌, ◌||◌, List, refl, ap}
use Rattle.std.specs.Prelude.{Option, Some, None, option_and_then, is_none, if◌then◌else◌, ◌==◌, bytes_eq}
use Rattle.sha2.specs.Sha256.{sha256}
use Rattle.sha2.specs.Sha512.{sha512}
use Rattle.ix_cid.specs.Cid.{parts_of, codec_of, digest_of, hash_function_of}
use Rattle.ix_cid.specs.declared.hash_function.HashFunction.{HashFunction}
use Rattle.ix_cid.specs.declared.hash_function.HashFunction.TheVariants.{Identity, Sha2_256, Sha2_512}
use Rattle.ix_cbor.specs.Data.{Data}
use Rattle.ix_cbor.specs.Reading.{data_at}
use Rattle.ix_store.specs.Store.{Blocks, block_of, bytes_by, is_dag_cbor, value_of}
use Rattle.ix_walk.specs.Once.{bytes_match_by, sound_value}
use Rattle.ix_check.specs.Verdict.{is_no_data, verdict_by, has_codec, passes}
use Rattle.ix_verdict.specs.declared.verdict.Verdict.{Verdict}
use Rattle.ix_verdict.specs.declared.verdict.Verdict.TheVariants.{Codec, Hash, Missing, Damaged, Malformed, Sound, Inline}
use Rattle.ix_car.specs.Verified.{only_passing, is_good}

-- no data
abbrev nothing : Option Data
nothing = None

-- a test with the same result in both cases
none_either : (b : Bool) → (if b then nothing else nothing) ≡ nothing
none_either true = refl
none_either false = refl

-- nothing is expanded with a verdict that isn't good
refused : (known : Bool) (v : Verdict) (value : Option Data) → passes v ≡ false → (if passes (if known then v else Codec) then value else None) ≡ None
refused true v value h = ap (λ b. if b then value else None) h
refused false v value h = refl

-- what a good one says of these bytes, which spell data or none
good : (raw dag : Bool) (o : Option Data) (v : Verdict) → passes v ≡ true
    → (if passes (if raw || dag then (if dag && is_none o then Malformed else v) else Codec) then (if dag then o else None) else None) ≡ (if dag then o else None)
good raw false o v h = none_either (passes (if raw || false then v else Codec))
good true true None v h = refl
good false true None v h = refl
good true true (Some d) v h = ap (λ b. if b then Some d else None) h
good false true (Some d) v h = ap (λ b. if b then Some d else None) h

-- the data of a CID by its hash function
abbrev pub value_by : List ℕ → Option HashFunction → Option (List ℕ) → Option Data
value_by c f block = if is_dag_cbor c then option_and_then data_at (bytes_by f (digest_of c) block) else None

-- by whether the hash matches
agreed : (c block : List ℕ) (agrees : Bool)
    → (if passes (if has_codec c then (if agrees then (if is_no_data c block then Malformed else Sound) else Damaged) else Codec) then (if is_dag_cbor c then data_at block else None) else None)
    ≡ (if agrees then (if is_dag_cbor c then data_at block else None) else None)
agreed c block true = good (codec_of c == 0x55) (codec_of c == 0x71) (data_at block) Sound refl
agreed c block false = refused (has_codec c) Damaged (if is_dag_cbor c then data_at block else None) refl

-- by the hash function: what has a good verdict is what is sound
sound-by : (c : List ℕ) (f : Option HashFunction) (block : Option (List ℕ))
    → (if passes (if has_codec c then verdict_by f c block else Codec) then value_by c f block else None) ≡ (if bytes_match_by f (digest_of c) block then value_by c f block else None)
sound-by c None block = refused (has_codec c) Hash (value_by c None block) refl
sound-by c (Some Identity) block = good (codec_of c == 0x55) (codec_of c == 0x71) (data_at (digest_of c)) Inline refl
sound-by c (Some Sha2_256) None = refused (has_codec c) Missing (value_by c (Some Sha2_256) None) refl
sound-by c (Some Sha2_256) (Some block) = agreed c block (bytes_eq (sha256 block) (digest_of c))
sound-by c (Some Sha2_512) None = refused (has_codec c) Missing (value_by c (Some Sha2_512) None) refl
sound-by c (Some Sha2_512) (Some block) = agreed c block (bytes_eq (sha512 block) (digest_of c))

-- the data where the verdict is good are those of a sound block
pub passing-sound : (store : Blocks) (c : List ℕ) → only_passing (is_good store) (value_of store) c ≡ sound_value store c
passing-sound store c = sound-by c (hash_function_of (parts_of c)) (block_of store c)
