-- What a verdict says of bytes that are malformed.
use Rattle.std.proofs.Common.{◌≡◌, ◌&&◌, Bool, true, false, ℕ, ◌-◌, ◌≤◌, ◌⊎◌, List, length, refl, sym, ap, ◌∙◌, inl, inr}
use Rattle.std.specs.Prelude.{Option, Some, None, Result, Ok, Err, bytes_eq, is_none, if◌then◌else◌}
use Rattle.std.proofs.lemmas.Bool.{false≢true}
use Rattle.std.proofs.lemmas.Option.{same_Some}
use Rattle.sha2.specs.Sha256.{sha256}
use Rattle.sha2.specs.Sha512.{sha512}
use Rattle.ix_cid.specs.Bytes.{AreBytes}
use Rattle.ix_cid.specs.Cid.{parts_of, digest_of, hash_function_of}
use Rattle.ix_cid.specs.declared.hash_function.HashFunction.{HashFunction}
use Rattle.ix_cid.specs.declared.hash_function.HashFunction.TheVariants.{Identity, Sha2_256, Sha2_512}
use Rattle.ix_cbor.specs.declared.fault.CborFault.{CborFault}
use Rattle.ix_cbor.specs.Data.{Data}
use Rattle.ix_cbor.specs.Reading.{Fault, decoded, data_at}
use Rattle.ix_cbor.specs.Fronts.{judged}
use Rattle.ix_cbor.proofs.Faults.{decoded-fault}
use Rattle.ix_cbor.proofs.Steps.{bind_err}
use Rattle.ix_store.specs.Store.{Blocks, block_of, bytes_by, bytes_of}
use Rattle.ix_store.proofs.Blocks.{fault_is}
use Rattle.ix_verdict.specs.declared.verdict.Verdict.{Verdict}
use Rattle.ix_verdict.specs.declared.verdict.Verdict.TheVariants.{Codec, Hash, Missing, Damaged, Malformed, Sound, Inline}
use Rattle.ix_verdict.specs.Verdict.{is_no_data, verdict_by, has_codec, passes}
use Rattle.ix_path.specs.Causes.{goes_by_bytes, IsFirstIn, IsFaultIn, IsWhyMalformed}
use Rattle.ix_store.specs.Verdict.{verdict_of}

-- a verdict that passes is by bytes
pub passing-goes : (v : Verdict) → passes v ≡ true → goes_by_bytes v ≡ true
passing-goes Codec h = absurd cc
passing-goes Hash h = absurd cc
passing-goes Missing h = absurd cc
passing-goes Damaged h = absurd cc
passing-goes Malformed h = absurd cc
passing-goes Sound h = refl
passing-goes Inline h = refl

-- bytes that a CID names, and that are no data
abbrev NamedBad : List ℕ → Option (List ℕ) → Type 0
NamedBad c o = (b : List ℕ) × (o ≡ Some b) × (is_no_data c b ≡ true)

-- a block with the digest
hashed : (c b : List ℕ) (agrees bad : Bool) → bad ≡ is_no_data c b → (if agrees then (if bad then Malformed else Sound) else Damaged) ≡ Malformed → NamedBad c (Some b)
hashed c b true true is h = (b, refl, sym is)
hashed c b true false is h = absurd cc
hashed c b false bad is h = absurd cc

-- a CID that holds its bytes
inline : (c b : List ℕ) (bad : Bool) → bad ≡ is_no_data c b → (if bad then Malformed else Inline) ≡ Malformed → NamedBad c (Some b)
inline c b true is h = (b, refl, sym is)
inline c b false is h = absurd cc

-- by what the verdict goes by
by : (c : List ℕ) (codec : Bool) (function : Option HashFunction) (block : Option (List ℕ)) → (if codec then verdict_by function c block else Codec) ≡ Malformed
    → NamedBad c (bytes_by function (digest_of c) block)
by c false function block h = absurd cc
by c true None block h = absurd cc
by c true (Some Identity) block h = inline c (digest_of c) (is_no_data c (digest_of c)) refl h
by c true (Some Sha2_256) None h = absurd cc
by c true (Some Sha2_256) (Some b) h = hashed c b (bytes_eq (sha256 b) (digest_of c)) (is_no_data c b) refl h
by c true (Some Sha2_512) None h = absurd cc
by c true (Some Sha2_512) (Some b) h = hashed c b (bytes_eq (sha512 b) (digest_of c)) (is_no_data c b) refl h

-- both of two are so
second : (a b : Bool) → (a && b) ≡ true → b ≡ true
second true b h = h
second false b h = absurd cc

-- the bytes of a malformed CID spell no data
no_data : (store : Blocks) (c b : List ℕ) → verdict_of store c ≡ Malformed → bytes_of store c ≡ Some b → is_none (data_at b) ≡ true
no_data store c b bad named =
    let p = by c (has_codec c) (hash_function_of (parts_of c)) (block_of store c) bad in
    let same : p.0 ≡ b = same_Some p.0 b (sym p.1 ∙ named) in
    ap (λ l. is_none (data_at l)) (sym same) ∙ second _ (is_none (data_at p.0)) p.2

-- data that isn't looked at
abbrev seen : Data → Result (Unit {0}) Fault
seen d = Ok tt

-- a check that is refused is a reading that is
read_fault : (b : List ℕ) (f : Fault) → (decoded b ≡ Err f) ⊎ ((x : Data) × (decoded b ≡ Ok x) × (seen x ≡ Err f)) → decoded b ≡ Err f
read_fault b f (inl e) = e
read_fault b f (inr x) = absurd cc

-- the first error of bytes that were checked
pub first_in : (b : List ℕ) (fault : CborFault) → AreBytes b → (fault.place ≤ length b) × (judged b ≡ Err (record { kind = fault.kind; left = length b - fault.place })) → IsFirstIn b fault
first_in b fault bytes h = (h.0, decoded-fault b _ bytes (read_fault b _ (bind_err (decoded b) seen _ h.1)))

-- bytes of a malformed CID never pass a check
never_passes : (store : Blocks) (c b : List ℕ) → verdict_of store c ≡ Malformed → bytes_of store c ≡ Some b → judged b ≡ Ok tt → ⊥
never_passes store c b bad named h = false≢true (fault_is b (Ok tt) h ∙ no_data store c b bad named)

-- why a CID is malformed, by the error of its bytes
pub why : (store : Blocks) (c b : List ℕ) (o : Option CborFault) → verdict_of store c ≡ Malformed → bytes_of store c ≡ Some b → IsFaultIn b o → IsWhyMalformed store c o
why store c b None bad named h = absurd (never_passes store c b bad named h)
why store c b (Some fault) bad named h = (bad, (b, named, h))
