-- The CID at the front of a list is a CID by itself.
use Rattle.std.proofs.Common.{◌≡◌, ℕ, ◌-◌, ◌≤◌, Bool, true, false, cond, eqb, List, [], ◌∷◌, ◌++◌, length, take, drop, Result, Ok, Err, bytes_eq, sym, ap, subst, ◌∙◌, ⊎_elim, arith, length-append}
use Rattle.std.proofs.lemmas.List.{append-nil, take_at, take_all, take-append-le}
use Rattle.ix_cid.specs.Cid.{◌>>=◌, number_at, bytes_at, Parts, version_0_at, version_1_at, numbered_at, parts_at, begins_version_0, IsCid}
use Rattle.ix_cid.specs.declared.fault.CidFault.{CidFault}
use Rattle.ix_cid.specs.declared.fault.CidFault.TheVariants.{Version}
use Rattle.ix_cid.proofs.Fronts.{chosen, Again, ReadsFront, ReadsFront-bind, ReadsFront-done, ReadsFront-guard, ReadsFront-fewer, bytes_at-reads, number_at-reads}

-- after the length of the digest
abbrev digest_after : ℕ → ℕ → ℕ → List ℕ → Result (Parts × List ℕ) CidFault
digest_after codec hash size bytes = bytes_at size bytes >>= (λ digest. Ok (record { version = 1; codec = codec; hash_code = hash; digest = digest.0 }, digest.1))

-- after the hash code
abbrev size_after : ℕ → ℕ → List ℕ → Result (Parts × List ℕ) CidFault
size_after codec hash bytes = number_at bytes >>= (λ size. digest_after codec hash size.0 size.1)

-- after the codec
abbrev hash_behind : ℕ → List ℕ → Result (Parts × List ℕ) CidFault
hash_behind codec bytes = number_at bytes >>= (λ hash. size_after codec hash.0 hash.1)

-- the digest
digest_after-reads : (codec hash size : ℕ) → ReadsFront 0 (digest_after codec hash size)
digest_after-reads codec hash size =
    let done : List ℕ → List ℕ → Result (Parts × List ℕ) CidFault = λ d bytes. Ok (record { version = 1; codec = codec; hash_code = hash; digest = d }, bytes) in
    ReadsFront-bind 0 0 (bytes_at size) done (ReadsFront-fewer 0 size (bytes_at size) (omega arith) (bytes_at-reads size)) (λ d. ReadsFront-done (record { version = 1; codec = codec; hash_code = hash; digest = d }))

-- its length, and the digest
size_after-reads : (codec hash : ℕ) → ReadsFront 1 (size_after codec hash)
size_after-reads codec hash = ReadsFront-bind 1 0 number_at (digest_after codec hash) number_at-reads (digest_after-reads codec hash)

-- the hash code, and what is after it
hash_behind-reads : (codec : ℕ) → ReadsFront 2 (hash_behind codec)
hash_behind-reads codec = ReadsFront-bind 1 1 number_at (size_after codec) number_at-reads (size_after-reads codec)

-- after the version 1
pub version_1_at-reads : ReadsFront 3 version_1_at
version_1_at-reads = ReadsFront-bind 1 2 number_at hash_behind number_at-reads hash_behind-reads

-- a CIDv1
pub numbered_at-reads : ReadsFront 4 numbered_at
numbered_at-reads =
    let after : ℕ → List ℕ → Result (Parts × List ℕ) CidFault = λ v bytes. cond (eqb v 1) (version_1_at bytes) (Err (Version v)) in
    ReadsFront-bind 1 3 number_at after number_at-reads (λ v. ReadsFront-guard 3 (eqb v 1) version_1_at (Version v) version_1_at-reads)

-- a CIDv0
pub version_0_at-reads : ReadsFront 34 version_0_at
version_0_at-reads =
    let done : List ℕ → List ℕ → Result (Parts × List ℕ) CidFault = λ b bytes. Ok (record { version = 0; codec = 0x70; hash_code = 0x12; digest = drop 2 b }, bytes) in
    ReadsFront-bind 34 0 (bytes_at 34) done (bytes_at-reads 34) (λ b. ReadsFront-done (record { version = 0; codec = 0x70; hash_code = 0x12; digest = drop 2 b }))

-- what begins as a CIDv0 is known after two bytes
begins_version_0-front : (front rest more : List ℕ) → 2 ≤ length front → begins_version_0 (front ++ more) ≡ begins_version_0 (front ++ rest)
begins_version_0-front front rest more long =
    ap (λ l. bytes_eq l (0x12 ∷ 0x20 ∷ [])) (take-append-le 2 front more long ∙ sym (take-append-le 2 front rest long))

-- what is read by the form with which the bytes begin is read again, which looks at two bytes at least
begun-reads : (zero : Bool) (bytes : List ℕ) (x : Parts) (rest : List ℕ) → begins_version_0 bytes ≡ zero → Again 2 (λ l. cond zero (version_0_at l) (numbered_at l)) bytes x rest → Again 2 parts_at bytes x rest
begun-reads zero bytes x rest begins a = record {
  front = a.front;
  least = a.least;
  whole = a.whole;
  again = λ more.
      let all = a.front ++ more in
      let test : begins_version_0 all ≡ zero = begins_version_0-front a.front rest more a.least ∙ ap begins_version_0 (sym a.whole) ∙ begins in
      ap (λ t. cond t (version_0_at all) (numbered_at all)) test ∙ a.again more;
}

-- a CID
pub parts_at-reads : ReadsFront 2 parts_at
parts_at-reads bytes x rest h =
    let s = chosen (begins_version_0 bytes) (version_0_at bytes) (numbered_at bytes) (Ok (x, rest)) h in
    ⊎_elim
    (λ zero. begun-reads true bytes x rest zero.0 (ReadsFront-fewer 2 34 version_0_at (omega arith) version_0_at-reads bytes x rest zero.1))
    (λ other. begun-reads false bytes x rest other.0 (ReadsFront-fewer 2 4 numbered_at (omega arith) numbered_at-reads bytes x rest other.1))
    s

-- what is left is a rest of the bytes
pub rest_within : {A : Type 0} (n : ℕ) (read : List ℕ → Result (A × List ℕ) CidFault) → ReadsFront n read → (bytes : List ℕ) (x : A) (rest : List ℕ) → read bytes ≡ Ok (x, rest) → length rest ≤ length bytes
rest_within n read reads bytes x rest h =
    let a = reads bytes x rest h in
    omega (arith, ap length a.whole, length-append a.front rest)

-- what is read with nothing after it is a CID
pub IsCid-from_all : (c : List ℕ) (p : Parts) → parts_at c ≡ Ok (p, []) → IsCid c
IsCid-from_all c p h =
    let all : length c - length {A = ℕ} [] ≡ length c = omega arith in
    ap (λ r. r >>= (λ q. Ok (take (length c - length q.1) c, length c - length q.1))) h
    ∙ ap (λ n. Ok (take n c, n)) all
    ∙ ap (λ l. Ok (l, length c)) (take_all (length c) c (omega arith))

-- what was read is a CID
pub IsCid-from_parts : (bytes : List ℕ) (p : Parts) (rest : List ℕ) → parts_at bytes ≡ Ok (p, rest) → IsCid (take (length bytes - length rest) bytes)
IsCid-from_parts bytes p rest h =
    let a = parts_at-reads bytes p rest h in
    let n = length bytes - length rest in
    let size : length a.front ≡ n = omega (arith, ap length a.whole, length-append a.front rest) in
    let front : take n bytes ≡ a.front = ap (λ l. take n l) a.whole ∙ take_at a.front rest n size in
    let alone : parts_at a.front ≡ Ok (p, []) = ap parts_at (sym (append-nil a.front)) ∙ a.again [] in
    subst IsCid (sym front) (IsCid-from_all a.front p alone)
