-- CIDs: what is read is spelled so, and what is spelled so is read, whatever follows.
use Rattle.std.proofs.Common.{◌≡◌, ℕ, ◌-◌, ◌^◌, ◌<◌, ◌≤◌, true, false, ltb, eqb, cond, List, [], ◌∷◌, ◌++◌, length, take, drop, Result, Ok, Err, refl, sym, ◌∙◌, ap, subst, inl, inr, ⊎_elim, append_assoc, arith}
use Rattle.std.proofs.lemmas.Bool.{le-ltb, ltb-false, eqb-true, cond-true, cond-false, cases_Bool}
use Rattle.std.proofs.lemmas.List.{take_at, drop_at, nil_from_length, append-nil, take-append-drop, length-append, length-take-le, length-drop, take-append-le}
use Rattle.std.proofs.lemmas.Slice.Eq.{bytes_eq-Decides}
use Rattle.ix_cid.specs.Bytes.{AreBytes}
use Rattle.ix_cid.specs.Varint.{varint_at, varint_of, IsVarint}
use Rattle.ix_cid.specs.Cid.{◌>>=◌, as_part, number_at, bytes_at, Parts, version_0_at, version_1_at, numbered_at, begins_version_0, parts_at, cid_at, IsCid, parts_or_none, parts_of}
use Rattle.ix_cid.specs.CidForm.{IsVersion0, IsVersion1, parts_spelling, IsCidOf}
use Rattle.ix_cid.specs.declared.fault.VarintFault.{VarintFault}
use Rattle.ix_cid.specs.declared.fault.CidFault.{CidFault}
use Rattle.ix_cid.specs.declared.fault.CidFault.TheVariants.{Truncated, Version}
use Rattle.ix_cid.proofs.Bytes.{bytes_rest}
use Rattle.ix_cid.proofs.Results.{past_test, past_guard, part_ok, ok_same, bind_ok, bind_to}
use Rattle.ix_cid.proofs.VarintLaws as varints

-- ---- the numbers

-- a varint at the front is read as its number, and what follows is left
pub number_spelled : (b : List ℕ) (n : ℕ) (rest : List ℕ) → IsVarint b n → number_at (b ++ rest) ≡ Ok (n, rest)
number_spelled b n rest h =
    let next : Result (ℕ × ℕ) VarintFault → Result (ℕ × List ℕ) CidFault = λ r. as_part r >>= (λ v. Ok (v.0, drop v.1 (b ++ rest))) in
    let left : List ℕ → Result (ℕ × List ℕ) CidFault = λ r. Ok (n, r) in
    ap next (varints.varint_at-append b n rest h) ∙ ap left (drop_at b rest (length b) refl)

-- what is read as a number is its one varint
pub number_read : (b : List ℕ) (n : ℕ) (rest : List ℕ) → AreBytes b → number_at b ≡ Ok (n, rest) → (n < 2 ^ 63) × (b ≡ varint_of n ++ rest)
number_read b n rest bytes h =
    let found = bind_ok (as_part (varint_at b)) (λ v. Ok (v.0, drop v.1 b)) (n, rest) h in
    let v : ℕ × ℕ = found.0 in
    let pair = ok_same (v.0, drop v.1 b) (n, rest) found.2 in
    let is = (varints.varint_at-varint b v.0 v.1 bytes (part_ok (varint_at b) v found.1)).1 in
    let number : v.0 ≡ n = ap (λ (p : ℕ × List ℕ). p.0) pair in
    let left : drop v.1 b ≡ rest = ap (λ (p : ℕ × List ℕ). p.1) pair in
    let spelled : take v.1 b ≡ varint_of n = subst (λ m. take v.1 b ≡ varint_of m) number (varints.IsVarint-is (take v.1 b) v.0 is) in (
      subst (λ m. m < 2 ^ 63) number (varints.IsVarint-below (take v.1 b) v.0 is),
      sym (take-append-drop v.1 b) ∙ (ap (λ t. t ++ drop v.1 b) spelled ∙ ap (λ r. varint_of n ++ r) left),
    )

-- ---- the digest

-- as many bytes as there are in front are read, and what follows is left
pub bytes_again : (d rest : List ℕ) → bytes_at (length d) (d ++ rest) ≡ Ok (d, rest)
bytes_again d rest =
    let enough : ltb (length (d ++ rest)) (length d) ≡ false = le-ltb (length (d ++ rest)) (length d) (omega (arith, length-append d rest)) in
    rw (enough, take_at d rest (length d) refl, drop_at d rest (length d) refl) refl

-- what is read is so many bytes, and is at the front
pub bytes_read : (n : ℕ) (b d rest : List ℕ) → bytes_at n b ≡ Ok (d, rest) → (length d ≡ n) × (b ≡ d ++ rest)
bytes_read n b d rest h =
    let found = past_test (ltb (length b) n) Truncated (Ok (take n b, drop n b)) (d, rest) h in
    let pair = ok_same (take n b, drop n b) (d, rest) found.1 in
    let front : take n b ≡ d = ap (λ (p : List ℕ × List ℕ). p.0) pair in
    let left : drop n b ≡ rest = ap (λ (p : List ℕ × List ℕ). p.1) pair in
    let size : n ≤ length b = ltb-false (length b) n found.0 in
    (sym (ap length front) ∙ length-take-le n b size, sym (take-append-drop n b) ∙ (ap (λ t. t ++ drop n b) front ∙ ap (λ r. d ++ r) left))

-- ---- version 1

-- the parts of a CIDv1
abbrev pub version_1 : ℕ → ℕ → List ℕ → Parts
version_1 codec hash digest = record { version = 1; codec = codec; hash_code = hash; digest = digest }

-- the parts of a spelling and what follows, from the right
regroup : (a b c e d rest : List ℕ) → (a ++ (b ++ (c ++ (e ++ d)))) ++ rest ≡ a ++ (b ++ (c ++ (e ++ (d ++ rest))))
regroup a b c e d rest = simp append_assoc

-- what is read in turn after each part
abbrev after_size : ℕ → ℕ → List ℕ × List ℕ → Result (Parts × List ℕ) CidFault
after_size codec hash digest = Ok (version_1 codec hash digest.0, digest.1)

-- reads the digest, given codec, hash code and length
abbrev after_hash : ℕ → ℕ → ℕ × List ℕ → Result (Parts × List ℕ) CidFault
after_hash codec hash size = bytes_at size.0 size.1 >>= after_size codec hash

-- reads the length of the digest, given codec and hash code
abbrev after_codec : ℕ → ℕ × List ℕ → Result (Parts × List ℕ) CidFault
after_codec codec hash = number_at hash.1 >>= after_hash codec hash.0

-- reads the hash code, given the codec
abbrev after_version : ℕ × List ℕ → Result (Parts × List ℕ) CidFault
after_version codec = number_at codec.1 >>= after_codec codec.0

-- reads the parts, given the version, which must be 1
abbrev if_version_1 : ℕ × List ℕ → Result (Parts × List ℕ) CidFault
if_version_1 version = cond (eqb version.0 1) (version_1_at version.1) (Err (Version version.0))

-- the parts after the version are read
version_1_spelled : (b c e d rest : List ℕ) (codec hash : ℕ) → IsVarint b codec → IsVarint c hash → IsVarint e (length d) → version_1_at (b ++ (c ++ (e ++ (d ++ rest)))) ≡ Ok (version_1 codec hash d, rest)
version_1_spelled b c e d rest codec hash hb hc he =
    let after_b = c ++ (e ++ (d ++ rest)) in
    let after_c = e ++ (d ++ rest) in
    let after_e = d ++ rest in
    bind_to (number_at (b ++ after_b)) (codec, after_b) after_version (number_spelled b codec after_b hb)
    ∙ (bind_to (number_at (c ++ after_c)) (hash, after_c) (after_codec codec) (number_spelled c hash after_c hc)
    ∙ (bind_to (number_at (e ++ after_e)) (length d, after_e) (after_hash codec hash) (number_spelled e (length d) after_e he)
    ∙ bind_to (bytes_at (length d) (d ++ rest)) (d, rest) (after_size codec hash) (bytes_again d rest)))

-- the parts and the version before them are read
numbered_spelled : (a b c e d rest : List ℕ) (codec hash : ℕ) → IsVarint a 1 → IsVarint b codec → IsVarint c hash → IsVarint e (length d) → numbered_at (a ++ (b ++ (c ++ (e ++ (d ++ rest))))) ≡ Ok (version_1 codec hash d, rest)
numbered_spelled a b c e d rest codec hash ha hb hc he =
    let after_a = b ++ (c ++ (e ++ (d ++ rest))) in
    bind_to (number_at (a ++ after_a)) (1, after_a) if_version_1 (number_spelled a 1 after_a ha)
    ∙ version_1_spelled b c e d rest codec hash hb hc he

-- the parts of a CIDv1, put together
pub version_1_is : (p : Parts) → IsVersion1 p → p ≡ version_1 p.codec p.hash_code p.digest
version_1_is p h = let put : ℕ → Parts = λ v. record { version = v; codec = p.codec; hash_code = p.hash_code; digest = p.digest } in ap put h.version

-- the spelling of a CIDv1 is read, and what follows is left
pub numbered_again : (p : Parts) (rest : List ℕ) → IsVersion1 p → numbered_at (parts_spelling p ++ rest) ≡ Ok (p, rest)
numbered_again p rest h =
    let n : ℕ = length p.digest in
    let whole : numbered_at (varint_of 1 ++ (varint_of p.codec ++ (varint_of p.hash_code ++ (varint_of n ++ (p.digest ++ rest))))) ≡ Ok (version_1 p.codec p.hash_code p.digest, rest) =
    numbered_spelled (varint_of 1) (varint_of p.codec) (varint_of p.hash_code) (varint_of n) p.digest rest p.codec p.hash_code
    (varints.IsVarint-varint_of 1 (omega arith)) (varints.IsVarint-varint_of p.codec h.codec) (varints.IsVarint-varint_of p.hash_code h.hash_code) (varints.IsVarint-varint_of n h.size) in
    let P : Parts → Type 0 = λ q. numbered_at (parts_spelling q ++ rest) ≡ Ok (q, rest) in
    subst P (sym (version_1_is p h))
    (ap numbered_at (regroup (varint_of 1) (varint_of p.codec) (varint_of p.hash_code) (varint_of n) p.digest rest) ∙ whole)

-- what is read after a number: the number is spelled in front of it
field_read : {A : Type 0} (b : List ℕ) (f : ℕ × List ℕ → Result A CidFault) (y : A) → AreBytes b → (number_at b >>= f) ≡ Ok y → (n : ℕ) × (left : List ℕ) × (n < 2 ^ 63) × (b ≡ varint_of n ++ left) × AreBytes left × (f (n, left) ≡ Ok y)
field_read b f y bytes h =
    let found = bind_ok (number_at b) f y h in
    let n : ℕ = found.0.0 in
    let left : List ℕ = found.0.1 in
    let is : (n < 2 ^ 63) × (b ≡ varint_of n ++ left) = number_read b n left bytes found.1 in
    (n, left, is.0, is.1, bytes_rest (varint_of n) left (subst AreBytes is.1 bytes), found.2)

-- the same number and the same rest
rejoin : (b x y : List ℕ) (n m : ℕ) → b ≡ varint_of n ++ x → n ≡ m → x ≡ y → b ≡ varint_of m ++ y
rejoin b x y n m is number left = is ∙ (ap (λ k. varint_of k ++ x) number ∙ ap (λ r. varint_of m ++ r) left)

-- what is read after the length of the digest
digest_read : (codec hash n : ℕ) (b : List ℕ) (p : Parts) (rest : List ℕ) → after_hash codec hash (n, b) ≡ Ok (p, rest) → (p ≡ version_1 codec hash p.digest) × (length p.digest ≡ n) × (b ≡ p.digest ++ rest)
digest_read codec hash n b p rest h =
    let found = bind_ok (bytes_at n b) (after_size codec hash) (p, rest) h in
    let d : List ℕ = found.0.0 in
    let is : (length d ≡ n) × (b ≡ d ++ found.0.1) = bytes_read n b d found.0.1 found.1 in
    let Q : Parts × List ℕ → Type 0 = λ q. (q.0 ≡ version_1 codec hash q.0.digest) × (length q.0.digest ≡ n) × (b ≡ q.0.digest ++ q.1) in
    subst Q (ok_same (version_1 codec hash d, found.0.1) (p, rest) found.2) (refl, is.0, is.1)

-- what is read after the hash code
size_read : (codec hash : ℕ) (b : List ℕ) (p : Parts) (rest : List ℕ) → AreBytes b → after_codec codec (hash, b) ≡ Ok (p, rest) → (p ≡ version_1 codec hash p.digest) × (length p.digest < 2 ^ 63) × (b ≡ varint_of (length p.digest) ++ (p.digest ++ rest))
size_read codec hash b p rest bytes h =
    let found = field_read b (after_hash codec hash) (p, rest) bytes h in
    let is = digest_read codec hash found.0 found.1 p rest found.5 in
    (is.0, subst (λ m. m < 2 ^ 63) (sym is.1) found.2, rejoin b found.1 (p.digest ++ rest) found.0 (length p.digest) found.3 (sym is.1) is.2)

-- what is read after the codec
hash_read : (codec : ℕ) (b : List ℕ) (p : Parts) (rest : List ℕ) → AreBytes b → after_version (codec, b) ≡ Ok (p, rest) → (p ≡ version_1 codec p.hash_code p.digest) × (p.hash_code < 2 ^ 63) × (length p.digest < 2 ^ 63) × (b ≡ varint_of p.hash_code ++ (varint_of (length p.digest) ++ (p.digest ++ rest)))
hash_read codec b p rest bytes h =
    let found = field_read b (after_codec codec) (p, rest) bytes h in
    let is = size_read codec found.0 found.1 p rest found.4 found.5 in
    let number : found.0 ≡ p.hash_code = sym (ap (λ (q : Parts). q.hash_code) is.0) in
    let put : ℕ → Parts = λ k. version_1 codec k p.digest in (
      is.0 ∙ ap put number,
      subst (λ m. m < 2 ^ 63) number found.2,
      is.1,
      rejoin b found.1 (varint_of (length p.digest) ++ (p.digest ++ rest)) found.0 p.hash_code found.3 number is.2,
    )

-- what is read after the version 1
version_1_read : (b : List ℕ) (p : Parts) (rest : List ℕ) → AreBytes b → version_1_at b ≡ Ok (p, rest) → IsVersion1 p × (b ≡ varint_of p.codec ++ (varint_of p.hash_code ++ (varint_of (length p.digest) ++ (p.digest ++ rest))))
version_1_read b p rest bytes h =
    let found = field_read b after_version (p, rest) bytes h in
    let is = hash_read found.0 found.1 p rest found.4 found.5 in
    let number : found.0 ≡ p.codec = sym (ap (λ (q : Parts). q.codec) is.0) in (
      record {
        version = ap (λ (q : Parts). q.version) is.0;
        codec = subst (λ m. m < 2 ^ 63) number found.2;
        hash_code = is.1;
        size = is.2;
      },
      rejoin b found.1 (varint_of p.hash_code ++ (varint_of (length p.digest) ++ (p.digest ++ rest))) found.0 p.codec found.3 number is.3,
    )

-- the spelling of a CIDv1, with what follows
spelled_1 : (p : Parts) (rest : List ℕ) → p.version ≡ 1 → parts_spelling p ++ rest ≡ varint_of 1 ++ (varint_of p.codec ++ (varint_of p.hash_code ++ (varint_of (length p.digest) ++ (p.digest ++ rest))))
spelled_1 p rest one =
    let n : ℕ = length p.digest in
    let put : ℕ → List ℕ = λ v. parts_spelling (record { version = v; codec = p.codec; hash_code = p.hash_code; digest = p.digest }) ++ rest in
    ap put one ∙ regroup (varint_of 1) (varint_of p.codec) (varint_of p.hash_code) (varint_of n) p.digest rest

-- what is read as a numbered CID is a CIDv1, and its spelling is at the front
pub numbered_read : (b : List ℕ) (p : Parts) (rest : List ℕ) → AreBytes b → numbered_at b ≡ Ok (p, rest) → IsVersion1 p × (b ≡ parts_spelling p ++ rest)
numbered_read b p rest bytes h =
    let found = field_read b if_version_1 (p, rest) bytes h in
    let one = past_guard (eqb found.0 1) (Version found.0) (version_1_at found.1) (p, rest) found.5 in
    let is = version_1_read found.1 p rest found.4 one.1 in (
      is.0,
      rejoin b found.1 (varint_of p.codec ++ (varint_of p.hash_code ++ (varint_of (length p.digest) ++ (p.digest ++ rest)))) found.0 1 found.3 (eqb-true found.0 1 one.0) is.1
          ∙ sym (spelled_1 p rest is.0.version),
    )

-- ---- version 0

-- the parts of a CIDv0
abbrev pub version_0 : List ℕ → Parts
version_0 digest = record { version = 0; codec = 0x70; hash_code = 0x12; digest = digest }

-- the parts of a CIDv0, put together
pub version_0_is : (p : Parts) → IsVersion0 p → p ≡ version_0 p.digest
version_0_is p h =
    let version : ℕ → Parts = λ v. record { version = v; codec = p.codec; hash_code = p.hash_code; digest = p.digest } in
    let codec : ℕ → Parts = λ k. record { version = 0; codec = k; hash_code = p.hash_code; digest = p.digest } in
    let hash : ℕ → Parts = λ k. record { version = 0; codec = 0x70; hash_code = k; digest = p.digest } in
    ap version h.version ∙ (ap codec h.codec ∙ ap hash h.hash_code)

-- `12 20` and 32 bytes are read as a CIDv0, and what follows is left
version_0_again : (d rest : List ℕ) → length d ≡ 32 → parts_at (0x12 ∷ 0x20 ∷ (d ++ rest)) ≡ Ok (version_0 d, rest)
version_0_again d rest size =
    let read : bytes_at 34 (0x12 ∷ 0x20 ∷ (d ++ rest)) ≡ Ok (0x12 ∷ 0x20 ∷ d, rest) =
    (let P : ℕ → Type 0 = λ n. bytes_at n (0x12 ∷ 0x20 ∷ (d ++ rest)) ≡ Ok (0x12 ∷ 0x20 ∷ d, rest) in
    subst P (let c : length (0x12 ∷ 0x20 ∷ d) ≡ 34 = omega arith in c) (bytes_again (0x12 ∷ 0x20 ∷ d) rest)) in
    bind_to (bytes_at 34 (0x12 ∷ 0x20 ∷ (d ++ rest))) (0x12 ∷ 0x20 ∷ d, rest) (λ b. Ok (version_0 (drop 2 b.0), b.1)) read

-- two bytes and the bytes after them
two_more : (a b : ℕ) (x : List ℕ) → take 2 x ≡ a ∷ b ∷ [] → x ≡ a ∷ b ∷ drop 2 x
two_more a b x is = sym (take-append-drop 2 x) ∙ (let put : List ℕ → List ℕ = λ t. t ++ drop 2 x in ap put is)

-- what is read as a CIDv0 is one, and its spelling is at the front
version_0_read : (b : List ℕ) (p : Parts) (rest : List ℕ) → begins_version_0 b ≡ true → version_0_at b ≡ Ok (p, rest) → IsVersion0 p × (b ≡ parts_spelling p ++ rest)
version_0_read b p rest begins h =
    let found = bind_ok (bytes_at 34 b) (λ x. Ok (version_0 (drop 2 x.0), x.1)) (p, rest) h in
    let front : List ℕ = found.0.0 in
    let left : List ℕ = found.0.1 in
    let is : (length front ≡ 34) × (b ≡ front ++ left) = bytes_read 34 b front left found.1 in
    let two : take 2 front ≡ 0x12 ∷ 0x20 ∷ [] =
    sym (take-append-le 2 front left (omega (arith, is.0)))
    ∙ (sym (ap (λ (t : List ℕ). take 2 t) is.1) ∙ (bytes_eq-Decides (take 2 b) (0x12 ∷ 0x20 ∷ [])).0 begins) in
    let Q : Parts × List ℕ → Type 0 = λ q. IsVersion0 q.0 × (b ≡ parts_spelling q.0 ++ q.1) in
    subst Q (ok_same (version_0 (drop 2 front), left) (p, rest) found.2) (
      record { version = refl; codec = refl; hash_code = refl; size = omega (arith, length-drop 2 front) },
      is.1 ∙ (let put : List ℕ → List ℕ = λ t. t ++ left in ap put (two_more 0x12 0x20 front two)),
    )

-- ---- any CID

-- bytes that begin with `12 20` are read as a CIDv0
with_version_0 : (b : List ℕ) → begins_version_0 b ≡ true → parts_at b ≡ version_0_at b
with_version_0 b is = cond-true (begins_version_0 b) (version_0_at b) (numbered_at b) is

-- any others are read as a numbered CID
without_version_0 : (b : List ℕ) → begins_version_0 b ≡ false → parts_at b ≡ numbered_at b
without_version_0 b is = cond-false (begins_version_0 b) (version_0_at b) (numbered_at b) is

-- the version 1 is no beginning of a CIDv0
begins_1 : (p : Parts) (rest : List ℕ) → p.version ≡ 1 → begins_version_0 (parts_spelling p ++ rest) ≡ false
begins_1 p rest one = ap begins_version_0 (spelled_1 p rest one)

-- the spelling of a CID is read as its parts, and what follows is left
pub parts_again : (c : List ℕ) (p : Parts) (rest : List ℕ) → IsCidOf c p → parts_at (c ++ rest) ≡ Ok (p, rest)
parts_again c p rest h =
    let P : List ℕ → Type 0 = λ b. parts_at (b ++ rest) ≡ Ok (p, rest) in
    subst P (sym h.spelled)
    (⊎_elim
    (λ (v : IsVersion0 p).
    let Q : Parts → Type 0 = λ q. parts_at (parts_spelling q ++ rest) ≡ Ok (q, rest) in
    subst Q (sym (version_0_is p v)) (version_0_again p.digest rest v.size))
    (λ (v : IsVersion1 p).
    without_version_0 (parts_spelling p ++ rest) (begins_1 p rest v.version) ∙ numbered_again p rest v)
    h.form)

-- what is read has its spelling at the front
pub parts_read : (b : List ℕ) (p : Parts) (rest : List ℕ) → AreBytes b → parts_at b ≡ Ok (p, rest) → IsCidOf (parts_spelling p) p × (b ≡ parts_spelling p ++ rest)
parts_read b p rest bytes h =
    ⊎_elim
    (λ (begins : begins_version_0 b ≡ true).
    let is = version_0_read b p rest begins (sym (with_version_0 b begins) ∙ h) in
    (record { form = inl is.0; spelled = refl }, is.1))
    (λ (begins : begins_version_0 b ≡ false).
    let is = numbered_read b p rest bytes (sym (without_version_0 b begins) ∙ h) in
    (record { form = inr is.0; spelled = refl }, is.1))
    (cases_Bool (begins_version_0 b))

-- what is in front of a rest
front_is : (b s rest : List ℕ) → b ≡ s ++ rest → take (length b - length rest) b ≡ s
front_is b s rest is =
    let P : List ℕ → Type 0 = λ x. take (length x - length rest) x ≡ s in
    subst P (sym is) (take_at s rest (length (s ++ rest) - length rest) (omega (arith, length-append s rest)))

-- a reading of parts as one of the CID
abbrev as_cid : List ℕ → Parts × List ℕ → Result (List ℕ × ℕ) CidFault
as_cid b p = Ok (take (length b - length p.1) b, length b - length p.1)

-- a CID at the front is read with its length, whatever follows
pub cid_again : (c : List ℕ) (p : Parts) (rest : List ℕ) → IsCidOf c p → cid_at (c ++ rest) ≡ Ok (c, length c)
cid_again c p rest h =
    let b : List ℕ = c ++ rest in
    let size : length b - length rest ≡ length c = omega (arith, length-append c rest) in
    let sized : ℕ → Result (List ℕ × ℕ) CidFault = λ k. Ok (take (length b - length rest) b, k) in
    let front : List ℕ → Result (List ℕ × ℕ) CidFault = λ t. Ok (t, length c) in
    bind_to (parts_at b) (p, rest) (as_cid b) (parts_again c p rest h) ∙ (ap sized size ∙ ap front (front_is b c rest refl))

-- what is read is a CID by the table, is at the front, and has the length that is read
pub cid_read : (b c : List ℕ) (k : ℕ) → AreBytes b → cid_at b ≡ Ok (c, k) → (k ≡ length c) × (b ≡ c ++ drop k b) × ((p : Parts) × IsCidOf c p)
cid_read b c k bytes h =
    let found = bind_ok (parts_at b) (as_cid b) (c, k) h in
    let p : Parts = found.0.0 in
    let rest : List ℕ = found.0.1 in
    let is : IsCidOf (parts_spelling p) p × (b ≡ parts_spelling p ++ rest) = parts_read b p rest bytes found.1 in
    let n : ℕ = length b - length rest in
    let Q : List ℕ × ℕ → Type 0 = λ q. (q.1 ≡ length q.0) × (b ≡ q.0 ++ drop q.1 b) × ((p : Parts) × IsCidOf q.0 p) in
    let P : List ℕ → Type 0 = λ t. IsCidOf t p in
    subst Q (ok_same (take n b, n) (c, k) found.2)
    (sym (length-take-le n b (omega arith)), sym (take-append-drop n b), (p, subst P (sym (front_is b (parts_spelling p) rest is.1)) is.0))

-- ---- laws

-- a CID by the table is one
pub cid_is : (c : List ℕ) (p : Parts) → IsCidOf c p → IsCid c
cid_is c p h = let P : List ℕ → Type 0 = λ b. cid_at b ≡ Ok (c, length c) in subst P (append-nil c) (cid_again c p [] h)

-- a CID of bytes is one by the table
pub is_cid : (c : List ℕ) → AreBytes c → IsCid c → (p : Parts) × IsCidOf c p
is_cid c bytes h = (cid_read c c (length c) bytes h).2

-- what is read at the front is what is there
pub cid_front : (b c : List ℕ) (k : ℕ) → (k ≡ length c) × (b ≡ c ++ drop k b) × ((p : Parts) × IsCidOf c p) → cid_at b ≡ Ok (c, k)
cid_front b c k h =
    let P : List ℕ → Type 0 = λ x. cid_at x ≡ Ok (c, k) in
    let sized : ℕ → Result (List ℕ × ℕ) CidFault = λ n. Ok (c, n) in
    subst P (sym h.1) (cid_again c h.2.0 (drop k b) h.2.1 ∙ ap sized (sym h.0))

-- nothing follows a CID that begins another
pub nothing_follows : (c rest : List ℕ) → AreBytes c → IsCid c → IsCid (c ++ rest) → rest ≡ []
nothing_follows c rest bytes h both =
    let is = is_cid c bytes h in
    let one : List ℕ × ℕ = (c, length c) in
    let other : List ℕ × ℕ = (c ++ rest, length (c ++ rest)) in
    let size : length c ≡ length (c ++ rest) = ap (λ (q : List ℕ × ℕ). q.1) (ok_same one other (sym (cid_again c is.0 rest is.1) ∙ both)) in
    nil_from_length rest (omega (arith, length-append c rest))

-- a CID is read as its parts, and nothing is left
pub parts_whole : (c : List ℕ) (p : Parts) → IsCidOf c p → parts_at c ≡ Ok (p, [])
parts_whole c p h = let P : List ℕ → Type 0 = λ b. parts_at b ≡ Ok (p, []) in subst P (append-nil c) (parts_again c p [] h)

-- the parts of a CID are those by the table
pub parts_are : (c : List ℕ) (p : Parts) → IsCidOf c p → parts_of c ≡ p
parts_are c p h = ap parts_or_none (parts_whole c p h)

-- a CID has one form
pub one_parts : (c : List ℕ) (p q : Parts) → IsCidOf c p → IsCidOf c q → p ≡ q
one_parts c p q x y = sym (parts_are c p x) ∙ parts_are c q y
