-- The texts of CIDs.
use Rattle.std.proofs.Common.{◌≡◌, ℕ, ◌-◌, ◌<◌, ◌≤◌, Bool, true, false, ◌&&◌, eqb, List, [], ◌∷◌, ◌++◌, length, take, drop, Result, Ok, Err, refl, sym, ap, ◌∙◌, subst, ⊎_elim, arith}
use Rattle.std.specs.Prelude.{codes, ◌==◌, if◌then◌else◌}
use Rattle.std.proofs.lemmas.Bool.{eqb-true, false_from_ne_true, ne_eqb, cases_Bool}
use Rattle.std.proofs.lemmas.List.{nil_from_length}
use Rattle.std.proofs.Math.Seq.{take-length}
use Rattle.ix_cid.specs.Bytes.{AreBytes}
use Rattle.ix_cid.specs.Varint.{varint_at, varint_ending}
use Rattle.ix_cid.specs.Cid.{◌>>=◌, Parts, as_part, number_at, bytes_at, version_0_at, version_1_at, numbered_at, begins_version_0, parts_at, IsCid, version_of, parts_or_none, numbered_length_at}
use Rattle.ix_cid.specs.CidText.{base32_of, hex_of, bytes_of_base32, without_rest, text_of, cid_of_text}
use Rattle.ix_cid.specs.Gives.{Fails}
use Rattle.ix_cid.specs.declared.fault.CidFault.{CidFault}
use Rattle.ix_cid.specs.declared.fault.CidFault.TheVariants.{Truncated, Version, Multibase, Rest}
use Rattle.ix_cid.specs.declared.fault.VarintFault.{VarintFault}
use Rattle.ix_cid.specs.declared.fault.VarintFault.TheVariants as varints
use Rattle.ix_cid.proofs.Quanta.{bytes_of_letters-base32_of}
use Rattle.ix_cid.proofs.Base32Laws.{base32_of-letters, is_base32, bytes_of_base32-is, bytes_of_base32-only}
use Rattle.ix_cid.proofs.Results.{past_guard, ok_same, bind_ok, fails_with}

-- What is read after the version 1 has that version.
pub version_1_at-version : (bytes : List ℕ) (p : Parts × List ℕ) → version_1_at bytes ≡ Ok p → p.0.version ≡ 1
version_1_at-version bytes p h =
    let codec = bind_ok (number_at bytes) _ p h in
    let hash = bind_ok (number_at codec.0.1) _ p codec.2 in
    let size = bind_ok (number_at hash.0.1) _ p hash.2 in
    let digest = bind_ok (bytes_at size.0.0 size.0.1) _ p size.2 in
    ap (λ (x : Parts × List ℕ). x.0.version) (sym (ok_same _ p digest.2))

-- What begins with a version that is numbered has the version 1.
pub numbered_at-version : (bytes : List ℕ) (p : Parts × List ℕ) → numbered_at bytes ≡ Ok p → p.0.version ≡ 1
numbered_at-version bytes p h =
    let version = bind_ok (number_at bytes) _ p h in
    let behind = past_guard (version.0.0 == 1) (Version version.0.0) (version_1_at version.0.1) p version.2 in
    version_1_at-version version.0.1 p behind.1

-- `12 20` and the digest has the version 0.
pub version_0_at-version : (bytes : List ℕ) (p : Parts × List ℕ) → version_0_at bytes ≡ Ok p → p.0.version ≡ 0
version_0_at-version bytes p h =
    let whole = bind_ok (bytes_at 34 bytes) _ p h in
    ap (λ (x : Parts × List ℕ). x.0.version) (sym (ok_same _ p whole.2))

-- A first byte of 18 spells 18.
varint_at-18 : (rest : List ℕ) → varint_at (18 ∷ rest) ≡ Ok (18, 1)
varint_at-18 rest =
    let longer : eqb 0 (length (18 ∷ rest)) ≡ false = ne_eqb 0 (length (18 ∷ rest)) (λ none. omega arith) in
    let F : Bool → Result (ℕ × ℕ) VarintFault = λ x. if x then Err varints.Truncated else varint_ending (18 ∷ rest) 0 in
    ap F longer

-- A first byte of 18 is the version 18.
pub numbered_at-18 : (rest : List ℕ) → numbered_at (18 ∷ rest) ≡ Err (Version 18)
numbered_at-18 rest =
    let F : Result (ℕ × ℕ) VarintFault → Result (ℕ × List ℕ) CidFault = λ x. as_part x >>= (λ v. Ok (v.0, drop v.1 (18 ∷ rest))) in
    let G : Result (ℕ × List ℕ) CidFault → Result (Parts × List ℕ) CidFault = λ x. x >>= (λ version. if version.0 == 1 then version_1_at version.1 else Err (Version version.0)) in
    ap (λ (x : Result (ℕ × ℕ) VarintFault). G (F x)) (varint_at-18 rest)

-- What is numbered doesn't begin with 18.
not_18 : (a : ℕ) (rest : List ℕ) (p : Parts × List ℕ) → numbered_at (a ∷ rest) ≡ Ok p → eqb a 18 ≡ false
not_18 a rest p h =
    let never : eqb a 18 ≡ true → ⊥ = λ is.
    let same : a ≡ 18 = eqb-true a 18 is in
    let refused : numbered_at (a ∷ rest) ≡ Err (Version 18) = subst (λ x. numbered_at (x ∷ rest) ≡ Err (Version 18)) (sym same) (numbered_at-18 rest) in
    cc in
    false_from_ne_true (eqb a 18) never

-- What begins with a version that is numbered doesn't begin as a CIDv0.
pub numbered_at-begins : (bytes : List ℕ) (p : Parts × List ℕ) → numbered_at bytes ≡ Ok p → begins_version_0 bytes ≡ false
numbered_at-begins [] p h = refl
numbered_at-begins (a ∷ []) p h = ap (λ (x : Bool). x && false) (not_18 a [] p h)
numbered_at-begins (a ∷ b ∷ more) p h = ap (λ (x : Bool). x && (eqb b 32 && true)) (not_18 a (b ∷ more) p h)

-- The parts of what begins with a version that is numbered.
pub parts_at-numbered : (bytes : List ℕ) (p : Parts × List ℕ) → numbered_at bytes ≡ Ok p → parts_at bytes ≡ Ok p
parts_at-numbered bytes p h =
    ap (λ (x : Bool). if x then version_0_at bytes else numbered_at bytes) (numbered_at-begins bytes p h) ∙ h

-- Numbered parts with nothing after them are a CID.
pub IsCid-numbered : (bytes : List ℕ) (p : Parts × List ℕ) → numbered_at bytes ≡ Ok p → p.1 ≡ [] → IsCid bytes
IsCid-numbered bytes p h none =
    let F : Result (Parts × List ℕ) CidFault → Result (List ℕ × ℕ) CidFault = λ x. x >>= (λ q. Ok (take (length bytes - length q.1) bytes, length bytes - length q.1)) in
    let G : ℕ → Result (List ℕ × ℕ) CidFault = λ x. Ok (take x bytes, x) in
    let H : List ℕ → Result (List ℕ × ℕ) CidFault = λ x. Ok (x, length bytes) in
    let size : length bytes - length p.1 ≡ length bytes = ap (λ (x : List ℕ). length bytes - length x) none ∙ omega arith in
    ap F (parts_at-numbered bytes p h) ∙ ap G size ∙ ap H (take-length bytes)

-- What is numbered has the version 1.
pub version_of-numbered : (bytes : List ℕ) (p : Parts × List ℕ) → numbered_at bytes ≡ Ok p → version_of bytes ≡ 1
version_of-numbered bytes p h =
    ap (λ (x : Result (Parts × List ℕ) CidFault). (parts_or_none x).version) (parts_at-numbered bytes p h) ∙ numbered_at-version bytes p h

-- Where the parts are as long as the bytes, nothing is after them.
pub numbered_at-whole : (bytes : List ℕ) (p : Parts × List ℕ) → numbered_at bytes ≡ Ok p → length bytes ≤ length bytes - length p.1 → p.1 ≡ []
numbered_at-whole [] p h whole =
    let none : ◌≡◌ {A = Result (Parts × List ℕ) CidFault} (Err Truncated) (Ok p) = h in
    absurd (cc)
numbered_at-whole (b ∷ bs) p h whole = nil_from_length p.1 (omega arith)

-- A CID of version 1 is numbered, and nothing is after it.
pub numbered_at-version_1 : (bytes : List ℕ) → IsCid bytes → version_of bytes ≡ 1 → (p : Parts × List ℕ) × (numbered_at bytes ≡ Ok p) × (p.1 ≡ [])
numbered_at-version_1 bytes is one =
    let read = bind_ok (parts_at bytes) (λ q. Ok (take (length bytes - length q.1) bytes, length bytes - length q.1)) (bytes, length bytes) is in
    let p : Parts × List ℕ = read.0 in
    let version : p.0.version ≡ 1 = ap (λ (x : Result (Parts × List ℕ) CidFault). (parts_or_none x).version) (sym read.1) ∙ one in
    let size : length bytes - length p.1 ≡ length bytes = ap (λ (x : List ℕ × ℕ). x.1) (ok_same _ (bytes, length bytes) read.2) in
    ⊎_elim
    (λ (begins : begins_version_0 bytes ≡ true).
    let zeroth : version_0_at bytes ≡ Ok p = ap (λ (x : Bool). if x then version_0_at bytes else numbered_at bytes) (sym begins) ∙ read.1 in
    absurd (omega (arith, version_0_at-version bytes p zeroth)))
    (λ (other : begins_version_0 bytes ≡ false).
    let first : numbered_at bytes ≡ Ok p = ap (λ (x : Bool). if x then version_0_at bytes else numbered_at bytes) (sym other) ∙ read.1 in
    (p, first, numbered_at-whole bytes p first (omega arith)))
    (cases_Bool (begins_version_0 bytes))

-- Base32 is read where it is spelled.
pub bytes_of_base32-spelled : (bytes : List ℕ) → AreBytes bytes → bytes_of_base32 (base32_of bytes) ≡ Ok bytes
bytes_of_base32-spelled bytes are =
    bytes_of_base32-is (base32_of bytes) (is_base32 bytes are) ∙ ap Ok (bytes_of_letters-base32_of bytes are)

-- What is read as base32 is spelled by it.
pub bytes_of_base32-ok : (letters bytes : List ℕ) → bytes_of_base32 letters ≡ Ok bytes → letters ≡ base32_of bytes
bytes_of_base32-ok letters bytes h =
    let is = bytes_of_base32-only letters bytes h in
    sym (base32_of-letters letters is.0) ∙ ap base32_of (sym is.1)

-- The text of a CID of no version 0.
pub text_of-other : (c : List ℕ) → (version_of c ≡ 0 → ⊥) → text_of c ≡ 98 ∷ base32_of c
text_of-other c other = ap (λ (x : Bool). if x then codes "v0-" ++ hex_of c else 98 ∷ base32_of c) (ne_eqb (version_of c) 0 other)

-- The text of a CID of version 1.
text_of-version_1 : (c : List ℕ) → version_of c ≡ 1 → text_of c ≡ 98 ∷ base32_of c
text_of-version_1 c one = text_of-other c (λ none. omega arith)

-- The text of a CID of version 1 is read as this.
pub cid_of_text-text_of : (c : List ℕ) → AreBytes c → IsCid c → version_of c ≡ 1 → cid_of_text (text_of c) ≡ Ok c
cid_of_text-text_of c are is one =
    let read = numbered_at-version_1 c is one in
    let F : Result (List ℕ) CidFault → Result (List ℕ) CidFault = λ x. x >>= (λ bytes. numbered_at bytes >>= (λ p. without_rest bytes p.1)) in
    let G : Result (Parts × List ℕ) CidFault → Result (List ℕ) CidFault = λ x. x >>= (λ p. without_rest c p.1) in
    ap cid_of_text (text_of-version_1 c one) ∙ ap F (bytes_of_base32-spelled c are) ∙ ap G read.1 ∙ ap (without_rest c) read.2

-- Where nothing is rejected, nothing is left.
without_rest-ok : (bytes rest c : List ℕ) → without_rest bytes rest ≡ Ok c → (rest ≡ []) × (bytes ≡ c)
without_rest-ok bytes [] c h = (refl, ok_same bytes c h)
without_rest-ok bytes (b ∷ bs) c h = absurd (cc)

-- What is read is a CID of version 1, and its text is what was read.
pub cid_of_text-ok : (t c : List ℕ) → cid_of_text t ≡ Ok c → IsCid c × (version_of c ≡ 1) × (t ≡ text_of c)
cid_of_text-ok [] c h = absurd (cc)
cid_of_text-ok (first ∷ letters) c h =
    let base = past_guard (first == 98) Multibase (bytes_of_base32 letters >>= (λ bytes. numbered_at bytes >>= (λ p. without_rest bytes p.1))) c h in
    let decoded = bind_ok (bytes_of_base32 letters) _ c base.1 in
    let read = bind_ok (numbered_at decoded.0) _ c decoded.2 in
    let whole = without_rest-ok decoded.0 read.0.1 c read.2 in
    let one : version_of decoded.0 ≡ 1 = version_of-numbered decoded.0 read.0 read.1 in
    let spelled : first ∷ letters ≡ text_of decoded.0 =
    ap (λ (x : ℕ). x ∷ letters) (eqb-true first 98 base.0) ∙ ap (λ (x : List ℕ). 98 ∷ x) (bytes_of_base32-ok letters decoded.0 decoded.1) ∙ sym (text_of-version_1 decoded.0 one) in (
      subst (λ x. IsCid x) whole.1 (IsCid-numbered decoded.0 read.0 read.1 whole.0),
      subst (λ x. version_of x ≡ 1) whole.1 one,
      spelled ∙ ap text_of whole.1,
    )

-- the bytes, where nothing is after the parts
abbrev pub whole_at : List ℕ → Result (List ℕ) CidFault
whole_at bytes = numbered_at bytes >>= (λ p. without_rest bytes p.1)

-- A fault of what is read stays, whatever follows.
fault-kept : (bytes : List ℕ) (read : Result (Parts × List ℕ) CidFault) (f : CidFault) → (read >>= (λ p. Ok (length bytes - length p.1))) ≡ Err f → (read >>= (λ p. without_rest bytes p.1)) ≡ Err f
fault-kept bytes (Ok p) f h = absurd (cc)
fault-kept bytes (Err e) f h = let same : e ≡ f = cc in ap (λ (x : CidFault). Err x) same

-- What is left is rejected.
without_rest-some : (c rest : List ℕ) → 0 < length rest → without_rest c rest ≡ Err Rest
without_rest-some c [] h = absurd (omega arith)
without_rest-some c (b ∷ bs) h = refl

-- a text after its multibase, whose letters are read as bytes
module _ (t letters bytes : List ℕ) (begins : t ≡ 98 ∷ letters) (read : bytes_of_base32 letters ≡ Ok bytes) where
  -- the text is read as its bytes are
  pub text-is : cid_of_text t ≡ whole_at bytes
  text-is =
      let F : Result (List ℕ) CidFault → Result (List ℕ) CidFault = λ x. x >>= whole_at in
      ap cid_of_text begins ∙ ap F read

  -- a fault at the front is the text's
  pub text-fails : (e : CidFault) → numbered_length_at bytes ≡ Err e → Fails e (cid_of_text t)
  text-fails e h = fails_with e (cid_of_text t) (text-is ∙ fault-kept bytes (numbered_at bytes) e h)

  -- bytes that are longer than the parts are rejected
  pub text-rest : (n : ℕ) → numbered_length_at bytes ≡ Ok n → n < length bytes → cid_of_text t ≡ Err Rest
  text-rest n h more =
      let front = bind_ok (numbered_at bytes) (λ p. Ok (length bytes - length p.1)) n h in
      let size : length bytes - length front.0.1 ≡ n = ok_same _ n front.2 in
      let F : Result (Parts × List ℕ) CidFault → Result (List ℕ) CidFault = λ x. x >>= (λ p. without_rest bytes p.1) in
      text-is ∙ ap F front.1 ∙ without_rest-some bytes front.0.1 (omega arith)

  -- bytes that are as long as the parts are the CID
  pub text-whole : (n : ℕ) → numbered_length_at bytes ≡ Ok n → length bytes ≤ n → IsCid bytes × (cid_of_text t ≡ Ok bytes)
  text-whole n h most =
      let front = bind_ok (numbered_at bytes) (λ p. Ok (length bytes - length p.1)) n h in
      let size : length bytes - length front.0.1 ≡ n = ok_same _ n front.2 in
      let none = numbered_at-whole bytes front.0 front.1 (omega arith) in
      let F : Result (Parts × List ℕ) CidFault → Result (List ℕ) CidFault = λ x. x >>= (λ p. without_rest bytes p.1) in
      (IsCid-numbered bytes front.0 front.1 none, text-is ∙ ap F front.1 ∙ ap (without_rest bytes) none)

-- The text of a CID of version 0.
pub text_of-version_0 : (c : List ℕ) → version_of c ≡ 0 → text_of c ≡ codes "v0-" ++ hex_of c
text_of-version_0 c none = ap (λ (x : ℕ). if x == 0 then codes "v0-" ++ hex_of c else 98 ∷ base32_of c) none
