-- The CID at the front of a list that begins as most CIDs do.
use Rattle.std.proofs.Common.{◌≡◌, ℕ, ◌<◌, ◌≤◌, ◌^◌, List, [], ◌∷◌, ◌++◌, length, take, drop, Ok, refl, sym, ap, ◌∙◌, inr, arith, Bool, true, eqb}
use Rattle.std.specs.Cmp.Lexicographic.{pointwise}
use Rattle.std.proofs.lemmas.Bool.Decides.{Decides-eqb}
use Rattle.std.proofs.lemmas.Slice.Eq.{starts_is}
use Rattle.std.proofs.lemmas.List.{take-append-drop, length-take-le}
use Rattle.ix_cid.specs.Cid.{Parts, parts_at}
use Rattle.ix_cid.specs.CidForm.{parts_spelling, IsCidOf}
use Rattle.ix_cid.specs.Varint.{varint_of}
use Rattle.ix_cid.proofs.CidLaws.{parts_again}

-- version 1, this codec, sha2-256 and its 32 bytes
abbrev pub usual : ℕ → List ℕ → Parts
usual codec digest = record { version = 1; codec = codec; hash_code = 0x12; digest = digest }

-- where the codec is one byte, the parts are spelled by four bytes and the digest
parts_spelling-usual : (codec : ℕ) (digest : List ℕ) → varint_of codec ≡ codec ∷ [] → length digest ≡ 32 → 1 ∷ codec ∷ 0x12 ∷ 0x20 ∷ digest ≡ parts_spelling (usual codec digest)
parts_spelling-usual codec digest one size =
    sym (ap (λ (n : ℕ). 1 ∷ (varint_of codec ++ (0x12 ∷ (varint_of n ++ digest)))) size ∙ ap (λ (l : List ℕ). 1 ∷ (l ++ (0x12 ∷ 0x20 ∷ digest))) one)

-- what begins with these four bytes and has 32 more has these parts
pub usual_at : (codec : ℕ) (bytes : List ℕ) → varint_of codec ≡ codec ∷ [] → codec < 2 ^ 63 → bytes ≡ (1 ∷ codec ∷ 0x12 ∷ 0x20 ∷ []) ++ drop 4 bytes → 32 ≤ length (drop 4 bytes) → parts_at bytes ≡ Ok (usual codec (take 32 (drop 4 bytes)), drop 32 (drop 4 bytes))
usual_at codec bytes one small front long =
    let digest = take 32 (drop 4 bytes) in
    let rest = drop 32 (drop 4 bytes) in
    let size : length digest ≡ 32 = length-take-le 32 (drop 4 bytes) long in
    let is : IsCidOf (1 ∷ codec ∷ 0x12 ∷ 0x20 ∷ digest) (usual codec digest) = record {
      form = inr (record { version = refl; codec = small; hash_code = omega arith; size = omega (arith, size) });
      spelled = parts_spelling-usual codec digest one size;
    } in
    let whole : bytes ≡ (1 ∷ codec ∷ 0x12 ∷ 0x20 ∷ digest) ++ rest =
    front ∙ ap (λ (l : List ℕ). 1 ∷ codec ∷ 0x12 ∷ 0x20 ∷ l) (sym (take-append-drop 32 (drop 4 bytes))) in
    ap parts_at whole ∙ parts_again (1 ∷ codec ∷ 0x12 ∷ 0x20 ∷ digest) (usual codec digest) rest is

-- the same of the two parts that were cut, where the bytes begin so
pub usual_cut : (codec : ℕ) (bytes digest rest : List ℕ) (begins : Bool) → varint_of codec ≡ codec ∷ [] → codec < 2 ^ 63 → begins ≡ pointwise eqb (1 ∷ codec ∷ 0x12 ∷ 0x20 ∷ []) (take 4 bytes) → begins ≡ true → 32 ≤ length (drop 4 bytes) → digest ≡ take 32 (drop 4 bytes) → rest ≡ drop 32 (drop 4 bytes) → parts_at bytes ≡ Ok (usual codec digest, rest)
usual_cut codec bytes digest rest begins one small test is long front back =
    let split = (starts_is Decides-eqb bytes (1 ∷ codec ∷ 0x12 ∷ 0x20 ∷ []) begins test).0 is in
    usual_at codec bytes one small split long ∙ ap (λ (l : List ℕ). Ok (usual codec l, drop 32 (drop 4 bytes))) (sym front) ∙ ap (λ (l : List ℕ). Ok (usual codec digest, l)) (sym back)
