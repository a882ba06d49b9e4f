-- A section that is read is as it is written.
use Rattle.std.proofs.Common.{◌≡◌, ℕ, ◌+◌, ◌^◌, ◌<◌, ◌≤◌, get_or, ltb, List, ◌++◌, length, take, drop, refl, sym, ◌∙◌, ap, subst, arith, append_assoc, take-append-drop}
use Rattle.std.specs.Prelude.{Result, Ok, Err}
use Rattle.std.proofs.lemmas.Bool.{ltb-false}
use Rattle.std.proofs.lemmas.List.Elements.{All-from_get_or}
use Rattle.std.proofs.lemmas.List.{drop-drop, length-take-le, length-drop}
use Rattle.ix_cid.specs.Bytes.{AreBytes}
use Rattle.ix_cid.specs.Varint.{varint_at, varint_of}
use Rattle.ix_cid.specs.Cid.{◌>>=◌ as ◌and_then◌, cid_at, IsCid}
use Rattle.ix_cid.specs.declared.fault.VarintFault.{VarintFault}
use Rattle.ix_cid.specs.declared.fault.VarintFault.TheVariants as varints
use Rattle.ix_cid.specs.declared.fault.CidFault.{CidFault}
use Rattle.ix_cid.proofs.VarintLaws.{IsVarint-is, varint_at-varint}
use Rattle.ix_cid.proofs.Results.{past_test, ok_same, bind_ok}
use Rattle.ix_sections.specs.declared.fault.CarKind.TheVariants.{Truncated}
use Rattle.ix_sections.specs.Writing.{with_length}
use Rattle.ix_sections.specs.Reading.{Fault, ◌>>=◌, text_at, text_after, pair_of, section_at}
use Rattle.ix_sections.proofs.SectionCids.{has_cid}

-- numbers that fit a byte
pub are-bytes : (b : List ℕ) → ((i : ℕ) → get_or b i 0 < 2 ^ 8) → AreBytes b
are-bytes b fits = All-from_get_or (λ x. x < 2 ^ 8) b 0 (λ i _. fits i)

-- a length, so many bytes after it, and the rest
text-parts : (b : List ℕ) (n k : ℕ) → k + n ≤ length b → take k b ≡ varint_of n → b ≡ with_length (take n (drop k b)) ++ drop (k + n) b
text-parts b n k room spelled =
    let x = take n (drop k b) in
    let size : length x ≡ n = length-take-le n (drop k b) (omega (arith, length-drop k b, room)) in
    let with_size : ℕ → List ℕ = λ m. (varint_of m ++ x) ++ drop (k + n) b in
    let with_front : List ℕ → List ℕ = λ l. (l ++ x) ++ drop (k + n) b in
    let with_rest : List ℕ → List ℕ = λ l. take k b ++ (x ++ l) in
    sym (ap with_size size ∙ ap with_front (sym spelled) ∙ append_assoc (take k b) x (drop (k + n) b)
    ∙ ap with_rest (sym (drop-drop n k b))
    ∙ ap (λ (l : List ℕ). take k b ++ l) (take-append-drop n (drop k b)) ∙ take-append-drop k b)

-- a text that is read has its length before it
pub text-after : (b : List ℕ) (t : List ℕ × List ℕ) (r : Result (ℕ × ℕ) VarintFault) → AreBytes b → varint_at b ≡ r → text_after b r ≡ Ok t → b ≡ with_length t.0 ++ t.1
text-after b t (Ok v) fits is h =
    let read : Result (List ℕ × List ℕ) Fault = Ok (take v.0 (drop v.1 b), drop (v.1 + v.0) b) in
    let enough = past_test (ltb (length b) (v.1 + v.0)) (record { kind = Truncated; left = length b }) read t h in
    let room : v.1 + v.0 ≤ length b = ltb-false (length b) (v.1 + v.0) enough.0 in
    let number = varint_at-varint b v.0 v.1 fits is in
    subst (λ (u : List ℕ × List ℕ). b ≡ with_length u.0 ++ u.1) (ok_same (take v.0 (drop v.1 b), drop (v.1 + v.0) b) t enough.1)
    (text-parts b v.0 v.1 room (IsVarint-is (take v.1 b) v.0 number.1))
text-after b t (Err varints.Truncated) fits is h = absurd (cc h)
text-after b t (Err varints.TooLong) fits is h = absurd (cc h)
text-after b t (Err varints.NotMinimal) fits is h = absurd (cc h)

-- a CID and a block are a text
pub record ArePartsOf (p : List ℕ × List ℕ) (text : List ℕ) : Type 0 where
  pub whole : text ≡ p.0 ++ p.1
  pub cid : IsCid p.0

-- where they are read
pair-parts : (b text : List ℕ) (p : List ℕ × List ℕ) (r : Result (List ℕ × ℕ) CidFault) → cid_at text ≡ r → pair_of b text r ≡ Ok p → ArePartsOf p text
pair-parts b text p (Ok c) is h =
    let has = has_cid text c.1 (ap (λ (r : Result (List ℕ × ℕ) CidFault). r and_then (λ s. Ok s.1)) is) in
    let found : (take c.1 text, c.1) ≡ c = ok_same (take c.1 text, c.1) c (sym has.read ∙ is) in
    let front : take c.1 text ≡ c.0 = ap (λ (r : List ℕ × ℕ). r.0) found in
    subst (λ (q : List ℕ × List ℕ). ArePartsOf q text) (ok_same (c.0, drop c.1 text) p h)
    (record {
      whole = sym (take-append-drop c.1 text) ∙ ap (λ (l : List ℕ). l ++ drop c.1 text) front;
      cid = subst IsCid front has.is;
    })
pair-parts b text p (Err e) is h = absurd (cc h)

-- a section that was read, and the bytes after it
pub record IsWrittenAt (b : List ℕ) (p : List ℕ × List ℕ) (rest : List ℕ) : Type 0 where
  pub whole : b ≡ with_length (p.0 ++ p.1) ++ rest
  pub cid : IsCid p.0

-- it is as it is written
pub section-written : (b : List ℕ) (p : List ℕ × List ℕ) (rest : List ℕ) → AreBytes b → section_at b ≡ Ok (p, rest) → IsWrittenAt b p rest
section-written b p rest fits h =
    let text = bind_ok (text_at b) (λ t. pair_of b t.0 (cid_at t.0) >>= (λ q. Ok (q, t.1))) (p, rest) h in
    let t = text.0 in
    let pair = bind_ok (pair_of b t.0 (cid_at t.0)) (λ q. Ok (q, t.1)) (p, rest) text.2 in
    let parts = pair-parts b t.0 pair.0 (cid_at t.0) refl pair.1 in
    let whole : b ≡ with_length (pair.0.0 ++ pair.0.1) ++ t.1 =
    text-after b t (varint_at b) fits refl text.1 ∙ ap (λ (l : List ℕ). with_length l ++ t.1) parts.whole in
    subst (λ (s : (List ℕ × List ℕ) × List ℕ). IsWrittenAt b s.0 s.1) (ok_same (pair.0, t.1) (p, rest) pair.2)
    (record { whole = whole; cid = parts.cid })
