-- Texts, CIDs and sections are read anywhere.
use Rattle.std.proofs.Common.{◌≡◌, ℕ, ◌+◌, ◌-◌, ◌<◌, ◌^◌, Bool, false, cond, ltb, List, [], ◌++◌, length, take, drop, sym, ◌∙◌, ap, arith, append_assoc, append-nil, length-append}
use Rattle.std.specs.Prelude.{Result, Ok}
use Rattle.std.proofs.lemmas.Bool.{le-ltb}
use Rattle.std.proofs.Math.Seq.{drop-append_seam, take-append_seam}
use Rattle.std.proofs.lemmas.List.{nil_from_length}
use Rattle.ix_cid.specs.Varint.{varint_at, varint_of}
use Rattle.ix_cid.specs.Cid.{Parts, parts_at, cid_at, IsCid}
use Rattle.ix_cid.specs.declared.fault.CidFault.{CidFault}
use Rattle.ix_cid.proofs.VarintLaws.{IsVarint-varint_of, varint_at-append}
use Rattle.ix_cid.proofs.Results.{ok_same, bind_ok, bind_to}
use Rattle.ix_cid.proofs.Cids.{parts_at-reads}
use Rattle.ix_sections.specs.declared.fault.CarKind.TheVariants.{Truncated}
use Rattle.ix_sections.specs.Writing.{with_length}
use Rattle.ix_sections.specs.Reading.{Fault, ◌>>=◌, fails, text_at, text_after, pair_of, section_at}

-- a text that is after its length
after_again : (v text rest : List ℕ) → text_after ((v ++ text) ++ rest) (Ok (length text, length v)) ≡ Ok (text, rest)
after_again v text rest =
    let b = (v ++ text) ++ rest in
    let size : length b ≡ length v + length text + length rest = length-append (v ++ text) rest ∙ ap (λ n. n + length rest) (length-append v text) in
    let room : ltb (length b) (length v + length text) ≡ false = le-ltb (length b) (length v + length text) (omega (arith, size)) in
    let front : take (length text) (drop (length v) b) ≡ text =
    ap (λ (l : List ℕ). take (length text) (drop (length v) l)) (append_assoc v text rest)
    ∙ ap (λ (l : List ℕ). take (length text) l) (drop-append_seam v (text ++ rest)) ∙ take-append_seam text rest in
    let past : drop (length v + length text) b ≡ rest = ap (λ (n : ℕ). drop n b) (sym (length-append v text)) ∙ drop-append_seam (v ++ text) rest in
    let answer : Bool → Result (List ℕ × List ℕ) Fault = λ t. cond t (fails Truncated b) (Ok (take (length text) (drop (length v) b), drop (length v + length text) b)) in
    let with_front : List ℕ → Result (List ℕ × List ℕ) Fault = λ l. Ok (l, drop (length v + length text) b) in
    let with_rest : List ℕ → Result (List ℕ × List ℕ) Fault = λ l. Ok (text, l) in
    ap answer room ∙ ap with_front front ∙ ap with_rest past

-- a text with its length before it is read where it stands
pub text_again : (text rest : List ℕ) → length text < 2 ^ 63 → text_at (with_length text ++ rest) ≡ Ok (text, rest)
text_again text rest short =
    let v = varint_of (length text) in
    let number : varint_at ((v ++ text) ++ rest) ≡ Ok (length text, length v) =
    ap varint_at (append_assoc v text rest) ∙ varint_at-append v (length text) (text ++ rest) (IsVarint-varint_of (length text) short) in
    ap (text_after ((v ++ text) ++ rest)) number ∙ after_again v text rest

-- a CID is read where it stands
pub cid_again : (c rest : List ℕ) → IsCid c → cid_at (c ++ rest) ≡ Ok (c, length c)
cid_again c rest is =
    let cid_after : List ℕ → Parts × List ℕ → Result (List ℕ × ℕ) CidFault = λ b p. Ok (take (length b - length p.1) b, length b - length p.1) in
    let parts = bind_ok (parts_at c) (cid_after c) (c, length c) is in
    let left = parts.0.1 in
    let size : length c - length left ≡ length c = ap (λ (r : List ℕ × ℕ). r.1) (ok_same (take (length c - length left) c, length c - length left) (c, length c) parts.2) in
    let front = parts_at-reads c parts.0.0 left parts.1 in
    let all : left ≡ [] = nil_from_length left (omega (arith, size, ap length front.whole, length-append front.front left)) in
    let whole : front.front ≡ c = sym (append-nil front.front) ∙ ap (λ (l : List ℕ). front.front ++ l) (sym all) ∙ sym front.whole in
    let b = c ++ rest in
    let of_parts : parts_at b ≡ Ok (parts.0.0, rest) = ap (λ (l : List ℕ). parts_at (l ++ rest)) (sym whole) ∙ front.again rest in
    let n : length b - length rest ≡ length c = omega (arith, length-append c rest) in
    let of_size : ℕ → Result (List ℕ × ℕ) CidFault = λ k. Ok (take k b, k) in
    let of_front : List ℕ → Result (List ℕ × ℕ) CidFault = λ l. Ok (l, length c) in
    bind_to (parts_at b) (parts.0.0, rest) (cid_after b) of_parts ∙ ap of_size n ∙ ap of_front (take-append_seam c rest)

-- a section is read where it stands
pub section_again : (c block rest : List ℕ) → IsCid c → length (c ++ block) < 2 ^ 63 → section_at (with_length (c ++ block) ++ rest) ≡ Ok ((c, block), rest)
section_again c block rest is short =
    let b = with_length (c ++ block) ++ rest in
    let of_text : Result (List ℕ × List ℕ) Fault → Result ((List ℕ × List ℕ) × List ℕ) Fault = λ r. r >>= (λ t. pair_of b t.0 (cid_at t.0) >>= (λ p. Ok (p, t.1))) in
    let of_cid : Result (List ℕ × ℕ) CidFault → Result ((List ℕ × List ℕ) × List ℕ) Fault = λ r. pair_of b (c ++ block) r >>= (λ p. Ok (p, rest)) in
    let of_block : List ℕ → Result ((List ℕ × List ℕ) × List ℕ) Fault = λ l. Ok ((c, l), rest) in
    ap of_text (text_again (c ++ block) rest short) ∙ ap of_cid (cid_again c block is) ∙ ap of_block (drop-append_seam c block)
