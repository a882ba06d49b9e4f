-- A stream goes on in one way, however it is cut.
use Rattle.std.proofs.Common.{◌≡◌, ℕ, ◌<◌, ◌^◌, false, List, [], ◌∷◌, ◌++◌, length, take, drop, refl, sym, ◌∙◌, ap, arith, append_assoc, length-append}
use Rattle.std.specs.Prelude.{Ok}
use Rattle.std.specs.List.{AllByRecursion}
use Rattle.std.proofs.Math.Seq.{drop-append_seam, take-append_seam}
use Rattle.std.proofs.lemmas.List.{take_at}
use Rattle.ix_cid.specs.Varint.{varint_of}
use Rattle.ix_cid.proofs.Results.{ok_same}
use Rattle.ix_store.specs.Store.{Blocks}
use Rattle.ix_walk.specs.JobMeaning.{JobMeaning}
use Rattle.ix_sections.specs.Reading.{Fault, header_at, section_at}
use Rattle.ix_sections.specs.Writing.{header_of}
use Rattle.ix_own_archive.specs.declared.stream_asked.ExpectedHeader.{ExpectedHeader}
use Rattle.ix_own_archive.specs.declared.stream_asked.ExpectedHeader.TheVariants.{OfJob, Any}
use Rattle.ix_own_archive.specs.Fronts.{is_whole}
use Rattle.ix_own_archive.specs.Streaming.{Asked, IsExpected, IsWaiting, for_header, for_section}
use Rattle.ix_own_archive.specs.Laws.{AreTheSame}
use Rattle.ix_own_archive.proofs.Receiving.{texts_of}
use Rattle.ix_own_archive.proofs.Unique.{same-section}
use Rattle.ix_own_archive.proofs.Fronts.{section-cut, header-cut}
use Rattle.ix_own_archive.proofs.StreamHeaders.{lacks-cut}
use Rattle.ix_verify.proofs.TextsAgain.{section_again}
use Rattle.ix_verify.proofs.PairsAgain.{HasCid, text_of}

-- sections, and what is after them
record AreOneList (ps qs : Blocks) (x y : List ℕ) : Type 0 where
  pub sections : ps ≡ qs
  pub rest : x ≡ y

-- bytes that aren't a whole section don't begin with one
no-section : (limit : ℕ) (q : List ℕ × List ℕ) (b rest : List ℕ) → HasCid q → length b < 2 ^ 63 → is_whole limit b ≡ Ok false → b ≡ text_of q ++ rest → ⊥
no-section limit q b rest cid small cut is =
    let whole = length-append (text_of q) rest in
    let parts = length-append (varint_of (length (q.0 ++ q.1))) (q.0 ++ q.1) in
    let short : length (q.0 ++ q.1) < 2 ^ 63 = omega (arith, small, ap length is, whole, parts) in
    absurd (cc (sym (section-cut limit b cut) ∙ ap section_at is ∙ section_again q.0 q.1 rest cid short))

-- the same bytes are the same sections, as far as they are whole
same-list : (limit : ℕ) (ps qs : Blocks) (x y : List ℕ) → AllByRecursion HasCid ps → AllByRecursion HasCid qs → is_whole limit x ≡ Ok false → is_whole limit y ≡ Ok false
    → length (texts_of qs ++ y) < 2 ^ 63 → texts_of ps ++ x ≡ texts_of qs ++ y → AreOneList ps qs x y
same-list limit [] [] x y ps_are qs_are x_cut y_cut small same = record { sections = refl; rest = same }
same-list limit [] (q ∷ qs) x y ps_are qs_are x_cut y_cut small same =
    let few : length x < 2 ^ 63 = omega (arith, small, ap length same) in
    absurd (no-section limit q x (texts_of qs ++ y) qs_are.0 few x_cut (same ∙ append_assoc (text_of q) (texts_of qs) y))
same-list limit (p ∷ ps) [] x y ps_are qs_are x_cut y_cut small same =
    absurd (no-section limit p y (texts_of ps ++ x) ps_are.0 small y_cut (sym same ∙ append_assoc (text_of p) (texts_of ps) x))
same-list limit (p ∷ ps) (q ∷ qs) x y ps_are qs_are x_cut y_cut small same =
    let p_whole = append_assoc (text_of p) (texts_of ps) x in
    let q_whole = append_assoc (text_of q) (texts_of qs) y in
    let all : length (text_of q ++ (texts_of qs ++ y)) < 2 ^ 63 = omega (arith, small, ap length q_whole) in
    let one = same-section p q (texts_of ps ++ x) (texts_of qs ++ y) ps_are.0 qs_are.0 all (sym p_whole ∙ same ∙ q_whole) in
    let fewer : length (texts_of qs ++ y) < 2 ^ 63 = omega (arith, all, length-append (text_of q) (texts_of qs ++ y)) in
    both p q ps qs x y one.pair (same-list limit ps qs x y ps_are.1 qs_are.1 x_cut y_cut fewer one.rest) where
      both : (p q : List ℕ × List ℕ) (ps qs : Blocks) (x y : List ℕ) → p ≡ q → AreOneList ps qs x y → AreOneList (p ∷ ps) (q ∷ qs) x y
      both p q ps qs x y same rest = record { sections = ap (λ (r : List ℕ × List ℕ). r ∷ ps) same ∙ ap (λ (l : Blocks). q ∷ l) rest.sections; rest = rest.rest }

-- the same end leaves the same front
same-front : (a b rest other : List ℕ) → a ++ rest ≡ b ++ other → rest ≡ other → a ≡ b
same-front a b rest other whole same =
    let all : a ++ rest ≡ b ++ rest = whole ∙ ap (λ (l : List ℕ). b ++ l) (sym same) in
    let size : length b ≡ length a = omega (arith, ap length all, length-append a rest, length-append b rest) in
    sym (take-append_seam a rest) ∙ ap (take (length a)) all ∙ take_at b rest (length a) size

-- what is after a header that is expected
same-body : (h : ExpectedHeader) (job : JobMeaning) (x y a b : List ℕ) → IsExpected h job x → IsExpected h job y → x ++ a ≡ y ++ b → a ≡ b
same-body OfJob job x y a b x_is y_is same =
    let n = length (header_of job.roots) in
    let of_jobs : header_of job.roots ++ a ≡ header_of job.roots ++ b = ap (λ (l : List ℕ). l ++ a) (sym x_is) ∙ same ∙ ap (λ (l : List ℕ). l ++ b) y_is in
    sym (drop-append_seam (header_of job.roots) a) ∙ ap (drop n) of_jobs ∙ drop-append_seam (header_of job.roots) b
same-body Any job x y a b x_is y_is same = ok_same {E = Fault} a b (sym (x_is a) ∙ ap header_at same ∙ y_is b)

-- bytes that aren't a whole header don't begin with one
no-header : (h : ExpectedHeader) (job : JobMeaning) (limit : ℕ) (b x rest : List ℕ) → IsExpected h job x → length b < 2 ^ 63 → is_whole limit b ≡ Ok false → b ≡ x ++ rest → ⊥
no-header OfJob job limit b x rest is small cut same = lacks-cut limit job b small cut rest (same ∙ ap (λ (l : List ℕ). l ++ rest) is)
no-header Any job limit b x rest is small cut same = absurd (cc (sym (header-cut limit b cut) ∙ ap header_at same ∙ is rest))

-- so it goes on in one way
pub one-way : (asked : Asked) (c d x y : List ℕ) (m n : ℕ) → IsWaiting asked c x m → IsWaiting asked d y n → length (d ++ y) < 2 ^ 63 → c ++ x ≡ d ++ y → AreTheSame c d x y m n
one-way asked c d x y m n (for_header c_none m_none x_cut) (for_header d_none n_none y_cut) small same = record {
  checked = c_none ∙ sym d_none;
  rest = ap (λ (l : List ℕ). l ++ x) (sym c_none) ∙ same ∙ ap (λ (l : List ℕ). l ++ y) d_none;
  sections = m_none ∙ sym n_none;
}
one-way asked c d x y m n (for_header c_none m_none x_cut) (for_section r are count y_cut) small same =
    let alone : x ≡ d ++ y = ap (λ (l : List ℕ). l ++ x) (sym c_none) ∙ same in
    let few : length x < 2 ^ 63 = omega (arith, small, ap length alone) in
    absurd (no-header asked.header asked.job asked.limits.header x are.header (texts_of r.sections ++ y) are.expected few x_cut
    (alone ∙ ap (λ (l : List ℕ). l ++ y) are.bytes ∙ append_assoc are.header (texts_of r.sections) y))
one-way asked c d x y m n (for_section r are count x_cut) (for_header d_none n_none y_cut) small same =
    let alone : y ≡ c ++ x = ap (λ (l : List ℕ). l ++ y) (sym d_none) ∙ sym same in
    let few : length y < 2 ^ 63 = omega (arith, small, length-append d y) in
    absurd (no-header asked.header asked.job asked.limits.header y are.header (texts_of r.sections ++ x) are.expected few y_cut
    (alone ∙ ap (λ (l : List ℕ). l ++ x) are.bytes ∙ append_assoc are.header (texts_of r.sections) x))
one-way asked c d x y m n (for_section r are r_count x_cut) (for_section s has s_count y_cut) small same =
    let c_whole : c ++ x ≡ are.header ++ (texts_of r.sections ++ x) = ap (λ (l : List ℕ). l ++ x) are.bytes ∙ append_assoc are.header (texts_of r.sections) x in
    let d_whole : d ++ y ≡ has.header ++ (texts_of s.sections ++ y) = ap (λ (l : List ℕ). l ++ y) has.bytes ∙ append_assoc has.header (texts_of s.sections) y in
    let bodies = same-body asked.header asked.job are.header has.header (texts_of r.sections ++ x) (texts_of s.sections ++ y) are.expected has.expected (sym c_whole ∙ same ∙ d_whole) in
    let few : length (texts_of s.sections ++ y) < 2 ^ 63 = omega (arith, small, ap length d_whole, length-append has.header (texts_of s.sections ++ y)) in
    let one = same-list asked.limits.section r.sections s.sections x y are.cids has.cids x_cut y_cut few bodies in
    record {
      checked = same-front c d x y same one.rest;
      rest = one.rest;
      sections = r_count ∙ ap length one.sections ∙ sym s_count;
    }
