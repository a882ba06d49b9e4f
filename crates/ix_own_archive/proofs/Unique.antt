-- An archive is read back in one way, as its sections.
use Rattle.std.proofs.Common.{◌≡◌, ℕ, ◌<◌, ◌^◌, List, [], ◌∷◌, ◌++◌, length, drop, refl, sym, ◌∙◌, ap, subst, arith, append_assoc, append-nil, length-append}
use Rattle.std.specs.Prelude.{Err}
use Rattle.std.specs.List.{AllByRecursion}
use Rattle.std.proofs.Math.Seq.{drop-append_seam}
use Rattle.ix_cid.specs.Cid.{IsCid}
use Rattle.ix_cid.specs.Varint.{varint_of}
use Rattle.ix_cid.proofs.Results.{ok_same}
use Rattle.ix_cid.proofs.VarintLaws.{IsVarint-varint_of}
use Rattle.ix_cid.proofs.GroupLaws.{some_group}
use Rattle.ix_store.specs.Store.{Blocks}
use Rattle.ix_walk.specs.JobMeaning.{JobMeaning}
use Rattle.ix_car.specs.Laws.{once}
use Rattle.ix_sections.specs.Writing.{header_of}
use Rattle.ix_sections.specs.Reading.{Fault, section_at}
use Rattle.ix_receive.specs.Own.{archive_bytes, AreTheirOwnWith, IsItsOwnWith}
use Rattle.ix_receive.specs.Receiving.{OwnAreReceived}
use Rattle.ix_verify.proofs.TextsAgain.{section_again}
use Rattle.ix_verify.proofs.PairsAgain.{HasCid, text_of}
use Rattle.ix_own_archive.proofs.Visited.{own-cids}
use Rattle.ix_own_archive.proofs.Receiving.{texts_of}

-- a section takes a byte at least
some-section : (p : List ℕ × List ℕ) (rest : List ℕ) → text_of p ++ rest ≡ [] → ⊥
some-section p rest h =
    let text = p.0 ++ p.1 in
    let none : length (text_of p ++ rest) ≡ 0 = ap length h in
    let whole = length-append (text_of p) rest in
    let parts = length-append (varint_of (length text)) text in
    let short : length text < 2 ^ 63 = omega arith in
    let some = some_group ((IsVarint-varint_of (length text) short).groups) in
    omega arith

-- two sections at the front of the same bytes
pub record AreOne (p q : List ℕ × List ℕ) (x y : List ℕ) : Type 0 where
  pub pair : p ≡ q
  pub rest : x ≡ y

-- are one
pub same-section : (p q : List ℕ × List ℕ) (x y : List ℕ) → HasCid p → HasCid q → length (text_of q ++ y) < 2 ^ 63 → text_of p ++ x ≡ text_of q ++ y → AreOne p q x y
same-section p q x y p_is q_is small same =
    let p_size = length-append (varint_of (length (p.0 ++ p.1))) (p.0 ++ p.1) in
    let q_size = length-append (varint_of (length (q.0 ++ q.1))) (q.0 ++ q.1) in
    let p_whole = length-append (text_of p) x in
    let q_whole = length-append (text_of q) y in
    let sizes : length (text_of p ++ x) ≡ length (text_of q ++ y) = ap length same in
    let p_short : length (p.0 ++ p.1) < 2 ^ 63 = omega arith in
    let q_short : length (q.0 ++ q.1) < 2 ^ 63 = omega arith in
    let one : (p, x) ≡ (q, y) = ok_same (p, x) (q, y) (sym (section_again p.0 p.1 x p_is p_short) ∙ ap section_at same ∙ section_again q.0 q.1 y q_is q_short) in
    record { pair = ap (λ (s : (List ℕ × List ℕ) × List ℕ). s.0) one; rest = ap (λ (s : (List ℕ × List ℕ) × List ℕ). s.1) one }

-- what is after sections that were received, of all
record AreBehind (received all : Blocks) (rest : List ℕ) : Type 0 where
  pub after : Blocks
  pub whole : all ≡ received ++ after
  pub left : rest ≡ texts_of after

one-behind : (p q : List ℕ × List ℕ) (ps qs : Blocks) (rest : List ℕ) → p ≡ q → AreBehind ps qs rest → AreBehind (p ∷ ps) (q ∷ qs) rest
one-behind p q ps qs rest same b =
    record { after = b.after; whole = ap (λ (r : List ℕ × List ℕ). r ∷ qs) (sym same) ∙ ap (λ (l : Blocks). p ∷ l) b.whole; left = b.left }

behind : (received all : Blocks) (rest : List ℕ) → AllByRecursion HasCid received → AllByRecursion HasCid all → length (texts_of all) < 2 ^ 63 → texts_of received ++ rest ≡ texts_of all → AreBehind received all rest
behind [] all rest ps_are all_are small same = record { after = all; whole = refl; left = same }
behind (p ∷ ps) [] rest ps_are all_are small same = absurd (some-section p (texts_of ps ++ rest) (sym (append_assoc (text_of p) (texts_of ps) rest) ∙ same))
behind (p ∷ ps) (q ∷ qs) rest ps_are all_are small same =
    let one = same-section p q (texts_of ps ++ rest) (texts_of qs) ps_are.0 all_are.0 small (sym (append_assoc (text_of p) (texts_of ps) rest) ∙ same) in
    let fewer : length (texts_of qs) < 2 ^ 63 = omega (arith, small, length-append (text_of q) (texts_of qs)) in
    one-behind p q ps qs rest one.pair (behind ps qs rest ps_are.1 all_are.1 fewer one.rest)

-- what is left of an archive that is its own, of which sections were received
pub record IsOwnBehind (base : Blocks) (number : ℕ) (job : JobMeaning) (received : Blocks) (rest : List ℕ) : Type 0 where
  pub after : Blocks
  pub own : AreTheirOwnWith base number (once job) (received ++ after)
  pub left : rest ≡ texts_of after
  pub cids : AllByRecursion HasCid after

own-behind : (base : Blocks) (number : ℕ) (job : JobMeaning) (received all : Blocks) (rest : List ℕ) → OwnAreReceived base → AllByRecursion IsCid job.roots
    → AreTheirOwnWith base number (once job) all → AreBehind received all rest → IsOwnBehind base number job received rest
own-behind base number job received all rest each roots own b =
    let there = subst (AreTheirOwnWith base number (once job)) b.whole own in
    record { after = b.after; own = there; left = b.left; cids = own-cids base number job received b.after each roots there }

-- the sections of an own archive begin with those that were received
pub own-left : (base : Blocks) (number : ℕ) (job : JobMeaning) (archive rest : List ℕ) (received : Blocks) → OwnAreReceived base → AllByRecursion IsCid job.roots → length archive < 2 ^ 63
    → archive ≡ archive_bytes job.roots received ++ rest → AllByRecursion HasCid received → IsItsOwnWith base number (once job) archive → IsOwnBehind base number job received rest
own-left base number job archive rest received each roots small up cids own =
    let h = header_of job.roots in
    let n = length h in
    let all = own.0 in
    let same : h ++ (texts_of received ++ rest) ≡ h ++ texts_of all = sym (append_assoc h (texts_of received) rest) ∙ sym up ∙ own.1 in
    let texts : texts_of received ++ rest ≡ texts_of all = sym (drop-append_seam h (texts_of received ++ rest)) ∙ ap (drop n) same ∙ drop-append_seam h (texts_of all) in
    let fewer : length (texts_of all) < 2 ^ 63 = omega (arith, small, ap length own.1, length-append h (texts_of all)) in
    own-behind base number job received all rest each roots own.2 (behind received all rest cids (own-cids base number job [] all each roots own.2) fewer texts)

-- ---- what may be at the front of what is left

-- there is a section, if anything is left
pub left-read : (base : Blocks) (number : ℕ) (job : JobMeaning) (received : Blocks) (rest : List ℕ) (f : Fault) → length rest < 2 ^ 63 → 0 < length rest → IsOwnBehind base number job received rest → section_at rest ≡ Err f → ⊥
left-read base number job received rest f small some b h = on_after b.after b.left b.cids where
  on_after : (after : Blocks) → rest ≡ texts_of after → AllByRecursion HasCid after → ⊥
  on_after [] left cids = omega (arith, ap length left)
  on_after (q ∷ qs) left cids =
      let whole = length-append (text_of q) (texts_of qs) in
      let parts = length-append (varint_of (length (q.0 ++ q.1))) (q.0 ++ q.1) in
      let sizes : length rest ≡ length (text_of q ++ texts_of qs) = ap length left in
      let short : length (q.0 ++ q.1) < 2 ^ 63 = omega arith in
      absurd (cc (sym h ∙ ap section_at left ∙ section_again q.0 q.1 (texts_of qs) cids.0 short))

-- if a section is, it is the next one
pub left-next : (base : Blocks) (number : ℕ) (job : JobMeaning) (received : Blocks) (rest more : List ℕ) (p : List ℕ × List ℕ) → length rest < 2 ^ 63 → rest ≡ text_of p ++ more → HasCid p
    → IsOwnBehind base number job received rest → (after : Blocks) × AreTheirOwnWith base number (once job) (received ++ p ∷ after)
left-next base number job received rest more p small is cid b = on_after b.after b.left b.cids b.own where
  on_after : (after : Blocks) → rest ≡ texts_of after → AllByRecursion HasCid after → AreTheirOwnWith base number (once job) (received ++ after) → (others : Blocks) × AreTheirOwnWith base number (once job) (received ++ p ∷ others)
  on_after [] left cids own = absurd (some-section p more (sym is ∙ left))
  on_after (q ∷ qs) left cids own =
      let size : length (text_of q ++ texts_of qs) < 2 ^ 63 = subst (λ (l : List ℕ). length l < 2 ^ 63) left small in
      let one = same-section p q more (texts_of qs) cid cids.0 size (sym is ∙ left) in
      (qs, subst (λ (r : List ℕ × List ℕ). AreTheirOwnWith base number (once job) (received ++ r ∷ qs)) (sym one.pair) own)

-- at the end none is left
pub left-none : (base : Blocks) (number : ℕ) (job : JobMeaning) (received : Blocks) (rest : List ℕ) → rest ≡ [] → IsOwnBehind base number job received rest → AreTheirOwnWith base number (once job) received
left-none base number job received rest none b = on_after b.after b.left b.own where
  on_after : (after : Blocks) → rest ≡ texts_of after → AreTheirOwnWith base number (once job) (received ++ after) → AreTheirOwnWith base number (once job) received
  on_after [] left own = subst (AreTheirOwnWith base number (once job)) (append-nil received) own
  on_after (q ∷ qs) left own = absurd (some-section q (texts_of qs) (sym left ∙ none))
