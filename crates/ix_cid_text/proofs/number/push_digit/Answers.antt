use Rattle.std.proofs.Common.{◌≡◌, ◌+◌, ◌*◌, ◌^◌, ◌≤◌, ◌++◌, [], ◌∷◌, ℕ, List, length, take, drop, get_or, sym, subst, ap, ◌∙◌, rules, arith}
use Rattle.std.proofs.lemmas.List.{take_all, drop_all, append-nil}
use Rattle.std.proofs.lemmas.Nat.{mul-le}
use Rattle.ix_cid_text.specs.Bytes.{low_value, IsShort}
use Rattle.ix_cid_text.proofs.NumberLaws.{low_value-push, multiplied, short_pushed}
use Rattle.ix_cid_text.proofs.number.push_digit.Goals as goal
use Rattle.ix_cid_text.proofs.number.push_digit.Goals.{In_ok-push}

pub loop-byte-preserved : goal.loop-byte-preserved
loop-byte-preserved c =
    let base = c.args.base in
    let x = c.from.result in
    let carry = c.loop-byte.carry in
    let i = c.loop-byte.byte-index in
    let kept = c.loop-byte.invariant in
    let s = carry + x * base in
    let s-is : s ≡ carry + get_or c.loop-byte.byte-items i 0 * base = ap (λ (n : ℕ). carry + n * base) c.from.ensures in
    let byte : x ≤ 255 = search rules in
    let turn = multiplied c.loop-byte.byte-items c.deref_mut-byte-items.result.now i carry base c.args.digit s (omega (arith, c.loop-byte-test.true, c.loop-byte.auto.byte-items)) (omega (arith, c.loop-byte.auto.byte-items)) kept.value kept.rest s-is in
    record {
      carry = omega (arith, mul-le x base 255 base byte (omega arith), kept.carry);
      value = turn.0;
      rest = turn.1;
    }

-- all bytes are written back
written : (c : In_ok-push) → c.push.new.self.items ≡ c.loop-byte.byte-items ++ c.loop-byte.carry ∷ []
written c =
    let items = c.loop-byte.byte-items in
    let old = c.args.bytes.now.items in
    let none : drop (length items) old ≡ [] = drop_all (length items) old (omega (arith, c.loop-byte.auto.byte-items, ap length c.deref_mut-byte-items.ensures.value)) in
    let size = c.args.bytes.now.len in
    let more = c.loop-byte.carry ∷ [] in
    c.in_ok-push.ensures.items ∙ ap (λ (l : List ℕ). take size (items ++ l) ++ more) none ∙ ap (λ (l : List ℕ). take size l ++ more) (append-nil items)
    ∙ ap (λ (l : List ℕ). l ++ more) (take_all size items (omega (arith, c.loop-byte.auto.byte-items, c.deref_mut-byte-items.ensures.len)))

pub returns-in_ok-push-clause-value : goal.returns-in_ok-push-clause-value
returns-in_ok-push-clause-value c =
    let kept = c.loop-byte.invariant in
    let items = c.loop-byte.byte-items in
    let old = c.deref_mut-byte-items.result.now in
    let i = c.loop-byte.byte-index in
    let end : i ≡ length items = omega (arith, c.loop-byte-test.false, c.loop-byte.auto.byte-items, c.loop-byte.auto.byte-index-end) in
    let new : low_value c.push.new.self.items ≡ low_value items + c.loop-byte.carry * 256 ^ i =
    ap low_value (written (goal.at.returns-in_ok-push-clause-value c).In_ok-push) ∙ low_value-push items c.loop-byte.carry i (sym end) in
    let all : low_value (take i items) ≡ low_value items = ap low_value (take_all i items (omega (arith, end))) in
    let before : low_value (take i old) * c.args.base ≡ low_value c.args.bytes.now.items * c.args.base =
    ap (λ (l : List ℕ). low_value l * c.args.base) (take_all i old c.loop-byte-test.false ∙ c.deref_mut-byte-items.ensures.value) in
    omega (arith, new, all, before, kept.value)

pub returns-in_ok-push-clause-short : goal.returns-in_ok-push-clause-short
returns-in_ok-push-clause-short c =
    subst IsShort (sym (written (goal.at.returns-in_ok-push-clause-short c).In_ok-push)) (short_pushed c.loop-byte.byte-items c.loop-byte.carry c.if-carry-gt0.true)
