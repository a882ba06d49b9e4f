use Rattle.std.proofs.Common.{◌≡◌, ◌+◌, ◌<◌, ◌^◌, ℕ, List, All, inl, refl, length, drop, reverse, sym, subst, ap, ◌∙◌, arith}
use Rattle.std.proofs.lemmas.List.{drop_all}
use Rattle.std.proofs.lemmas.List.Elements.{All-nil}
use Rattle.ix_cid.specs.CidText.{number_in}
use Rattle.ix_cid.proofs.Digits.{number_in-turn}
use Rattle.ix_cid_text.specs.Bytes.{low_value, IsShort}
use Rattle.ix_cid_text.proofs.NumberLaws.{reversed}
use Rattle.ix_cid_text.proofs.number.bytes_of_number.Goals as goal

pub loop-digit-init : goal.loop-digit-init
loop-digit-init c =
    let none = c.new-bytes.ensures.items in
    record {
      are = subst (All (λ b. b < 2 ^ 8)) (sym none) (All-nil (λ b. b < 2 ^ 8));
      short = subst IsShort (sym none) (inl refl);
      value = ap (λ (l : List ℕ). number_in c.args.base (low_value l) c.args.digits.now) none;
      size = omega (arith, ap length none);
    }

pub loop-digit-preserved : goal.loop-digit-preserved
loop-digit-preserved c =
    let base = c.args.base in
    let ds = c.args.digits.now in
    let i = c.loop-digit.digit-index in
    let kept = c.loop-digit.invariant in
    let pushed = c.in_ok-push_digit.ensures in
    record {
      are = pushed.below;
      short = pushed.short;
      value = ap (λ (x : ℕ). number_in base x (drop (i + 1) ds)) pushed.value
          ∙ sym (number_in-turn base (low_value c.loop-digit.bytes.items) ds i c.loop-digit-test.true) ∙ kept.value;
      size = omega (arith, pushed.size, kept.size);
    }

pub returns-clause-exact : goal.returns-clause-exact
returns-clause-exact c =
    let kept = c.loop-digit.invariant in
    let ds = c.args.digits.now in
    let bs = c.loop-digit.bytes.items in
    let i = c.loop-digit.digit-index in
    let value : low_value bs ≡ number_in c.args.base 0 ds = ap (number_in c.args.base (low_value bs)) (sym (drop_all i ds c.loop-digit-test.false)) ∙ kept.value in
    c.reverse.ensures.items ∙ ap reverse c.in_ok-push_zeros.ensures
    ∙ reversed ds bs kept.are kept.short (omega (arith, kept.size, c.loop-digit.auto.digit-index-end)) (number_in c.args.base 0 ds) value
