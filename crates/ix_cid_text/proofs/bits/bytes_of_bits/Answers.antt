use Rattle.std.proofs.Common.{◌≡◌, ◌+◌, ◌-◌, ◌*◌, ◌^◌, ◌%◌, ◌/◌, ◌<◌, ◌++◌, [], ◌∷◌, ℕ, get_or, length, drop, subst, sym, ap, ◌∙◌, arith, rules, length-append}
use Rattle.std.proofs.Math.Nat.{mod-lt}
use Rattle.std.proofs.lemmas.Nat.{pow_pos}
use Rattle.std.proofs.lemmas.List.{drop_all}
use Rattle.std.proofs.lemmas.List.Elements.{All-get_or, All-push}
use Rattle.ix_cid.specs.CidText.{number_in}
use Rattle.ix_cid_text.proofs.BitLaws.{below, byte, read, read_byte, whole}
use Rattle.ix_cid_text.proofs.bits.bytes_of_bits.Goals as goal
use Rattle.ix_cid_text.proofs.bits.bytes_of_bits.Goals.{After-from, then-count-ge8+in_ok-push, else-count-ge8}

-- the digit of this turn, below those before
small : (c : After-from) → (c.from.result < 2 ^ c.args.width) × (c.loop-digit.bits * c.power.result + c.from.result < 2 ^ (c.loop-digit.count + c.args.width))
small c =
    let w = c.args.width in
    let bits = c.loop-digit.bits in
    let digit : c.from.result < 2 ^ w =
    subst (λ x. x < 2 ^ w) (sym c.from.ensures) (All-get_or (λ x. x < 2 ^ w) c.args.digits.now c.loop-digit.digit-index 0 c.loop-digit-test.true c.requires.below) in
    let power : bits * c.power.result ≡ bits * 2 ^ w = ap (λ (x : ℕ). bits * x) c.power.ensures in
    (digit, omega (arith, below w bits c.loop-digit.count c.from.result c.loop-digit.invariant.bits digit, power))

pub overflow_cast-bits : goal.overflow_cast-bits
overflow_cast-bits c =
    let m = c.loop-digit.bits * c.power.result + c.from.result in
    let all = c.loop-digit.count + c.args.width in
    let less : m / c.power-then-count-ge8.result < 256 =
    subst (λ p. m / p < 256) (sym c.power-then-count-ge8.ensures) (byte m (all - 8) all (omega arith) (small (goal.at.overflow_cast-bits c).After-from).1) in
    search (rules, less)

pub loop-digit-preserved : goal.loop-digit-preserved
loop-digit-preserved c =
    let w = c.args.width in
    let ds = c.args.digits.now in
    let bits = c.loop-digit.bits in
    let count = c.loop-digit.count in
    let bytes = c.loop-digit.bytes.items in
    let i = c.loop-digit.digit-index in
    let kept = c.loop-digit.invariant in
    let m = bits * c.power.result + c.from.result in
    let n = number_in 256 0 bytes in
    let m-is : m ≡ bits * 2 ^ w + get_or ds i 0 = ap (λ (x : ℕ). bits * x + c.from.result) c.power.ensures ∙ ap (λ (x : ℕ). bits * 2 ^ w + x) c.from.ensures in
    let value : number_in (2 ^ w) (n * 2 ^ (count + w) + m) (drop (i + 1) ds) ≡ number_in (2 ^ w) 0 ds =
    ap (λ (x : ℕ). number_in (2 ^ w) (n * 2 ^ (count + w) + x) (drop (i + 1) ds)) m-is ∙ read w ds bytes bits count i c.loop-digit-test.true ∙ kept.value in
    let fits = (small (goal.at.loop-digit-preserved c).After-from).1 in
    elim c.if-count-ge8.branch [
      | then-count-ge8+in_ok-push v ↦
          let left = count + w - 8 in
          let full : left + 8 ≡ count + w = omega (arith, v.if-count-ge8.true) in
          let turn : number_in (2 ^ w) (number_in 256 0 (bytes ++ (m / 2 ^ left) ∷ []) * 2 ^ left + m % 2 ^ left) (drop (i + 1) ds) ≡ number_in (2 ^ w) 0 ds =
          read_byte w ds bytes m left (i + 1) (count + w) full ∙ value in
          rw (v.bytes-is, v.bits-is, v.count-is, v.in_ok-push.ensures.items, v.power-bits.ensures, v.power-then-count-ge8.ensures)
          (record {
            count = omega (arith, kept.count, c.requires.width);
            bits = mod-lt m (pow_pos left);
            are = All-push (λ x. x < 256) bytes (m / 2 ^ left) kept.are (byte m left (count + w) (sym full) fits);
            size = omega (arith, kept.size, full, length-append bytes ((m / 2 ^ left) ∷ []));
            value = turn;
          })
      | else-count-ge8 v ↦
          rw (v.bytes-is, v.bits-is, v.count-is)
          (record {
            count = omega (arith, v.if-count-ge8.false);
            bits = fits;
            are = kept.are;
            size = omega (arith, kept.size);
            value = value;
          })
    ]

pub returns : goal.returns
returns c =
    let kept = c.loop-digit.invariant in
    let w = c.args.width in
    let ds = c.args.digits.now in
    let i = c.loop-digit.digit-index in
    let bytes = c.loop-digit.bytes.items in
    let n = number_in 256 0 bytes * 2 ^ c.loop-digit.count + c.loop-digit.bits in
    let end : i ≡ length ds = omega (arith, c.loop-digit.auto.digit-index-end, c.loop-digit-test.false) in
    let size : w * length ds ≡ 8 * length bytes + c.loop-digit.count = ap (λ (k : ℕ). w * k) (sym end) ∙ kept.size in
    let value : n ≡ number_in (2 ^ w) 0 ds = ap (number_in (2 ^ w) n) (sym (drop_all i ds c.loop-digit-test.false)) ∙ kept.value in
    whole c.args.base w ds bytes c.loop-digit.bits c.loop-digit.count (kept.count, kept.bits, size, value) kept.are c.if-count-width.false c.if-bits-ne0.false
