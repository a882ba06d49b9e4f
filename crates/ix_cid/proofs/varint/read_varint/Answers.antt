use Rattle.std.proofs.Common.{◌≡◌, ◌+◌, ◌*◌, ◌<◌, get_or, arith}
use Rattle.std.proofs.lemmas.Nat.{pow_below}
use Rattle.ix_cid.proofs.Varints.{number_more, number_more_below, continued_more, varint_at-read}
use Rattle.ix_cid.proofs.varint.read_varint.Goals as goal
use Rattle.ix_cid.proofs.varint.read_varint.Goals.{else-byte-eq0-via-then-byte-eq0+else-index-gt0, else-byte-eq0-via-else-byte-eq0}

pub overflow_add-number : goal.overflow_add-number
overflow_add-number c =
    let kept = c.loop-index.invariant in
    let bits : c.from.result < 128 = omega (arith, c.from.ensures) in
    let below = number_more_below c.loop-index.index c.loop-index.number c.from.result kept.few bits kept.fits in
    let top : 7 * (c.loop-index.index + 1) < 64 = omega (arith, kept.few) in
    omega (arith, below, pow_below _ 64 top)

pub returns-else-byte-eq0 : goal.returns-else-byte-eq0
returns-else-byte-eq0 c =
    let kept = c.loop-index.invariant in
    let bytes = c.args.bytes.now in
    let i = c.loop-index.index in
    let read = number_more bytes i c.loop-index.number c.from.result c.loop-index-test.true kept.few c.from.ensures kept.read in
    let alone : get_or bytes i 0 ≡ 0 → i ≡ 0 = λ e. elim c.else-byte-eq0.branch [ else-byte-eq0-via-then-byte-eq0+else-index-gt0 w ↦ omega arith | else-byte-eq0-via-else-byte-eq0 w ↦ omega arith ] in
    record { exact = varint_at-read bytes i _ kept.continued kept.few c.loop-index-test.true c.if-byte-lt128.true alone read }

pub loop-index-preserved : goal.loop-index-preserved
loop-index-preserved c =
    let kept = c.loop-index.invariant in
    let bytes = c.args.bytes.now in
    let i = c.loop-index.index in
    let bits : c.from.result < 128 = omega (arith, c.from.ensures) in
    record {
      few = omega arith;
      continued = omega (arith, kept.continued, continued_more bytes i c.loop-index-test.true c.if-byte-lt128.false);
      read = number_more bytes i c.loop-index.number c.from.result c.loop-index-test.true kept.few c.from.ensures kept.read;
      fits = number_more_below i c.loop-index.number c.from.result kept.few bits kept.fits;
    }
