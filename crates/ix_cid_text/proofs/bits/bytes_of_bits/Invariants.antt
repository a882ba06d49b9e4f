use Rattle.std.proofs.Common.{◌≡◌, ◌<◌, ◌+◌, ◌*◌, ◌^◌, length, drop, All}
use Rattle.ix_cid.specs.CidText.{number_in}
use Rattle.ix_cid_text.proofs.bits.bytes_of_bits.Given as goal

abbrev pub invariant-loop-digit : goal.invariant-loop-digit
invariant-loop-digit l = record {
  count : l.count < 8;
  bits : l.bits < 2 ^ l.count;
  are : All (λ x. x < 256) l.bytes.items;
  size : l.width * l.digit-index ≡ 8 * length l.bytes.items + l.count;
  value : number_in (2 ^ l.width) (number_in 256 0 l.bytes.items * 2 ^ l.count + l.bits) (drop l.digit-index l.digits) ≡ number_in (2 ^ l.width) 0 l.digits;
}
