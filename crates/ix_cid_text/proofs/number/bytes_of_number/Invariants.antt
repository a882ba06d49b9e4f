use Rattle.std.proofs.Common.{◌≡◌, ◌≤◌, ◌<◌, ◌^◌, length, drop, All}
use Rattle.ix_cid.specs.CidText.{number_in}
use Rattle.ix_cid_text.specs.Bytes.{low_value, IsShort}
use Rattle.ix_cid_text.proofs.number.bytes_of_number.Given as goal

abbrev pub invariant-loop-digit : goal.invariant-loop-digit
invariant-loop-digit l = record {
  are : All (λ b. b < 2 ^ 8) l.bytes.items;
  short : IsShort l.bytes.items;
  value : number_in l.base (low_value l.bytes.items) (drop l.digit-index l.digits) ≡ number_in l.base 0 l.digits;
  size : length l.bytes.items ≤ l.digit-index;
}
