use Rattle.std.proofs.Common.{◌≡◌, ◌<◌, ◌+◌, ◌*◌, ◌^◌, take, drop}
use Rattle.ix_cid_text.specs.Bytes.{low_value}
use Rattle.ix_cid_text.proofs.number.push_digit.Given as goal

abbrev pub invariant-loop-byte : goal.invariant-loop-byte
invariant-loop-byte l = record {
  carry : l.carry < l.base;
  value : low_value (take l.byte-index l.byte-items) + l.carry * 256 ^ l.byte-index ≡ low_value (take l.byte-index l.initial.byte-items) * l.base + l.digit;
  rest : drop l.byte-index l.byte-items ≡ drop l.byte-index l.initial.byte-items;
}
