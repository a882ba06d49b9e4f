use Rattle.std.proofs.Common.{◌≡◌, ◌<◌, ◌+◌, ◌*◌, ◌^◌, drop, take}
use Rattle.ix_cid.specs.Varint.{continued, number_of_groups}
use Rattle.ix_cid.proofs.varint.read_varint.Given as goal

abbrev pub invariant-loop-index : goal.invariant-loop-index
invariant-loop-index l = record {
  few : l.index < 9;
  continued : continued l.bytes ≡ l.index + continued (drop l.index l.bytes);
  read : l.number ≡ number_of_groups (take l.index l.bytes);
  fits : l.number < 2 ^ (7 * l.index);
}
