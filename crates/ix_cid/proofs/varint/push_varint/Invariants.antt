use Rattle.std.proofs.Common.{◌≡◌, ◌<◌, ◌≤◌, ◌-◌, ◌*◌, ◌^◌, ◌++◌, length, take}
use Rattle.ix_cid.specs.Varint.{varint_of, groups_of}
use Rattle.ix_cid.proofs.varint.push_varint.Given as goal

abbrev pub invariant-loop-rest : goal.invariant-loop-rest
invariant-loop-rest l = record {
  few : l.last ≤ 8;
  room : length l.spelled ≡ 9;
  spelled : varint_of l.number ≡ take l.last l.spelled ++ groups_of (8 - l.last) l.rest;
  fits : l.rest < 2 ^ (63 - 7 * l.last);
}

abbrev pub decreases-loop-rest : goal.decreases-loop-rest
decreases-loop-rest l = l.rest
