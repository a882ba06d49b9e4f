use Rattle.std.proofs.Common.{◌≡◌, ◌<◌, ◌^◌, drop}
use Rattle.ix_cid.specs.CidText.{number_in}
use Rattle.ix_cid.proofs.base32.number_of_bytes.Given as goal

abbrev pub invariant-loop-byte : goal.invariant-loop-byte
invariant-loop-byte l = record {
  so_far : number_in 256 l.number (drop l.byte-index l.bytes) ≡ number_in 256 0 l.bytes;
  below : l.number < 256 ^ l.byte-index;
}
