use Rattle.std.proofs.Common.{◌≡◌, ◌<◌, ◌^◌, drop, take, map, All}
use Rattle.ix_cid.specs.CidText.{number_in, bits_of_letter, IsLetter}
use Rattle.ix_cid.proofs.base32.number_of_letters.Given as goal

abbrev pub invariant-loop-letter : goal.invariant-loop-letter
invariant-loop-letter l = record {
  so_far : number_in 32 l.number (drop l.letter-index (map bits_of_letter l.letters)) ≡ number_in 32 0 (map bits_of_letter l.letters);
  below : l.number < 32 ^ l.letter-index;
  alphabet : All IsLetter (take l.letter-index l.letters);
}
