use Rattle.std.proofs.Common.{◌≡◌, drop}
use Rattle.ix_cbor.specs.Data.{data_of}
use Rattle.ix_selector.specs.Reading.{matcher_of}
use Rattle.ix_selector.specs.Shapes.{entries_data, in_map}
use Rattle.ix_selector.proofs.read.matcher.Given as goal

abbrev pub invariant-loop-name : goal.invariant-loop-name
invariant-loop-name l = in_map matcher_of (data_of l.body) ≡ matcher_of (entries_data (drop l.name-index l.name-items))
