-- The selector along a path (IPLD Selectors specification): a field or an index for each step, then a selector.
use Rattle.std.specs.Prelude.{List, [], ◌∷◌, pos, codes, map as mapped}
use Rattle.ix_cbor.specs.Data.{Data, integer}
use Rattle.ix_selector.specs.declared.step.Step.{Step as RustStep}
use Rattle.ix_selector.specs.Pattern.{Pattern, fields, index, no_fields, field}
use Rattle.ix_selector.specs.Enters.{Step, key, nth, Path}
use Rattle.ix_selector.specs.Residual.{step_of}
use Rattle.ix_selector.specs.Spelled.{one_key, two_keys}

-- the selector that goes along the path, and at its end is this one
abbrev pub pattern_along : Path → Pattern → Pattern
pattern_along [] s = s
pattern_along (key k ∷ p) s = fields (field k (pattern_along p s) no_fields)
pattern_along (nth n ∷ p) s = index (pos n) (pattern_along p s)

-- what is around the data of the next selector, for a step
abbrev pub data_after : Step → Data → Data
data_after (key k) d = one_key (codes "f") (one_key (codes "f>") (one_key k d))
data_after (nth n) d = one_key (codes "i") (two_keys (codes ">") d (codes "i") (integer (pos n)))

-- the data of the selector along the path, where these are those of the one at its end
abbrev pub data_along : Path → Data → Data
data_along [] d = d
data_along (t ∷ p) d = data_after t (data_along p d)

-- steps of the program
abbrev pub path_of : List RustStep → Path
path_of steps = mapped step_of steps
