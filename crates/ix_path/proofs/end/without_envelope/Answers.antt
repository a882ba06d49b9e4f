use Rattle.std.proofs.Common.{sym, ◌∙◌, ap}
use Rattle.ix_cbor.specs.Data.{data_of}
use Rattle.ix_cbor.proofs.Fitting.{data_of-map}
use Rattle.ix_selector.specs.Reading.{without_envelope}
use Rattle.ix_path.proofs.end.without_envelope.Goals as goal

pub returns-in-Map : goal.returns-in-Map
returns-in-Map c = c.without_key.ensures ∙ ap without_envelope (sym (ap data_of c.in-Map.is ∙ data_of-map c.in-Map.entries))
