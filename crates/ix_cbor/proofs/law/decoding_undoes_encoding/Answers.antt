use Rattle.std.proofs.Common.{refl}
use Rattle.ix_cbor.specs.Spelling.{spelling_of}
use Rattle.ix_cbor.proofs.Laws.{decoded-complete}
use Rattle.ix_cbor.proofs.law.decoding_undoes_encoding.Goals as goal

pub returns : goal.returns
returns c d canonical = decoded-complete (spelling_of d) d (record { canonical = canonical; spelled = refl })
