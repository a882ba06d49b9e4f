use Rattle.std.proofs.Common.{◌∙◌, ap}
use Rattle.ix_own_archive.specs.Taking.{advanced}
use Rattle.ix_own_archive.proofs.BytesKept.{advance-is}
use Rattle.ix_own_archive.proofs.stream_bytes.StreamBytes.advance.Goals as goal

pub returns : goal.returns
returns c = let s = c.self.inside in advance-is s.gone s.kept.items s.checked c.args.count s.parts ∙ ap (advanced c.args.count) c.self.view_is
