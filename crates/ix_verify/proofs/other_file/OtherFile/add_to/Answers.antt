use Rattle.std.proofs.Common.{◌∙◌, ap}
use Rattle.ix_sections.specs.Sections.{with_sections}
use Rattle.ix_verify.proofs.FileFaults.{more-blocks}
use Rattle.ix_verify.proofs.other_file.OtherFile.add_to.Goals as goal

pub returns-in-Ok : goal.returns-in-Ok
returns-in-Ok g c =
    more-blocks c.args.loader c.in-Ok.more c.self.inside.car c.self.invariant c.in-Ok.ensures ∙ ap (with_sections c.args.loader) c.self.view_is
