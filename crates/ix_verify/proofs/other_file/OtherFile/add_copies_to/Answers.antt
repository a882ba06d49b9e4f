use Rattle.std.proofs.Common.{◌++◌, ◌∙◌, ap}
use Rattle.ix_sections.specs.Copies.{copies_of}
use Rattle.ix_verify.proofs.FileFaults.{more-copies}
use Rattle.ix_verify.proofs.other_file.OtherFile.add_copies_to.Goals as goal

pub returns-in-Ok : goal.returns-in-Ok
returns-in-Ok c =
    more-copies c.args.loader c.in-Ok.more c.self.inside.car c.self.invariant c.in-Ok.ensures ∙ ap (λ s. c.args.loader ++ copies_of s) c.self.view_is
