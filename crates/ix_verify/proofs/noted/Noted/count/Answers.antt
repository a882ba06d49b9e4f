use Rattle.std.proofs.Common.{refl, sym, ◌∙◌, ap}
use Rattle.ix_verify.specs.Outcome.{outcome_on, worse}
use Rattle.ix_verify.proofs.Notes.{one-counted}
use Rattle.ix_verify.proofs.noted.Noted.count.Goals as goal

pub returns : goal.returns
returns g c of item is =
    one-counted of c.args.most item c.args.self.now _ refl (c.worse-self.ensures ∙ ap (worse c.args.self.now.worst) (c.on.ensures ∙ ap outcome_on (sym is))) c.requires.full refl
