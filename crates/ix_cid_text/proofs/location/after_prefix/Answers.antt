use Rattle.ix_cid_text.proofs.Prefixes.{stripped}
use Rattle.ix_cid_text.proofs.location.after_prefix.Goals as goal

pub returns-clause-exact : goal.returns-clause-exact
returns-clause-exact c = stripped c.args.prefix.now c.args.text.now c.strip_prefix.result c.strip_prefix.ensures.cases
