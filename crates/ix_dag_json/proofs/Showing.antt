-- What was added to an output.
use Rattle.std.proofs.Common.{List, [], ◌++◌, refl, sym, ap, ◌∙◌, append_assoc}
use Rattle.std.proofs.lemmas.List.{append-nil}
use Rattle.json.specs.Token.{Token}
use Rattle.ix_dag_json.specs.declared.output.Output.{Output}
use Rattle.ix_dag_json.specs.Written.{Adds, tokens_in}

-- nothing was added
pub added_none : (out : Output) → Adds out out []
added_none out = record { laid = refl; before = refl; tokens = sym (append-nil (tokens_in out)) }

-- what was added first, and then
pub added_both : (old mid new : Output) (ts us : List Token) → Adds old mid ts → Adds mid new us → Adds old new (ts ++ us)
added_both old mid new ts us first second = record {
  laid = second.laid ∙ first.laid;
  before = second.before ∙ first.before;
  tokens = second.tokens ∙ ap (λ l. l ++ us) first.tokens ∙ append_assoc (tokens_in old) ts us;
}
