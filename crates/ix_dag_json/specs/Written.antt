-- What was written of tokens, in either layout.
use Rattle.std.specs.Prelude.{◌≡◌, ℕ, List, [], ◌++◌}
use Rattle.json.specs.Token.{Token}
use Rattle.json.specs.Print.{print}
use Rattle.json.specs.Layout.{pretty}
use Rattle.ix_dag_json.specs.declared.output.Layout.{Layout}
use Rattle.ix_dag_json.specs.declared.output.Layout.TheVariants.{Compact, Indented}
use Rattle.ix_dag_json.specs.declared.output.Output.{Output}
use Rattle.ix_dag_json.specs.declared.output.Output.TheVariants as outputs

-- the text of tokens in a layout
abbrev pub text_as : Layout → List Token → List ℕ
text_as Compact ts = print ts
text_as Indented ts = pretty ts

abbrev pub layout_of : Output → Layout
layout_of (outputs.Compact w) = Compact
layout_of (outputs.Indented p) = Indented

abbrev pub tokens_in : Output → List Token
tokens_in (outputs.Compact w) = w.tokens
tokens_in (outputs.Indented p) = p

-- what was there before the tokens
abbrev pub before_in : Output → List ℕ
before_in (outputs.Compact w) = w.before
before_in (outputs.Indented p) = []

-- all of its text
abbrev pub text_in : Output → List ℕ
text_in out = before_in out ++ text_as (layout_of out) (tokens_in out)

-- nothing was written yet
pub record IsEmpty (layout : Layout) (out : Output) : Type 0 where
  pub laid : layout_of out ≡ layout
  pub before : before_in out ≡ []
  pub tokens : tokens_in out ≡ []

-- these tokens were added, and nothing else changed
pub record Adds (old new : Output) (ts : List Token) : Type 0 where
  pub laid : layout_of new ≡ layout_of old
  pub before : before_in new ≡ before_in old
  pub tokens : tokens_in new ≡ tokens_in old ++ ts
