-- Members of objects, as values and as tokens, and what is appended to what was written.
use Rattle.std.specs.Prelude.{◌≡◌, ℕ, List, [], ◌∷◌, ◌++◌, decimal, Some, Result, OnOk}
use Rattle.json.specs.Token.{Token, key}
use Rattle.json.specs.Token as token
use Rattle.json.specs.Lex.{tokens}
use Rattle.json.specs.Json.{Json, string, number, Members, member, document}
use Rattle.json.specs.Print.{print}
use Rattle.json.specs.Tree.{json_tokens}
use Rattle.json.specs.Written.{Written}

-- a key and a string, before other members
abbrev pub text_before : List ℕ → List ℕ → Members → Members
text_before name text more = member name (string text) more

-- a key and an integer in decimal, before other members
abbrev pub number_before : List ℕ → ℕ → Members → Members
number_before name n more = member name (number (decimal n)) more

-- the tokens of a key and a string
abbrev pub text_member : List ℕ → List ℕ → List Token
text_member name text = key name ∷ token.string text ∷ []

-- the tokens of a key and an integer in decimal
abbrev pub number_member : List ℕ → ℕ → List Token
number_member name n = key name ∷ token.number (decimal n) ∷ []

-- a writer has these tokens after those that it had, unless memory ran out; what was before its tokens stays
abbrev pub Appends : {T E : Type 0} → Written → Written → List Token → Result T E → Type 0
Appends old new tokens result = OnOk result (new.tokens ≡ old.tokens ++ tokens) × (new.before ≡ old.before)

-- after the old bytes come the text of tokens, which a reader finds in it, and a line end
pub record IsLine (old new : List ℕ) (written : List Token) : Type 0 where
  pub text : new ≡ old ++ print written ++ 10 ∷ []
  pub found : tokens (print written) ≡ written

-- after the old bytes come the text of a value without blanks, which reads back as that value, and a line end
pub record AppendsLine (old new : List ℕ) (object : Json) : Type 0 where
  pub text : new ≡ old ++ print (json_tokens object) ++ 10 ∷ []
  pub reads_back : document (print (json_tokens object)) ≡ Some object
