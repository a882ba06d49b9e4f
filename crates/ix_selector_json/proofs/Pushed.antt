-- What is pushed, after a bracket.
use Rattle.std.proofs.Common.{◌≡◌, ℕ, ◌++◌, List, [], ◌∷◌, sym, ap, ◌∙◌, append_assoc}
use Rattle.std.specs.Prelude.{OnOk, Result}
use Rattle.std.specs.Global.{Vec}
use Rattle.std.proofs.lemmas.Result.{on_ok_weaker}
use Rattle.json.specs.Token.{Token}
use Rattle.ix_cbor.specs.declared.node.Node.{Node}
use Rattle.ix_cbor.specs.declared.node.Node.TheVariants as variants
use Rattle.ix_cbor.specs.Data.{data_of, node_entries}
use Rattle.ix_cbor.proofs.Fitting.{data_of-map}
use Rattle.ix_selector_json.specs.Notation.{tokens_of, entries_tokens}

-- a map's tokens are its brace and those of its keys and values
pub map-pushed : {T E : Type 0} (r : Result T E) (node : Node) (v : Vec (Vec ℕ × Node)) (entries : List (Vec ℕ × Node)) (old mid new : List Token)
    → node ≡ variants.Map v → entries ≡ v.items → mid ≡ old ++ Token.begin_object ∷ []
    → OnOk r (new ≡ mid ++ entries_tokens (node_entries entries)) → OnOk r (new ≡ old ++ tokens_of (data_of node))
map-pushed r node v entries old mid new is same head =
    let told : mid ++ entries_tokens (node_entries entries) ≡ old ++ tokens_of (data_of node) =
    ap (λ m. m ++ entries_tokens (node_entries entries)) head ∙ append_assoc old (Token.begin_object ∷ []) (entries_tokens (node_entries entries))
    ∙ ap (λ m. old ++ Token.begin_object ∷ entries_tokens (node_entries m)) same
    ∙ ap (λ d. old ++ tokens_of d) (sym (data_of-map v) ∙ ap data_of (sym is)) in
    on_ok_weaker r (λ e. e ∙ told)
