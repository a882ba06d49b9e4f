use Rattle.std.proofs.Common.{◌≡◌, [], ◌∷◌, refl, sym, ◌∙◌, subst}
use Rattle.std.specs.Str.{IsUtf8}
use Rattle.std.proofs.lemmas.Slice.Eq.{bytes_eq-Decides}
use Rattle.ix_cbor.specs.Data.{map}
use Rattle.ix_dag_json.specs.declared.fault.Wrong.TheVariants.{Key, Reserved}
use Rattle.ix_dag_json.specs.Lack.{IsEntry}
use Rattle.ix_dag_json.proofs.Lacking.{wrong_here}
use Rattle.ix_dag_json.proofs.print.key_text.Goals as goal

pub returns-then-eq-clause-refused : goal.returns-then-eq-clause-refused
returns-then-eq-clause-refused c es child entry =
    let same : c.args.key.now ≡ 47 ∷ [] = (bytes_eq-Decides c.args.key.now (47 ∷ [])).0 (sym c.eq.ensures ∙ c.if-eq.true) in
    wrong_here (map es) Reserved c.here.result c.here.ensures (es, child, refl, subst (λ k. IsEntry es k child) same entry)

pub returns-in_ok-key-in-Err-clause-refused : goal.returns-in_ok-key-in-Err-clause-refused
returns-in_ok-key-in-Err-clause-refused c es child entry =
    let key = c.in_ok-key-in-Err.key in
    let same : c.args.key.now ≡ key.items = sym c.in_ok-key-in-Err.ensures.items in
    wrong_here (map es) (Key key) c.here-in-Err.result c.here-in-Err.ensures
    ((es, child, refl, subst (λ k. IsEntry es k child) same entry), subst (λ k. ¬ IsUtf8 k) same c.in-Err.ensures.cases.0)
