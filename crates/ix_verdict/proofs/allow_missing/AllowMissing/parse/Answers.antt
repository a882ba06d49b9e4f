use Rattle.std.proofs.Common.{rules, tests, ◌≡◌, ◌∙◌, sym, ap, Ok, Bool, List, ℕ, lit<}
use Rattle.std.specs.Prelude.{◌==◌, not, Option, Result}
use Rattle.std.specs.List.{list_any, find, slice_split}
use Rattle.std.specs.Borrow.{Bor}
use Rattle.std.specs.Option.{option_map}
use Rattle.std.proofs.lemmas.Iterator.Search.{any_from_yields_List, find_from_yields_List}
use Rattle.std.proofs.lemmas.Iterator.Splits.{YieldsList-from_str_split}
use Rattle.ix_verdict.specs.declared.allow_missing.AllowMissing.{AllowMissing}
use Rattle.ix_verdict.specs.AllowMissing.{names_raw, names_dag_cbor, names_codec, allowed_unless}
use Rattle.ix_verdict.proofs.allow_missing.AllowMissing.parse.Goals as goal

abbrev Allowed : Type 0
Allowed = Result AllowMissing (List ℕ)

abbrev both : Bool → Bool → Allowed
both raw dag_cbor = Ok (record { raw = raw; dag_cbor = dag_cbor })

pub returns-in-Some-clause-unknown : goal.returns-in-Some-clause-unknown
returns-in-Some-clause-unknown c =
    let now : Bor (List ℕ) → List ℕ = λ x. x.now in
    let words = slice_split (λ b. b == 44) c.args.text.now in
    let road = YieldsList-from_str_split 44 c.args.text.now (lit< tt) c.split.ensures.text c.split.ensures.has_more c.split.ensures.pattern in
    let found : option_map now c.find.result ≡ find (λ w. not (names_codec w)) words = find_from_yields_List (λ w. not (names_codec w)) _ _ c.find.result c.find.ensures.ran road (λ x b q k. search (rules, tests)) in
    ap (λ (f : Option (List ℕ)). allowed_unless f words) (sym found ∙ ap (option_map now) c.in-Some.is)

pub returns-clause-named : goal.returns-clause-named
returns-clause-named c =
    let now : Bor (List ℕ) → List ℕ = λ x. x.now in
    let words = slice_split (λ b. b == 44) c.args.text.now in
    let road = YieldsList-from_str_split 44 c.args.text.now (lit< tt) c.split.ensures.text c.split.ensures.has_more c.split.ensures.pattern in
    let found : option_map now c.find.result ≡ find (λ w. not (names_codec w)) words = find_from_yields_List (λ w. not (names_codec w)) _ _ c.find.result c.find.ensures.ran road (λ x b q k. search (rules, tests)) in
    let second = YieldsList-from_str_split 44 c.args.text.now (lit< tt) c.split-2.ensures.text c.split-2.ensures.has_more c.split-2.ensures.pattern in
    let raw : c.any.result ≡ list_any names_raw words = any_from_yields_List names_raw _ _ c.any.result c.any.ensures.ran second (λ x b q k. search (rules, tests)) in
    let third = YieldsList-from_str_split 44 c.args.text.now (lit< tt) c.split-3.ensures.text c.split-3.ensures.has_more c.split-3.ensures.pattern in
    let dag_cbor : c.any-2.result ≡ list_any names_dag_cbor words = any_from_yields_List names_dag_cbor _ _ c.any-2.result c.any-2.ensures.ran third (λ x b q k. search (rules, tests)) in
    ap (λ (f : Option (List ℕ)). allowed_unless f words) (sym found ∙ ap (option_map now) c.in_default.is)
    ∙ ap (λ (b : Bool). both b (list_any names_dag_cbor words)) (sym raw) ∙ ap (λ (b : Bool). both c.any.result b) (sym dag_cbor)
