use Rattle.std.proofs.Common.{◌≡◌, false, [], ◌∷◌, ◌++◌, sym, ◌∙◌, ap}
use Rattle.std.specs.Prelude.{Some, string_bytes}
use Rattle.std.specs.Fmt.{digits}
use Rattle.std.specs.Str.Iter.{chars_rest}
use Rattle.std.proofs.lemmas.Str.{IsUtf8-past_char}
use Rattle.ix_dag_json.specs.Hidden.{visible}
use Rattle.ix_dag_json.proofs.Reasoning.{hex_appended, four_digits, hidden_character, shown_character, one_shown, characters_done}
use Rattle.ix_dag_json.proofs.hidden.escape_hidden.Goals as goal

pub loop-character-preserved-in-Continue-branch-2 : goal.loop-character-preserved-in-Continue-branch-2
loop-character-preserved-in-Continue-branch-2 c =
    let character = c.in-Some.character in
    let held = c.loop-character.invariant in
    let parts = c.in-Some.ensures.steps.0 in
    let added : string_bytes c.write.new.self ≡ string_bytes c.loop-character.escaped ++ visible character =
    hex_appended _ _ (92 ∷ 117 ∷ []) _ _ 4 (c.in_radix.ensures ∙ ap (λ n. Some (digits 16 false n)) c.from.ensures) (rw c.laid_out.ensures at c.in_ok-write.ensures.bytes)
    ∙ ap (λ t. string_bytes c.loop-character.escaped ++ t)
    (ap (λ t. 92 ∷ 117 ∷ t) (four_digits (digits 16 false character)) ∙ sym (hidden_character character (sym c.is_hidden.ensures ∙ c.if-is_hidden.true))) in
    (IsUtf8-past_char _ _ character held.0 parts, one_shown _ _ (chars_rest c.loop-character.character-iterator) (chars_rest c.next.new.self) _ character added held.0 parts held.1)

pub loop-character-preserved : goal.loop-character-preserved
loop-character-preserved c =
    let character = c.in-Some.character in
    let held = c.loop-character.invariant in
    let parts = c.in-Some.ensures.steps.0 in
    let added : string_bytes c.push.new.self ≡ string_bytes c.loop-character.escaped ++ visible character =
    c.in_ok-push.ensures.bytes
    ∙ ap (λ t. string_bytes c.loop-character.escaped ++ t) (sym (shown_character character (sym c.is_hidden.ensures ∙ c.if-is_hidden.false))) in
    (IsUtf8-past_char _ _ character held.0 parts, one_shown _ _ (chars_rest c.loop-character.character-iterator) (chars_rest c.next.new.self) _ character added held.0 parts held.1)

pub returns : goal.returns
returns c = characters_done _ _ _ c.in-None.ensures.steps.0.0 c.loop-character.invariant.1
