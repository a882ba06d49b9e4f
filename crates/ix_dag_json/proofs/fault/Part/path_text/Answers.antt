use Rattle.std.proofs.Common.{◌≡◌, [], ◌∷◌, ◌++◌, sym, ap, ◌∙◌, append_assoc, arith}
use Rattle.std.specs.Prelude.{string_bytes}
use Rattle.std.proofs.lemmas.Str.{encode_ascii}
use Rattle.ix_dag_json.specs.Reasons.{encoded_key, step_of, path_of}
use Rattle.ix_dag_json.proofs.Reasoning.{one_more, all_there}
use Rattle.ix_dag_json.proofs.fault.Part.path_text.Goals as goal
use Rattle.ix_dag_json.proofs.fault.Part.path_text.Goals.{in-Index+in_ok-write-in-Index, in-Key+in_ok-push-in-Key+in_ok-push_escaped-in-Key}

pub loop-step-preserved : goal.loop-step-preserved
loop-step-preserved c =
    let item = c.step-item.result in
    let added : string_bytes c.match-step.text ≡ string_bytes c.loop-step.text ++ step_of item =
    elim c.match-step.branch [
      | in-Index+in_ok-write-in-Index w ↦
          ap string_bytes w.text-is ∙ w.in_ok-write-in-Index.ensures.bytes ∙ ap (λ s. string_bytes c.loop-step.text ++ step_of s) (sym w.in-Index.is)
      | in-Key+in_ok-push-in-Key+in_ok-push_escaped-in-Key w ↦
          let key = w.as_slice.result.now in
          ap string_bytes w.text-is ∙ w.in_ok-push_escaped-in-Key.ensures ∙ ap (λ t. t ++ encoded_key key) (w.in_ok-push-in-Key.ensures.bytes ∙ ap (λ t. string_bytes c.loop-step.text ++ t) (encode_ascii 47 (omega arith)))
          ∙ append_assoc (string_bytes c.loop-step.text) (47 ∷ []) (encoded_key key)
          ∙ ap (λ t. string_bytes c.loop-step.text ++ t) (ap (λ k. 47 ∷ encoded_key k) w.as_slice.ensures.value ∙ ap step_of (sym w.in-Key.is))
    ] in
    one_more step_of [] _ _ c.deref-step-items.result.now c.loop-step.step-index item item c.loop-step-test.true c.step-item.is c.loop-step.invariant added

pub returns : goal.returns
returns c =
    all_there step_of [] _ c.deref-step-items.result.now c.loop-step.step-index c.loop-step-test.false c.loop-step.invariant
    ∙ ap path_of c.deref-step-items.ensures.value
