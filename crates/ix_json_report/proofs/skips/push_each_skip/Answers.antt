use Rattle.std.proofs.Common.{◌≡◌, ℕ, suc, ◌+◌, List, [], ◌∷◌, ◌++◌, length, take, sym, ◌∙◌, ap, append_assoc, arith}
use Rattle.std.specs.Prelude.{Option, option_map}
use Rattle.std.proofs.Math.Seq.{take-suc}
use Rattle.std.proofs.lemmas.List.{length-take}
use Rattle.ix_json_report.specs.Objects.{path_at, cause_view, detail_at}
use Rattle.ix_json_report.specs.Tokens.{skip_tokens, all_skips_tokens}
use Rattle.ix_json_report.proofs.Objects.{skips-more}
use Rattle.ix_json_report.proofs.skips.push_each_skip.Goals as goal

pub loop-number-preserved : goal.loop-number-preserved
loop-number-preserved c =
    let skips = c.args.skips.now in
    let notes = c.args.notes in
    let i = c.loop-number.number in
    let s = c.index-skips-number.result in
    let lt = c.loop-number-test.true in
    let taken : take (i + 1) skips ≡ take i skips ++ s ∷ [] = let n : i + 1 ≡ suc i = omega arith in ap (λ m. take m skips) n ∙ take-suc skips i s lt ∙ ap (λ x. take i skips ++ x ∷ []) (sym c.index-skips-number.is) in
    let size : 0 + length (take i skips) ≡ i = let l = length-take i skips in omega (arith, l, lt) in
    record {
      pushed =
          c.in_ok-push_skip.ensures.0
          ∙ ap (λ p. c.loop-number.out.tokens ++ skip_tokens s p) (ap (λ (p : Option (List ℕ)). (p, option_map cause_view c.cause_at.result)) c.path_at-path.ensures ∙ ap (λ (q : Option (List ℕ × ℕ)). (path_at notes.paths.now i, q)) c.cause_at.ensures)
          ∙ ap (λ l. l ++ skip_tokens s (detail_at notes i)) c.loop-number.invariant.pushed
          ∙ append_assoc c.args.out.now.tokens (all_skips_tokens notes 0 (take i skips)) (skip_tokens s (detail_at notes i))
          ∙ ap (λ l. c.args.out.now.tokens ++ l)
          (ap (λ m. all_skips_tokens notes 0 (take i skips) ++ skip_tokens s (detail_at notes m)) (sym size) ∙ sym (skips-more notes 0 (take i skips) s) ∙ ap (all_skips_tokens notes 0) (sym taken));
      before = c.push_skip.ensures.1 ∙ c.loop-number.invariant.before;
    }
