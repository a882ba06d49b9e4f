use Rattle.std.proofs.Common.{◌≡◌, ◌<◌, ◌-◌, ℕ, List, length, sym, ◌∙◌, ap, subst, arith, rules}
use Rattle.std.specs.Prelude.{Result, Ok}
use Rattle.std.proofs.lemmas.Result.{err_from_is_err_and}
use Rattle.ix_path.specs.declared.error.PathError.{PathError}
use Rattle.ix_cid_text.specs.Location.{before_slash, after_slash}
use Rattle.ix_path.specs.Path.{◌>>=◌, unescaped, segments_at, segments_view}
use Rattle.ix_path.specs.Gives.{Fails}
use Rattle.ix_path.proofs.Escapes.{after_front, after_front-one, Fails-after, with_one}
use Rattle.ix_path.proofs.Pieces.{segments_at-first, after_slash-shorter, segments_view-push}
use Rattle.ix_path.proofs.path.segments_at.Goals as goal

pub returns-in_err-segment : goal.returns-in_err-segment
returns-in_err-segment c =
    let rest = c.loop-rest.rest.now in
    let end = c.args.end in
    let error = c.in_err-segment.field-0.0 in
    let some : 0 < length rest = search rules in
    let piece : c.as_bytes.result.now ≡ before_slash rest = c.as_bytes.ensures.value ∙ ap (λ (p : List ℕ × List ℕ). p.0) c.split_piece.ensures.exact in
    let failed : Fails error (unescaped (end - length rest) (before_slash rest)) =
    subst (λ (l : List ℕ). Fails error (unescaped (end - length rest) l)) piece c.in_err-segment.ensures in
    let front = segments_view c.loop-rest.segments in
    let whole = ap (after_front front) (sym (segments_at-first end rest some c.loop-rest.invariant.1)) ∙ c.loop-rest.invariant.2 in
    let p = err_from_is_err_and c.from_residual.result c.from_residual.ensures.1 in
    rw (p.1, p.2)
    (Fails-after front error (unescaped (end - length rest) (before_slash rest)) (segments_at end c.args.text.now) (λ s. with_one s (segments_at end (after_slash rest))) failed whole)

pub loop-rest-preserved : goal.loop-rest-preserved
loop-rest-preserved c =
    let rest = c.loop-rest.rest.now in
    let after = c.split_piece.result.1.now in
    let end = c.args.end in
    let segment = c.in_ok-segment.segment.items in
    let front = segments_view c.loop-rest.segments in
    let some : 0 < length rest = search rules in
    let piece : c.as_bytes.result.now ≡ before_slash rest = c.as_bytes.ensures.value ∙ ap (λ (p : List ℕ × List ℕ). p.0) c.split_piece.ensures.exact in
    let read : unescaped (end - length rest) (before_slash rest) ≡ Ok segment = ap (unescaped (end - length rest)) (sym piece) ∙ c.in_ok-segment.ensures in (
      search rules,
      omega (arith, ap length (ap (λ (p : List ℕ × List ℕ). p.1) c.split_piece.ensures.exact), after_slash-shorter rest some, c.loop-rest.invariant.1),
      ap (λ (l : List (List ℕ)). after_front l (segments_at end after)) (segments_view-push c.loop-rest.segments c.push.new.self c.in_ok-segment.segment c.in_ok-push.ensures.items)
          ∙ after_front-one front segment (segments_at end after)
          ∙ ap (λ (l : List ℕ). after_front front (with_one segment (segments_at end l))) (ap (λ (p : List ℕ × List ℕ). p.1) c.split_piece.ensures.exact)
          ∙ ap (λ (r : Result (List ℕ) PathError). after_front front (r >>= (λ s. with_one s (segments_at end (after_slash rest))))) (sym read)
          ∙ ap (after_front front) (sym (segments_at-first end rest some c.loop-rest.invariant.1))
          ∙ c.loop-rest.invariant.2,
    )
