use Rattle.std.proofs.Common.{◌≡◌, ℕ, List, [], ◌∷◌, ◌++◌, length, drop, refl, sym, ◌∙◌, ap, append-nil, arith}
use Rattle.std.specs.Global.{Vec}
use Rattle.ix_path.specs.declared.step.PathStep.{PathStep}
use Rattle.ix_path.specs.Resolution.{segments_in}
use Rattle.ix_path.specs.Along.{path_of}
use Rattle.ix_path.specs.Steps.{resolved_path}
use Rattle.ix_path.proofs.steps.steps_along.Goals as goal

-- there are no steps without segments
no_segments : (steps : List PathStep) (segments : List (Vec ℕ)) → length segments ≡ 0 → resolved_path steps (segments_in segments) ≡ []
no_segments [] segments h = refl
no_segments (t ∷ steps) [] h = refl
no_segments (t ∷ steps) (s ∷ segments) h = absurd (omega arith)

pub returns-in_default : goal.returns-in_default
returns-in_default c =
    let front = path_of c.loop-step.path.items in
    let none = no_segments (drop c.loop-step.step-index c.args.steps.now) c.loop-step.rest.now c.in_default.ensures.cases in
    sym (append-nil front) ∙ ap (λ more. front ++ more) (sym none) ∙ c.loop-step.invariant
