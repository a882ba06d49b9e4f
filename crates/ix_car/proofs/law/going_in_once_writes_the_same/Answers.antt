use Rattle.std.proofs.Common.{sym, ◌∙◌, ap}
use Rattle.ix_selector.specs.Behind.{residual_at, same_residual}
use Rattle.ix_car.specs.Archive.{archive_with}
use Rattle.ix_car.proofs.SoundValues.{passing-sound}
use Rattle.ix_car.proofs.KeptOnce.{once-kept}
use Rattle.ix_car.proofs.GoingOnce.{told-all, once-limited, once-within, once-whole, once-ended, once-begun, once-sections}
use Rattle.ix_car.proofs.law.going_in_once_writes_the_same.Goals as goal

pub returns-clause-sound : goal.returns-clause-sound
returns-clause-sound c = passing-sound

pub returns-clause-uncut : goal.returns-clause-uncut
returns-clause-uncut c store number job m = once-kept (residual_at job.selector) same_residual store number job m

pub returns-clause-limit : goal.returns-clause-limit
returns-clause-limit c store job within = once-within (residual_at job.selector) same_residual store 0 job within

pub returns-clause-whole : goal.returns-clause-whole
returns-clause-whole c store number job is within =
    let short = once-limited (residual_at job.selector) same_residual store number job (once-within (residual_at job.selector) same_residual store 0 job within) in
    sym (ap (archive_with store job.roots) (told-all (residual_at job.selector) same_residual store number job short))
    ∙ once-whole (residual_at job.selector) same_residual store number job (λ p q. c.residual_is_the_rest.ensures.same job.selector p q is) within

pub returns-clause-ends : goal.returns-clause-ends
returns-clause-ends c store number job n is ends within =
    let short = once-limited (residual_at job.selector) same_residual store number job within in
    sym (ap (archive_with store job.roots) (told-all (residual_at job.selector) same_residual store number job short))
    ∙ once-ended (residual_at job.selector) same_residual store number job (λ p q. c.residual_is_the_rest.ensures.same job.selector p q is) n ends within

pub returns-clause-beginning : goal.returns-clause-beginning
returns-clause-beginning c store number job n is ends m =
    once-begun (residual_at job.selector) same_residual store number job (λ p q. c.residual_is_the_rest.ensures.same job.selector p q is) n ends m

pub returns-clause-sections : goal.returns-clause-sections
returns-clause-sections c store number job is within =
    once-sections (residual_at job.selector) same_residual store number job (λ p q. c.residual_is_the_rest.ensures.same job.selector p q is) within
