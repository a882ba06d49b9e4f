-- The worst of outcomes, and that of a file of which nothing is found.
use Rattle.std.proofs.Common.{◌≡◌, List, [], ◌∷◌, ◌++◌, refl, ◌∙◌, ap}
use Rattle.ix_verdict.specs.declared.verdict.Verdict.{Verdict}
use Rattle.ix_verify.specs.declared.found.Outcome.{Outcome}
use Rattle.ix_verify.specs.declared.found.Outcome.TheVariants.{Sound, Incomplete, Unsupported, Broken}
use Rattle.ix_verify.specs.Outcome.{outcome_on, worse, worst_of}

-- nothing is better than sound
worse-sound : (o : Outcome) → worse o Sound ≡ o
worse-sound Sound = refl
worse-sound Incomplete = refl
worse-sound Unsupported = refl
worse-sound Broken = refl

-- the worst of three does not depend on the grouping
worse-twice : (a b c : Outcome) → worse a (worse b c) ≡ worse (worse a b) c
worse-twice Sound b c = refl
worse-twice Broken b c = refl
worse-twice Incomplete Sound c = refl
worse-twice Incomplete Broken c = refl
worse-twice Incomplete Incomplete Sound = refl
worse-twice Incomplete Incomplete Incomplete = refl
worse-twice Incomplete Incomplete Unsupported = refl
worse-twice Incomplete Incomplete Broken = refl
worse-twice Incomplete Unsupported Sound = refl
worse-twice Incomplete Unsupported Incomplete = refl
worse-twice Incomplete Unsupported Unsupported = refl
worse-twice Incomplete Unsupported Broken = refl
worse-twice Unsupported Sound c = refl
worse-twice Unsupported Broken c = refl
worse-twice Unsupported Incomplete Sound = refl
worse-twice Unsupported Incomplete Incomplete = refl
worse-twice Unsupported Incomplete Unsupported = refl
worse-twice Unsupported Incomplete Broken = refl
worse-twice Unsupported Unsupported Sound = refl
worse-twice Unsupported Unsupported Incomplete = refl
worse-twice Unsupported Unsupported Unsupported = refl
worse-twice Unsupported Unsupported Broken = refl

-- one verdict more
pub worst-push : (vs : List Verdict) (v : Verdict) → worst_of (vs ++ v ∷ []) ≡ worse (worst_of vs) (outcome_on v)
worst-push [] v = worse-sound (outcome_on v)
worst-push (w ∷ vs) v = ap (worse (outcome_on w)) (worst-push vs v) ∙ worse-twice (outcome_on w) (worst_of vs) (outcome_on v)
