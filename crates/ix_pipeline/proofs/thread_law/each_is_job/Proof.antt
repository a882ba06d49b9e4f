-- A `&` to jobs owns, beside the place of each, that it keeps what every `Job` keeps: a walk of the empty body, by hand.
use Rattle.std.proofs.Common.{[], ◌∷◌, refl}
use Rattle.std.proofs.raw_atomic.Walks.{proved}
use Rattle.std.proofs.lemmas.List.Elements.{All-weaker}
use base.Fml.{flft, ftrue}
use mir.Syntax.{named}
use mir.Val.{vunit}
use contract.Monad.{fact}
use types.Kit.{‵, raw, ◌⊛◌, ◌$◌, ◌∵◌, !, qed, done, move, keep, use1, split, join, feq_i, suffices}
use types.Run.{enter, of_opd, unit_lit, returns}
use types.ByLocal.{alloc_all, pass_all, free_all, look_at, sets}
use denote.Builtin.{SliceRefOf}
use denote.Exit.{yes}
use denote.Known.{shr_slice_known}
use denote.Signature.{plain}
use denote.Slice.{ShrSlice, shr_slice_vals, shr_slice_Tells, shr_slice_Lawful}
use denote.Steps.{nothing, heard}
use denote.Triple.Walked.{Stays, walk_of, says, stay_dropped, Goes-dropped, ends_at}
use Rattle.ix_walk.specs.JobMeaning.{IsJob}
use Rattle.ix_walk.specs.contracts.job.Job.{the_row as R}
use Rattle.ix_pipeline.proofs.JobsKnown.{job_known, is_job}
use Rattle.ix_pipeline.specs.contracts.thread_law.each_is_job as f
use Rattle.ix_pipeline.proofs.thread_law.each_is_job.Statement.{statement}
use Rattle.ix_pipeline.proofs.thread_law.each_is_job.Code as code

abbrev stayed : Stays f.ended.signature.params f.ended.kept
stayed = (stay_dropped _ yes, tt)

pub each_is_job_spec : {M : Type 1} → statement M
each_is_job_spec {M = M} 𝓤 𝓛 𝓜 𝓡 wired =
    let c = f.clauses 𝓛 𝓜.mem 𝓡.returns in let W = walk_of 𝓛 f.ended stayed c in
    proved 𝓛 f.ended stayed c 𝓜 𝓡 (Goes-dropped 𝓛 1 (SliceRefOf (0 ∷ []) tt (plain (λ _. R)) (λ κs. tt)) yes (λ κs x w. refl), tt)
    f.Key.name code.function (code.unfolded 𝓤 𝓛.H 𝓜 𝓡 wired)
    (λ κs. (shr_slice_vals, tt)) (λ κs. (shr_slice_Tells (named 0) κs.0 R, tt)) (λ κs qs bounds a n are.
    let jobs = a.0 in let vs = shr_slice_vals jobs in
    let y : W.Ghost = ((κs, qs, bounds, a, (vs, tt)), tt) in
    let known = shr_slice_known R job_known (named 0) κs.0 in
    let S = ShrSlice (named 0) κs.0 R in
    qed 𝓛 (((‵ (flft κs.0 qs.0) ⊛ ‵ ftrue) ⊛ ‵ (S.own_val jobs vs) ⊛ ‵ ftrue) ∷ ‵ ftrue ∷ []) ∵
    split ! $ split ! $ move ! (2 ∷ []) $ split ! $ keep ! (0 ∷ 2 ∷ []) $
    use1 𝓛 (raw (fact 𝓤 (known.Fact jobs))) ((known.owned jobs vs).go M 𝓤 𝓛) $ heard ! _ (λ told.
    enter ! _ _ _ _ _ $ alloc_all ! (λ l. pass_all ! refl ((shr_slice_Lawful 𝓛 (named 0) κs.0 R).typed jobs vs are.0) $
    sets ! (of_opd ! (unit_lit !)) refl (tt, tt) $ returns ! (look_at ! 0 refl) $ free_all ! refl $
    suffices ! _ (ends_at 𝓛 f.ended stayed c y vunit tt (tt, tt) (tt, tt)) $ says ! (All-weaker job_known.Fact IsJob is_job jobs.now told) $
    feq_i ! _ (vunit ∷ []) _ refl $ nothing ! $ nothing ! $ join ! $ nothing ! $ move ! (3 ∷ 0 ∷ []) $ join ! $ done !)))
