-- `of` keeps the pointer, and what it owned.
use Rattle.std.proofs.Common.{◌≡◌, List, [], ◌∷◌, ◌++◌, refl, sym, subst}
use Rattle.std.specs.Prelude.{Some}
use mir.Val.{Val, vptr}
use base.Logic.{SProp, ent, emp, id⊢}
use base.Fml.{ftrue}
use prog.Wp.{WpFn}
use types.Kit.{‵, raw, ◌⊛◌, ◌$◌, ◌∵◌, !, qed, by, keep, drop, split, fjoin, suffices, use0}
use types.Run.{of_opd, fld, stop, no_more, and_then, enter, returns}
use types.ByLocal.{alloc_all, pass_all, free_all, look_at, get, get_in, sets}
use types.Part.{agg, sub, whole}
use contract.Monad.{fact, fact_i}
use contract.Running.{tables}
use denote.Exit.{yes}
use denote.Signature.{plain}
use denote.RawPtr.{block_ptr}
use denote.Steps.{nothing}
use denote.Triple.Walked.{Stays, stay_dropped, Goes-dropped, walk_of}
use Rattle.std.proofs.raw_atomic.Walks.{proved_at, leaves}
use Rattle.std_heap.proofs.Handle.{heap_val}
use Rattle.ix_capi.proofs.Values.{both}
use Rattle.ix_capi.proofs.Pointing.{RawParts, one, pointed_in, loose_out}
use Rattle.ix_capi.specs.contracts.raw_box.RawBox.of as f
use Rattle.ix_capi.proofs.raw_box.RawBox.of.Statement.{statement}
use Rattle.ix_capi.proofs.raw_box.RawBox.of.Code as code

abbrev stayed : Stays f.ended.signature.params f.ended.kept
stayed = (stay_dropped (plain (λ _. RawParts)) yes, tt)

pub of_spec : {M : Type 1} → statement M
of_spec 𝓤 𝓛 𝓜 𝓡 wired =
    let H = 𝓛.H in let c = f.clauses 𝓛 𝓜.mem 𝓡.returns in let W = walk_of 𝓛 f.ended stayed c in let 𝓣 = tables 𝓤 H 𝓜 𝓡 𝓡.env in
    proved_at 𝓛 f.ended stayed c 𝓜 𝓡 (Goes-dropped 𝓛 0 (plain (λ _. RawParts)) yes (λ κs x w. refl), tt) f.Key.name code.function (code.unfolded 𝓤 H 𝓜 𝓡 wired) (λ z are.
    let d = z.0.3.0 in let Run : List Val → SProp 𝓤 = λ ws. WpFn 𝓤 H 𝓣.C 𝓣.Λ code.function ws (W.post z) in
    qed 𝓛 ((‵ ftrue ⊛ ‵ (RawParts.own_val d z.0.4.0) ⊛ ‵ ftrue) ∷ ‵ ftrue ∷ []) ∵ split ! $ drop ! $ split ! $
    loose_out ! d z.0.4.0 (λ b o e ws. keep ! (0 ∷ []) $ let v : Val = one (vptr b o) in
    suffices ! (Run (both (vptr b o) heap_val ∷ [])) (subst (λ (us : List Val). ent 𝓤 (Run (both (vptr b o) heap_val ∷ [])) (Run us)) (sym (λ i. ws i ++ [])) (id⊢ 𝓤 (Run (both (vptr b o) heap_val ∷ [])))) $
    enter ! 𝓣.C 𝓣.Λ code.function (both (vptr b o) heap_val ∷ []) (W.post z) $ alloc_all ! (λ l. pass_all ! refl ((tt, (tt, (((tt, tt), tt), tt))), tt) $
    sets ! (of_opd ! (get_in ! (fld ! refl (stop !)) (sub ! 0 refl (whole !)))) refl (tt, tt) $
    sets ! (of_opd ! (get ! refl)) refl (tt, tt) $
    sets ! (agg ! (and_then ! (get ! refl) (no_more !))) refl (tt, (tt, tt)) $
    pointed_in ! (block_ptr b o) (Some d.value) $ use0 𝓛 (raw (fact 𝓤 (Some d.value ≡ Some d.value))) (fact_i 𝓤 (Some d.value ≡ Some d.value) (emp 𝓤) refl) $ nothing ! $ nothing ! $ fjoin ! $ nothing ! $
    returns ! (look_at ! 0 refl) $ free_all ! refl $ keep ! (0 ∷ 1 ∷ 3 ∷ 2 ∷ []) $ by ! (leaves 𝓛 f.ended stayed c z v (record { at = block_ptr b o; value = Some d.value }) (tt, tt) (tt, tt)))))
