-- `into_raw_parts` keeps the pointer, and what it owned, where something is held.
use Rattle.std.proofs.Common.{◌≡◌, List, [], ◌∷◌, ◌++◌, refl, sym, ap, ◌∙◌, subst}
use Rattle.std.specs.Prelude.{Some, true, is_some}
use mir.Val.{Val, vptr}
use base.Logic.{SProp, ent, emp, id⊢}
use base.Fml.{ftrue}
use prog.Wp.{WpFn}
use types.Kit.{‵, raw, ◌⊛◌, ◌$◌, ◌∵◌, !, qed, by, keep, drop, move, split, fjoin, suffices, use0}
use types.Run.{of_opd, fld, stop, no_more, and_then, enter, returns}
use types.ByLocal.{alloc_all, pass_all, free_all, look_at, get, get_in, sets}
use types.Part.{agg, sub, whole}
use contract.Monad.{fact, fact_i}
use contract.Running.{tables}
use denote.Exit.{yes}
use denote.Signature.{plain}
use denote.RawPtr.{Ptr, block_ptr, ptr_val}
use denote.Steps.{nothing, heard}
use denote.Triple.Walked.{Stays, stay_dropped, Goes-dropped, walk_of}
use Rattle.std.proofs.raw_atomic.Walks.{proved_at, leaves}
use Rattle.std_heap.proofs.Handle.{heap_val}
use Rattle.ix_capi.proofs.Values.{both}
use Rattle.ix_capi.proofs.Pointing.{RawBox, Global, one, pointed_out, some_out, global_out, loose_in}
use Rattle.ix_capi.specs.contracts.raw_box.RawBox.into_raw_parts as f
use Rattle.ix_capi.proofs.raw_box.RawBox.into_raw_parts.Statement.{statement}
use Rattle.ix_capi.proofs.raw_box.RawBox.into_raw_parts.Code as code

abbrev stayed : Stays f.ended.signature.params f.ended.kept
stayed = (stay_dropped (plain (λ _. RawBox)) yes, (stay_dropped (plain (λ _. Global)) yes, tt))

pub into_raw_parts_spec : {M : Type 1} → statement M
into_raw_parts_spec 𝓤 𝓛 𝓜 𝓡 wired =
    let H = 𝓛.H in let c = f.clauses 𝓛 𝓜.mem 𝓡.returns in let W = walk_of 𝓛 f.ended stayed c in let 𝓣 = tables 𝓤 H 𝓜 𝓡 𝓡.env in
    proved_at 𝓛 f.ended stayed c 𝓜 𝓡 (Goes-dropped 𝓛 0 (plain (λ _. RawBox)) yes (λ κs x w. refl), (Goes-dropped 𝓛 0 (plain (λ _. Global)) yes (λ κs x w. refl), tt)) f.Key.name code.function (code.unfolded 𝓤 H 𝓜 𝓡 wired) (λ z are.
    let d = z.0.3.0 in let a = z.0.3.1.0 in let Run : List Val → SProp 𝓤 = λ ws. WpFn 𝓤 H 𝓣.C 𝓣.Λ code.function ws (W.post z) in
    qed 𝓛 ((‵ ftrue ⊛ ‵ (RawBox.own_val d z.0.4.0) ⊛ ‵ (Global.own_val a z.0.4.1.0) ⊛ ‵ ftrue) ∷ raw (fact 𝓤 (is_some d.value ≡ true)) ∷ []) ∵ split ! $ drop ! $ move ! (1 ∷ []) $ heard ! (is_some d.value ≡ true) (λ there. split ! $ move ! (1 ∷ []) $ split ! $
    global_out ! a z.0.4.1.0 (λ us. move ! (2 ∷ []) $
    pointed_out ! d z.0.4.0 (λ ws. some_out ! d.at d.value there (λ b o x e same. keep ! (0 ∷ 1 ∷ []) $ let w : Val = one (vptr b o) in let v : Val = both (vptr b o) heap_val in
    let given : List Val = w ∷ heap_val ∷ [] in let told : z.0.4.0 ≡ w ∷ [] = ws ∙ ap (λ (p : Ptr). one (ptr_val p) ∷ []) e in
    suffices ! (Run given) (subst (λ (vs : List Val). ent 𝓤 (Run given) (Run vs)) (sym (λ i. told i ++ (us i ++ []))) (id⊢ 𝓤 (Run given))) $
    enter ! 𝓣.C 𝓣.Λ code.function given (W.post z) $ alloc_all ! (λ l. pass_all ! refl ((tt, (tt, tt)), ((tt, (((tt, tt), tt))), tt)) $
    sets ! (of_opd ! (get_in ! (fld ! refl (stop !)) (sub ! 0 refl (whole !)))) refl (tt, tt) $
    sets ! (of_opd ! (get ! refl)) refl (tt, tt) $
    sets ! (agg ! (and_then ! (get ! refl) (and_then ! (get ! refl) (no_more !)))) refl (tt, (tt, (((tt, tt), tt), tt))) $
    loose_in ! b o a x $ use0 𝓛 (raw (fact 𝓤 (Some x ≡ d.value))) (fact_i 𝓤 (Some x ≡ d.value) (emp 𝓤) same) $ nothing ! $ nothing ! $ fjoin ! $ nothing ! $ fjoin ! $ nothing ! $
    returns ! (look_at ! 0 refl) $ free_all ! refl $ keep ! (0 ∷ 1 ∷ 3 ∷ 2 ∷ []) $ by ! (leaves 𝓛 f.ended stayed c z v (record { at = block_ptr b o; alloc = a; value = x }) (tt, (tt, tt)) (tt, (tt, tt)))))))))
