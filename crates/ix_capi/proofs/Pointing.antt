-- The machine values of a `RawBox`, and of a `RawParts` of what it holds. Assumes `Logic`.
use Rattle.std.proofs.Common.{◌≡◌, ℕ, List, [], ◌∷◌, ◌++◌, refl, subst}
use Rattle.std.specs.Prelude.{Option, Some, None, true, is_some}
use seplogic.Ra.Ura.{Ura}
use mir.Raw.{raw as bare}
use mir.Val.{Val, vptr, vstruct, vcons, vnil, of_list}
use base.Logic.{never, fst∗}
use types.Logic.{Logic, sem}
use types.Kit.{Item, Goal, Seq, Step, step, ‵, ◌$◌, move, drop, fsplit, fjoin, fpick, fpack, rewrite, feq_i, feq_l}
use denote.RattleType.{RattleType, Valss}
use denote.Builtin.{RawPtr}
use denote.Laws.{Is, shows}
use denote.Memory.{lone}
use denote.RawPtr.{Ptr, block_ptr, null_ptr, ptr_val, in_a_block}
use denote.Steps.{nothing, peeks}
use denote.Struct.Struct.{within}
use denote.Struct.Owning.{shape}
use Rattle.std_heap.specs.contracts.Global as global
use Rattle.std_heap.specs.contracts.GlobalAllocator.TheImpl as heap
use Rattle.std_heap.proofs.Handle.{heap_val, heap_Tells}
use Rattle.std_alloc.specs.Box.Ownership.{box_owns}
use Rattle.std.proofs.lemmas.Bool.{false≢true}
use Rattle.ix_capi.specs.Holding.{held, may_free}
use Rattle.ix_api.specs.contracts.object.Object as what
use Rattle.ix_capi.specs.contracts.raw_box.RawBox as pointed
use Rattle.ix_capi.specs.contracts.into_raw.RawParts as loose
use Rattle.ix_capi.proofs.Values.{both}

abbrev pub Object : RattleType
Object = what.the_row

abbrev pub Global : RattleType
Global = global.the_row

abbrev pub RawBox : RattleType
RawBox = pointed.the_row

abbrev pub RawParts : RattleType
RawParts = loose.the_row Object Global heap.ghosts

-- the machine value of a `RawBox` at this pointer
abbrev pub one : Val → Val
one v = vstruct (vcons v vnil)

module _ {M : Type 1} {𝓤 : Ura M} {𝓛 : Logic 𝓤} {K : Type 0} {Γ : List (Item 𝓤)} {G : Goal 𝓤 𝓛.H} where
  -- how a pointer that may be empty is read from memory
  pub pointed_in : K → (p : Ptr) (x : Option (Object.Denot))
      → Step K 𝓛 (‵ (RawBox.own_val (record { at = p; value = x }) (one (ptr_val p) ∷ [])) ∷ Γ) G (‵ (held Object p x) ∷ Γ) G
  pointed_in t p x = step (λ s. let v : Val = one (ptr_val p) in
      nothing t $ feq_i t (List Val) (ptr_val p ∷ []) (ptr_val p ∷ []) refl $ fjoin t $ feq_i t (List Val) (v ∷ []) (v ∷ []) refl $ fjoin t $
      fpack t (Valss (RawPtr ∷ [])) (within (shape pointed.the_type) (p, tt) (v ∷ [])) (ptr_val p ∷ [], tt) $ fjoin t $ s)

  -- how a pointer that may be empty is written to memory
  pub pointed_out : K → (d : RawBox.Denot) (vs : List Val)
      → (vs ≡ one (ptr_val d.at) ∷ [] → Seq K 𝓛 (‵ (held Object d.at d.value) ∷ Γ) G)
      → Seq K 𝓛 (‵ (RawBox.own_val d vs) ∷ Γ) G
  pointed_out t d vs k =
      fsplit t $ fpick t (λ vss. fsplit t $ feq_l t (λ ev. fsplit t $ feq_l t (λ ep. drop t $
      k (subst (λ (ps : List Val). vs ≡ vstruct (of_list (ps ++ [])) ∷ []) ep ev))))

  -- how a box is read as its raw pointer
  pub loose_in : K → (b o : ℕ) (a : Global.Denot) (x : Object.Denot)
      → Step K 𝓛 (‵ (RawParts.own_val (record { at = block_ptr b o; alloc = a; value = x }) (both (vptr b o) heap_val ∷ [])) ∷ Γ) G (‵ (box_owns may_free Object (block_ptr b o) x) ∷ ‵ (Global.own_val a (heap_val ∷ [])) ∷ Γ) G
  loose_in t b o a x = step (λ s. let v : Val = both (vptr b o) heap_val in
      nothing t $ move t (2 ∷ 0 ∷ []) $ fjoin t $ feq_i t (List Val) (vptr b o ∷ []) (vptr b o ∷ []) refl $ fjoin t $ feq_i t (List Val) (v ∷ []) (v ∷ []) refl $ fjoin t $
      fpack t (Valss (RawPtr ∷ Global ∷ [])) (within (shape (loose.the_type Object Global heap.ghosts)) (block_ptr b o, (a, tt)) (v ∷ [])) (vptr b o ∷ [], (heap_val ∷ [], tt)) $ fjoin t $ s)

  -- how a raw pointer is written
  pub loose_out : K → (d : RawParts.Denot) (vs : List Val)
      → ((b o : ℕ) → d.at ≡ block_ptr b o → vs ≡ both (vptr b o) heap_val ∷ [] → Seq K 𝓛 (‵ (box_owns may_free Object (block_ptr b o) d.value) ∷ Γ) G)
      → Seq K 𝓛 (‵ (RawParts.own_val d vs) ∷ Γ) G
  loose_out t d vs k =
      fsplit t $ fpick t (λ vss. fsplit t $ feq_l t (λ ev. fsplit t $ feq_l t (λ ep. fsplit t $ peeks t Global (Is Global) (shows 𝓛 Global) d.alloc vss.1.0 (λ is. drop t $ drop t $
      in_a_block t d.at (λ p. box_owns may_free Object p d.value) (fst∗ 𝓤 (never 𝓤) (sem 𝓛 (may_free (bare (lone Object.mir)) null_ptr))) (λ b o e. k b o e
      (subst (λ (p : Ptr). vs ≡ vstruct (of_list (ptr_val p ∷ heap_val ∷ [])) ∷ []) e
      (subst (λ (ws : List Val). vs ≡ vstruct (of_list (ptr_val d.at ∷ (ws ++ []))) ∷ []) (heap_Tells d.alloc vss.1.0 is) (subst (λ (ps : List Val). vs ≡ vstruct (of_list (ps ++ (vss.1.0 ++ []))) ∷ []) ep ev))))))))

  -- what is held lies in a block
  pub some_out : K → (p : Ptr) (y : Option (Object.Denot)) → is_some y ≡ true
      → ((b o : ℕ) (x : Object.Denot) → p ≡ block_ptr b o → Some x ≡ y → Seq K 𝓛 (‵ (box_owns may_free Object (block_ptr b o) x) ∷ Γ) G)
      → Seq K 𝓛 (‵ (held Object p y) ∷ Γ) G
  some_out t p None there k = absurd (false≢true there)
  some_out t p (Some x) there k = in_a_block t p (λ p'. box_owns may_free Object p' x) (fst∗ 𝓤 (never 𝓤) (sem 𝓛 (may_free (bare (lone Object.mir)) null_ptr))) (λ b o e. k b o x e refl)

  -- the allocator is one machine value
  pub global_out : K → (a : Global.Denot) (us : List Val) → (us ≡ heap_val ∷ [] → Seq K 𝓛 (‵ (Global.own_val a (heap_val ∷ [])) ∷ Γ) G) → Seq K 𝓛 (‵ (Global.own_val a us) ∷ Γ) G
  global_out t a us k = peeks t Global (Is Global) (shows 𝓛 Global) a us (λ is. let e = heap_Tells a us is in rewrite t 0 (λ (vs : List Val). ‵ (Global.own_val a vs)) e refl $ k e)
