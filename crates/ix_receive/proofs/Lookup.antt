-- The block of a CID among the pairs of some CIDs.
use Rattle.std.proofs.Common.{◌≡◌, inl, inr, ℕ, Bool, true, false, List, [], ◌∷◌, ◌++◌, flat_map, sym, refl, ap, ◌∙◌}
use Rattle.std.specs.Prelude.{Option, Some, None, is_some, if◌then◌else◌, bytes_eq}
use Rattle.std.proofs.lemmas.Slice.Eq.{bytes_eq-Decides}
use Rattle.ix_store.specs.Store.{Blocks, block_of}
use Rattle.ix_car.specs.Restoring.{pair_with}
use Rattle.ix_car.proofs.Restored.{pair-other}
use Rattle.ix_walk.proofs.Firsts.{In}

-- the pair of a CID in a store, if it has a block
abbrev pub pair_in : Blocks → List ℕ → Blocks
pair_in store c = pair_with c (block_of store c)

-- the pair of the same CID is found, if there is one
pair-here : (c : List ℕ) (o : Option (List ℕ)) (ps : Blocks) → is_some o ≡ true → block_of (pair_with c o ++ ps) c ≡ o
pair-here c None ps h = absurd (cc h)
pair-here c (Some x) ps h = ap (λ v. if v then Some x else block_of ps c) ((bytes_eq-Decides c c).1 refl)

-- a CID that is among these has its block there
pub pair-found : (store : Blocks) (c : List ℕ) → is_some (block_of store c) ≡ true → (cs : List (List ℕ)) → In c cs → block_of (flat_map (pair_in store) cs) c ≡ block_of store c
pair-found store c there [] h = absurd h
pair-found store c there (d ∷ ds) h = by (pair-found store c there ds) (bytes_eq d c) refl h where
  by : (In c ds → block_of (flat_map (pair_in store) ds) c ≡ block_of store c) → (v : Bool) → bytes_eq d c ≡ v → In c (d ∷ ds) → block_of (flat_map (pair_in store) (d ∷ ds)) c ≡ block_of store c
  by later true is i =
      ap (λ e. block_of (pair_with e (block_of store e) ++ flat_map (pair_in store) ds) c) ((bytes_eq-Decides d c).0 is)
      ∙ pair-here c (block_of store c) (flat_map (pair_in store) ds) there
  by later false isnt (inl e) = absurd (let is = (bytes_eq-Decides d c).1 e in let bad : true ≡ false = sym is ∙ isnt in cc bad)
  by later false isnt (inr i) = pair-other c d (block_of store d) (flat_map (pair_in store) ds) isnt ∙ later i

-- one that isn't among them has none
pub pair-absent : (store : Blocks) (c : List ℕ) (cs : List (List ℕ)) → (In c cs → ⊥) → block_of (flat_map (pair_in store) cs) c ≡ None
pair-absent store c [] new = refl
pair-absent store c (d ∷ ds) new = by (bytes_eq d c) refl (pair-absent store c ds (λ i. new (inr i))) where
  by : (v : Bool) → bytes_eq d c ≡ v → block_of (flat_map (pair_in store) ds) c ≡ None → block_of (flat_map (pair_in store) (d ∷ ds)) c ≡ None
  by true is later = absurd (new (inl ((bytes_eq-Decides d c).0 is)))
  by false isnt later = pair-other c d (block_of store d) (flat_map (pair_in store) ds) isnt ∙ later
