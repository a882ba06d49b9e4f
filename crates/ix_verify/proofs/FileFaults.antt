-- The faults of a file's sections and of the blocks of it and others, and these blocks.
use Rattle.std.proofs.Common.{◌≡◌, ℕ, List, ◌∷◌, [], ◌++◌, ◌∙◌, sym, ap, subst}
use Rattle.std.specs.Prelude.{Bool, Result, Ok, Err}
use Rattle.ix_store.specs.Store.{Blocks}
use Rattle.ix_store.specs.Sound.{sound_copies, later_count}
use Rattle.ix_sections.specs.declared.fault.CarFault.{CarFault}
use Rattle.ix_sections.specs.Reading.{Fault, blocks_after}
use Rattle.ix_sections.specs.Copies.{copies_of, with_copies}
use Rattle.ix_sections.specs.Gives.{IsFaultOf}
use Rattle.ix_sections.specs.Sections.{SectionMeaning, section_list, with_sections, with_first_of_each}
use Rattle.ix_car.specs.declared.archive.Skip.{Skip}
use Rattle.ix_sections.proofs.Sections.{FailsAs-along}
use Rattle.ix_sections.proofs.SectionLists.{blocks-after_sections}
use Rattle.ix_verify.specs.declared.noted.Noted.{Noted}
use Rattle.ix_verdict.specs.declared.allow_missing.AllowMissing.{AllowMissing}
use Rattle.ix_sections.specs.declared.files.loader.Copies.{Copies}
use Rattle.ix_sections.specs.declared.files.loader.Copies.TheVariants.{First, Sound}
use Rattle.ix_verify.specs.Beside.{sections_read, IsRead, blocks_beside, with_copies_in}
use Rattle.ix_verify.specs.Found.{with_files, copies_in, store_of, later_of, IsReached}
use Rattle.ix_verify.proofs.EndToEnd.{copies-end}

-- two results that are equal have equal values
one_value : {A : Type 0} (x y : A) → ◌≡◌ {A = Result A Fault} (Ok x) (Ok y) → x ≡ y
one_value x y h = cc

-- the store of a loader with the blocks of a file that was read
pub more-blocks : (store more : Blocks) (b : List ℕ) → IsRead (section_list b) → blocks_after store b ≡ Ok more → more ≡ with_sections store (sections_read (section_list b))
more-blocks store more b read added =
    one_value more (with_sections store (sections_read (section_list b))) (sym added ∙ blocks-after_sections store b ∙ ap (with_first_of_each store) read)

-- the copies of a loader with those in a file that was read
pub more-copies : (copies more : Blocks) (b : List ℕ) → IsRead (section_list b) → with_copies copies (section_list b) ≡ Ok more → more ≡ copies ++ copies_of (sections_read (section_list b))
more-copies copies more b read added =
    one_value more (copies ++ copies_of (sections_read (section_list b))) (sym added ∙ ap (with_copies copies) read)

module _ (others : List (List SectionMeaning)) where
  -- the blocks of a file and of others, by those of the file
  blocks-of-first : (r : Result (List SectionMeaning) Fault) (first : Blocks) → with_first_of_each [] r ≡ Ok first → blocks_beside First others r ≡ Ok (with_files first others, 0)
  blocks-of-first (Ok sections) first h = ap (λ (s : Blocks). Ok (with_files s others, 0)) (one_value (with_sections [] sections) first h)
  blocks-of-first (Err e) first h = absurd cc

  -- the store of a loader that read them one after the other
  pub blocks-loaded : (b : List ℕ) (empty first store : Blocks) → empty ≡ [] → blocks_after empty b ≡ Ok first → store ≡ with_files first others → blocks_beside First others (section_list b) ≡ Ok (store, 0)
  blocks-loaded b empty first store none read more =
      blocks-of-first (section_list b) first (sym (blocks-after_sections [] b) ∙ ap (λ (s : Blocks). blocks_after s b) (sym none) ∙ read) ∙ ap (λ (s : Blocks). Ok (s, 0)) (sym more)

  -- the copies in a file and in others, by those in the file
  copies-of-first : (r : Result (List SectionMeaning) Fault) (first : Blocks) → with_copies [] r ≡ Ok first
      → blocks_beside Sound others r ≡ Ok (sound_copies (with_copies_in first others), later_count (with_copies_in first others))
  copies-of-first (Ok sections) first h =
      let all : copies_in (sections ∷ others) ≡ with_copies_in first others =
      sym (copies-end [] (sections ∷ others)) ∙ ap (λ (c : Blocks). with_copies_in c others) (one_value (copies_of sections) first h) in
      ap (λ (c : Blocks). Ok (sound_copies c, later_count c)) all
  copies-of-first (Err e) first h = absurd cc

  -- the store of a loader of copies that read them one after the other
  pub copies-loaded : (b : List ℕ) (empty first store : Blocks) (later : ℕ) → empty ≡ [] → with_copies empty (section_list b) ≡ Ok first → store ≡ sound_copies (with_copies_in first others) → later ≡ later_count (with_copies_in first others)
      → blocks_beside Sound others (section_list b) ≡ Ok (store, later)
  copies-loaded b empty first store later none read stored counted =
      copies-of-first (section_list b) first (ap (λ (c : Blocks). with_copies c (section_list b)) (sym none) ∙ read)
      ∙ ap (λ (s : Blocks). Ok (s, later_count (with_copies_in first others))) (sym stored)
      ∙ ap (λ (n : ℕ). Ok (store, n)) (sym counted)

  -- a fault of the file's blocks is one of theirs
  first_fault : (r : Result (List SectionMeaning) Fault) (f : Fault) → with_first_of_each [] r ≡ Err f → blocks_beside First others r ≡ Err f
  first_fault (Ok sections) f h = absurd cc
  first_fault (Err e) f h = cc

  -- and one of its copies too
  copies_fault : (r : Result (List SectionMeaning) Fault) (f : Fault) → with_copies [] r ≡ Err f → blocks_beside Sound others r ≡ Err f
  copies_fault (Ok sections) f h = absurd cc
  copies_fault (Err e) f h = cc

  -- and one of its sections
  same_fault : (copies : Copies) (r : Result (List SectionMeaning) Fault) (f : Fault) → blocks_beside copies others r ≡ Err f → r ≡ Err f
  same_fault copies (Ok sections) f h = absurd cc
  same_fault copies (Err e) f h = cc

  pub first-fault-along : (b : List ℕ) (e : CarFault) (empty : Blocks) → empty ≡ [] → IsFaultOf b e (blocks_after empty b) → IsFaultOf b e (blocks_beside First others (section_list b))
  first-fault-along b e empty none h = (
    h.0,
    FailsAs-along e.kind _ (blocks_after empty b) (blocks_beside First others (section_list b))
        (λ f is. first_fault (section_list b) f (sym (blocks-after_sections [] b) ∙ ap (λ (s : Blocks). blocks_after s b) (sym none) ∙ is)) h.1,
  )

  pub copies-fault-along : (b : List ℕ) (e : CarFault) (empty : Blocks) → empty ≡ [] → IsFaultOf b e (with_copies empty (section_list b)) → IsFaultOf b e (blocks_beside Sound others (section_list b))
  copies-fault-along b e empty none h = (
    h.0,
    FailsAs-along e.kind _ (with_copies empty (section_list b)) (blocks_beside Sound others (section_list b))
        (λ f is. copies_fault (section_list b) f (ap (λ (c : Blocks). with_copies c (section_list b)) (sym none) ∙ is)) h.1,
  )

  pub fault-along : (copies : Copies) (b : List ℕ) (e : CarFault) → IsFaultOf b e (blocks_beside copies others (section_list b)) → IsFaultOf b e (section_list b)
  fault-along copies b e h = (h.0, FailsAs-along e.kind _ (blocks_beside copies others (section_list b)) (section_list b) (λ f is. same_fault copies (section_list b) f is) h.1)

  -- the store that was read of a file and of others, and how many of its blocks are a later copy
  pub loaded-is : (copies : Copies) (b : List ℕ) (store : Blocks) (later : ℕ) (sections : List SectionMeaning) → blocks_beside copies others (section_list b) ≡ Ok (store, later) → section_list b ≡ Ok sections
      → ◌≡◌ {A = Blocks × ℕ} (store, later) (store_of copies (sections ∷ others), later_of copies (sections ∷ others))
  loaded-is copies b store later sections stored read =
      one_value (store, later) (store_of copies (sections ∷ others), later_of copies (sections ∷ others)) (sym stored ∙ ap (blocks_beside copies others) read)

  -- what is met from roots on in that store
  pub reached-in : (copies : Copies) (allowed : AllowMissing) (b : List ℕ) (store : Blocks) (later : ℕ) (sections : List SectionMeaning) (roots : List (List ℕ)) (most : ℕ) (skips : Noted Skip) (absent : ℕ) (over : Bool)
      → blocks_beside copies others (section_list b) ≡ Ok (store, later) → section_list b ≡ Ok sections
      → IsReached allowed store roots most skips absent over → IsReached allowed (store_of copies (sections ∷ others)) roots most skips absent over
  reached-in copies allowed b store later sections roots most skips absent over stored read reached =
      subst (λ (s : Blocks). IsReached allowed s roots most skips absent over) (ap (λ (p : Blocks × ℕ). p.0) (loaded-is copies b store later sections stored read)) reached

  -- and how many of its blocks are a later copy
  pub later-in : (copies : Copies) (b : List ℕ) (store : Blocks) (later : ℕ) (sections : List SectionMeaning) → blocks_beside copies others (section_list b) ≡ Ok (store, later) → section_list b ≡ Ok sections
      → later ≡ later_of copies (sections ∷ others)
  later-in copies b store later sections stored read = ap (λ (p : Blocks × ℕ). p.1) (loaded-is copies b store later sections stored read)
