-- The sections of a file, a batch at a time.
use Rattle.std.proofs.Common.{◌≡◌, ℕ, ◌-◌, ◌<◌, List, [], ◌∷◌, ◌++◌, length, map, sym, ◌∙◌, ap, subst, arith, append_assoc, append-nil}
use Rattle.std.specs.Prelude.{Result, Ok, Err}
use Rattle.std.specs.Borrow.{Bor}
use Rattle.std.specs.Global.{Vec}
use Rattle.std.proofs.lemmas.List.{map_push}
use Rattle.ix_store.specs.Store.{Blocks, with_blocks}
use Rattle.ix_sections.specs.declared.fault.CarKind.{CarKind}
use Rattle.ix_sections.specs.declared.fault.CarKind.TheVariants.{Memory}
use Rattle.ix_sections.specs.declared.reader.sections.Section.{Section}
use Rattle.ix_sections.specs.Batches.{IsBatchAt}
use Rattle.ix_sections.specs.Copies.{copies_of}
use Rattle.ix_sections.specs.Gives.{FailsAs}
use Rattle.ix_sections.specs.Reading.{Fault, section_at, sections_at}
use Rattle.ix_sections.specs.SectionView.{section_of, views_of}
use Rattle.ix_sections.specs.Sections.{SectionMeaning, placed, sections_after, with_first_of_each}
use Rattle.ix_sections.proofs.CopyLists.{with_copies-sections}
use Rattle.ix_sections.proofs.SectionLists.{sections_after-enough, ListGoesOn, ListGoesOn-more, ListGoesOn-fails, FailsAs-of, blocks-behind}

module _ (size : ℕ) (b : List ℕ) where
  -- whatever sections stand before, these bytes give these sections, and then what the rest gives
  abbrev pub ReadsOn : List Section → List ℕ → Type 0
  ReadsOn batch rest = (before : List SectionMeaning) → ListGoesOn size (before ++ map section_of batch) rest (sections_after size (length b) before b)

  pub reads-first : ReadsOn [] b
  reads-first before n h =
      subst (λ (l : List SectionMeaning). sections_after size n l b ≡ sections_after size (length b) before b) (sym (append-nil before))
      (sections_after-enough size n (length b) before b h (omega arith))

  pub reads-more : (batch : List Section) (s : Section) (rest after : List ℕ) → 0 < length rest → section_at rest ≡ Ok ((s.cid, s.block.now), after) → s.place ≡ size - length rest
      → ReadsOn batch rest → ReadsOn (batch ++ s ∷ []) after
  reads-more batch s rest after some read place reads_on before =
      let whole = sections_after size (length b) before b in
      let same : (before ++ map section_of batch) ++ placed (size - length rest) (s.cid, s.block.now) ∷ [] ≡ before ++ map section_of (batch ++ s ∷ []) =
      ap (λ (n : ℕ). (before ++ map section_of batch) ++ placed n (s.cid, s.block.now) ∷ []) (sym place)
      ∙ append_assoc before (map section_of batch) (section_of s ∷ [])
      ∙ ap (λ (l : List SectionMeaning). before ++ l) (sym (map_push section_of batch s)) in
      subst (λ (l : List SectionMeaning). ListGoesOn size l after whole) same
      (ListGoesOn-more size (before ++ map section_of batch) rest whole ((s.cid, s.block.now), after) some read (reads_on before))

  pub reads-fault : (batch : List Section) (rest : List ℕ) (kind : CarKind) (left : ℕ) → 0 < length rest → section_at rest ≡ Err (record { kind = kind; left = left }) → ReadsOn batch rest
      → (before : List SectionMeaning) → FailsAs kind left (sections_after size (length b) before b)
  reads-fault batch rest kind left some read reads_on before =
      let whole = sections_after size (length b) before b in
      FailsAs-of kind left whole (ListGoesOn-fails size (before ++ map section_of batch) rest whole some (reads_on before) (record { kind = kind; left = left }) read)

-- ---- its blocks

-- a batch adds its blocks to those of any store, the first of each CID
pub batch-blocks : (base : Blocks) (size : ℕ) (b : List ℕ) (batch : Vec Section) (after : Bor (List ℕ)) → IsBatchAt size b (batch, after)
    → sections_at (length b) base b ≡ sections_at (length after.now) (with_blocks base (copies_of (views_of batch))) after.now
batch-blocks base size b batch after is =
    blocks-behind base size (length b) [] b
    ∙ ap (with_first_of_each base) (is.read [])
    ∙ sym (blocks-behind base size (length after.now) (views_of batch) after.now)
    ∙ ap (λ (l : Blocks). sections_at (length after.now) l after.now) (sym (with_copies-sections base (views_of batch)))

-- an error of the sections is that of the blocks
fails-first : (base : Blocks) (kind : CarKind) (left : ℕ) (r : Result (List SectionMeaning) Fault) → FailsAs kind left r → FailsAs kind left (with_first_of_each base r)
fails-first base Memory left r h = tt
fails-first base kind left r h = ap (with_first_of_each base) h

pub fault-blocks : (base : Blocks) (size left : ℕ) (kind : CarKind) (b : List ℕ) → FailsAs kind left (sections_after size (length b) [] b) → FailsAs kind left (sections_at (length b) base b)
fault-blocks base size left kind b h =
    subst (λ (r : Result Blocks Fault). FailsAs kind left r) (sym (blocks-behind base size (length b) [] b)) (fails-first base kind left (sections_after size (length b) [] b) h)
