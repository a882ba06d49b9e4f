-- The sections of a file, a batch at a time.
use Rattle.std.proofs.Common.{◌≡◌, ℕ, ◌-◌, ◌≤◌, List, [], ◌∷◌, length, map, refl, sym, ◌∙◌, ap, subst, arith}
use Rattle.std.specs.Prelude.{Result, Ok, IsOkAnd}
use Rattle.std.specs.Borrow.{Bor}
use Rattle.std.specs.Global.{Vec}
use Rattle.ix_store.specs.Store.{Blocks, with_blocks}
use Rattle.ix_sections.specs.declared.fault.CarFault.{CarFault}
use Rattle.ix_sections.specs.declared.reader.sections.Section.{Section}
use Rattle.ix_sections.specs.Gives.{FailsAs}
use Rattle.ix_sections.specs.Reading.{Fault, sections_at}
use Rattle.ix_sections.specs.Batches.{IsBatchAt, IsBatchFault}
use Rattle.ix_sections.specs.Copies.{copies_of}
use Rattle.ix_sections.specs.SectionView.{section_of}
use Rattle.ix_sections.proofs.Batches.{batch-blocks, fault-blocks}
use Rattle.ix_sections.proofs.Sections.{sections_at-enough, GoesOn, GoesOn-first, GoesOn-last}
use Rattle.ix_known.specs.declared.places.Places.{Places}
use Rattle.ix_known.specs.Places.{ArePlacesOf, AddsBlocks}
use Rattle.ix_known.specs.Findings.{pair_of}
use Rattle.ix_known.specs.Batches.{IsFaultIn, AddsSections}

-- ---- a batch

-- the blocks of sections, one by one
pairs-listed : (sections : List Section) → copies_of (map section_of sections) ≡ map pair_of sections
pairs-listed [] = refl
pairs-listed (s ∷ sections) = ap (λ (l : Blocks). pair_of s ∷ l) (pairs-listed sections)

-- a batch adds them to those of any store
batch-pairs : (base : Blocks) (size : ℕ) (b : List ℕ) (batch : Vec Section) (after : Bor (List ℕ)) → IsBatchAt size b (batch, after)
    → sections_at (length b) base b ≡ sections_at (length after.now) (with_blocks base (map pair_of batch.items)) after.now
batch-pairs base size b batch after is =
    batch-blocks base size b batch after is ∙ ap (λ (l : Blocks). sections_at (length after.now) (with_blocks base l) after.now) (pairs-listed batch.items)

-- ---- all of them

-- of the sections, those before the rest were added
pub record HasRead (store : Blocks) (first now : Places) (b rest : List ℕ) : Type 0 where
  pub with_done : Blocks → Blocks
  pub goes_on : (base : Blocks) → GoesOn (with_done base) rest (sections_at (length b) base b)
  pub added : (base : Blocks) → ArePlacesOf store base first → ArePlacesOf store (with_done base) now
  pub within : length rest ≤ length b

pub read-first : (store : Blocks) (places : Places) (b : List ℕ) → HasRead store places places b b
read-first store places b = record { with_done = λ base. base; goes_on = λ base. GoesOn-first base b; added = λ base h. h; within = omega arith }

module _ (store : Blocks) (first now : Places) (b rest : List ℕ) (so_far : HasRead store first now b rest) where
  -- a batch more
  pub read-more : (size : ℕ) (new : Places) (batch : Vec Section) (after : Bor (List ℕ)) → IsBatchAt size rest (batch, after) → AddsBlocks store now new (map pair_of batch.items) → HasRead store first new b after.now
  read-more size new batch after read more =
      let pairs = map pair_of batch.items in
      record {
        with_done = λ base. with_blocks (so_far.with_done base) pairs;
        goes_on = λ base n h.
            sections_at-enough n (length after.now) (with_blocks (so_far.with_done base) pairs) after.now h (omega arith)
            ∙ sym (batch-pairs (so_far.with_done base) size rest batch after read) ∙ so_far.goes_on base (length rest) (omega arith);
        added = λ base h. more (so_far.with_done base) (so_far.added base h);
        within = omega (arith, read.shorter, so_far.within);
      }

  -- an error in the rest
  pub read-fault : (size : ℕ) (e : CarFault) → IsBatchFault size rest e → IsFaultIn size b e
  read-fault size e fault = (
    fault.0,
    λ base. subst (λ (r : Result Blocks Fault). FailsAs e.kind (size - e.place) r) (so_far.goes_on base (length rest) (omega arith)) (fault-blocks (so_far.with_done base) size (size - e.place) e.kind rest (fault.1 [])),
  )

  -- where nothing is left, all were added
  pub read-all : length rest ≡ 0 → AddsSections store first now b
  read-all none base h =
      let whole = sections_at (length b) base b in
      let is : whole ≡ Ok (so_far.with_done base) = GoesOn-last (so_far.with_done base) rest whole none (so_far.goes_on base) in
      subst (λ (r : Result Blocks Fault). IsOkAnd r (λ more. ArePlacesOf store more now)) (sym is) (so_far.added base h)
