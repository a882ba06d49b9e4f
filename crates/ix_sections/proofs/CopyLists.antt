-- The copies in the sections of a file, read one by one.
use Rattle.std.proofs.Common.{◌≡◌, ℕ, ◌-◌, ◌++◌, ◌<◌, ◌≤◌, List, [], ◌∷◌, length, take, drop, length-drop, refl, sym, ap, subst, ◌∙◌, append-nil, append_assoc, arith}
use Rattle.std.specs.Prelude.{Result, Ok, Err}
use Rattle.std.proofs.lemmas.List.{map_push, take_all}
use Rattle.ix_store.specs.Store.{Blocks, with_block, with_blocks}
use Rattle.ix_store.specs.Sound.{AreSoundCopies, sound_copies, later_count}
use Rattle.ix_store.proofs.Later.{none-later}
use Rattle.ix_store.proofs.SoundFirst.{same-copies}
use Rattle.ix_sections.specs.declared.fault.CarKind.{CarKind}
use Rattle.ix_sections.specs.declared.fault.CarFault.{CarFault}
use Rattle.ix_sections.specs.Gives.{FailsAs}
use Rattle.ix_sections.specs.Reading.{Fault, ◌>>=◌, section_at, header_at}
use Rattle.ix_sections.specs.Sections.{SectionMeaning, placed, sections_in, section_list, with_sections}
use Rattle.ix_sections.specs.Copies.{copy_of, copies_of, with_copies}
use Rattle.ix_sections.proofs.SectionLists.{ListGoesOn, ListGoesOn-first, ListGoesOn-more, ListGoesOn-fails, ListGoesOn-last}

-- what the sections from a place on give, after those so far, whose copies are after the ones before
pub record CopiesGoOn (before copies : Blocks) (size : ℕ) (rest : List ℕ) (whole : Result (List SectionMeaning) Fault) : Type 0 where
  pub so_far : List SectionMeaning
  pub copies_are : copies ≡ before ++ copies_of so_far
  pub goes_on : ListGoesOn size so_far rest whole

-- before the first section
pub CopiesGoOn-first : (before : Blocks) (size : ℕ) (b : List ℕ) → CopiesGoOn before before size b (sections_in size b)
CopiesGoOn-first before size b = record { so_far = []; copies_are = sym (append-nil before); goes_on = ListGoesOn-first size b }

-- one section more
pub CopiesGoOn-more : (before copies later : Blocks) (size : ℕ) (rest : List ℕ) (whole : Result (List SectionMeaning) Fault) (s : (List ℕ × List ℕ) × List ℕ)
    → 0 < length rest → section_at rest ≡ Ok s → later ≡ copies ++ s.0 ∷ [] → CopiesGoOn before copies size rest whole → CopiesGoOn before later size s.1 whole
CopiesGoOn-more before copies later size rest whole s some e is h =
    let next = placed (size - length rest) s.0 in
    record {
      so_far = h.so_far ++ next ∷ [];
      copies_are = is
          ∙ ap (λ (l : Blocks). l ++ s.0 ∷ []) h.copies_are
          ∙ append_assoc before (copies_of h.so_far) (s.0 ∷ [])
          ∙ ap (λ (l : Blocks). before ++ l) (sym (map_push copy_of h.so_far next));
      goes_on = ListGoesOn-more size h.so_far rest whole s some e h.goes_on;
    }

-- an error of a section is that of the file
pub CopiesGoOn-fails : (before copies : Blocks) (size : ℕ) (rest : List ℕ) (whole : Result (List SectionMeaning) Fault) → 0 < length rest → CopiesGoOn before copies size rest whole → (f : Fault) → section_at rest ≡ Err f → with_copies before whole ≡ Err f
CopiesGoOn-fails before copies size rest whole some h f e = ap (with_copies before) (ListGoesOn-fails size h.so_far rest whole some h.goes_on f e)

-- at the end the copies are complete
pub CopiesGoOn-last : (before copies : Blocks) (size : ℕ) (rest : List ℕ) (whole : Result (List SectionMeaning) Fault) → length rest ≡ 0 → CopiesGoOn before copies size rest whole → with_copies before whole ≡ Ok copies
CopiesGoOn-last before copies size rest whole none h =
    ap (with_copies before) (ListGoesOn-last size h.so_far rest whole none h.goes_on) ∙ ap (λ (l : Blocks). Ok l) (sym h.copies_are)

-- the copies in the sections after a header
pub copies-listed : (copies : Blocks) (b rest : List ℕ) → header_at b ≡ Ok rest → with_copies copies (section_list b) ≡ with_copies copies (sections_in (length b) rest)
copies-listed copies b rest read = ap (λ r. with_copies copies (r >>= sections_in (length b))) read

-- the bytes of a file from an offset on
pub rest-from : (start : ℕ) (slice file : List ℕ) → slice ≡ file → take (length slice - start) (drop start slice) ≡ drop start file
rest-from start slice file same =
    take_all (length slice - start) (drop start slice) (omega (arith, length-drop start slice)) ∙ ap (drop start) same

-- an error whose offset is counted from the end is one of the file, counted from the start
pub fails-from_front : {A : Type 0} (e : CarFault) (kind : CarKind) (left : ℕ) (slice file : List ℕ) (meant whole : Result A Fault) → e ≡ record { kind = kind; place = length slice - left } → slice ≡ file → left ≤ length file → meant ≡ whole → FailsAs kind left meant
    → (e.place ≤ length file) × FailsAs e.kind (length file - e.place) whole
fails-from_front e kind left slice file meant whole is same within means fails =
    let at : e ≡ record { kind = kind; place = length file - left } = is ∙ ap (λ (l : List ℕ). fault_at kind (length l - left)) same in
    let back : length file - (length file - left) ≡ left = omega (arith, within) in
    subst (λ (f : CarFault). (f.place ≤ length file) × FailsAs f.kind (length file - f.place) whole) (sym at)
    (omega arith, subst (λ (n : ℕ). FailsAs kind n whole) (sym back) (subst (FailsAs kind left) means fails)) where
      fault_at : CarKind → ℕ → CarFault
      fault_at k n = record { kind = k; place = n }

-- ---- the law

-- the blocks of sections are the first of their copies
pub with_copies-sections : (store : Blocks) (sections : List SectionMeaning) → with_blocks store (copies_of sections) ≡ with_sections store sections
with_copies-sections store [] = refl
with_copies-sections store (s ∷ sections) = with_copies-sections (with_block store (s.cid, s.block)) sections

-- if each copy is sound, those that are preferred are the first
pub preferred-first : (sections : List SectionMeaning) → AreSoundCopies (copies_of sections) → sound_copies (copies_of sections) ≡ with_sections [] sections
preferred-first sections all = same-copies (copies_of sections) all ∙ with_copies-sections [] sections

-- and none is a later one
pub preferred-none-later : (sections : List SectionMeaning) → AreSoundCopies (copies_of sections) → later_count (copies_of sections) ≡ 0
preferred-none-later sections all = none-later (copies_of sections) all
