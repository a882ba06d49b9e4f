-- Sections that are added to a store one after the other, and the errors of their file.
use Rattle.std.proofs.Common.{◌≡◌, ◌<◌, ◌+◌, ℕ, ◌++◌, List, [], ◌∷◌, length, map, take, get_or, refl, sym, ap, ◌∙◌}
use Rattle.std.proofs.lemmas.List.{map_more}
use Rattle.ix_store.specs.Store.{Blocks, with_block}
use Rattle.ix_sections.specs.declared.fault.CarFault.{CarFault}
use Rattle.ix_sections.specs.declared.reader.sections.Section.{Section}
use Rattle.ix_sections.specs.Gives.{IsFaultOf}
use Rattle.ix_sections.specs.Reading.{blocks_of}
use Rattle.ix_sections.specs.SectionView.{section_of}
use Rattle.ix_sections.specs.Sections.{SectionMeaning, section_list, with_sections, first_of_each}
use Rattle.ix_sections.proofs.Sections.{FailsAs-along}
use Rattle.ix_sections.proofs.SectionLists.{blocks-of_sections}

-- the loop's step
pub sections-more : (store before after : Blocks) (sections : List Section) (i : ℕ) (s : Section) → i < length sections → s ≡ get_or sections i s
    → before ≡ with_sections store (map section_of (take i sections)) → after ≡ with_block before (s.cid, s.block.now) → after ≡ with_sections store (map section_of (take (i + 1) sections))
sections-more store before after sections i s lt at so_far more =
    let one = section_of s in
    let front = map section_of (take i sections) in
    more ∙ ap (λ (blocks : Blocks). with_block blocks (one.cid, one.block)) so_far ∙ sym (last store front)
    ∙ ap (λ (x : Section). with_sections store (front ++ section_of x ∷ [])) at ∙ ap (with_sections store) (sym (map_more section_of sections i s lt)) where
      last : (blocks : Blocks) (ss : List SectionMeaning) → with_sections blocks (ss ++ section_of s ∷ []) ≡ with_block (with_sections blocks ss) (s.cid, s.block.now)
      last blocks [] = refl
      last blocks (t ∷ ss) = last (with_block blocks (t.cid, t.block)) ss

-- an error of the sections is one of the blocks
pub fault-of_blocks : (b : List ℕ) (e : CarFault) → IsFaultOf b e (section_list b) → IsFaultOf b e (blocks_of b)
fault-of_blocks b e h = (h.0, FailsAs-along e.kind _ (section_list b) (blocks_of b) (λ f is. blocks-of_sections b ∙ ap first_of_each is) h.1)
