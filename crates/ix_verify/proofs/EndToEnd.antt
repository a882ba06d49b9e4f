-- The sections of files, put end to end.
use Rattle.std.proofs.Common.{◌≡◌, List, [], ◌∷◌, ◌++◌, refl, sym, ap, ◌∙◌, append-nil, append_assoc}
use Rattle.std.specs.Prelude.{flat_map}
use Rattle.ix_store.specs.Store.{Blocks, with_block}
use Rattle.ix_store.specs.Sound.{AreSoundCopies}
use Rattle.ix_sections.specs.Copies.{copy_of, copies_of}
use Rattle.ix_sections.specs.Sections.{SectionMeaning, with_sections}
use Rattle.ix_sections.proofs.CopyLists.{preferred-first, preferred-none-later}
use Rattle.ix_sections.specs.declared.files.loader.Copies.TheVariants.{First, Sound}
use Rattle.ix_verify.specs.Beside.{with_copies_in}
use Rattle.ix_verify.specs.Found.{with_files, copies_in, store_of, later_of}

-- a store with some sections and then with others has all of them
with_sections-both : (store : Blocks) (xs ys : List SectionMeaning) → with_sections store (xs ++ ys) ≡ with_sections (with_sections store xs) ys
with_sections-both store [] ys = refl
with_sections-both store (s ∷ xs) ys = with_sections-both (with_block store (s.cid, s.block)) xs ys

pub files-end : (store : Blocks) (files : List (List SectionMeaning)) → with_files store files ≡ with_sections store (flat_map (λ sections. sections) files)
files-end store [] = refl
files-end store (sections ∷ files) =
    files-end (with_sections store sections) files ∙ sym (with_sections-both store sections (flat_map (λ more. more) files))

-- the copies in some sections and then in others
copies-both : (xs ys : List SectionMeaning) → copies_of (xs ++ ys) ≡ copies_of xs ++ copies_of ys
copies-both [] ys = refl
copies-both (s ∷ xs) ys = ap (λ l. copy_of s ∷ l) (copies-both xs ys)

-- copies with those of each file are they and all of these
pub copies-end : (copies : Blocks) (files : List (List SectionMeaning)) → with_copies_in copies files ≡ copies ++ copies_in files
copies-end copies [] = sym (append-nil copies)
copies-end copies (sections ∷ files) =
    copies-end (copies ++ copies_of sections) files
    ∙ append_assoc copies (copies_of sections) (copies_in files)
    ∙ ap (λ (l : Blocks). copies ++ l) (sym (copies-both sections (flat_map (λ more. more) files)))

-- if all copies are sound, the first are preferred, and no block is a later copy
pub sound-first : (files : List (List SectionMeaning)) → AreSoundCopies (copies_in files) → store_of Sound files ≡ store_of First files
sound-first files all = preferred-first (flat_map (λ sections. sections) files) all ∙ sym (files-end [] files)

pub sound-none_later : (files : List (List SectionMeaning)) → AreSoundCopies (copies_in files) → later_of Sound files ≡ 0
sound-none_later files all = preferred-none-later (flat_map (λ sections. sections) files) all
