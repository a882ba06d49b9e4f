-- The sections of a file, read one by one into a list.
use Rattle.std.proofs.Common.{◌≡◌, ℕ, zero, suc, ◌-◌, ◌++◌, ◌<◌, ◌≤◌, List, [], ◌∷◌, length, refl, sym, ◌∙◌, ap, arith}
use Rattle.std.specs.Prelude.{Result, Ok, Err}
use Rattle.ix_store.specs.Store.{Blocks, with_block}
use Rattle.ix_sections.specs.declared.fault.CarKind.{CarKind}
use Rattle.ix_sections.specs.declared.fault.CarKind.TheVariants.{Memory}
use Rattle.ix_sections.specs.Gives.{FailsAs}
use Rattle.ix_sections.specs.Reading.{Fault, ◌>>=◌, section_at, sections_at, header_at, blocks_after, blocks_of}
use Rattle.ix_sections.specs.Sections.{SectionMeaning, placed, sections_after, section_list, with_sections, first_of_each, with_first_of_each}
use Rattle.ix_sections.proofs.Sections.{section_at-shorter}

-- the list with the section at the front of the rest
abbrev pub with_next : ℕ → List SectionMeaning → List ℕ → List ℕ × List ℕ → List SectionMeaning
with_next size so_far rest p = so_far ++ placed (size - length rest) p ∷ []

-- a greater bound on the number of sections changes nothing
pub sections_after-enough : (size n m : ℕ) (so_far : List SectionMeaning) (b : List ℕ) → length b ≤ n → length b ≤ m → sections_after size n so_far b ≡ sections_after size m so_far b
unfolding sections_after
sections_after-enough size n m so_far [] h k = refl
sections_after-enough size zero m so_far (x ∷ b) h k = absurd (omega arith)
sections_after-enough size (suc n) zero so_far (x ∷ b) h k = absurd (omega arith)
sections_after-enough size (suc n) (suc m) so_far (x ∷ b) h k = on_read (section_at (x ∷ b)) (section_at-shorter (x ∷ b)) (sections_after-enough size n m) where
  on_read : (read : Result ((List ℕ × List ℕ) × List ℕ) Fault) → ((s : (List ℕ × List ℕ) × List ℕ) → read ≡ Ok s → length s.1 < length (x ∷ b))
      → ((more : List SectionMeaning) (rest : List ℕ) → length rest ≤ n → length rest ≤ m → sections_after size n more rest ≡ sections_after size m more rest)
      → (read >>= (λ s. sections_after size n (with_next size so_far (x ∷ b) s.0) s.1)) ≡ (read >>= (λ s. sections_after size m (with_next size so_far (x ∷ b) s.0) s.1))
  on_read (Ok s) shorter rest = let less = shorter s refl in rest (with_next size so_far (x ∷ b) s.0) s.1 (omega (arith, less, h)) (omega (arith, less, k))
  on_read (Err f) shorter rest = refl

-- what the sections from a place on give, after those so far, whatever the bound on their number
abbrev pub ListGoesOn : ℕ → List SectionMeaning → List ℕ → Result (List SectionMeaning) Fault → Type 0
ListGoesOn size so_far rest whole = (n : ℕ) → length rest ≤ n → sections_after size n so_far rest ≡ whole

-- before the first section the list is empty
pub ListGoesOn-first : (size : ℕ) (b : List ℕ) → ListGoesOn size [] b (sections_after size (length b) [] b)
ListGoesOn-first size b n h = sections_after-enough size n (length b) [] b h (omega arith)

-- the loop's step: one more section
pub ListGoesOn-more : (size : ℕ) (so_far : List SectionMeaning) (rest : List ℕ) (whole : Result (List SectionMeaning) Fault) (s : (List ℕ × List ℕ) × List ℕ)
    → 0 < length rest → section_at rest ≡ Ok s → ListGoesOn size so_far rest whole → ListGoesOn size (with_next size so_far rest s.0) s.1 whole
unfolding sections_after
ListGoesOn-more size so_far [] whole s some e goes_on n h = absurd (omega (arith, some))
ListGoesOn-more size so_far (x ∷ b) whole s some e goes_on n h =
    let shorter = section_at-shorter (x ∷ b) s e in
    sections_after-enough size n (length b) (with_next size so_far (x ∷ b) s.0) s.1 h (omega (arith, shorter))
    ∙ ap (λ read. read >>= (λ t. sections_after size (length b) (with_next size so_far (x ∷ b) t.0) t.1)) (sym e) ∙ goes_on (suc (length b)) (omega arith)

-- an error of a section is that of the file
pub ListGoesOn-fails : (size : ℕ) (so_far : List SectionMeaning) (rest : List ℕ) (whole : Result (List SectionMeaning) Fault)
    → 0 < length rest → ListGoesOn size so_far rest whole → (f : Fault) → section_at rest ≡ Err f → whole ≡ Err f
unfolding sections_after
ListGoesOn-fails size so_far [] whole some goes_on f e = absurd (omega (arith, some))
ListGoesOn-fails size so_far (x ∷ b) whole some goes_on f e =
    sym (goes_on (suc (length b)) (omega arith)) ∙ ap (λ read. read >>= (λ t. sections_after size (length b) (with_next size so_far (x ∷ b) t.0) t.1)) e

-- at the end the list is complete
pub ListGoesOn-last : (size : ℕ) (so_far : List SectionMeaning) (rest : List ℕ) (whole : Result (List SectionMeaning) Fault) → length rest ≡ 0 → ListGoesOn size so_far rest whole → whole ≡ Ok so_far
unfolding sections_after
ListGoesOn-last size so_far [] whole none goes_on = sym (goes_on 0 (omega arith))
ListGoesOn-last size so_far (x ∷ b) whole none goes_on = absurd (omega (arith, none))

-- a list with one section more has one block more, unless its CID is there
with_sections-append : (store : Blocks) (ss : List SectionMeaning) (s : SectionMeaning) → with_sections store (ss ++ s ∷ []) ≡ with_block (with_sections store ss) (s.cid, s.block)
with_sections-append store [] s = refl
with_sections-append store (t ∷ ss) s = with_sections-append (with_block store (t.cid, t.block)) ss s

-- the blocks from a place on are those of the sections from there on
pub blocks-behind : (store : Blocks) (size n : ℕ) (so_far : List SectionMeaning) (b : List ℕ) → sections_at n (with_sections store so_far) b ≡ with_first_of_each store (sections_after size n so_far b)
unfolding sections_at sections_after
blocks-behind store size n so_far [] = refl
blocks-behind store size zero so_far (x ∷ b) = refl
blocks-behind store size (suc n) so_far (x ∷ b) = on_read (section_at (x ∷ b)) (blocks-behind store size n) where
  on_read : (read : Result ((List ℕ × List ℕ) × List ℕ) Fault)
      → ((more : List SectionMeaning) (rest : List ℕ) → sections_at n (with_sections store more) rest ≡ with_first_of_each store (sections_after size n more rest))
      → (read >>= (λ s. sections_at n (with_block (with_sections store so_far) s.0) s.1))
      ≡ with_first_of_each store (read >>= (λ s. sections_after size n (with_next size so_far (x ∷ b) s.0) s.1))
  on_read (Ok s) rest = ap (λ (blocks : Blocks). sections_at n blocks s.1) (sym (with_sections-append store so_far (placed (size - length (x ∷ b)) s.0))) ∙ rest (with_next size so_far (x ∷ b) s.0) s.1
  on_read (Err f) rest = refl

-- the blocks of a file added to a store are the first section of each CID
pub blocks-after_sections : (store : Blocks) (b : List ℕ) → blocks_after store b ≡ with_first_of_each store (section_list b)
blocks-after_sections store b = on_header (header_at b) where
  on_header : (read : Result (List ℕ) Fault)
      → (read >>= (λ rest. sections_at (length rest) store rest)) ≡ with_first_of_each store (read >>= (λ rest. sections_after (length b) (length rest) [] rest))
  on_header (Ok rest) = blocks-behind store (length b) (length rest) [] rest
  on_header (Err f) = refl

-- the blocks of a file are the first section of each CID
pub blocks-of_sections : (b : List ℕ) → blocks_of b ≡ first_of_each (section_list b)
blocks-of_sections b = blocks-after_sections [] b

-- a definition's fault is what a call fails as
pub FailsAs-of : {A : Type 0} (kind : CarKind) (left : ℕ) (meant : Result A Fault) → meant ≡ Err (record { kind = kind; left = left }) → FailsAs kind left meant
FailsAs-of Memory left meant h = tt
FailsAs-of kind left meant h = h
