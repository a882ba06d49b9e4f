-- The CIDs of sections, each once, and those that had occurred before.
use Rattle.std.proofs.Common.{◌≡◌, ℕ, ◌+◌, Bool, true, false, true≢false, ◌||◌, List, [], ◌∷◌, ◌++◌, length, length-append, refl, sym, ◌∙◌, ap, arith}
use Rattle.std.specs.Prelude.{bytes_eq, if◌then◌else◌, Result, Ok, Err}
use Rattle.std.proofs.lemmas.List.Folds.{list_any-append}
use Rattle.std.proofs.lemmas.Slice.Eq.{bytes_eq-Decides}
use Rattle.std.proofs.Math.Bool.{or-false}
use Rattle.ix_store.specs.Store.{Blocks, has_cid, with_block}
use Rattle.ix_sections.specs.declared.fault.CarKind.{CarKind}
use Rattle.ix_sections.specs.declared.fault.CarKind.TheVariants.{Memory}
use Rattle.ix_sections.specs.Gives.{FailsAs}
use Rattle.ix_sections.specs.Reading.{Fault}
use Rattle.ix_sections.specs.Sections.{SectionMeaning, with_sections, with_first_of_each}
use Rattle.ix_verify.specs.Tallied.{HasDistinct, cids_of, has_stood, repeats_after, repeats}

-- a store with one more block has its CID and those before
has_cid-push : (store : Blocks) (p : List ℕ × List ℕ) (c : List ℕ) → has_cid (store ++ p ∷ []) c ≡ (has_cid store c || bytes_eq p.0 c)
has_cid-push [] p c = or-false (bytes_eq p.0 c)
has_cid-push (e ∷ store) p c = on_first (bytes_eq e.0 c) (has_cid-push store p c) where
  on_first : (same : Bool) → has_cid (store ++ p ∷ []) c ≡ (has_cid store c || bytes_eq p.0 c) → (same || has_cid (store ++ p ∷ []) c) ≡ ((same || has_cid store c) || bytes_eq p.0 c)
  on_first true more = refl
  on_first false more = more

-- a store with a CID more
has_cid-with : (store : Blocks) (p : List ℕ × List ℕ) (c : List ℕ) → has_cid (with_block store p) c ≡ (has_cid store c || bytes_eq p.0 c)
has_cid-with store p c = on_there (has_cid store p.0) refl where
  same_there : (same : Bool) → bytes_eq p.0 c ≡ same → has_cid store p.0 ≡ true → has_cid store c ≡ (has_cid store c || same)
  same_there true is there = let here : has_cid store c ≡ true = ap (has_cid store) (sym ((bytes_eq-Decides p.0 c).0 is)) ∙ there in here ∙ sym (ap (λ (b : Bool). b || true) here)
  same_there false is there = sym (or-false (has_cid store c))

  on_there : (there : Bool) → has_cid store p.0 ≡ there → has_cid (if there then store else store ++ p ∷ []) c ≡ (has_cid store c || bytes_eq p.0 c)
  on_there true is = same_there (bytes_eq p.0 c) refl is
  on_there false is = has_cid-push store p c

-- one CID more that was before
has_stood-more : (before : List (List ℕ)) (x c : List ℕ) → has_stood (before ++ x ∷ []) c ≡ (has_stood before c || bytes_eq x c)
has_stood-more before x c = list_any-append (λ (d : List ℕ). bytes_eq d c) before (x ∷ []) ∙ ap (λ (b : Bool). has_stood before c || b) (or-false (bytes_eq x c))

-- a block is added, or its CID was there
one-more : (store : Blocks) (p : List ℕ × List ℕ) (there : Bool) → has_cid store p.0 ≡ there → length (with_block store p) + (if there then 1 else 0) ≡ length store + 1
one-more store p true is = ap (λ (b : Bool). length (if b then store else store ++ p ∷ []) + 1) is
one-more store p false is =
    let size : length (with_block store p) ≡ length (store ++ p ∷ []) = ap (λ (b : Bool). length (if b then store else store ++ p ∷ [])) is in
    let more : length (store ++ p ∷ []) ≡ length store + 1 = length-append store (p ∷ []) in
    omega (arith, size, more)

-- each section adds a block, or its CID was there
pub blocks-and-repeats : (sections : List SectionMeaning) (store : Blocks) (before : List (List ℕ)) → ((c : List ℕ) → has_cid store c ≡ has_stood before c)
    → length (with_sections store sections) + repeats_after before (cids_of sections) ≡ length store + length sections
blocks-and-repeats [] store before seen = refl
blocks-and-repeats (s ∷ sections) store before seen =
    let p : List ℕ × List ℕ = (s.cid, s.block) in
    let rest : length (with_sections (with_block store p) sections) + repeats_after (before ++ s.cid ∷ []) (cids_of sections) ≡ length (with_block store p) + length sections =
    blocks-and-repeats sections (with_block store p) (before ++ s.cid ∷ [])
    (λ c. has_cid-with store p c ∙ ap (λ (b : Bool). b || bytes_eq s.cid c) (seen c) ∙ sym (has_stood-more before s.cid c)) in
    let one : length (with_block store p) + (if has_stood before s.cid then 1 else 0) ≡ length store + 1 = one-more store p (has_stood before s.cid) (seen s.cid) in
    let told : repeats_after before (cids_of (s ∷ sections)) ≡ (if has_stood before s.cid then 1 else 0) + repeats_after (before ++ s.cid ∷ []) (cids_of sections) = refl in
    let blocks : length (with_sections store (s ∷ sections)) ≡ length (with_sections (with_block store p) sections) = refl in
    let count : length (s ∷ sections) ≡ length sections + 1 = omega arith in
    omega (arith, rest, one, told, blocks, count)

-- the blocks that were read, or none
abbrev read-blocks : Result Blocks Fault → Blocks
read-blocks (Ok blocks) = blocks
read-blocks (Err f) = []

-- whether blocks were read
abbrev is-read : Result Blocks Fault → Bool
is-read (Ok blocks) = true
is-read (Err f) = false

-- the same error instead of a list of sections
abbrev error-of : Result Blocks Fault → Result (List SectionMeaning) Fault
error-of (Ok blocks) = Ok []
error-of (Err f) = Err f

-- the blocks of a file are as many as the CIDs of its sections, each once
pub distinct-of : (read : Result (List SectionMeaning) Fault) (blocks : Blocks) → with_first_of_each [] read ≡ Ok blocks → HasDistinct read (length blocks)
distinct-of (Ok sections) blocks is =
    let size : length (with_sections [] sections) ≡ length blocks = ap (λ (read : Result Blocks Fault). length (read-blocks read)) is in
    let all : length (with_sections [] sections) + repeats (cids_of sections) ≡ 0 + length sections = blocks-and-repeats sections [] [] (λ c. refl) in
    (sections, refl, omega (arith, size, all))
distinct-of (Err f) blocks is = absurd (true≢false (sym (ap is-read is)))

-- the error of the blocks is that of the sections
pub fails-alike : (kind : CarKind) (left : ℕ) (read : Result (List SectionMeaning) Fault) → FailsAs kind left (with_first_of_each [] read) → FailsAs kind left read
fails-alike Memory left read h = tt
fails-alike kind left (Ok sections) h = absurd (true≢false (ap is-read h))
fails-alike kind left (Err f) h = ap error-of h
