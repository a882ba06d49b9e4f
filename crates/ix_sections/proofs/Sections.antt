-- The sections of a file, read one by one into a store.
use Rattle.std.proofs.Common.{◌≡◌, ℕ, zero, suc, ◌+◌, ◌-◌, ◌++◌, ◌<◌, ◌≤◌, cond, ltb, leb, eqb, ◌&&◌, List, [], ◌∷◌, length, drop, take, get_or, refl, sym, ◌∙◌, ap, arith, length-drop}
use Rattle.std.specs.Prelude.{Result, Ok, Err}
use Rattle.std.proofs.lemmas.Bool.{ltb-false}
use Rattle.std.proofs.lemmas.List.{length-append, drop-drop}
use Rattle.std.proofs.Math.Seq.{drop-append_seam, take-append_seam, get_or-append_seam}
use Rattle.ix_cid.specs.declared.fault.VarintFault.{VarintFault}
use Rattle.ix_cid.specs.declared.fault.VarintFault.TheVariants as varints
use Rattle.ix_cid.specs.Varint.{continued, number_of_groups, varint_at}
use Rattle.ix_cid.specs.Cid.{cid_at}
use Rattle.ix_cid.proofs.Results.{past_test, bind_ok, ok_same}
use Rattle.ix_store.specs.Store.{Blocks, with_block}
use Rattle.ix_store.specs.Table.{part_of, file_at, section_in}
use Rattle.ix_sections.specs.declared.fault.CarKind.{CarKind}
use Rattle.ix_sections.specs.declared.fault.CarKind.TheVariants.{Memory}
use Rattle.ix_sections.specs.Gives.{FailsAs}
use Rattle.ix_sections.specs.Reads.{IsEnd}
use Rattle.ix_sections.specs.Reading.{Fault, ◌>>=◌, text_at, text_after, pair_of, section_at, sections_at}

-- a varint takes a byte at least
varint_at-some : (b : List ℕ) (v : ℕ × ℕ) → varint_at b ≡ Ok v → 1 ≤ v.1
varint_at-some b v h =
    let k = continued b in
    let ending : Result (ℕ × ℕ) VarintFault = cond (eqb (get_or b k 0) 0 && ltb 0 k) (Err varints.NotMinimal) (Ok (number_of_groups (take (k + 1) b), k + 1)) in
    let few = past_test (leb 9 k) varints.TooLong (cond (eqb k (length b)) (Err varints.Truncated) ending) v h in
    let whole = past_test (eqb k (length b)) varints.Truncated ending v few.1 in
    let least = past_test (eqb (get_or b k 0) 0 && ltb 0 k) varints.NotMinimal (Ok (number_of_groups (take (k + 1) b), k + 1)) v whole.1 in
    let same : (number_of_groups (take (k + 1) b), k + 1) ≡ v = ok_same _ _ least.1 in
    let size : k + 1 ≡ v.1 = ap (λ (p : ℕ × ℕ). p.1) same in
    omega (arith, size)

-- a text with its length before it takes a byte at least
text_after-shorter : (b : List ℕ) (t : List ℕ × List ℕ) (r : Result (ℕ × ℕ) VarintFault) → ((v : ℕ × ℕ) → r ≡ Ok v → 1 ≤ v.1) → text_after b r ≡ Ok t → length t.1 < length b
text_after-shorter b t (Ok v) some h =
    let enough = past_test (ltb (length b) (v.1 + v.0)) _ (Ok (take v.0 (drop v.1 b), drop (v.1 + v.0) b)) t h in
    let room : v.1 + v.0 ≤ length b = ltb-false (length b) (v.1 + v.0) enough.0 in
    let same : (take v.0 (drop v.1 b), drop (v.1 + v.0) b) ≡ t = ok_same _ _ enough.1 in
    let rest : drop (v.1 + v.0) b ≡ t.1 = ap (λ (p : List ℕ × List ℕ). p.1) same in
    let some : 1 ≤ v.1 = some v refl in
    omega (arith, ap length rest, length-drop (v.1 + v.0) b)
text_after-shorter b t (Err varints.Truncated) some h = absurd cc
text_after-shorter b t (Err varints.TooLong) some h = absurd cc
text_after-shorter b t (Err varints.NotMinimal) some h = absurd cc

-- a section takes a byte at least
pub section_at-shorter : (b : List ℕ) (s : (List ℕ × List ℕ) × List ℕ) → section_at b ≡ Ok s → length s.1 < length b
section_at-shorter b s h =
    let text = bind_ok (text_at b) (λ t. pair_of b t.0 (cid_at t.0) >>= (λ p. Ok (p, t.1))) s h in
    let t = text.0 in
    let pair = bind_ok (pair_of b t.0 (cid_at t.0)) (λ p. Ok (p, t.1)) s text.2 in
    let same : (pair.0, t.1) ≡ s = ok_same _ _ pair.2 in
    let rest : t.1 ≡ s.1 = ap (λ (p : (List ℕ × List ℕ) × List ℕ). p.1) same in
    omega (arith, ap length rest, text_after-shorter b t (varint_at b) (varint_at-some b) text.1)

-- a greater bound on the number of sections changes nothing
pub sections_at-enough : (n m : ℕ) (store : Blocks) (b : List ℕ) → length b ≤ n → length b ≤ m → sections_at n store b ≡ sections_at m store b
unfolding sections_at
sections_at-enough n m store [] h k = refl
sections_at-enough zero m store (x ∷ b) h k = absurd (omega arith)
sections_at-enough (suc n) zero store (x ∷ b) h k = absurd (omega arith)
sections_at-enough (suc n) (suc m) store (x ∷ b) h k = on_read (section_at (x ∷ b)) (section_at-shorter (x ∷ b)) (sections_at-enough n m) where
  on_read : (read : Result ((List ℕ × List ℕ) × List ℕ) Fault) → ((s : (List ℕ × List ℕ) × List ℕ) → read ≡ Ok s → length s.1 < length (x ∷ b))
      → ((more : Blocks) (rest : List ℕ) → length rest ≤ n → length rest ≤ m → sections_at n more rest ≡ sections_at m more rest)
      → (read >>= (λ s. sections_at n (with_block store s.0) s.1)) ≡ (read >>= (λ s. sections_at m (with_block store s.0) s.1))
  on_read (Ok s) shorter rest = let less = shorter s refl in rest (with_block store s.0) s.1 (omega (arith, less, h)) (omega (arith, less, k))
  on_read (Err f) shorter rest = refl

-- what the sections from a place on give, after the blocks so far, whatever the bound on their number
abbrev pub GoesOn : Blocks → List ℕ → Result Blocks Fault → Type 0
GoesOn store rest whole = (n : ℕ) → length rest ≤ n → sections_at n store rest ≡ whole

-- before the first section the store is what it was
pub GoesOn-first : (store : Blocks) (b : List ℕ) → GoesOn store b (sections_at (length b) store b)
GoesOn-first store b n h = sections_at-enough n (length b) store b h (omega arith)

-- the loop's step: one more section
pub GoesOn-more : (store : Blocks) (rest : List ℕ) (whole : Result Blocks Fault) (s : (List ℕ × List ℕ) × List ℕ) → 0 < length rest → section_at rest ≡ Ok s → GoesOn store rest whole → GoesOn (with_block store s.0) s.1 whole
unfolding sections_at
GoesOn-more store [] whole s some e so_far n h = absurd (omega (arith, some))
GoesOn-more store (x ∷ b) whole s some e so_far n h =
    let shorter = section_at-shorter (x ∷ b) s e in
    sections_at-enough n (length b) (with_block store s.0) s.1 h (omega (arith, shorter))
    ∙ ap (λ read. read >>= (λ t. sections_at (length b) (with_block store t.0) t.1)) (sym e) ∙ so_far (suc (length b)) (omega arith)

-- an error of a section is that of the file
pub GoesOn-fails : (store : Blocks) (rest : List ℕ) (whole : Result Blocks Fault) → 0 < length rest → GoesOn store rest whole → (f : Fault) → section_at rest ≡ Err f → whole ≡ Err f
unfolding sections_at
GoesOn-fails store [] whole some so_far f e = absurd (omega (arith, some))
GoesOn-fails store (x ∷ b) whole some so_far f e =
    sym (so_far (suc (length b)) (omega arith)) ∙ ap (λ read. read >>= (λ t. sections_at (length b) (with_block store t.0) t.1)) e

-- at the end the store is complete
pub GoesOn-last : (store : Blocks) (rest : List ℕ) (whole : Result Blocks Fault) → length rest ≡ 0 → GoesOn store rest whole → whole ≡ Ok store
unfolding sections_at
GoesOn-last store [] whole none so_far = sym (so_far 0 (omega arith))
GoesOn-last store (x ∷ b) whole none so_far = absurd (omega (arith, none))

-- where a definition's fault is another definition's too, a call fails as both
pub FailsAs-along : {A B : Type 0} (kind : CarKind) (left : ℕ) (a : Result A Fault) (b : Result B Fault) → ((f : Fault) → a ≡ Err f → b ≡ Err f) → FailsAs kind left a → FailsAs kind left b
FailsAs-along Memory left a b h fails = tt
FailsAs-along kind left a b h fails = h _ fails

-- the end of an end is an end
pub end-of-end : (x y b : List ℕ) → IsEnd x y → IsEnd y b → IsEnd x b
end-of-end x y b h k = (k.0 + h.0, h.1 ∙ ap (λ (l : List ℕ). drop h.0 l) k.1 ∙ drop-drop h.0 k.0 b)

-- and so is what is after a front of it
pub end-behind : (x y b : List ℕ) → IsEnd (x ++ y) b → IsEnd y b
end-behind x y b h = end-of-end y (x ++ y) b (length x, sym (drop-append_seam x y)) h

-- a part of bytes is where they have it, counted from their end
pub part-of-end : (x y b : List ℕ) → IsEnd (x ++ y) b → take (length x) (drop (length b - length y - length x) b) ≡ x
part-of-end [] y b h = refl
part-of-end (a ∷ x) y b h =
    let size : length (a ∷ x) + length y ≡ length b - h.0 = sym (length-append (a ∷ x) y) ∙ ap length h.1 ∙ length-drop h.0 b in
    let at : length b - length y - length (a ∷ x) ≡ h.0 = omega (arith, size) in
    ap (λ (n : ℕ). take (length (a ∷ x)) (drop n b)) at ∙ ap (λ (l : List ℕ). take (length (a ∷ x)) l) (sym h.1) ∙ take-append_seam (a ∷ x) y

-- an end is no longer than what it ends
pub end-within : (x y b : List ℕ) → IsEnd (x ++ y) b → length x + length y ≤ length b
end-within x y b h =
    let size : length x + length y ≡ length b - h.0 = sym (length-append x y) ∙ ap length h.1 ∙ length-drop h.0 b in
    omega (arith, size)

-- a CID and the block after it are at a place of the whole
pub record PartsStand (cid block whole : List ℕ) (place : ℕ) : Type 0 where
  pub within : place + length cid + length block ≤ length whole
  pub cid_is : part_of whole place (length cid) ≡ cid
  pub block_is : part_of whole (place + length cid) (length block) ≡ block

-- where a section's are
pub parts-stand : (cid block after whole : List ℕ) (place : ℕ) → place ≡ length whole - length after - length block - length cid → IsEnd (cid ++ (block ++ after)) whole → PartsStand cid block whole place
parts-stand cid block after whole place is lies =
    let size = length-append block after in
    let total = end-within cid (block ++ after) whole lies in
    let front : place ≡ length whole - length (block ++ after) - length cid = omega (arith, is, size) in
    let rear : place + length cid ≡ length whole - length after - length block = omega (arith, is, size, total) in
    record {
      within = omega (arith, is, size, total);
      cid_is = ap (λ (n : ℕ). take (length cid) (drop n whole)) front ∙ part-of-end cid (block ++ after) whole lies;
      block_is = ap (λ (n : ℕ). take (length block) (drop n whole)) rear ∙ part-of-end block after whole (end-behind cid (block ++ after) whole lies);
    }

-- a builder has a file under a number
abbrev pub HasFile : List (List ℕ) → ℕ → List ℕ → Type 0
HasFile files number file = (number < length files) × (file_at files number ≡ file)

-- once it was taken
pub file-taken : (old new : List (List ℕ)) (number : ℕ) (file : List ℕ) → new ≡ old ++ file ∷ [] ∷ [] → number ≡ length old → HasFile new number file
file-taken old new number file taken is = (
  omega (arith, is, ap length taken, length-append old (file ∷ [] ∷ [])),
  ap (λ (l : List (List ℕ)). file_at l number) taken ∙ ap (λ (n : ℕ). file_at (old ++ file ∷ [] ∷ []) n) is ∙ get_or-append_seam old file ([] ∷ []) [],
)

-- the pair of a section in it
pub section-of : (files : List (List ℕ)) (number place : ℕ) (cid block file : List ℕ) → HasFile files number file → PartsStand cid block file place → section_in files number place (length cid) (length block) ≡ (cid, block)
section-of files number place cid block file has stands =
    ap (λ (f : List ℕ). (part_of f place (length cid), part_of f (place + length cid) (length block))) has.1
    ∙ ap (λ (c : List ℕ). (c, part_of file (place + length cid) (length block))) stands.cid_is
    ∙ ap (λ (b : List ℕ). (cid, b)) stands.block_is
