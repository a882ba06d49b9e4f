-- The sections of a file, read and judged a batch at a time.
use Rattle.std.proofs.Common.{◌≡◌, ℕ, ◌+◌, ◌<◌, ◌≤◌, ◌^◌, List, [], ◌∷◌, ◌++◌, Bool, true, false, length, map, refl, sym, ◌∙◌, ap, subst, arith, length-append}
use Rattle.std.specs.Prelude.{Result, Ok, filter, not, if◌then◌else◌}
use Rattle.std.specs.Borrow.{Bor}
use Rattle.std.specs.Global.{Vec}
use Rattle.std.proofs.lemmas.List.{map-append, length-map}
use Rattle.std.proofs.lemmas.List.Elements.{filter-append}
use Rattle.ix_sections.specs.declared.reader.sections.Section.{Section}
use Rattle.ix_sections.specs.Reading.{Fault, ◌>>=◌, header_at}
use Rattle.ix_sections.specs.SectionView.{section_of, views_of}
use Rattle.ix_sections.specs.Sections.{SectionMeaning, sections_in, section_list}
use Rattle.ix_sections.proofs.SectionLists.{sections_after-enough, ListGoesOn, ListGoesOn-first, ListGoesOn-last}
use Rattle.ix_verdict.specs.Verdict.{is_sound}
use Rattle.ix_verify.specs.declared.noted.Noted.{Noted}
use Rattle.ix_verify.specs.declared.found.Unsound.{Unsound}
use Rattle.ix_verify.specs.Outcome.{section_finding}
use Rattle.ix_verify.specs.Noting.{IsNoted, NotesMore}
use Rattle.ix_verify.specs.Found.{told_of, unsound_of}
use Rattle.ix_sections.specs.Batches.{IsBatchAt}

-- what isn't sound of some sections and then of others
unsound-append : (xs ys : List SectionMeaning) → unsound_of (xs ++ ys) ≡ unsound_of xs ++ unsound_of ys
unsound-append xs ys =
    let is_told : Unsound → _ = λ u. not (is_sound u.verdict) in
    ap (filter is_told) (map-append told_of xs ys) ∙ filter-append is_told (map told_of xs) (map told_of ys)

-- no more than there are sections
few-unsound : (xs : List SectionMeaning) → length (unsound_of xs) ≤ length xs
few-unsound [] = omega arith
few-unsound (s ∷ ss) = on_verdict (not (is_sound (told_of s).verdict)) (few-unsound ss) where
  on_verdict : (t : Bool) → length (unsound_of ss) ≤ length ss → length (if t then told_of s ∷ unsound_of ss else unsound_of ss) ≤ length (s ∷ ss)
  on_verdict true h = omega (arith, h)
  on_verdict false h = omega (arith, h)

-- Of the sections of a file of so many bytes, those before the rest were counted and noted.
pub record AreJudgedTo (size most : ℕ) (rest : List ℕ) (count : ℕ) (unsound : Noted Unsound) (whole : Result (List SectionMeaning) Fault) : Type 0 where
  pub done : List SectionMeaning
  pub goes_on : ListGoesOn size done rest whole
  pub counted : count ≡ length done
  pub noted : IsNoted section_finding most (unsound_of done) unsound
  pub room : length done + length rest ≤ size

-- what is read after a header
after_header : (b rest : List ℕ) → header_at b ≡ Ok rest → section_list b ≡ sections_in (length b) rest
after_header b rest read = ap (λ (r : Result (List ℕ) Fault). r >>= (λ after. sections_in (length b) after)) read

module _ (b : List ℕ) (most : ℕ) where
  -- before the first
  pub judged-none : (rest : List ℕ) (none : Noted Unsound) → header_at b ≡ Ok rest → length rest < length b → IsNoted section_finding most [] none → AreJudgedTo (length b) most rest 0 none (section_list b)
  judged-none rest none read shorter noted = record {
    done = [];
    goes_on = subst (λ (r : Result (List SectionMeaning) Fault). ListGoesOn (length b) [] rest r) (sym (after_header b rest read)) (ListGoesOn-first (length b) rest);
    counted = refl;
    noted = noted;
    room = omega (arith, shorter);
  }

  -- a batch more
  pub judged-more : (rest : List ℕ) (batch : Vec Section) (after : Bor (List ℕ)) (count : ℕ) (old new : Noted Unsound) → IsBatchAt (length b) rest (batch, after)
      → NotesMore section_finding most (unsound_of (map section_of batch.items)) old new → AreJudgedTo (length b) most rest count old (section_list b)
      → AreJudgedTo (length b) most after.now (count + length batch.items) new (section_list b)
  judged-more rest batch after count old new read more so_far =
      let size = length b in
      let done = so_far.done ++ views_of batch in
      let long : length done ≡ length so_far.done + length batch.items = length-append so_far.done (views_of batch) ∙ ap (λ n. length so_far.done + n) (length-map batch.items section_of) in
      record {
        done = done;
        goes_on = λ n h. sections_after-enough size n (length after.now) done after.now h (omega arith) ∙ sym (read.read so_far.done) ∙ so_far.goes_on (length rest) (omega arith);
        counted = omega (arith, long, so_far.counted);
        noted = subst (λ (l : List Unsound). IsNoted section_finding most l new) (sym (unsound-append so_far.done (views_of batch))) (more.noted (unsound_of so_far.done) so_far.noted);
        room = omega (arith, long, read.room, so_far.room);
      }

  -- a batch can be noted
  pub batch-fits : (rest : List ℕ) (batch : Vec Section) (after : Bor (List ℕ)) (count : ℕ) (old : Noted Unsound) → length b < 2 ^ 63 → IsBatchAt (length b) rest (batch, after)
      → AreJudgedTo (length b) most rest count old (section_list b) → old.count + length batch.items < 2 ^ 63
  batch-fits rest batch after count old long read so_far = omega (arith, long, read.room, so_far.room, so_far.noted.count, few-unsound so_far.done)

  -- where nothing is left, all were judged
  pub judged-all : (rest : List ℕ) (count : ℕ) (unsound : Noted Unsound) → length rest ≡ 0 → (so_far : AreJudgedTo (length b) most rest count unsound (section_list b)) → section_list b ≡ Ok so_far.done
  judged-all rest count unsound none so_far = ListGoesOn-last (length b) so_far.done rest (section_list b) none so_far.goes_on
