-- The sections that aren't sound, one by one.
use Rattle.std.proofs.Common.{◌≡◌, ◌⊎◌, inl, inr, ℕ, ◌+◌, ◌<◌, ◌≤◌, ◌^◌, Bool, true, false, List, [], ◌∷◌, ◌++◌, length, refl, ◌∙◌, ap, subst, arith, length-append}
use Rattle.ix_verdict.specs.declared.verdict.Verdict.{Verdict}
use Rattle.std.specs.Prelude.{map, not, if◌then◌else◌}
use Rattle.ix_sections.specs.declared.reader.sections.Section.{Section}
use Rattle.ix_sections.specs.SectionView.{section_of}
use Rattle.ix_verdict.specs.Verdict.{is_sound}
use Rattle.ix_verify.specs.Judged.{verdict_in}
use Rattle.ix_verify.specs.Found.{told_of, unsound_of}
use Rattle.ix_verify.specs.Counted.{told_if, told_among}
use Rattle.ix_verify.specs.declared.found.Unsound.{Unsound}
use Rattle.ix_verify.specs.declared.noted.Noted.{Noted}
use Rattle.ix_verify.specs.Outcome.{section_finding}
use Rattle.ix_verify.specs.Noting.{NotesMore}
use Rattle.ix_verify.proofs.Notes.{AreNoted, noted-more, noted-all, noted-few}

-- told with their own verdicts, they are those that aren't sound
pub told_among-unsound : (ss : List Section) → told_among ss (map verdict_in ss) ≡ unsound_of (map section_of ss)
told_among-unsound [] = refl
told_among-unsound (s ∷ ss) = on_verdict (is_sound (verdict_in s)) (told_among-unsound ss) where
  on_verdict : (sound : Bool) → told_among ss (map verdict_in ss) ≡ unsound_of (map section_of ss)
      → (if sound then [] else told_of (section_of s) ∷ []) ++ told_among ss (map verdict_in ss) ≡ (if not sound then told_of (section_of s) ∷ unsound_of (map section_of ss) else unsound_of (map section_of ss))
  on_verdict true more = more
  on_verdict false more = ap (λ l. told_of (section_of s) ∷ l) more

-- a section that isn't sound is reported
pub told-faulty : (s : Section) (v : Verdict) → is_sound v ≡ false → told_if s v ≡ record { place = s.place; cid = s.cid; verdict = v } ∷ []
told-faulty s v faulty = ap (λ (t : Bool). if t then [] else record { place = s.place; cid = s.cid; verdict = v } ∷ []) faulty

-- a section is listed at most once
few-told : (s : Section) (v : Verdict) → length (told_if s v) ≤ 1
few-told s v = on_verdict (is_sound v) where
  one : Unsound
  one = record { place = s.place; cid = s.cid; verdict = v }

  on_verdict : (sound : Bool) → length {A = Unsound} (if sound then [] else one ∷ []) ≤ 1
  on_verdict true = omega arith
  on_verdict false = omega arith

-- no more are reported than there are sections
few-among : (ss : List Section) (vs : List Verdict) → length (told_among ss vs) ≤ length ss
few-among [] vs = omega arith
few-among (s ∷ ss) [] = omega arith
few-among (s ∷ ss) (v ∷ vs) = omega (arith, length-append (told_if s v) (told_among ss vs), few-told s v, few-among ss vs)

-- without sections or verdicts nothing is listed
none-told : (ss : List Section) (vs : List Verdict) → (ss ≡ []) ⊎ (vs ≡ []) → told_among ss vs ≡ []
none-told ss vs (inl e) = ap (λ (a : List Section). told_among a vs) e
none-told [] vs (inr e) = refl
none-told (s ∷ ss) vs (inr e) = ap (λ (b : List Verdict). told_among (s ∷ ss) b) e

module _ (most : ℕ) (ss : List Section) (vs : List Verdict) where
  -- what is noted of sections with verdicts, where these are left
  abbrev pub AreToldTo : List Section → List Verdict → Noted Unsound → Noted Unsound → Type 0
  AreToldTo later_ss later_vs old new = AreNoted section_finding most (told_among ss vs) (told_among later_ss later_vs) old new

  -- a turn of the loop over sections and verdicts
  pub told-more : (s : Section) (v : Verdict) (now_ss later_ss : List Section) (now_vs later_vs : List Verdict) (old mid new : Noted Unsound) → now_ss ≡ s ∷ later_ss → now_vs ≡ v ∷ later_vs
      → NotesMore section_finding most (told_if s v) mid new → AreToldTo now_ss now_vs old mid → AreToldTo later_ss later_vs old new
  told-more s v now_ss later_ss now_vs later_vs old mid new first second more so_far =
      let left : told_among now_ss now_vs ≡ told_if s v ++ told_among later_ss later_vs =
      ap (λ (a : List Section). told_among a now_vs) first ∙ ap (λ (b : List Verdict). told_among (s ∷ later_ss) b) second in
      noted-more section_finding most (told_among ss vs) (told_if s v) (told_among later_ss later_vs) old mid new
      (subst (λ (l : List Unsound). AreNoted section_finding most (told_among ss vs) l old mid) left so_far) more

  -- where no pair is left, all are reported
  pub all-told : (now_ss : List Section) (now_vs : List Verdict) (old new : Noted Unsound) → (now_ss ≡ []) ⊎ (now_vs ≡ []) → AreToldTo now_ss now_vs old new → NotesMore section_finding most (told_among ss vs) old new
  all-told now_ss now_vs old new none so_far = noted-all section_finding most (told_among ss vs) (told_among now_ss now_vs) old new (none-told now_ss now_vs none) so_far

  -- one more can be counted
  pub told-fit : (left : List Unsound) (old new : Noted Unsound) → old.count + length ss < 2 ^ 63 → AreNoted section_finding most (told_among ss vs) left old new → new.count + 1 < 2 ^ 64
  told-fit left old new room so_far = omega (arith, room, few-among ss vs, noted-few section_finding most (told_among ss vs) left old new so_far)
