-- What is noted, one after another.
use Rattle.std.proofs.Common.{◌≡◌, ℕ, ◌+◌, ◌<◌, ◌≤◌, true, false, List, [], ◌∷◌, ◌++◌, length, map, take, refl, sym, ◌∙◌, ap, subst, arith, append_assoc, append-nil, length-append}
use Rattle.std.specs.Prelude.{nat_lt}
use Rattle.std.specs.Global.{Vec}
use Rattle.std.proofs.lemmas.List.{length-take, take_all, take-append-le, map_push}
use Rattle.std.proofs.lemmas.Bool.{ltb-false, ltb-true}
use Rattle.ix_verdict.specs.declared.verdict.Verdict.{Verdict}
use Rattle.ix_verify.specs.declared.noted.Noted.{Noted}
use Rattle.ix_verify.specs.declared.found.Outcome.{Outcome}
use Rattle.ix_verify.specs.Outcome.{outcome_on, worse, worst_of}
use Rattle.ix_verify.specs.Noting.{IsNoted, NotesMore}
use Rattle.ix_verify.proofs.Outcomes.{worst-push}

module _ {T : Type 0} (of : T → Verdict) (most : ℕ) where
  -- nothing more
  pub none-more : (n : Noted T) → NotesMore of most [] n n
  none-more n = record { noted = λ before h. subst (λ (l : List T). IsNoted of most l n) (sym (append-nil before)) h; few = omega arith }

  -- some, and then others
  pub more-then : (xs ys : List T) (a b c : Noted T) → NotesMore of most xs a b → NotesMore of most ys b c → NotesMore of most (xs ++ ys) a c
  more-then xs ys a b c first second = record {
    noted = λ before h. subst (λ (l : List T). IsNoted of most l c) (append_assoc before xs ys) (second.noted (before ++ xs) (first.noted before h));
    few = omega (arith, length-append xs ys, first.few, second.few);
  }

-- ---- one more

-- no more are kept than there are
kept-few : {T : Type 0} (most : ℕ) (before : List T) → length (take most before) ≤ length before
kept-few most before = subst (λ (n : ℕ). n ≤ length before) (sym (length-take most before)) (omega arith)

module _ {T : Type 0} (of : T → Verdict) (most : ℕ) (item : T) (old new : Noted T) (counted : new.count ≡ old.count + 1) (worst : new.worst ≡ worse old.worst (outcome_on (of item))) where
  -- the worst of what was noted before, and of it
  worst-more : (before : List T) → old.worst ≡ worst_of (map of before) → new.worst ≡ worst_of (map of (before ++ item ∷ []))
  worst-more before h =
      worst ∙ ap (λ (o : Outcome). worse o (outcome_on (of item))) h ∙ sym (ap worst_of (map_push of before item) ∙ worst-push (map of before) (of item))

  -- one that isn't kept
  pub one-counted : nat_lt (length old.first.items) most ≡ false → new.first.items ≡ old.first.items → NotesMore of most (item ∷ []) old new
  one-counted full same = record {
    noted =
        λ before h.
        let most_first : most ≤ length old.first.items = ltb-false (length old.first.items) most full in
        let many : most ≤ length before = omega (arith, most_first, ap length h.first, kept-few most before) in
        record {
          count = omega (arith, counted, h.count, length-append before (item ∷ []));
          first = same ∙ h.first ∙ sym (take-append-le most before (item ∷ []) many);
          worst = worst-more before h.worst;
        };
    few = omega (arith, counted);
  }

  -- one that is kept
  pub one-kept : nat_lt (length old.first.items) most ≡ true → new.first.items ≡ old.first.items ++ item ∷ [] → NotesMore of most (item ∷ []) old new
  one-kept room pushed = record {
    noted =
        λ before h.
        let few_first : length old.first.items < most = ltb-true (length old.first.items) most room in
        let all : length before < most = omega (arith, few_first, ap length h.first, length-take most before) in
        record {
          count = omega (arith, counted, h.count, length-append before (item ∷ []));
          first =
              pushed ∙ ap (λ (l : List T). l ++ item ∷ []) (h.first ∙ take_all most before (omega (arith, all)))
              ∙ sym (take_all most (before ++ item ∷ []) (omega (arith, all, length-append before (item ∷ []))));
          worst = worst-more before h.worst;
        };
    few = omega (arith, counted);
  }

-- as `note` writes it: the count and the worst after the item was kept, or wasn't
module _ {T : Type 0} (of : T → Verdict) (most : ℕ) (item : T) (old self : Noted T) (worst : Outcome) (verdict : Verdict) (named : of item ≡ verdict) (is : worst ≡ worse self.worst (outcome_on verdict)) where
  worst-by : self.worst ≡ old.worst → worst ≡ worse old.worst (outcome_on (of item))
  worst-by same = is ∙ ap (λ (o : Outcome). worse o (outcome_on verdict)) same ∙ ap (λ (v : Verdict). worse old.worst (outcome_on v)) (sym named)

  pub note-else : self ≡ old → nat_lt (length old.first.items) most ≡ false → NotesMore of most (item ∷ []) old (record { count = self.count + 1; first = self.first; worst = worst })
  note-else same full =
      one-counted of most item old (record { count = self.count + 1; first = self.first; worst = worst }) (ap (λ (n : Noted T). n.count + 1) same) (worst-by (ap (λ (n : Noted T). n.worst) same)) full
      (ap (λ (n : Noted T). n.first.items) same)

  pub note-then : (first : Vec T) → self ≡ record { count = old.count; first = first; worst = old.worst } → first.items ≡ old.first.items ++ item ∷ [] → nat_lt (length old.first.items) most ≡ true
      → NotesMore of most (item ∷ []) old (record { count = self.count + 1; first = self.first; worst = worst })
  note-then first same pushed room =
      one-kept of most item old (record { count = self.count + 1; first = self.first; worst = worst }) (ap (λ (n : Noted T). n.count + 1) same) (worst-by (ap (λ (n : Noted T). n.worst) same)) room
      (ap (λ (n : Noted T). n.first.items) same ∙ pushed)

-- ---- many

-- Of all, some are left, and the others were noted.
pub record AreNoted {T : Type 0} (of : T → Verdict) (most : ℕ) (all left : List T) (old new : Noted T) : Type 0 where
  pub done : List T
  pub noted : NotesMore of most done old new
  pub whole : done ++ left ≡ all

module _ {T : Type 0} (of : T → Verdict) (most : ℕ) (all : List T) where
  -- before the first
  pub noted-none : (old : Noted T) → AreNoted of most all all old old
  noted-none old = record { done = []; noted = none-more of most old; whole = refl }

  -- some more
  pub noted-more : (one left : List T) (old mid new : Noted T) → AreNoted of most all (one ++ left) old mid → NotesMore of most one mid new → AreNoted of most all left old new
  noted-more one left old mid new so_far more = record {
    done = so_far.done ++ one;
    noted = more-then of most so_far.done one old mid new so_far.noted more;
    whole = append_assoc so_far.done one left ∙ so_far.whole;
  }

  -- where none are left
  pub noted-all : (left : List T) (old new : Noted T) → left ≡ [] → AreNoted of most all left old new → NotesMore of most all old new
  noted-all left old new none so_far =
      subst (λ (l : List T). NotesMore of most l old new) (sym (append-nil so_far.done) ∙ sym (ap (λ (l : List T). so_far.done ++ l) none) ∙ so_far.whole) so_far.noted

  -- no more are counted than there are
  pub noted-few : (left : List T) (old new : Noted T) → AreNoted of most all left old new → new.count ≤ old.count + length all
  noted-few left old new so_far = omega (arith, so_far.noted.few, length-append so_far.done left, ap length so_far.whole)
