-- Marks that are read and written.
use Rattle.std.proofs.Common.{◌≡◌, ℕ, zero, suc, ◌<◌, Bool, true, false, cond, ◌==◌, List, [], ◌∷◌, refl, ap, sym, subst, ◌∙◌, slice_index, slice_set, arith, ⊎_elim, inl, inr, ◌⊎◌}
use prog.Atomic.{either}
use Rattle.atomic_table.specs.Table.{Me, Allows, keeps}
use Rattle.ix_store.specs.Store.{Blocks}
use Rattle.ix_store.specs.Memo.{Tells, IsTrueAt, AllTrue}

-- what is at a place after a write
lands : (ws : List ℕ) (at word place : ℕ) → ((place ≡ at) × (slice_index (slice_set ws at word) place ≡ word)) ⊎ (slice_index (slice_set ws at word) place ≡ slice_index ws place)
lands [] at word place = inr refl
lands (w ∷ ws) zero word zero = inl (refl, refl)
lands (w ∷ ws) zero word (suc i) = inr refl
lands (w ∷ ws) (suc k) word zero = inr refl
lands (w ∷ ws) (suc k) word (suc i) = ⊎_elim (λ h. inl (ap suc h.0, h.1)) (λ h. inr h) (lands ws k word i)

-- writing a true word keeps all words true
true_set : (pairs : Blocks) (words : List ℕ) (at word : ℕ) → IsTrueAt pairs at word → AllTrue pairs words → AllTrue pairs (slice_set words at word)
true_set pairs words at word new all place =
    ⊎_elim
    (λ h. subst (λ n. IsTrueAt pairs place n) (sym h.1) (subst (λ k. IsTrueAt pairs k word) (sym h.0) new))
    (λ h. subst (λ n. IsTrueAt pairs place n) (sym h) (all place))
    (lands words at word place)

-- whichever of two true words is kept
kept_or_new : (pairs : Blocks) (at new found : ℕ) (b : Bool) → IsTrueAt pairs at new → IsTrueAt pairs at found → IsTrueAt pairs at (either b new found)
kept_or_new pairs at new found true t f = t
kept_or_new pairs at new found false t f = f

-- the exchange of a mark for a true one keeps the rule
pub exchanges : {V : Type 0} (pairs : Blocks) (slots id : ℕ) (me : Me (Unit {0}) V) (at old new : ℕ) → IsTrueAt pairs at new → Allows (λ s. AllTrue pairs s.words) slots id me at (λ n. either (n == old) new n) (λ n w. Unit {0})
exchanges pairs slots id me at old new t s all homes seen small =
    (me.0, keeps, tt, true_set pairs s.words at _ (kept_or_new pairs at new (slice_index s.words at) (slice_index s.words at == old) t (all at)) all, tt)

-- the digit of an answer is read as that answer
digit_is : (a : Bool) → (cond a 1 2 == 1) ≡ a
digit_is true = refl
digit_is false = refl

-- what is decoded is the answer
pub told_is : (d : ℕ) (a b : Bool) → Tells d a → 0 < d → b ≡ (d == 1) → b ≡ a
told_is d a b t some e = e ∙ ⊎_elim (λ h. absurd (omega (arith, h, some))) (λ h. ap (λ n. n == 1) h ∙ digit_is a) t
