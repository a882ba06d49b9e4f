-- The tables of jobs, one after another.
use Rattle.std.proofs.Common.{◌≡◌, ◌⊎◌, ℕ, zero, suc, List, [], ◌∷◌, ◌++◌, length, slice_get, Option, Some, None, IfSome, inl, inr, refl, sym, ap, subst, ◌∙◌, arith}
use Rattle.std.proofs.lemmas.Option.{slice_get_read}
use Rattle.std.specs.Borrow.{Bor}
use Rattle.std.specs.Slice.{IsItemAt}
use Rattle.ix_store.specs.Store.{Blocks}
use Rattle.ix_walk.specs.JobMeaning.{JobMeaning}
use Rattle.ix_prefetch.specs.Expansions.{ExpansionTable}
use Rattle.ix_stages.specs.JobWalks.{AreTablesOf}

module _ {X : Type 0} where
  -- what is at a place of a list with one element more was there before, or is that element
  at_push : (xs : List X) (x : X) (n : ℕ) (y : X) → slice_get (xs ++ x ∷ []) n ≡ Some y → (slice_get xs n ≡ Some y) ⊎ ((n ≡ length xs) × (x ≡ y))
  at_push [] x zero y e = inr (omega arith, cc)
  at_push [] x (suc n) y e = cc
  at_push (z ∷ xs) x zero y e = inl e
  at_push (z ∷ xs) x (suc n) y e = elim (at_push xs x n y e) [ inl h ↦ inl h | inr h ↦ inr ((let at : n ≡ length xs = h.0 in omega (arith, at)), h.1) ]

-- no tables
pub tables_none : (store : Blocks) (jobs : List JobMeaning) (tables : List ExpansionTable) → tables ≡ [] → AreTablesOf store jobs tables
tables_none store jobs tables none = subst (λ (xs : List ExpansionTable). AreTablesOf store jobs xs) (sym none) (λ n t e. cc)

-- one more table, of the next job
pub tables_push : (store : Blocks) (jobs : List JobMeaning) (tables more : List ExpansionTable) (n : ℕ) (job : JobMeaning) (table : ExpansionTable)
    → AreTablesOf store jobs tables → length tables ≡ n → slice_get jobs n ≡ Some job → table.store ≡ store → table.job ≡ job → more ≡ tables ++ table ∷ [] → AreTablesOf store jobs more
tables_push store jobs tables more n job table are size at of_store of_job is = subst (λ (xs : List ExpansionTable). AreTablesOf store jobs xs) (sym is) (λ m t e.
    elim (at_push tables table m t e) [
      | inl h ↦ are m t h
      | inr h ↦ (
        subst (λ (x : ExpansionTable). x.store ≡ store) h.1 of_store,
        ap (λ (k : ℕ). slice_get jobs k) (h.0 ∙ size) ∙ (at ∙ ap (λ (j : JobMeaning). Some j) (sym (subst (λ (x : ExpansionTable). x.job ≡ job) h.1 of_job))),
      )
    ])

-- a table that was looked up is of these blocks
pub table_store : (store : Blocks) (jobs : List JobMeaning) (tables : List ExpansionTable) (n : ℕ) (r : Option (Bor ExpansionTable)) (s : Blocks) → AreTablesOf store jobs tables → IsItemAt tables n r
    → store ≡ s → IfSome r (λ t. t.now.store ≡ s)
table_store store jobs tables n None s are item e = tt
table_store store jobs tables n (Some t) s are item e = (are n t.now (slice_get_read tables (length tables) n t.now refl item.3.0 item.1)).0 ∙ e

-- and of the job at its place
pub table_job : (store : Blocks) (jobs : List JobMeaning) (tables : List ExpansionTable) (n : ℕ) (r : Option (Bor ExpansionTable)) (js : List JobMeaning) → AreTablesOf store jobs tables → IsItemAt tables n r
    → jobs ≡ js → IfSome r (λ t. slice_get js n ≡ Some t.now.job)
table_job store jobs tables n None js are item e = tt
table_job store jobs tables n (Some t) js are item e = ap (λ (xs : List JobMeaning). slice_get xs n) (sym e) ∙ (are n t.now (slice_get_read tables (length tables) n t.now refl item.3.0 item.1)).1
