-- The lines of a have-list, one after another.
use Rattle.std.proofs.Common.{◌≡◌, not, ℕ, ◌+◌, ◌<◌, ◌≤◌, ◌==◌, List, [], length, sym, ◌∙◌, ap, arith, ⊎_elim}
use Rattle.std.specs.Prelude.{Result, Ok}
use Rattle.std.specs.List.{slice_split, position_or_len, before_first, after_first}
use Rattle.std.specs.Str.Lines.{strip_carriage_return}
use Rattle.std.proofs.lemmas.List.Splits.{slice_split_first}
use Rattle.std.proofs.lemmas.Bool.{cases_lt}
use Rattle.std.proofs.lemmas.List.{take_all, drop_all}
use Rattle.std.proofs.lemmas.List.Sums.{prefix_len-le-length}
use Rattle.ix_jobs.proofs.Pieces.{slice_split_whole}
use Rattle.ix_jobs.proofs.LinesInTurn.{is_end}
use Rattle.ix_jobs.specs.declared.list_fault.ListErrorKind.{ListErrorKind}
use Rattle.ix_jobs.specs.declared.list_fault.ListErrorKind.TheVariants.{Memory}
use Rattle.ix_jobs.specs.HaveList.{◌>>=◌, with_line, at_line, cids_from}
use Rattle.ix_jobs.specs.GivesList.{FailsAs}

-- the first line, then those after it
cids_from-first : (n : ℕ) (before : List (List ℕ)) (bs : List ℕ) → 0 < length bs
    → cids_from n before (slice_split (λ b. b == 10) bs)
    ≡ (at_line n (with_line before (strip_carriage_return (before_first (λ b. b == 10) bs))) >>= (λ cids. cids_from (n + 1) cids (slice_split (λ b. b == 10) (after_first (λ b. b == 10) bs))))
cids_from-first n before bs some = ⊎_elim on_more on_last (cases_lt (position_or_len is_end bs) (length bs)) where
  on_more : position_or_len is_end bs < length bs → cids_from n before (slice_split is_end bs)
      ≡ (at_line n (with_line before (strip_carriage_return (before_first is_end bs))) >>= (λ cids. cids_from (n + 1) cids (slice_split is_end (after_first is_end bs))))
  on_more lt = ap (cids_from n before) (slice_split_first is_end bs 0 lt)

  on_last : length bs ≤ position_or_len is_end bs → cids_from n before (slice_split is_end bs)
      ≡ (at_line n (with_line before (strip_carriage_return (before_first is_end bs))) >>= (λ cids. cids_from (n + 1) cids (slice_split is_end (after_first is_end bs))))
  on_last le =
      let same : position_or_len is_end bs ≡ length bs = omega (arith, le, prefix_len-le-length (λ b. not (is_end b)) bs) in
      let line : before_first is_end bs ≡ bs = take_all (position_or_len is_end bs) bs le in
      let rest : after_first is_end bs ≡ [] = drop_all (position_or_len is_end bs + 1) bs (omega (arith, le)) in
      let given : List ℕ → List ℕ → Result (List (List ℕ)) (ListErrorKind × ℕ) = λ l r. at_line n (with_line before (strip_carriage_return l)) >>= (λ cids. cids_from (n + 1) cids (slice_split is_end r)) in
      ap (cids_from n before) (slice_split_whole is_end bs same) ∙ ap (λ l. given l []) (sym line) ∙ ap (given (before_first is_end bs)) (sym rest)

-- the first line is read, and the rest is left
pub cids_from-ok : (n : ℕ) (before cids : List (List ℕ)) (bs : List ℕ) → 0 < length bs → with_line before (strip_carriage_return (before_first (λ b. b == 10) bs)) ≡ Ok cids
    → cids_from n before (slice_split (λ b. b == 10) bs) ≡ cids_from (n + 1) cids (slice_split (λ b. b == 10) (after_first (λ b. b == 10) bs))
cids_from-ok n before cids bs some h =
    let more : List (List ℕ) → Result (List (List ℕ)) (ListErrorKind × ℕ) = λ cids. cids_from (n + 1) cids (slice_split is_end (after_first is_end bs)) in
    cids_from-first n before bs some ∙ ap (λ (r : Result (List (List ℕ)) ListErrorKind). at_line n r >>= more) h

-- the first line is faulty
pub cids_from-err : (kind : ListErrorKind) (n : ℕ) (before : List (List ℕ)) (bs : List ℕ) → 0 < length bs → FailsAs kind kind (with_line before (strip_carriage_return (before_first (λ b. b == 10) bs)))
    → FailsAs kind (kind, n) (cids_from n before (slice_split (λ b. b == 10) bs))
cids_from-err Memory n before bs some h = tt
cids_from-err kind n before bs some h =
    let more : List (List ℕ) → Result (List (List ℕ)) (ListErrorKind × ℕ) = λ cids. cids_from (n + 1) cids (slice_split is_end (after_first is_end bs)) in
    cids_from-first n before bs some ∙ ap (λ (r : Result (List (List ℕ)) ListErrorKind). at_line n r >>= more) h
