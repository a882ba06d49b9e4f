-- The bytes that are kept of a stream.
use Rattle.std.proofs.Common.{◌≡◌, ℕ, ◌+◌, List, ◌++◌, length, take, drop, sym, ◌∙◌, ap, append_assoc}
use Rattle.std.proofs.lemmas.List.{drop-drop}
use Rattle.ix_sections.proofs.Growth.{take-more}
use Rattle.ix_own_archive.specs.Taking.{TakenBytes, bytes_of, advanced}

-- more of them are checked
pub advance-is : (gone kept : List ℕ) (n k parts : ℕ) → bytes_of gone kept (n + k) (parts + 1) ≡ advanced k (bytes_of gone kept n parts)
advance-is gone kept n k parts =
    let front : gone ++ take (n + k) kept ≡ (gone ++ take n kept) ++ take k (drop n kept) = ap (λ (l : List ℕ). gone ++ l) (sym (take-more n k kept)) ∙ sym (append_assoc gone (take n kept) (take k (drop n kept))) in
    let of_front : List ℕ → TakenBytes = λ l. record { checked = l; rest = drop (n + k) kept; released = length gone; parts = parts + 1 } in
    let of_rear : List ℕ → TakenBytes = λ l. record { checked = (gone ++ take n kept) ++ take k (drop n kept); rest = l; released = length gone; parts = parts + 1 } in
    ap of_front front ∙ ap of_rear (sym (drop-drop k n kept))
