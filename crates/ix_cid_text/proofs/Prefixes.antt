-- A text without a prefix.
use Rattle.std.proofs.Common.{◌≡◌, ℕ, Bool, true, false, List, length, drop, sym, ◌∙◌, ap, subst}
use Rattle.std.specs.Prelude.{Option, Some, None, MatchOption, option_copied, if◌then◌else◌}
use Rattle.std.specs.Borrow.{Bor}
use Rattle.std.specs.Str.{IsCharBoundary}
use Rattle.std.specs.Str.Pattern.{FindsTextPrefix, StripsPrefix}
use Rattle.std.proofs.lemmas.Str.Pattern.{starts_text}
use Rattle.ix_cid_text.specs.Location.{rest_after}

-- what is left after a prefix, by whether the text begins with it
abbrev rest_if : List ℕ → List ℕ → Bool → Option (List ℕ)
rest_if p s t = if t then Some (drop (length p) s) else None

pub stripped : (p s : List ℕ) (o : Option (Bor (List ℕ))) → MatchOption o (FindsTextPrefix p s None) (λ x. StripsPrefix (FindsTextPrefix p) s x.now)
    → option_copied o ≡ rest_after p s
stripped p s None h = ap (rest_if p s) (starts_text false p s h)
stripped p s (Some x) h =
    let n = h.0 in
    let size : n ≡ length p = h.1.0 in
    let cut : IsCharBoundary s n = subst (IsCharBoundary s) (sym size) h.1.2 in
    ap (λ (l : List ℕ). Some l) (h.2 ∙ ap (λ (k : ℕ). drop k s) size) ∙ ap (rest_if p s) (starts_text true p s (n, h.1, cut))
