-- The place of a digit in an alphabet.
use Rattle.std.proofs.Common.{◌≡◌, ℕ, ◌<◌, ◌==◌, false, ◌+◌, List, [], ◌∷◌, ◌++◌, length, get_or, drop, ◌∙◌, ap, sym, refl, eq-eqb, append_assoc, arith}
use Rattle.std.specs.Prelude.{Option, Some, None, Result, Ok, Err}
use Rattle.std.specs.List.{position, position_or_len}
use Rattle.std.proofs.lemmas.List.Sums.{position_or_len_is}
use Rattle.std.proofs.lemmas.List.{at_drop_more}
use Rattle.ix_cid_text.specs.Base.{◌>>=◌, digit_value, digit_at, digits_from}
use Rattle.ix_cid_text.specs.declared.base.Base.{Base}
use Rattle.ix_cid_text.specs.declared.fault.CidTextFault.{CidTextFault}
use Rattle.ix_cid_text.specs.declared.fault.CidTextFault.TheVariants.{Digit}

-- it isn't before this place
abbrev pub NotBefore : ℕ → List ℕ → ℕ → Type 0
NotBefore x xs i = (k : ℕ) → k < i → get_or xs k 0 ≡ x → ⊥

fails : (k x : ℕ) → (k ≡ x → ⊥) → (k == x) ≡ false
fails k x h = grind arith

pub found : (x : ℕ) (xs : List ℕ) (i : ℕ) → i < length xs → NotBefore x xs i → get_or xs i 0 ≡ x → Some i ≡ position (λ d. d == x) xs
found x xs i within none here =
    let at : position_or_len (λ d. d == x) xs ≡ i = position_or_len_is (λ d. d == x) xs i 0 (omega arith) (λ k h. fails (get_or xs k 0) x (none k h)) (λ h. eq-eqb _ _ here) in
    grind (arith, at)

pub missing : (x : ℕ) (xs : List ℕ) → NotBefore x xs (length xs) → None ≡ position (λ d. d == x) xs
missing x xs none =
    let at : position_or_len (λ d. d == x) xs ≡ length xs = position_or_len_is (λ d. d == x) xs (length xs) 0 (omega arith) (λ k h. fails (get_or xs k 0) x (none k h)) (λ h. absurd (omega arith)) in
    grind (arith, at)

-- what is read after digits
abbrev pub after : List ℕ → Result (List ℕ) CidTextFault → Result (List ℕ) CidTextFault
after front read = read >>= (λ more. Ok (front ++ more))

with_one : (front : List ℕ) (d : ℕ) (read : Result (List ℕ) CidTextFault) → after (front ++ d ∷ []) read ≡ after front (read >>= (λ ds. Ok (d ∷ ds)))
with_one front d (Ok more) = ap Ok (append_assoc front (d ∷ []) more)
with_one front d (Err fault) = refl

-- one digit more
pub one_more : (base : Base) (place i : ℕ) (text front : List ℕ) (d : ℕ) → i < length text → digit_value base (get_or text i 0) ≡ Some d
    → after (front ++ d ∷ []) (digits_from base (place + (i + 1)) (drop (i + 1) text)) ≡ after front (digits_from base (place + i) (drop i text))
one_more base place i text front d within e =
    let there : place + (i + 1) ≡ place + i + 1 = omega arith in
    with_one front d (digits_from base (place + (i + 1)) (drop (i + 1) text))
    ∙ ap (λ (p : ℕ). after front (digits_from base p (drop (i + 1) text) >>= (λ ds. Ok (d ∷ ds)))) there
    ∙ ap (λ (o : Option ℕ). after front (digit_at base (place + i) o >>= (λ x. digits_from base (place + i + 1) (drop (i + 1) text) >>= (λ ds. Ok (x ∷ ds))))) (sym e)
    ∙ sym (at_drop_more (λ (l : List ℕ). after front (digits_from base (place + i) l)) text i 0 within)

-- or none
pub not_there : (base : Base) (place i : ℕ) (text front : List ℕ) → i < length text → digit_value base (get_or text i 0) ≡ None
    → after front (digits_from base (place + i) (drop i text)) ≡ Err (Digit base (place + i))
not_there base place i text front within e =
    at_drop_more (λ (l : List ℕ). after front (digits_from base (place + i) l)) text i 0 within
    ∙ ap (λ (o : Option ℕ). after front (digit_at base (place + i) o >>= (λ x. digits_from base (place + i + 1) (drop (i + 1) text) >>= (λ ds. Ok (x ∷ ds))))) e
