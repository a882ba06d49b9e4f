-- A segment's text, read byte by byte.
use Rattle.std.proofs.Common.{◌≡◌, ℕ, ◌+◌, true, false, List, [], ◌∷◌, ◌++◌, length, refl, sym, ◌∙◌, ap, append_assoc, arith}
use Rattle.std.specs.Prelude.{◌==◌, if◌then◌else◌, Option, Some, None, option_map, Result, Ok, Err}
use Rattle.std.proofs.lemmas.Option.{same_Some}
use Rattle.ix_path.specs.declared.error.PathError.{PathError}
use Rattle.ix_path.specs.declared.error.PathError.TheVariants.{Cid, Escape, TooManySegments, Memory}
use Rattle.ix_path.specs.Path.{◌>>=◌, byte_of, front_byte, before, unescaped}
use Rattle.ix_path.specs.Gives.{Fails}

-- what is read after what was read before
abbrev pub after_front : {A : Type 0} → List A → Result (List A) PathError → Result (List A) PathError
after_front front read = read >>= (λ more. Ok (front ++ more))

-- one more in front
abbrev pub with_one : {A : Type 0} → A → Result (List A) PathError → Result (List A) PathError
with_one x read = read >>= (λ more. Ok (x ∷ more))

-- one more in front is one more before
pub after_front-one : {A : Type 0} (front : List A) (x : A) (read : Result (List A) PathError) → after_front (front ++ x ∷ []) read ≡ after_front front (with_one x read)
after_front-one front x (Ok more) = ap Ok (append_assoc front (x ∷ []) more)
after_front-one front x (Err error) = refl

-- what can't be read can't be read after what was
pub Fails-after : {A B : Type 0} (front : List A) (error : PathError) (read : Result B PathError) (whole : Result (List A) PathError) (go : (B → Result (List A) PathError))
    → Fails error read → after_front front (read >>= go) ≡ whole → Fails error whole
Fails-after front Memory read whole go h e = tt
Fails-after front (Cid fault) read whole go h e = sym e ∙ ap (λ r. after_front front (r >>= go)) h
Fails-after front (Escape place) read whole go h e = sym e ∙ ap (λ r. after_front front (r >>= go)) h
Fails-after front (TooManySegments most) read whole go h e = sym e ∙ ap (λ r. after_front front (r >>= go)) h

-- nothing in front
pub after_front-none : {A : Type 0} (read : Result (List A) PathError) → after_front [] read ≡ read
after_front-none (Ok more) = refl
after_front-none (Err error) = refl

-- a byte and the text after it
abbrev with_rest : List ℕ → ℕ → ℕ × List ℕ
with_rest rest b = (b, rest)

abbrev Front : Type 0
Front = Option (ℕ × List ℕ)

-- a byte is read of a text of this length, and then the rest
abbrev pub Reads : ℕ → ℕ → List ℕ → ℕ → Result (List ℕ) PathError → Type 0
Reads place b rest size read = (n : ℕ) × (n + length rest ≡ size) × (read ≡ with_one b (unescaped (place + n) rest))

module _ (place b : ℕ) (rest : List ℕ) where
  -- the text at the front is an escape
  escaped : (o : Option ℕ) (more : List ℕ) → ◌≡◌ {A = Front} (option_map (with_rest more) o) (Some (b, rest)) → Reads place b rest (3 + length more) (before o place (unescaped (place + 3) more))
  escaped None more h = absurd cc
  escaped (Some c) more h =
      let s = same_Some (with_rest more c) (b, rest) h in
      let r : more ≡ rest = ap (λ (p : ℕ × List ℕ). p.1) s in (
        3,
        ap (λ (l : List ℕ). 3 + length l) (sym r),
        ap (λ (l : List ℕ). before (Some c) place (unescaped (place + 3) l)) r ∙ ap (λ (d : ℕ). with_one d (unescaped (place + 3) rest)) (ap (λ (p : ℕ × List ℕ). p.0) s),
      )

  -- it is a byte that stands for itself
  itself : (x : ℕ) (more : List ℕ) → ◌≡◌ {A = Front} (Some (x, more)) (Some (b, rest)) → Reads place b rest (1 + length more) (with_one x (unescaped (place + 1) more))
  itself x more h =
      let s = same_Some (x, more) (b, rest) h in
      let r : more ≡ rest = ap (λ (p : ℕ × List ℕ). p.1) s in (
        1,
        ap (λ (l : List ℕ). 1 + length l) (sym r),
        ap (λ (l : List ℕ). with_one x (unescaped (place + 1) l)) r ∙ ap (λ (d : ℕ). with_one d (unescaped (place + 1) rest)) (ap (λ (p : ℕ × List ℕ). p.0) s),
      )

  -- the same of a text of that length
  sized : (m n : ℕ) (read : Result (List ℕ) PathError) → m ≡ n → Reads place b rest m read → Reads place b rest n read
  sized m n read e r = (r.0, r.1 ∙ e, r.2)

  -- the byte at the front is read, and then the rest
  pub front_read : (text : List ℕ) → front_byte text ≡ Some (b, rest) → Reads place b rest (length text) (unescaped place text)
  front_read [] h = absurd cc
  front_read (x ∷ []) h =
      elim (x == 37) as (λ t. ◌≡◌ {A = Front} (if t then None else Some (x, [])) (Some (b, rest)) → Reads place b rest (length (x ∷ [])) (if t then Err (Escape place) else Ok (x ∷ [])))
      [ true ↦ (λ g. absurd cc) | false ↦ (λ g. sized 1 (length (x ∷ [])) _ (omega arith) (itself x [] g)) ] h
  front_read (x ∷ y ∷ []) h =
      elim (x == 37) as (λ t. ◌≡◌ {A = Front} (if t then None else Some (x, y ∷ [])) (Some (b, rest)) → Reads place b rest (length (x ∷ y ∷ [])) (if t then Err (Escape place) else before (Some x) place (unescaped (place + 1) (y ∷ []))))
      [ true ↦ (λ g. absurd cc) | false ↦ (λ g. sized (1 + length (y ∷ [])) (length (x ∷ y ∷ [])) _ (omega arith) (itself x (y ∷ []) g)) ] h
  front_read (x ∷ y ∷ z ∷ more) h =
      elim (x == 37) as (λ t. ◌≡◌ {A = Front} (if t then option_map (with_rest more) (byte_of y z) else Some (x, y ∷ z ∷ more)) (Some (b, rest))
      → Reads place b rest (length (x ∷ y ∷ z ∷ more)) (if t then before (byte_of y z) place (unescaped (place + 3) more) else before (Some x) place (unescaped (place + 1) (y ∷ z ∷ more)))) [
        | true ↦ (λ g. sized (3 + length more) (length (x ∷ y ∷ z ∷ more)) _ (omega arith) (escaped (byte_of y z) more g))
        | false ↦ (λ g. sized (1 + length (y ∷ z ∷ more)) (length (x ∷ y ∷ z ∷ more)) _ (omega arith) (itself x (y ∷ z ∷ more) g))
      ] h
