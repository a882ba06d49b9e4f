-- Strings: what is read is a head and the bytes that it counts, and these are read again.
use Rattle.std.proofs.Common.{◌≡◌, ℕ, ◌+◌, ◌*◌, ◌/◌, ◌%◌, ◌^◌, ◌<◌, ◌≤◌, List, [], ◌∷◌, ◌++◌, length, take, drop, refl, sym, ◌∙◌, ap, subst, arith, append_assoc, length-take, length-append, take-append-drop, ltb-false, le-ltb, eqb-true, eq-eqb}
use Rattle.std.specs.Prelude.{nat_lt, ◌==◌, Ok, Err}
use Rattle.std.proofs.lemmas.Bool.{cond-true, cond-false}
use Rattle.std.proofs.lemmas.List.{take_at as take_front, drop_at}
use Rattle.ix_cbor.specs.declared.fault.CborKind.TheVariants.{Truncated}
use Rattle.ix_cbor.specs.Spelling.{head_of}
use Rattle.ix_cbor.specs.Reading.{Fault, ◌>>=◌, take_at, argument_at, string_at, string_of_major}
use Rattle.ix_cbor.proofs.Bytes.{IsBytes, IsBytes-rest}
use Rattle.ix_cbor.proofs.Steps.{bind_ok, no_ok, ok_same, past_test, past_guard}
use Rattle.ix_cbor.proofs.Heads.{head_taken, head_read}

-- n bytes at the front
pub record Counted (n : ℕ) (b s rest : List ℕ) : Type 0 where
  pub parts : b ≡ s ++ rest
  pub size : length s ≡ n

-- what is read has its length and is at the front
pub counted : (n : ℕ) (b s rest : List ℕ) → take_at n b ≡ Ok (s, rest) → Counted n b s rest
counted n b s rest e =
    let t = past_test (nat_lt (length b) n) (record { kind = Truncated; left = 0 }) (Ok (take n b, drop n b)) (s, rest) e in
    let enough : n ≤ length b = ltb-false (length b) n t.0 in
    subst (λ (x : List ℕ × List ℕ). Counted n b x.0 x.1) (ok_same (take n b, drop n b) (s, rest) t.1)
    (record { parts = sym (take-append-drop n b); size = omega (arith, length-take n b) })

-- as many bytes as there are, taken from the front
pub take_again : (s rest : List ℕ) → take_at (length s) (s ++ rest) ≡ Ok (s, rest)
take_again s rest =
    cond-false _ _ _ (le-ltb (length (s ++ rest)) (length s) (omega (arith, length-append s rest))) ∙ (λ i. Ok (take_front s rest (length s) refl i, drop_at s rest (length s) refl i))

-- a head that counts the bytes after it
pub record StringTaken (major : ℕ) (b s rest : List ℕ) : Type 0 where
  pub parts : b ≡ (head_of major (length s) ++ s) ++ rest
  pub below : length s < 2 ^ 64

-- what is read is spelled so
pub string_taken : (major : ℕ) (other : List ℕ → Fault) (b s rest : List ℕ) → IsBytes b → string_of_major major (λ at. Err (other at)) b ≡ Ok (s, rest) → StringTaken major b s rest
string_taken major other [] s rest fits e = no_ok _ (s, rest) e
string_taken major other (h ∷ b) s rest fits e =
    let t = past_guard (h / 32 == major) (other (h ∷ b)) (string_at (h ∷ b) (h % 32) b) (s, rest) e in
    let a = bind_ok (argument_at (h ∷ b) (h % 32) b) (λ n. take_at n.0 n.1) (s, rest) t.1 in
    let head = head_taken (h ∷ b) h b a.0.0 a.0.1 (IsBytes-rest h b fits) a.1 in
    let content = counted a.0.0 a.0.1 s rest a.2 in
    record {
      parts = head.parts ∙ ap (λ (l : List ℕ). head_of (h / 32) a.0.0 ++ l) content.parts ∙ (λ i. head_of (eqb-true (h / 32) major t.0 i) (sym content.size i) ++ (s ++ rest)) ∙ sym (append_assoc (head_of major (length s)) s rest);
      below = omega (arith, content.size, head.below);
    }

-- what is spelled so is read
pub string_again : (major : ℕ) (other : List ℕ → Fault) (s rest : List ℕ) → length s < 2 ^ 64 → string_of_major major (λ at. Err (other at)) ((head_of major (length s) ++ s) ++ rest) ≡ Ok (s, rest)
string_again major other s rest below =
    let r = head_read major (length s) (s ++ rest) below in
    let h = 32 * major + r.info in
    let small = r.small in
    let major_is : h / 32 ≡ major = omega arith in
    let info_is : h % 32 ≡ r.info = omega arith in
    ap (string_of_major major (λ at. Err (other at))) (append_assoc (head_of major (length s)) s rest ∙ r.parts) ∙ cond-true _ _ _ (eq-eqb (h / 32) major major_is)
    ∙ ap (λ (i : ℕ). string_at (h ∷ r.behind) i r.behind) info_is ∙ ap (λ x. x >>= (λ n. take_at n.0 n.1)) (r.argument (h ∷ r.behind)) ∙ take_again s rest
