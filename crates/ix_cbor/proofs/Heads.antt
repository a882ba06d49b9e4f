-- Heads: what an argument is read from is its shortest form, and that form is read again.
use Rattle.std.proofs.Common.{◌≡◌, inl, inr, ℕ, ◌+◌, ◌*◌, ◌/◌, ◌%◌, ◌^◌, ◌<◌, ◌≤◌, cond, List, [], ◌∷◌, ◌++◌, length, take, drop, refl, sym, ◌∙◌, ap, subst, arith, length-take, length-append, take-append-drop, ltb-false, le-ltb, lt-ltb, ltb-true, eqb-true}
use Rattle.std.specs.Prelude.{nat_lt, ◌==◌, Result, Ok, Err}
use Rattle.std.specs.Int.{Width, w8, w16, w32, w64, byte_len, from_be_bytes, to_be_bytes}
use Rattle.std.proofs.lemmas.Bool.{cond-true, cond-false, cases_lt}
use Rattle.std.proofs.lemmas.List.{take_at, drop_at}
use Rattle.std.proofs.lemmas.Nat.{be_bytes_2, be_bytes_4, be_bytes_8, from_be_bytes-to_be_bytes_2, from_be_bytes-to_be_bytes_4, from_be_bytes-to_be_bytes_8}
use Rattle.ix_cid.proofs.Fronts.{chosen}
use Rattle.ix_cbor.specs.declared.fault.CborKind.TheVariants.{Truncated, NotShortest, Indefinite}
use Rattle.ix_cbor.specs.Spelling.{head_of}
use Rattle.ix_cbor.specs.Reading.{Fault, wide_at, argument_at}
use Rattle.ix_cbor.proofs.Bytes.{IsBytes, IsBytes-take}
use Rattle.ix_cbor.proofs.Steps.{no_ok, ok_same, past_test}

-- numbers of one width, as bytes and back
pub record IsWide (w : Width) (limit : ℕ) : Type 0 where
  pub len : (n : ℕ) → length (to_be_bytes w n) ≡ byte_len w
  pub back : (b : List ℕ) → length b ≡ byte_len w → IsBytes b → to_be_bytes w (from_be_bytes w b) ≡ b
  pub again : (n : ℕ) → n < limit → from_be_bytes w (to_be_bytes w n) ≡ n
  pub below : (b : List ℕ) → IsBytes b → from_be_bytes w b < limit

-- one byte is the spelling of its number
one_byte : (b : List ℕ) → length b ≡ 1 → IsBytes b → to_be_bytes w8 (from_be_bytes w8 b) ≡ b
one_byte [] len fits = absurd (omega arith)
one_byte (x ∷ []) len fits = let small = fits 0 in let same : x % 256 ≡ x = omega arith in ap (λ y. y ∷ []) same
one_byte (x ∷ y ∷ b) len fits = absurd (omega arith)

-- one byte
pub wide8 : IsWide w8 (2 ^ 8)
wide8 = record {
  len = λ n. refl;
  back = one_byte;
  again = λ n lt. omega arith;
  below = λ b fits. omega (arith, fits 0);
}

-- two bytes
pub wide16 : IsWide w16 (2 ^ 16)
wide16 = record {
  len = λ n. refl;
  back = λ b len fits. be_bytes_2 b _ len fits refl;
  again = λ n lt. from_be_bytes-to_be_bytes_2 n lt;
  below = λ b fits. omega (arith, fits 0, fits 1);
}

-- four bytes
pub wide32 : IsWide w32 (2 ^ 32)
wide32 = record {
  len = λ n. refl;
  back = λ b len fits. be_bytes_4 b _ len fits refl;
  again = λ n lt. from_be_bytes-to_be_bytes_4 n lt;
  below = λ b fits. omega (arith, fits 0, fits 1, fits 2, fits 3);
}

-- eight bytes
pub wide64 : IsWide w64 (2 ^ 64)
wide64 = record {
  len = λ n. refl;
  back = λ b len fits. be_bytes_8 b _ len fits refl;
  again = λ n lt. from_be_bytes-to_be_bytes_8 n lt;
  below = λ b fits. omega (arith, fits 0, fits 1, fits 2, fits 3, fits 4, fits 5, fits 6, fits 7);
}

-- a number that was read in w bytes
pub record WideTaken (w : Width) (limit least : ℕ) (b : List ℕ) (n : ℕ) (rest : List ℕ) : Type 0 where
  pub parts : b ≡ to_be_bytes w n ++ rest
  pub at_least : least ≤ n
  pub below : n < limit

-- a number in w bytes, where no shorter form would do
abbrev checked : List ℕ → ℕ → List ℕ → ℕ → Result (ℕ × List ℕ) Fault
checked at least rest n = cond (nat_lt n least) (Err (record { kind = NotShortest; left = length at })) (Ok (n, rest))

-- what is read in w bytes is spelled so
pub wide_taken : (w : Width) (limit : ℕ) (wide : IsWide w limit) (at : List ℕ) (least : ℕ) (b : List ℕ) (n : ℕ) (rest : List ℕ) → IsBytes b
    → wide_at at w least b ≡ Ok (n, rest) → WideTaken w limit least b n rest
wide_taken w limit wide at least b n rest fits e =
    let long = past_test (nat_lt (length b) (byte_len w)) (record { kind = Truncated; left = 0 }) (checked at least (drop (byte_len w) b) (from_be_bytes w (take (byte_len w) b))) (n, rest) e in
    let short = past_test (nat_lt (from_be_bytes w (take (byte_len w) b)) least) (record { kind = NotShortest; left = length at }) (Ok (from_be_bytes w (take (byte_len w) b), drop (byte_len w) b)) (n, rest) long.1 in
    let same = ok_same (from_be_bytes w (take (byte_len w) b), drop (byte_len w) b) (n, rest) short.1 in
    let enough : byte_len w ≤ length b = ltb-false _ _ long.0 in
    subst (λ (x : ℕ × List ℕ). WideTaken w limit least b x.0 x.1) same
    (record {
      parts = sym (ap (λ (l : List ℕ). l ++ drop (byte_len w) b) (wide.back (take (byte_len w) b) (omega (arith, length-take (byte_len w) b)) (IsBytes-take (byte_len w) b fits)) ∙ take-append-drop (byte_len w) b);
      at_least = ltb-false _ _ short.0;
      below = wide.below (take (byte_len w) b) (IsBytes-take (byte_len w) b fits);
    })

-- what is spelled in w bytes is read
pub wide_again : (w : Width) (limit : ℕ) (wide : IsWide w limit) (at : List ℕ) (least n : ℕ) (rest : List ℕ) → least ≤ n → n < limit → wide_at at w least (to_be_bytes w n ++ rest) ≡ Ok (n, rest)
wide_again w limit wide at least n rest le lt =
    let b = to_be_bytes w n ++ rest in
    let len = wide.len n in
    cond-false _ _ _ (le-ltb (length b) (byte_len w) (omega (arith, length-append (to_be_bytes w n) rest)))
    ∙ ap (λ (l : List ℕ). checked at least (drop (byte_len w) b) (from_be_bytes w l)) (take_at (to_be_bytes w n) rest (byte_len w) len)
    ∙ ap (λ (l : List ℕ). checked at least l (from_be_bytes w (to_be_bytes w n))) (drop_at (to_be_bytes w n) rest (byte_len w) len)
    ∙ ap (checked at least rest) (wide.again n lt) ∙ cond-false _ _ _ (le-ltb n least le)

-- ---- the shortest form, by the size of the argument

module _ (major n : ℕ) where
  -- in the head byte
  pub head_tiny : n < 24 → head_of major n ≡ (32 * major + n) ∷ []
  head_tiny lt = cond-true _ _ _ (lt-ltb n 24 lt)

  -- in one byte after it
  pub head_8 : 24 ≤ n → n < 2 ^ 8 → head_of major n ≡ (32 * major + 24) ∷ to_be_bytes w8 n
  head_8 le lt = cond-false _ _ _ (le-ltb n 24 le) ∙ cond-true _ _ _ (lt-ltb n (2 ^ 8) lt)

  -- in two
  pub head_16 : 2 ^ 8 ≤ n → n < 2 ^ 16 → head_of major n ≡ (32 * major + 25) ∷ to_be_bytes w16 n
  head_16 le lt = cond-false _ _ _ (le-ltb n 24 (omega arith)) ∙ cond-false _ _ _ (le-ltb n (2 ^ 8) le) ∙ cond-true _ _ _ (lt-ltb n (2 ^ 16) lt)

  -- in four
  pub head_32 : 2 ^ 16 ≤ n → n < 2 ^ 32 → head_of major n ≡ (32 * major + 26) ∷ to_be_bytes w32 n
  head_32 le lt =
      cond-false _ _ _ (le-ltb n 24 (omega arith)) ∙ cond-false _ _ _ (le-ltb n (2 ^ 8) (omega arith)) ∙ cond-false _ _ _ (le-ltb n (2 ^ 16) le) ∙ cond-true _ _ _ (lt-ltb n (2 ^ 32) lt)

  -- in eight
  pub head_64 : 2 ^ 32 ≤ n → head_of major n ≡ (32 * major + 27) ∷ to_be_bytes w64 n
  head_64 le =
      cond-false _ _ _ (le-ltb n 24 (omega arith)) ∙ cond-false _ _ _ (le-ltb n (2 ^ 8) (omega arith)) ∙ cond-false _ _ _ (le-ltb n (2 ^ 16) (omega arith)) ∙ cond-false _ _ _ (le-ltb n (2 ^ 32) le)

-- ---- an argument that was read

-- the bytes from the head byte on are the shortest head
pub record Headed (major n : ℕ) (b rest : List ℕ) : Type 0 where
  pub parts : b ≡ head_of major n ++ rest
  pub below : n < 2 ^ 64

-- an argument that was read in bytes of its own
wide_headed : (major info k : ℕ) (w : Width) (limit least : ℕ) (b : List ℕ) (n : ℕ) (rest : List ℕ) → WideTaken w limit least b n rest → info ≡ k
    → head_of major n ≡ (32 * major + k) ∷ to_be_bytes w n → limit ≤ 2 ^ 64 → Headed major n ((32 * major + info) ∷ b) rest
wide_headed major info k w limit least b n rest t is head le =
    record { parts = ap (λ (i : ℕ). (32 * major + i) ∷ b) is ∙ ap (λ (l : List ℕ). (32 * major + k) ∷ l) t.parts ∙ ap (λ (l : List ℕ). l ++ rest) (sym head); below = omega (arith, t.below) }

-- an argument that is the information
tiny_headed : (major info : ℕ) (b : List ℕ) (n : ℕ) (rest : List ℕ) → info < 24 → info ≡ n → b ≡ rest → Headed major n ((32 * major + info) ∷ b) rest
tiny_headed major info b n rest lt is same =
    record { parts = ap (λ (i : ℕ). (32 * major + i) ∷ b) is ∙ ap (λ (l : List ℕ). (32 * major + n) ∷ l) same ∙ ap (λ (l : List ℕ). l ++ rest) (sym (head_tiny major n (omega arith))); below = omega arith }

-- the tests on the information of a head byte, from each on
module _ (at : List ℕ) (info : ℕ) (b : List ℕ) where
  -- no argument
  abbrev none_from : Result (ℕ × List ℕ) Fault
  none_from = cond (info == 31) (Err (record { kind = Indefinite; left = length at })) (Err (record { kind = NotShortest; left = length at }))

  -- eight bytes
  abbrev from_27 : Result (ℕ × List ℕ) Fault
  from_27 = cond (info == 27) (wide_at at w64 (2 ^ 32) b) none_from

  -- four
  abbrev from_26 : Result (ℕ × List ℕ) Fault
  from_26 = cond (info == 26) (wide_at at w32 (2 ^ 16) b) from_27

  -- two
  abbrev from_25 : Result (ℕ × List ℕ) Fault
  from_25 = cond (info == 25) (wide_at at w16 (2 ^ 8) b) from_26

  -- one
  abbrev from_24 : Result (ℕ × List ℕ) Fault
  from_24 = cond (info == 24) (wide_at at w8 24 b) from_25

-- the bytes from the head byte on, where such a test gave an argument
module _ (at : List ℕ) (major info : ℕ) (b : List ℕ) (n : ℕ) (rest : List ℕ) (fits : IsBytes b) where
  -- no test gives one
  taken_none : none_from at info b ≡ Ok (n, rest) → Headed major n ((32 * major + info) ∷ b) rest
  taken_none e =
      elim (chosen (info == 31) (Err (record { kind = Indefinite; left = length at })) (Err (record { kind = NotShortest; left = length at })) (Ok (n, rest)) e) [
        | inl t ↦ no_ok (record { kind = Indefinite; left = length at }) (n, rest) t.1
        | inr f ↦ no_ok (record { kind = NotShortest; left = length at }) (n, rest) f.1
      ]

  -- eight bytes
  taken_27 : from_27 at info b ≡ Ok (n, rest) → Headed major n ((32 * major + info) ∷ b) rest
  taken_27 e =
      elim (chosen (info == 27) (wide_at at w64 (2 ^ 32) b) (none_from at info b) (Ok (n, rest)) e) [
        | inl t ↦ let w = wide_taken w64 (2 ^ 64) wide64 at (2 ^ 32) b n rest fits t.1 in wide_headed major info 27 w64 (2 ^ 64) (2 ^ 32) b n rest w (eqb-true info 27 t.0) (head_64 major n w.at_least) (omega arith)
        | inr f ↦ taken_none f.1
      ]

  -- four or eight
  taken_26 : from_26 at info b ≡ Ok (n, rest) → Headed major n ((32 * major + info) ∷ b) rest
  taken_26 e =
      elim (chosen (info == 26) (wide_at at w32 (2 ^ 16) b) (from_27 at info b) (Ok (n, rest)) e) [
        | inl t ↦ let w = wide_taken w32 (2 ^ 32) wide32 at (2 ^ 16) b n rest fits t.1 in wide_headed major info 26 w32 (2 ^ 32) (2 ^ 16) b n rest w (eqb-true info 26 t.0) (head_32 major n w.at_least w.below) (omega arith)
        | inr f ↦ taken_27 f.1
      ]

  -- two or more
  taken_25 : from_25 at info b ≡ Ok (n, rest) → Headed major n ((32 * major + info) ∷ b) rest
  taken_25 e =
      elim (chosen (info == 25) (wide_at at w16 (2 ^ 8) b) (from_26 at info b) (Ok (n, rest)) e) [
        | inl t ↦ let w = wide_taken w16 (2 ^ 16) wide16 at (2 ^ 8) b n rest fits t.1 in wide_headed major info 25 w16 (2 ^ 16) (2 ^ 8) b n rest w (eqb-true info 25 t.0) (head_16 major n w.at_least w.below) (omega arith)
        | inr f ↦ taken_26 f.1
      ]

  -- one or more
  taken_24 : from_24 at info b ≡ Ok (n, rest) → Headed major n ((32 * major + info) ∷ b) rest
  taken_24 e =
      elim (chosen (info == 24) (wide_at at w8 24 b) (from_25 at info b) (Ok (n, rest)) e) [
        | inl t ↦ let w = wide_taken w8 (2 ^ 8) wide8 at 24 b n rest fits t.1 in wide_headed major info 24 w8 (2 ^ 8) 24 b n rest w (eqb-true info 24 t.0) (head_8 major n w.at_least w.below) (omega arith)
        | inr f ↦ taken_25 f.1
      ]

  -- any
  pub argument_taken : argument_at at info b ≡ Ok (n, rest) → Headed major n ((32 * major + info) ∷ b) rest
  argument_taken e =
      elim (chosen (nat_lt info 24) (Ok (info, b)) (from_24 at info b) (Ok (n, rest)) e) [
        | inl t ↦ let same = ok_same (info, b) (n, rest) t.1 in tiny_headed major info b n rest (ltb-true info 24 t.0) (ap (λ (x : ℕ × List ℕ). x.0) same) (ap (λ (x : ℕ × List ℕ). x.1) same)
        | inr f ↦ taken_24 f.1
      ]

-- the same at a head byte
pub head_taken : (at : List ℕ) (h : ℕ) (b : List ℕ) (n : ℕ) (rest : List ℕ) → IsBytes b → argument_at at (h % 32) b ≡ Ok (n, rest) → Headed (h / 32) n (h ∷ b) rest
head_taken at h b n rest fits e =
    subst (λ (x : ℕ). Headed (h / 32) n (x ∷ b) rest) (omega arith) (argument_taken at (h / 32) (h % 32) b n rest fits e)

-- the first byte of a head, and how the argument is read after it
pub record HeadRead (major n : ℕ) (rest : List ℕ) : Type 0 where
  pub info : ℕ
  pub behind : List ℕ
  pub small : info < 32
  pub parts : head_of major n ++ rest ≡ (32 * major + info) ∷ behind
  pub argument : (at : List ℕ) → argument_at at info behind ≡ Ok (n, rest)

-- a head with an argument in bytes of its own
wide_read : (major n : ℕ) (rest : List ℕ) (k : ℕ) (w : Width) → head_of major n ≡ (32 * major + k) ∷ to_be_bytes w n → k < 32
    → ((at : List ℕ) → argument_at at k (to_be_bytes w n ++ rest) ≡ Ok (n, rest)) → HeadRead major n rest
wide_read major n rest k w head small reads =
    record { info = k; behind = to_be_bytes w n ++ rest; small = small; parts = ap (λ (l : List ℕ). l ++ rest) head; argument = reads }

-- a head is read again
pub head_read : (major n : ℕ) (rest : List ℕ) → n < 2 ^ 64 → HeadRead major n rest
head_read major n rest lt =
    elim (cases_lt n 24) [
      | inl a ↦ record { info = n; behind = rest; small = omega arith; parts = ap (λ (l : List ℕ). l ++ rest) (head_tiny major n a); argument = λ at. cond-true _ _ _ (lt-ltb n 24 a) }
      | inr a ↦ elim (cases_lt n (2 ^ 8)) [
        | inl b ↦ wide_read major n rest 24 w8 (head_8 major n a b) (omega arith) (λ at. wide_again w8 (2 ^ 8) wide8 at 24 n rest a b)
        | inr b ↦ elim (cases_lt n (2 ^ 16)) [
          | inl c ↦ wide_read major n rest 25 w16 (head_16 major n b c) (omega arith) (λ at. wide_again w16 (2 ^ 16) wide16 at (2 ^ 8) n rest b c)
          | inr c ↦ elim (cases_lt n (2 ^ 32)) [
            | inl d ↦ wide_read major n rest 26 w32 (head_32 major n c d) (omega arith) (λ at. wide_again w32 (2 ^ 32) wide32 at (2 ^ 16) n rest c d)
            | inr d ↦ wide_read major n rest 27 w64 (head_64 major n d) (omega arith) (λ at. wide_again w64 (2 ^ 64) wide64 at (2 ^ 32) n rest d lt)
          ]
        ]
      ]
    ]
