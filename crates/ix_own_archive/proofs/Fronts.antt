-- What is read at the front of bytes is read the same with more after them, if it has come whole.
use Rattle.std.proofs.Common.{◌≡◌, ℕ, ◌+◌, ◌^◌, ◌<◌, ◌≤◌, Bool, true, false, cond, ltb, leb, eqb, get_or, List, [], ◌∷◌, ◌++◌, length, take, drop, refl, sym, ◌∙◌, ap, arith, append_assoc, length-append, length-drop}
use Rattle.std.specs.Prelude.{Result, Ok, Err, Option, Some, None}
use Rattle.std.proofs.lemmas.Bool.{leb-true, leb-false, le-leb, ltb-true, ltb-false, lt-ltb, le-ltb, eqb-false, ne_eqb}
use Rattle.std.proofs.lemmas.List.{get_or_append_left, take-append-le, drop-append-le}
use Rattle.ix_cid.specs.declared.fault.VarintFault.{VarintFault}
use Rattle.ix_cid.specs.declared.fault.VarintFault.TheVariants as varints
use Rattle.ix_cid.specs.declared.fault.CidFault.{CidFault}
use Rattle.ix_cid.specs.Varint.{continued, varint_of, varint_at, varint_ending}
use Rattle.ix_cid.specs.Cid.{cid_at}
use Rattle.ix_cid.proofs.GroupLaws.{continued_length}
use Rattle.ix_cid.proofs.VarintLaws.{IsVarint-varint_of, varint_at-append}
use Rattle.ix_cbor.specs.Reading.{data_at}
use Rattle.ix_sections.specs.declared.fault.CarKind.{CarKind}
use Rattle.ix_sections.specs.declared.fault.CarKind.TheVariants.{Truncated, Varint, SectionCid}
use Rattle.ix_sections.specs.Reading.{Fault, ◌>>=◌, text_at, text_after, pair_of, section_at, header_at, header_fault, behind_header}
use Rattle.ix_sections.specs.Writing.{with_length}
use Rattle.ix_own_archive.specs.Fronts.{is_whole, is_whole_by}
use Rattle.ix_own_archive.specs.Streaming.{IsAbove}

-- at most as many bytes have the high bit with more after them
continued-least : (b more : List ℕ) → continued b ≤ continued (b ++ more)
continued-least [] more = omega arith
continued-least (x ∷ xs) more = on_bit (leb 128 x) (continued-least xs more) where
  on_bit : (high : Bool) → continued xs ≤ continued (xs ++ more) → cond high (continued xs + 1) 0 ≤ cond high (continued (xs ++ more) + 1) 0
  on_bit true least = omega (arith, least)
  on_bit false least = omega arith

-- as many, if not all have it
continued-same : (b more : List ℕ) → continued b < length b → continued (b ++ more) ≡ continued b
continued-same [] more inside = absurd (omega (arith, inside))
continued-same (x ∷ xs) more inside = on_bit (leb 128 x) inside (continued-same xs more) where
  on_bit : (high : Bool) → cond high (continued xs + 1) 0 < length (x ∷ xs) → (continued xs < length xs → continued (xs ++ more) ≡ continued xs) → cond high (continued (xs ++ more) + 1) 0 ≡ cond high (continued xs + 1) 0
  on_bit true within same = ap (λ (n : ℕ). n + 1) (same (omega (arith, within)))
  on_bit false within same = refl

-- a varint by how many bytes have the high bit
abbrev varint_by : ℕ → List ℕ → Result (ℕ × ℕ) VarintFault
varint_by k b = cond (leb 9 k) (Err varints.TooLong) (cond (eqb k (length b)) (Err varints.Truncated) (varint_ending b k))

varint-long : (k : ℕ) (b : List ℕ) → leb 9 k ≡ true → varint_by k b ≡ Err varints.TooLong
varint-long k b long = rw long refl

varint-cut : (k : ℕ) (b : List ℕ) → leb 9 k ≡ false → eqb k (length b) ≡ true → varint_by k b ≡ Err varints.Truncated
varint-cut k b long cut = rw (long, cut) refl

varint-ends : (k : ℕ) (b : List ℕ) → leb 9 k ≡ false → eqb k (length b) ≡ false → varint_by k b ≡ varint_ending b k
varint-ends k b long cut = rw (long, cut) refl

-- a varint that ends in bytes ends so with more after them
ending-same : (b more : List ℕ) (k : ℕ) → k < length b → varint_ending (b ++ more) k ≡ varint_ending b k
ending-same b more k inside =
    let byte : get_or (b ++ more) k 0 ≡ get_or b k 0 = get_or_append_left b more 0 k inside in
    let front : take (k + 1) (b ++ more) ≡ take (k + 1) b = take-append-le (k + 1) b more (omega (arith, inside)) in
    rw (byte, front) refl

-- a varint that isn't cut off is read the same
pub varint-more : (b more : List ℕ) → (varint_at b ≡ Err varints.Truncated → ⊥) → varint_at (b ++ more) ≡ varint_at b
varint-more b more whole = on_long (leb 9 (continued b)) refl where
  on_cut : (cut : Bool) → leb 9 (continued b) ≡ false → eqb (continued b) (length b) ≡ cut → varint_at (b ++ more) ≡ varint_at b
  on_cut true short cut = absurd (whole (varint-cut (continued b) b short cut))
  on_cut false short ends =
      let k = continued b in
      let other : k ≡ length b → ⊥ = eqb-false k (length b) ends in
      let inside : k < length b = omega (arith, continued_length b) in
      let ne : k ≡ length (b ++ more) → ⊥ = λ e. omega (arith, length-append b more) in
      ap (λ (j : ℕ). varint_by j (b ++ more)) (continued-same b more inside)
      ∙ varint-ends k (b ++ more) short (ne_eqb k (length (b ++ more)) ne) ∙ ending-same b more k inside ∙ sym (varint-ends k b short ends)

  on_long : (long : Bool) → leb 9 (continued b) ≡ long → varint_at (b ++ more) ≡ varint_at b
  on_long true long =
      let least : 9 ≤ continued b = leb-true 9 (continued b) long in
      varint-long (continued (b ++ more)) (b ++ more) (le-leb 9 (continued (b ++ more)) (omega (arith, continued-least b more))) ∙ sym (varint-long (continued b) b long)
  on_long false short = on_cut (eqb (continued b) (length b)) short refl

-- ---- whether what has its length before it has come whole

-- a fault counted from a later end
abbrev pub later : ℕ → Fault → Fault
later n f = record { kind = f.kind; left = f.left + n }

-- a reading with more after it
abbrev pub with_more : {A : Type 0} → (A → A) → ℕ → Result A Fault → Result A Fault
with_more f n (Ok x) = Ok (f x)
with_more f n (Err e) = Err (later n e)

-- a length that is read isn't cut off
whole-varint : (limit : ℕ) (b : List ℕ) (r : Result Bool ℕ) → is_whole limit b ≡ r → (r ≡ Ok false → ⊥) → varint_at b ≡ Err varints.Truncated → ⊥
whole-varint limit b r is whole cut = whole (sym is ∙ ap (is_whole_by limit b) cut)

-- a length that is above the limit stays so
pub above-more : (limit : ℕ) (b more : List ℕ) (n : ℕ) → is_whole limit b ≡ Err n → is_whole limit (b ++ more) ≡ Err n
above-more limit b more n is = on_read (varint_at b) refl is where
  on_read : (r : Result (ℕ × ℕ) VarintFault) → varint_at b ≡ r → is_whole_by limit b r ≡ Err n → is_whole_by limit (b ++ more) (varint_at (b ++ more)) ≡ Err n
  on_read (Ok v) read above =
      let again : varint_at (b ++ more) ≡ Ok v = varint-more b more (λ cut. cc (read, cut)) ∙ read in
      ap (is_whole_by limit (b ++ more)) again ∙ on_limit (ltb limit v.0) above where
        on_limit : (over : Bool) → cond over (Err v.0) (Ok (leb (v.1 + v.0) (length b))) ≡ Err n → cond over (Err v.0) (Ok (leb (v.1 + v.0) (length (b ++ more)))) ≡ Err n
        on_limit true h = h
        on_limit false h = absurd (cc h)
  on_read (Err varints.Truncated) read above = absurd (cc above)
  on_read (Err varints.TooLong) read above = absurd (cc above)
  on_read (Err varints.NotMinimal) read above = absurd (cc above)

-- it is read there
pub above-read : (limit : ℕ) (b : List ℕ) (n : ℕ) → is_whole limit b ≡ Err n → IsAbove limit b n
above-read limit b n is = on_read (varint_at b) refl is where
  on_read : (r : Result (ℕ × ℕ) VarintFault) → varint_at b ≡ r → is_whole_by limit b r ≡ Err n → IsAbove limit b n
  on_read (Ok v) read above = on_limit (ltb limit v.0) refl above where
    on_limit : (over : Bool) → ltb limit v.0 ≡ over → cond over (Err v.0) (Ok (leb (v.1 + v.0) (length b))) ≡ Err n → IsAbove limit b n
    on_limit true over h =
        let same : v.0 ≡ n = cc h in
        record { size = v.1; read = read ∙ ap (λ (m : ℕ). Ok (m, v.1)) same; above = omega (arith, same, ltb-true limit v.0 over) }
    on_limit false over h = absurd (cc h)
  on_read (Err varints.Truncated) read above = absurd (cc above)
  on_read (Err varints.TooLong) read above = absurd (cc above)
  on_read (Err varints.NotMinimal) read above = absurd (cc above)

-- a text whose bytes are all there
text-of : (b : List ℕ) (v : ℕ × ℕ) → v.1 + v.0 ≤ length b → text_after b (Ok v) ≡ Ok (take v.0 (drop v.1 b), drop (v.1 + v.0) b)
text-of b v room = let within : ltb (length b) (v.1 + v.0) ≡ false = le-ltb (length b) (v.1 + v.0) room in rw within refl

-- is the same with more after it
text-same : (b more : List ℕ) (v : ℕ × ℕ) → v.1 + v.0 ≤ length b → text_after (b ++ more) (Ok v) ≡ with_more (λ (t : List ℕ × List ℕ). (t.0, t.1 ++ more)) (length more) (text_after b (Ok v))
text-same b more v room =
    let all : v.1 + v.0 ≤ length (b ++ more) = omega (arith, length-append b more) in
    let front : take v.0 (drop v.1 (b ++ more)) ≡ take v.0 (drop v.1 b) =
    ap (take v.0) (drop-append-le v.1 b more (omega (arith, room))) ∙ take-append-le v.0 (drop v.1 b) more (omega (arith, room, length-drop v.1 b)) in
    let after : drop (v.1 + v.0) (b ++ more) ≡ drop (v.1 + v.0) b ++ more = drop-append-le (v.1 + v.0) b more room in
    let of_front : List ℕ → Result (List ℕ × List ℕ) Fault = λ l. Ok (l, drop (v.1 + v.0) (b ++ more)) in
    let of_after : List ℕ → Result (List ℕ × List ℕ) Fault = λ l. Ok (take v.0 (drop v.1 b), l) in
    text-of (b ++ more) v all ∙ ap of_front front ∙ ap of_after after
    ∙ ap (with_more (λ (t : List ℕ × List ℕ). (t.0, t.1 ++ more)) (length more)) (sym (text-of b v room))

-- a fault at the front of bytes, with more after them
fault-later : {A : Type 0} → (kind : CarKind) (b more : List ℕ) → (let r : Result A Fault = Err (record { kind = kind; left = length (b ++ more) }) in r ≡ Err (record { kind = kind; left = length b + length more }))
fault-later kind b more = ap (λ (n : ℕ). Err (record { kind = kind; left = n })) (length-append b more)

-- what is whole is read the same
pub text-more : (limit : ℕ) (b more : List ℕ) → is_whole limit b ≡ Ok true → text_at (b ++ more) ≡ with_more (λ (t : List ℕ × List ℕ). (t.0, t.1 ++ more)) (length more) (text_at b)
text-more limit b more is =
    let same = varint-more b more (λ cut. whole-varint limit b (Ok true) is (λ e. cc e) cut) in
    ap (text_after (b ++ more)) same ∙ on_read (varint_at b) is where
      on_read : (r : Result (ℕ × ℕ) VarintFault) → is_whole_by limit b r ≡ Ok true → text_after (b ++ more) r ≡ with_more (λ (t : List ℕ × List ℕ). (t.0, t.1 ++ more)) (length more) (text_after b r)
      on_read (Ok v) h = on_limit (ltb limit v.0) (leb (v.1 + v.0) (length b)) refl h where
        on_limit : (over all : Bool) → leb (v.1 + v.0) (length b) ≡ all → cond over (Err v.0) (Ok all) ≡ Ok true → text_after (b ++ more) (Ok v) ≡ with_more (λ (t : List ℕ × List ℕ). (t.0, t.1 ++ more)) (length more) (text_after b (Ok v))
        on_limit true all has e = absurd (cc e)
        on_limit false true has e = text-same b more v (leb-true (v.1 + v.0) (length b) has)
        on_limit false false has e = absurd (cc e)
      on_read (Err varints.Truncated) h = absurd (cc h)
      on_read (Err varints.TooLong) h = fault-later Varint b more
      on_read (Err varints.NotMinimal) h = fault-later Varint b more

-- and so is a section
pub section-more : (limit : ℕ) (b more : List ℕ) → is_whole limit b ≡ Ok true → section_at (b ++ more) ≡ with_more (λ (s : (List ℕ × List ℕ) × List ℕ). (s.0, s.1 ++ more)) (length more) (section_at b)
section-more limit b more is =
    let next : Result (List ℕ × List ℕ) Fault → Result ((List ℕ × List ℕ) × List ℕ) Fault = λ r. r >>= (λ t. pair_of (b ++ more) t.0 (cid_at t.0) >>= (λ p. Ok (p, t.1))) in
    ap next (text-more limit b more is) ∙ on_text (text_at b) where
      on_cid : (t : List ℕ × List ℕ) (c : Result (List ℕ × ℕ) CidFault)
          → (pair_of (b ++ more) t.0 c >>= (λ p. Ok (p, t.1 ++ more))) ≡ with_more (λ (s : (List ℕ × List ℕ) × List ℕ). (s.0, s.1 ++ more)) (length more) (pair_of b t.0 c >>= (λ p. Ok (p, t.1)))
      on_cid t (Ok c) = refl
      on_cid t (Err e) = fault-later SectionCid b more

      on_text : (r : Result (List ℕ × List ℕ) Fault)
          → (with_more (λ (t : List ℕ × List ℕ). (t.0, t.1 ++ more)) (length more) r >>= (λ t. pair_of (b ++ more) t.0 (cid_at t.0) >>= (λ p. Ok (p, t.1))))
          ≡ with_more (λ (s : (List ℕ × List ℕ) × List ℕ). (s.0, s.1 ++ more)) (length more) (r >>= (λ t. pair_of b t.0 (cid_at t.0) >>= (λ p. Ok (p, t.1))))
      on_text (Ok t) = on_cid t (cid_at t.0)
      on_text (Err e) = refl

-- and a header
pub header-more : (limit : ℕ) (b more : List ℕ) → is_whole limit b ≡ Ok true → header_at (b ++ more) ≡ with_more (λ (rest : List ℕ). rest ++ more) (length more) (header_at b)
header-more limit b more is =
    let next : Result (List ℕ × List ℕ) Fault → Result (List ℕ) Fault = λ r. r >>= (λ t. behind_header (b ++ more) t.1 (header_fault (data_at t.0))) in
    ap next (text-more limit b more is) ∙ on_text (text_at b) where
      on_fault : (rest : List ℕ) (f : Option CarKind) → behind_header (b ++ more) (rest ++ more) f ≡ with_more (λ (r : List ℕ). r ++ more) (length more) (behind_header b rest f)
      on_fault rest None = refl
      on_fault rest (Some kind) = fault-later kind b more

      on_text : (r : Result (List ℕ × List ℕ) Fault)
          → (with_more (λ (t : List ℕ × List ℕ). (t.0, t.1 ++ more)) (length more) r >>= (λ t. behind_header (b ++ more) t.1 (header_fault (data_at t.0))))
          ≡ with_more (λ (rest : List ℕ). rest ++ more) (length more) (r >>= (λ t. behind_header b t.1 (header_fault (data_at t.0))))
      on_text (Ok t) = on_fault t.1 (header_fault (data_at t.0))
      on_text (Err e) = refl

-- what isn't whole is cut off
pub text-cut : (limit : ℕ) (b : List ℕ) → is_whole limit b ≡ Ok false → text_at b ≡ Err (record { kind = Truncated; left = length b })
text-cut limit b is = on_read (varint_at b) is where
  on_read : (r : Result (ℕ × ℕ) VarintFault) → is_whole_by limit b r ≡ Ok false → text_after b r ≡ Err (record { kind = Truncated; left = length b })
  on_read (Ok v) h = on_limit (ltb limit v.0) (leb (v.1 + v.0) (length b)) refl h where
    on_limit : (over all : Bool) → leb (v.1 + v.0) (length b) ≡ all → cond over (Err v.0) (Ok all) ≡ Ok false → text_after b (Ok v) ≡ Err (record { kind = Truncated; left = length b })
    on_limit true all has e = absurd (cc e)
    on_limit false true has e = absurd (cc e)
    on_limit false false has e =
        let few = leb-false (v.1 + v.0) (length b) has in
        let over : ltb (length b) (v.1 + v.0) ≡ true = lt-ltb (length b) (v.1 + v.0) few in
        rw over refl
  on_read (Err varints.Truncated) h = refl
  on_read (Err varints.TooLong) h = absurd (cc h)
  on_read (Err varints.NotMinimal) h = absurd (cc h)

pub section-cut : (limit : ℕ) (b : List ℕ) → is_whole limit b ≡ Ok false → section_at b ≡ Err (record { kind = Truncated; left = length b })
section-cut limit b is = ap (λ (r : Result (List ℕ × List ℕ) Fault). r >>= (λ t. pair_of b t.0 (cid_at t.0) >>= (λ p. Ok (p, t.1)))) (text-cut limit b is)

pub header-cut : (limit : ℕ) (b : List ℕ) → is_whole limit b ≡ Ok false → header_at b ≡ Err (record { kind = Truncated; left = length b })
header-cut limit b is = ap (λ (r : Result (List ℕ × List ℕ) Fault). r >>= (λ t. behind_header b t.1 (header_fault (data_at t.0)))) (text-cut limit b is)

-- a text that is whole is within the limit
pub whole-within : (limit : ℕ) (b text rest : List ℕ) → length b < 2 ^ 63 → b ≡ with_length text ++ rest → is_whole limit b ≡ Ok true → length text ≤ limit
whole-within limit b text rest small is whole =
    let v = varint_of (length text) in
    let short : length text < 2 ^ 63 = omega (arith, small, ap length is, length-append (v ++ text) rest, length-append v text) in
    let read : varint_at b ≡ Ok (length text, length v) = ap varint_at (is ∙ append_assoc v text rest) ∙ varint_at-append v (length text) (text ++ rest) (IsVarint-varint_of (length text) short) in
    on_limit (ltb limit (length text)) (leb (length v + length text) (length b)) refl (sym (ap (is_whole_by limit b) read) ∙ whole) where
      on_limit : (over all : Bool) → ltb limit (length text) ≡ over → cond over (Err (length text)) (Ok all) ≡ Ok true → length text ≤ limit
      on_limit true all is e = absurd (cc e)
      on_limit false all is e = ltb-false limit (length text) is
