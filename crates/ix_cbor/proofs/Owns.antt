-- What an item is by its own head and string: what is read is spelled so, and what is spelled so is read.
use Rattle.std.proofs.Common.{◌≡◌, inl, inr, ℕ, suc, ◌+◌, ◌*◌, ◌/◌, ◌%◌, ◌^◌, ◌<◌, ◌≤◌, pos, negsuc, ◌&&◌, Bool, true, false, cond, List, [], ◌∷◌, ◌++◌, length, take, drop, refl, sym, ◌∙◌, ap, subst, arith, append_assoc, length-take, length-append, take-append-drop, ltb-false, le-ltb, eqb-true, ne_eqb}
use Rattle.std.specs.Prelude.{nat_lt, ◌==◌, Result, Ok, Err}
use Rattle.std.specs.Int.{from_be_bytes, to_be_bytes, w64}
use Rattle.std.proofs.lemmas.Bool.{cond-false, and_parts, eqb-false}
use Rattle.std.proofs.lemmas.List.{take_at as take_front, drop_at}
use Rattle.ix_cid.proofs.Fronts.{chosen}
use Rattle.ix_cbor.specs.declared.fault.CborKind.TheVariants.{Truncated, Indefinite, Tag, Simple}
use Rattle.ix_cbor.specs.declared.fault.CborKind.TheVariants as kinds
use Rattle.ix_cbor.specs.Data.{Data, null, boolean, integer, float, bytes, text, list, map, link}
use Rattle.ix_cbor.specs.Spelling.{head_of, spelling_of, IsSpellable, IsFinite, nesting_of}
use Rattle.ix_cbor.specs.Reading.{Fault, ◌>>=◌, fails, take_at, argument_at, string_of_major, float_at, simple_at, is_cid, link_of, link_at, Own, leaf, list_of, map_of, own_with, own_at}
use Rattle.ix_cbor.proofs.Bytes.{IsBytes, IsBytes-rest, IsBytes-take, IsBytes-behind}
use Rattle.ix_cbor.proofs.Leaves.{as_leaf}
use Rattle.ix_cbor.proofs.Steps.{bind_ok, no_ok, ok_same, ok_data, past_test, past_guard}
use Rattle.ix_cbor.proofs.Heads.{Headed, head_taken, head_read, wide64}
use Rattle.ix_cbor.proofs.Strings.{counted, take_again, StringTaken, string_taken, string_again}
use Rattle.ix_cbor.proofs.Cids.{IsCid-from_test, is_cid_at}

-- the spelling of an item's own part
abbrev pub own_spelling : Own → List ℕ
own_spelling (leaf d) = spelling_of d
own_spelling (list_of n) = head_of 4 n
own_spelling (map_of n) = head_of 5 n

-- an own part that has a spelling
abbrev pub IsOwn : Own → Type 0
IsOwn (leaf d) = IsSpellable d × (nesting_of d ≡ 0)
IsOwn (list_of n) = n < 2 ^ 64
IsOwn (map_of n) = n < 2 ^ 64

-- an own part that was read
pub record OwnTaken (b : List ℕ) (own : Own) (rest : List ℕ) : Type 0 where
  pub parts : b ≡ own_spelling own ++ rest
  pub is_own : IsOwn own

-- the same of an item that is no list and no map
pub record LeafTaken (b : List ℕ) (d : Data) (rest : List ℕ) : Type 0 where
  pub parts : b ≡ spelling_of d ++ rest
  pub spellable : IsSpellable d
  pub flat : nesting_of d ≡ 0

-- ---- simple values and floats

-- an item of one byte
leaf_here : (h x : ℕ) (b : List ℕ) (leaf_data d : Data) (rest : List ℕ) → h ≡ x → spelling_of leaf_data ≡ x ∷ [] → IsSpellable leaf_data → nesting_of leaf_data ≡ 0
    → ok_data (leaf_data, b) ≡ ok_data (d, rest) → LeafTaken (h ∷ b) d rest
leaf_here h x b leaf_data d rest is spelled spellable flat e =
    subst (λ (y : Data × List ℕ). LeafTaken (h ∷ b) y.0 y.1) (ok_same (leaf_data, b) (d, rest) e)
    (record { parts = ap (λ (y : ℕ). y ∷ b) is ∙ ap (λ (l : List ℕ). l ++ b) (sym spelled); spellable = spellable; flat = flat })

-- a float of eight bytes
float_here : (h : ℕ) (b : List ℕ) (n : ℕ) → h ≡ 251 → to_be_bytes w64 n ≡ take 8 b → n < 2 ^ 64 → (n / 2 ^ 52 % 2 ^ 11 == 2047) ≡ false → LeafTaken (h ∷ b) (float n) (drop 8 b)
float_here h b n is spelled below finite =
    record {
      parts = ap (λ (y : ℕ). y ∷ b) is ∙ ap (λ (l : List ℕ). 251 ∷ l) (sym (take-append-drop 8 b)) ∙ ap (λ (l : List ℕ). 251 ∷ (l ++ drop 8 b)) (sym spelled);
      spellable = (below, eqb-false _ _ finite);
      flat = refl;
    }

-- a float with these bits, where they are finite
abbrev finite_at : List ℕ → List ℕ → ℕ → Result (Data × List ℕ) Fault
finite_at at rest n = cond (n / 2 ^ 52 % 2 ^ 11 == 2047) (Err (record { kind = kinds.Float; left = length at })) (Ok (float n, rest))

-- a float that was read
float_taken : (at : List ℕ) (h : ℕ) (b : List ℕ) (d : Data) (rest : List ℕ) → IsBytes b → h ≡ 251 → float_at at b ≡ Ok (d, rest) → LeafTaken (h ∷ b) d rest
float_taken at h b d rest fits is e =
    let long = past_test (nat_lt (length b) 8) (record { kind = Truncated; left = 0 }) (finite_at at (drop 8 b) (from_be_bytes w64 (take 8 b))) (d, rest) e in
    let enough : 8 ≤ length b = ltb-false (length b) 8 long.0 in
    let n = from_be_bytes w64 (take 8 b) in
    let t = past_test (n / 2 ^ 52 % 2 ^ 11 == 2047) (record { kind = kinds.Float; left = length at }) (Ok (float n, drop 8 b)) (d, rest) long.1 in
    let front = IsBytes-take 8 b fits in
    subst (λ (y : Data × List ℕ). LeafTaken (h ∷ b) y.0 y.1) (ok_same (float n, drop 8 b) (d, rest) t.1)
    (float_here h b n is (wide64.back (take 8 b) (omega (arith, length-take 8 b)) front) (wide64.below (take 8 b) front) t.0)

-- the tests on the information after major type 7, from each on
module _ (at : List ℕ) (info : ℕ) (b : List ℕ) where
  -- no value
  abbrev simple_31 : Result (Data × List ℕ) Fault
  simple_31 = cond (info == 31) (Err (record { kind = Indefinite; left = length at })) (Err (record { kind = Simple; left = length at }))

  -- a float of 64 bits
  abbrev simple_27 : Result (Data × List ℕ) Fault
  simple_27 = cond (info == 27) (float_at at b) simple_31

  -- a float of 32 bits
  abbrev simple_26 : Result (Data × List ℕ) Fault
  simple_26 = cond (info == 26) (Err (record { kind = kinds.Float; left = length at })) simple_27

  -- a float of 16 bits
  abbrev simple_25 : Result (Data × List ℕ) Fault
  simple_25 = cond (info == 25) (Err (record { kind = kinds.Float; left = length at })) simple_26

  -- null
  abbrev simple_22 : Result (Data × List ℕ) Fault
  simple_22 = cond (info == 22) (Ok (null, b)) simple_25

  -- true
  abbrev simple_21 : Result (Data × List ℕ) Fault
  simple_21 = cond (info == 21) (Ok (boolean true, b)) simple_22

module _ (at : List ℕ) (h : ℕ) (b : List ℕ) (d : Data) (rest : List ℕ) (fits : IsBytes b) (major : h / 32 ≡ 7) where
  -- the head byte, where its information is known
  byte_is : (info : ℕ) → (h % 32 == info) ≡ true → h ≡ 224 + info
  byte_is info t = let i : h % 32 ≡ info = eqb-true (h % 32) info t in omega arith

  -- no value
  taken_31 : simple_31 at (h % 32) b ≡ Ok (d, rest) → LeafTaken (h ∷ b) d rest
  taken_31 e =
      elim (chosen (h % 32 == 31) (Err (record { kind = Indefinite; left = length at })) (Err (record { kind = Simple; left = length at })) (Ok (d, rest)) e) [
        | inl t ↦ no_ok (record { kind = Indefinite; left = length at }) (d, rest) t.1
        | inr f ↦ no_ok (record { kind = Simple; left = length at }) (d, rest) f.1
      ]

  -- a float
  taken_27 : simple_27 at (h % 32) b ≡ Ok (d, rest) → LeafTaken (h ∷ b) d rest
  taken_27 e =
      elim (chosen (h % 32 == 27) (float_at at b) (simple_31 at (h % 32) b) (Ok (d, rest)) e) [
        | inl t ↦ float_taken at h b d rest fits (byte_is 27 t.0) t.1
        | inr f ↦ taken_31 f.1
      ]

  -- floats of other sizes are none
  taken_25 : simple_25 at (h % 32) b ≡ Ok (d, rest) → LeafTaken (h ∷ b) d rest
  taken_25 e =
      let f = past_test (h % 32 == 25) (record { kind = kinds.Float; left = length at }) (simple_26 at (h % 32) b) (d, rest) e in
      let g = past_test (h % 32 == 26) (record { kind = kinds.Float; left = length at }) (simple_27 at (h % 32) b) (d, rest) f.1 in
      taken_27 g.1

  -- null or later
  taken_22 : simple_22 at (h % 32) b ≡ Ok (d, rest) → LeafTaken (h ∷ b) d rest
  taken_22 e =
      elim (chosen (h % 32 == 22) (Ok (null, b)) (simple_25 at (h % 32) b) (Ok (d, rest)) e) [
        | inl t ↦ leaf_here h 246 b null d rest (byte_is 22 t.0) refl tt refl t.1
        | inr f ↦ taken_25 f.1
      ]

  -- true or later
  taken_21 : simple_21 at (h % 32) b ≡ Ok (d, rest) → LeafTaken (h ∷ b) d rest
  taken_21 e =
      elim (chosen (h % 32 == 21) (Ok (boolean true, b)) (simple_22 at (h % 32) b) (Ok (d, rest)) e) [
        | inl t ↦ leaf_here h 245 b (boolean true) d rest (byte_is 21 t.0) refl tt refl t.1
        | inr f ↦ taken_22 f.1
      ]

  -- any
  simple_taken : simple_at at (h % 32) b ≡ Ok (d, rest) → LeafTaken (h ∷ b) d rest
  simple_taken e =
      elim (chosen (h % 32 == 20) (Ok (boolean false, b)) (simple_21 at (h % 32) b) (Ok (d, rest)) e) [
        | inl t ↦ leaf_here h 244 b (boolean false) d rest (byte_is 20 t.0) refl tt refl t.1
        | inr f ↦ taken_21 f.1
      ]

-- ---- links

-- a link, where the content of its tag is known
link_here : (at whole : List ℕ) (b content : List ℕ) (d : Data) (rest behind : List ℕ) → whole ≡ head_of 6 42 ++ b → StringTaken 2 b content behind
    → link_of at (content, behind) ≡ Ok (d, rest) → LeafTaken whole d rest
link_here at whole b [] d rest behind is s e = no_ok (record { kind = kinds.Link; left = length at }) (d, rest) e
link_here at whole b (first ∷ c) d rest behind is s e =
    let t = past_guard ((first == 0) && is_cid c) (record { kind = kinds.Link; left = length at }) (Ok (link c, behind)) (d, rest) e in
    let both = and_parts (first == 0) (is_cid c) t.0 in
    let zero_is : first ≡ 0 = eqb-true first 0 both.0 in
    let size : suc (length c) ≡ length c + 1 = omega arith in
    subst (λ (y : Data × List ℕ). LeafTaken whole y.0 y.1) (ok_same (link c, behind) (d, rest) t.1)
    (record {
      parts = is ∙ ap (λ (l : List ℕ). head_of 6 42 ++ l) (s.parts ∙ (λ i. (head_of 2 (size i) ++ (zero_is i ∷ c)) ++ behind));
      spellable = (omega (arith, s.below), IsCid-from_test c both.1);
      flat = refl;
    })

-- a link that was read
link_taken : (at whole : List ℕ) (tag : ℕ) (b : List ℕ) (d : Data) (rest : List ℕ) → IsBytes b → whole ≡ head_of 6 tag ++ b → link_at at tag b ≡ Ok (d, rest) → LeafTaken whole d rest
link_taken at whole tag b d rest fits is e =
    let t = past_guard (tag == 42) (record { kind = Tag; left = length at }) (string_of_major 2 (λ content. fails kinds.Link at) b >>= link_of at) (d, rest) e in
    let a = bind_ok (string_of_major 2 (λ content. fails kinds.Link at) b) (link_of at) (d, rest) t.1 in
    let s = string_taken 2 (λ content. record { kind = kinds.Link; left = length at }) b a.0.0 a.0.1 fits a.1 in
    link_here at whole b a.0.0 d rest a.0.1 (is ∙ ap (λ (n : ℕ). head_of 6 n ++ b) (eqb-true tag 42 t.0)) s a.2

-- ---- one item

-- an own part that is given
abbrev ok_own : Own × List ℕ → Result (Own × List ℕ) Fault
ok_own x = Ok x

-- an item that is whole
leaf_own : (whole : List ℕ) (d : Data) (behind : List ℕ) (own : Own) (rest : List ℕ) → LeafTaken whole d behind
    → ok_own (leaf d, behind) ≡ ok_own (own, rest) → OwnTaken whole own rest
leaf_own whole d behind own rest t e =
    subst (λ (y : Own × List ℕ). OwnTaken whole y.0 y.1) (ok_same (leaf d, behind) (own, rest) e) (record { parts = t.parts; is_own = (t.spellable, t.flat) })

-- an integer, of which the head is all
whole_own : (whole : List ℕ) (major n : ℕ) (b : List ℕ) (d : Data) (own : Own) (rest : List ℕ) → Headed major n whole b → spelling_of d ≡ head_of major n → (n < 2 ^ 64 → IsSpellable d) → nesting_of d ≡ 0 → ok_own (leaf d, b) ≡ ok_own (own, rest) → OwnTaken whole own rest
whole_own whole major n b d own rest head spelled spellable flat e =
    leaf_own whole d b own rest (record { parts = head.parts ∙ ap (λ (l : List ℕ). l ++ b) (sym spelled); spellable = spellable head.below; flat = flat }) e

-- a list or map, whose members follow
nested_own : (whole b : List ℕ) (part own : Own) (rest : List ℕ) → whole ≡ own_spelling part ++ b → IsOwn part → ok_own (part, b) ≡ ok_own (own, rest) → OwnTaken whole own rest
nested_own whole b part own rest is is_own e = subst (λ (y : Own × List ℕ). OwnTaken whole y.0 y.1) (ok_same (part, b) (own, rest) e) (record { parts = is; is_own = is_own })

-- a string that was read
string_own : (whole : List ℕ) (major n : ℕ) (b : List ℕ) (as_data : List ℕ → Data) (own : Own) (rest : List ℕ) → Headed major n whole b
    → ((s : List ℕ) → spelling_of (as_data s) ≡ head_of major (length s) ++ s)
    → ((s : List ℕ) → length s < 2 ^ 64 → IsSpellable (as_data s)) → ((s : List ℕ) → nesting_of (as_data s) ≡ 0) → (take_at n b >>= as_leaf as_data) ≡ Ok (own, rest) → OwnTaken whole own rest
string_own whole major n b as_data own rest head spelled spellable flat e =
    let a = bind_ok (take_at n b) (as_leaf as_data) (own, rest) e in
    let s = a.0.0 in
    let c = counted n b s a.0.1 a.1 in
    leaf_own whole (as_data s) a.0.1 own rest
    (record {
      parts = head.parts ∙ ap (λ (l : List ℕ). head_of major n ++ l) c.parts ∙ ap (λ (k : ℕ). head_of major k ++ (s ++ a.0.1)) (sym c.size) ∙ sym (append_assoc (head_of major (length s)) s a.0.1) ∙ ap (λ (l : List ℕ). l ++ a.0.1) (sym (spelled s));
      spellable = spellable s (omega (arith, c.size, head.below));
      flat = flat s;
    }) a.2

-- the tests on the major type, from each on
module _ (at : List ℕ) (major n : ℕ) (b : List ℕ) where
  -- a tag
  abbrev with_6 : Result (Own × List ℕ) Fault
  with_6 = link_at at n b >>= (λ d. Ok (leaf d.0, d.1))

  -- a map
  abbrev with_5 : Result (Own × List ℕ) Fault
  with_5 = cond (major == 5) (Ok (map_of n, b)) with_6

  -- a list
  abbrev with_4 : Result (Own × List ℕ) Fault
  with_4 = cond (major == 4) (Ok (list_of n, b)) with_5

  -- a text
  abbrev with_3 : Result (Own × List ℕ) Fault
  with_3 = cond (major == 3) (take_at n b >>= (λ s. Ok (leaf (text s.0), s.1))) with_4

  -- bytes
  abbrev with_2 : Result (Own × List ℕ) Fault
  with_2 = cond (major == 2) (take_at n b >>= (λ s. Ok (leaf (bytes s.0), s.1))) with_3

  -- a negative integer
  abbrev with_1 : Result (Own × List ℕ) Fault
  with_1 = cond (major == 1) (Ok (leaf (integer (negsuc n)), b)) with_2

module _ (at whole : List ℕ) (major n : ℕ) (b : List ℕ) (own : Own) (rest : List ℕ) (fits : IsBytes b) (small : major < 7) (head : Headed major n whole b) where
  -- the head, where the major type is known
  head_at : (k : ℕ) → (major == k) ≡ true → Headed k n whole b
  head_at k t = subst (λ (m : ℕ). Headed m n whole b) (eqb-true major k t) head

  -- where it is not this one it is a later one
  above : (k : ℕ) → k ≤ major → (major == k) ≡ false → suc k ≤ major
  above k le t = let ne = eqb-false major k t in omega arith

  -- a tag
  with_taken_6 : 6 ≤ major → with_6 at major n b ≡ Ok (own, rest) → OwnTaken whole own rest
  with_taken_6 le e =
      let a = bind_ok (link_at at n b) (λ d. Ok (leaf d.0, d.1)) (own, rest) e in
      let is : major ≡ 6 = omega arith in
      leaf_own whole a.0.0 a.0.1 own rest (link_taken at whole n b a.0.0 a.0.1 fits (head.parts ∙ ap (λ (m : ℕ). head_of m n ++ b) is) a.1) a.2

  -- a map or later
  with_taken_5 : 5 ≤ major → with_5 at major n b ≡ Ok (own, rest) → OwnTaken whole own rest
  with_taken_5 le e =
      elim (chosen (major == 5) (Ok (map_of n, b)) (with_6 at major n b) (Ok (own, rest)) e) [
        | inl t ↦ nested_own whole b (map_of n) own rest (head_at 5 t.0).parts head.below t.1
        | inr f ↦ with_taken_6 (above 5 le f.0) f.1
      ]

  -- a list or later
  with_taken_4 : 4 ≤ major → with_4 at major n b ≡ Ok (own, rest) → OwnTaken whole own rest
  with_taken_4 le e =
      elim (chosen (major == 4) (Ok (list_of n, b)) (with_5 at major n b) (Ok (own, rest)) e) [
        | inl t ↦ nested_own whole b (list_of n) own rest (head_at 4 t.0).parts head.below t.1
        | inr f ↦ with_taken_5 (above 4 le f.0) f.1
      ]

  -- a text or later
  with_taken_3 : 3 ≤ major → with_3 at major n b ≡ Ok (own, rest) → OwnTaken whole own rest
  with_taken_3 le e =
      elim (chosen (major == 3) (take_at n b >>= (λ s. Ok (leaf (text s.0), s.1))) (with_4 at major n b) (Ok (own, rest)) e) [
        | inl t ↦ string_own whole 3 n b text own rest (head_at 3 t.0) (λ s. refl) (λ s lt. lt) (λ s. refl) t.1
        | inr f ↦ with_taken_4 (above 3 le f.0) f.1
      ]

  -- bytes or later
  with_taken_2 : 2 ≤ major → with_2 at major n b ≡ Ok (own, rest) → OwnTaken whole own rest
  with_taken_2 le e =
      elim (chosen (major == 2) (take_at n b >>= (λ s. Ok (leaf (bytes s.0), s.1))) (with_3 at major n b) (Ok (own, rest)) e) [
        | inl t ↦ string_own whole 2 n b bytes own rest (head_at 2 t.0) (λ s. refl) (λ s lt. lt) (λ s. refl) t.1
        | inr f ↦ with_taken_3 (above 2 le f.0) f.1
      ]

  -- a negative integer or later
  with_taken_1 : 1 ≤ major → with_1 at major n b ≡ Ok (own, rest) → OwnTaken whole own rest
  with_taken_1 le e =
      elim (chosen (major == 1) (Ok (leaf (integer (negsuc n)), b)) (with_2 at major n b) (Ok (own, rest)) e) [
        | inl t ↦ whole_own whole 1 n b (integer (negsuc n)) own rest (head_at 1 t.0) refl (λ lt. lt) refl t.1
        | inr f ↦ with_taken_2 (above 1 le f.0) f.1
      ]

  -- any
  with_taken : own_with at major n b ≡ Ok (own, rest) → OwnTaken whole own rest
  with_taken e =
      elim (chosen (major == 0) (Ok (leaf (integer (pos n)), b)) (with_1 at major n b) (Ok (own, rest)) e) [
        | inl t ↦ whole_own whole 0 n b (integer (pos n)) own rest (head_at 0 t.0) refl (λ lt. lt) refl t.1
        | inr f ↦ with_taken_1 (above 0 (omega arith) f.0) f.1
      ]

-- what is read is spelled so
pub own_taken : (b : List ℕ) (own : Own) (rest : List ℕ) → IsBytes b → own_at b ≡ Ok (own, rest) → OwnTaken b own rest
own_taken [] own rest fits e = no_ok (record { kind = Truncated; left = 0 }) (own, rest) e
own_taken (h ∷ b) own rest fits e =
    elim (chosen (h / 32 == 7) (simple_at (h ∷ b) (h % 32) b >>= (λ d. Ok (leaf d.0, d.1))) (argument_at (h ∷ b) (h % 32) b >>= (λ n. own_with (h ∷ b) (h / 32) n.0 n.1)) (Ok (own, rest)) e) [
      | inl t ↦
          let a = bind_ok (simple_at (h ∷ b) (h % 32) b) (λ d. Ok (leaf d.0, d.1)) (own, rest) t.1 in
          leaf_own (h ∷ b) a.0.0 a.0.1 own rest (simple_taken (h ∷ b) h b a.0.0 a.0.1 (IsBytes-rest h b fits) (eqb-true (h / 32) 7 t.0) a.1) a.2
      | inr f ↦
          let a = bind_ok (argument_at (h ∷ b) (h % 32) b) (λ n. own_with (h ∷ b) (h / 32) n.0 n.1) (own, rest) f.1 in
          let head = head_taken (h ∷ b) h b a.0.0 a.0.1 (IsBytes-rest h b fits) a.1 in
          let byte : h < 256 = fits 0 in
          let not_7 = eqb-false (h / 32) 7 f.0 in
          with_taken (h ∷ b) (h ∷ b) (h / 32) a.0.0 a.0.1 own rest (IsBytes-behind (h ∷ b) (head_of (h / 32) a.0.0) a.0.1 fits head.parts) (omega arith) head a.2
    ]

-- ---- what is spelled so is read

-- after a head the tests on the major type come
own_head : (major n : ℕ) (rest : List ℕ) → n < 2 ^ 64 → major < 7 → own_at (head_of major n ++ rest) ≡ own_with (head_of major n ++ rest) major n rest
own_head major n rest below lt =
    let r = head_read major n rest below in
    let small = r.small in
    let h = 32 * major + r.info in
    let major_is : h / 32 ≡ major = omega arith in
    let info_is : h % 32 ≡ r.info = omega arith in
    let not_7 : h / 32 ≡ 7 → ⊥ = λ is. omega arith in
    ap (own_at) r.parts ∙ cond-false _ _ _ (ne_eqb (h / 32) 7 not_7)
    ∙ ap (λ (i : ℕ). argument_at (h ∷ r.behind) i r.behind >>= (λ k. own_with (h ∷ r.behind) (h / 32) k.0 k.1)) info_is
    ∙ ap (λ x. x >>= (λ k. own_with (h ∷ r.behind) (h / 32) k.0 k.1)) (r.argument (h ∷ r.behind))
    ∙ ap (λ (m : ℕ). own_with (h ∷ r.behind) m n rest) major_is ∙ ap (λ (l : List ℕ). own_with l major n rest) (sym r.parts)

-- a float is read again
float_again : (at : List ℕ) (n : ℕ) (rest : List ℕ) → IsFinite n → float_at at (to_be_bytes w64 n ++ rest) ≡ Ok (float n, rest)
float_again at n rest finite =
    let b = to_be_bytes w64 n ++ rest in
    let len = wide64.len n in
    cond-false _ _ _ (le-ltb (length b) 8 (omega (arith, length-append (to_be_bytes w64 n) rest)))
    ∙ ap (λ (l : List ℕ). finite_at at (drop 8 b) (from_be_bytes w64 l)) (take_front (to_be_bytes w64 n) rest 8 len)
    ∙ ap (λ (l : List ℕ). finite_at at l (from_be_bytes w64 (to_be_bytes w64 n))) (drop_at (to_be_bytes w64 n) rest 8 len)
    ∙ ap (finite_at at rest) (wide64.again n finite.0) ∙ cond-false _ _ _ (ne_eqb (n / 2 ^ 52 % 2 ^ 11) 2047 finite.1)

-- a string is read again
string_own_again : (major : ℕ) (s : List ℕ) (as_data : List ℕ → Data) (rest : List ℕ) → major < 7 → length s < 2 ^ 64
    → ((at : List ℕ) → own_with at major (length s) (s ++ rest) ≡ (take_at (length s) (s ++ rest) >>= as_leaf as_data))
    → own_at ((head_of major (length s) ++ s) ++ rest) ≡ Ok (leaf (as_data s), rest)
string_own_again major s as_data rest small below is =
    ap (own_at) (append_assoc (head_of major (length s)) s rest) ∙ own_head major (length s) (s ++ rest) below small ∙ is _ ∙ ap (λ x. x >>= as_leaf as_data) (take_again s rest)

-- a link is read again
link_again : (c rest : List ℕ) → IsSpellable (link c) → own_at (spelling_of (link c) ++ rest) ≡ Ok (leaf (link c), rest)
link_again c rest fits =
    let size : length c + 1 ≡ suc (length c) = omega arith in
    let content = (head_of 2 (suc (length c)) ++ 0 ∷ c) ++ rest in
    let at = head_of 6 42 ++ content in
    ap (λ (n : ℕ). own_at (head_of 6 42 ++ ((head_of 2 n ++ 0 ∷ c) ++ rest))) size ∙ own_head 6 42 content (omega arith) (omega arith)
    ∙ ap (λ x. x >>= link_of at >>= (λ d. Ok (leaf d.0, d.1))) (string_again 2 (λ other. record { kind = kinds.Link; left = length at }) (0 ∷ c) rest (omega (arith, fits.0)))
    ∙ ap (λ (t : Bool). cond t (ok_data (link c, rest)) (Err (record { kind = kinds.Link; left = length at })) >>= (λ d. Ok (leaf d.0, d.1))) (is_cid_at c fits.1)

-- what is spelled so is read
pub own_again : (own : Own) (rest : List ℕ) → IsOwn own → own_at (own_spelling own ++ rest) ≡ Ok (own, rest)
own_again (leaf null) rest is_own = refl
own_again (leaf (boolean false)) rest is_own = refl
own_again (leaf (boolean true)) rest is_own = refl
own_again (leaf (integer (pos n))) rest is_own = own_head 0 n rest is_own.0 (omega arith)
own_again (leaf (integer (negsuc n))) rest is_own = own_head 1 n rest is_own.0 (omega arith)
own_again (leaf (float n)) rest is_own =
    ap (λ x. x >>= (λ d. Ok (leaf d.0, d.1))) (float_again (251 ∷ (to_be_bytes w64 n ++ rest)) n rest is_own.0)
own_again (leaf (bytes s)) rest is_own = string_own_again 2 s bytes rest (omega arith) is_own.0 (λ at. refl)
own_again (leaf (text s)) rest is_own = string_own_again 3 s text rest (omega arith) is_own.0 (λ at. refl)
own_again (leaf (list ds)) rest is_own = absurd (omega (arith, is_own.1))
own_again (leaf (map es)) rest is_own = absurd (omega (arith, is_own.1))
own_again (leaf (link c)) rest is_own = link_again c rest is_own.0
own_again (list_of n) rest is_own = own_head 4 n rest is_own (omega arith)
own_again (map_of n) rest is_own = own_head 5 n rest is_own (omega arith)
