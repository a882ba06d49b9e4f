-- The texts of segments, one after another.
use Rattle.std.proofs.Common.{◌≡◌, not, cond, ℕ, suc, ◌+◌, ◌-◌, ◌<◌, ◌≤◌, Bool, true, false, ◌==◌, List, [], ◌∷◌, ◌++◌, map, length, take, drop, length-drop, length-take, refl, sym, ◌∙◌, ap, arith}
use Rattle.std.specs.Prelude.{if◌then◌else◌}
use Rattle.std.specs.Global.{Vec}
use Rattle.std.proofs.lemmas.List.{map-append}
use Rattle.std.specs.List.{position_or_len, onto_first}
use Rattle.ix_cid_text.specs.Location.{before_slash, after_slash}
use Rattle.ix_path.specs.Path.{◌>>=◌, pieces_of, unescaped, segments_from, segments_at, segments_view}
use Rattle.ix_path.proofs.Escapes.{with_one}

abbrev is_slash : ℕ → Bool
is_slash b = b == 47

-- a byte before the first slash
before-more : (x : ℕ) (xs : List ℕ) → (x == 47) ≡ false → (before_slash (x ∷ xs) ≡ x ∷ before_slash xs) × (after_slash (x ∷ xs) ≡ after_slash xs)
before-more x xs e =
    let at : position_or_len is_slash (x ∷ xs) ≡ 1 + position_or_len is_slash xs = ap (λ (t : Bool). cond (not t) (1 + position_or_len is_slash xs) 0) e in
    let n : position_or_len is_slash (x ∷ xs) ≡ suc (position_or_len is_slash xs) = omega (arith, at) in
    let m : position_or_len is_slash (x ∷ xs) + 1 ≡ suc (position_or_len is_slash xs + 1) = omega (arith, at) in
    (ap (λ (k : ℕ). take k (x ∷ xs)) n, ap (λ (k : ℕ). drop k (x ∷ xs)) m)

-- a slash at the front
before-none : (x : ℕ) (xs : List ℕ) → (x == 47) ≡ true → (before_slash (x ∷ xs) ≡ []) × (after_slash (x ∷ xs) ≡ xs)
before-none x xs e =
    let n : position_or_len is_slash (x ∷ xs) ≡ 0 = ap (λ (t : Bool). cond (not t) (1 + position_or_len is_slash xs) 0) e in
    (ap (λ (k : ℕ). take k (x ∷ xs)) n, ap (λ (k : ℕ). drop (k + 1) (x ∷ xs)) n)

-- the first text is the one before the first slash
abbrev Splits : List ℕ → Type 0
Splits text = pieces_of text ≡ before_slash text ∷ pieces_of (after_slash text)

-- a byte in front of that text
onto : (x : ℕ) (ys : List ℕ) → (0 < length ys → Splits ys) → onto_first x (pieces_of ys) ≡ (x ∷ before_slash ys) ∷ pieces_of (after_slash ys)
onto x [] more = refl
onto x (y ∷ ys) more = ap (onto_first x) (more (omega arith))

-- by whether the first byte is a slash
on_first : (x : ℕ) (xs : List ℕ) → (0 < length xs → Splits xs) → (t : Bool) → (x == 47) ≡ t → Splits (x ∷ xs)
on_first x xs more true e =
    let p = before-none x xs e in
    ap (λ (t : Bool). if t then [] ∷ pieces_of xs else onto_first x (pieces_of xs)) e
    ∙ ap (λ (l : List ℕ). l ∷ pieces_of xs) (sym p.0) ∙ ap (λ (l : List ℕ). before_slash (x ∷ xs) ∷ pieces_of l) (sym p.1)
on_first x xs more false e =
    let p = before-more x xs e in
    ap (λ (t : Bool). if t then [] ∷ pieces_of xs else onto_first x (pieces_of xs)) e ∙ onto x xs more
    ∙ ap (λ (l : List ℕ). l ∷ pieces_of (after_slash xs)) (sym p.0) ∙ ap (λ (l : List ℕ). before_slash (x ∷ xs) ∷ pieces_of l) (sym p.1)

pieces_of-first : (text : List ℕ) → 0 < length text → Splits text
pieces_of-first [] some = absurd (omega arith)
pieces_of-first (x ∷ xs) some = on_first x xs (pieces_of-first xs) (x == 47) refl

-- where the next text is
lengths : (text : List ℕ) → 0 < length (after_slash text) → length (before_slash text) + 1 + length (after_slash text) ≡ length text
lengths text more =
    let n = position_or_len is_slash text in omega (arith, length-drop (n + 1) text, length-take n text)

-- the place of the segments matters only if there is one
at_place : (place next : ℕ) (text : List ℕ) → (0 < length text → place ≡ next) → segments_from place (pieces_of text) ≡ segments_from next (pieces_of text)
at_place place next [] same = refl
at_place place next (x ∷ xs) same = ap (λ (k : ℕ). segments_from k (pieces_of (x ∷ xs))) (same (omega arith))

-- the first segment is read, and then the others
pub segments_at-first : (end : ℕ) (text : List ℕ) → 0 < length text → length text ≤ end
    → segments_at end text ≡ (unescaped (end - length text) (before_slash text) >>= (λ s. with_one s (segments_at end (after_slash text))))
segments_at-first end text some within =
    let here = end - length text in
    let first = before_slash text in
    let more = after_slash text in
    let next : segments_from (here + length first + 1) (pieces_of more) ≡ segments_at end more =
    at_place (here + length first + 1) (end - length more) more (λ lt. let sizes = lengths text lt in omega arith) in
    ap (segments_from here) (pieces_of-first text some)
    ∙ ap (λ r. unescaped here first >>= (λ s. with_one s r)) next

-- what follows the first slash is shorter
pub after_slash-shorter : (text : List ℕ) → 0 < length text → length (after_slash text) < length text
after_slash-shorter text some = let n = position_or_len is_slash text in omega (arith, length-drop (n + 1) text)

-- one segment more
pub segments_view-push : (old new : Vec (Vec ℕ)) (s : Vec ℕ) → new.items ≡ old.items ++ s ∷ [] → segments_view new ≡ segments_view old ++ s.items ∷ []
segments_view-push old new s e = ap (map (λ (v : Vec ℕ). v.items)) e ∙ map-append (λ (v : Vec ℕ). v.items) old.items (s ∷ [])
