-- The places inside a selector: of which there is one for each number.
use Rattle.std.proofs.Common.{◌≡◌, ℕ, ◌+◌, ◌<◌, ◌≤◌, nat_eq, nat_lt, if◌then◌else◌, refl, sym, ◌∙◌, ap, arith, eq-eqb}
use Rattle.std.specs.Prelude.{Option, Some, None}
use Rattle.std.proofs.lemmas.Bool.{lt-ltb, le-ltb, ne_eqb}
use Rattle.std.proofs.lemmas.Option.{same_Some}
use Rattle.ix_selector.specs.Pattern.{Pattern, Fields, Members, matcher, all, fields, index, range, recursive, union, edge, no_fields, field, no_members, member}
use Rattle.ix_selector.specs.Behind.{inside_of, fields_size, members_size}

-- the innermost recursion round a place: the number of its sequence, and the sequence
abbrev pub Inner : Type 0
Inner = Option (ℕ × Pattern)

mutual
  -- inside s, before which are n places, and around which is the recursion q, is r, before which are m places, and around
  -- which is the recursion w
  pub data In : Pattern → ℕ → Inner → Pattern → ℕ → Inner → Type 0 where
    itself : {s : Pattern} {n : ℕ} {q : Inner} → In s n q s n q
    in_all : {s r : Pattern} {n m : ℕ} {q w : Inner} → In s n q r m w → In (all s) n q r m w
    in_fields : {fs : Fields} {r : Pattern} {n m : ℕ} {q w : Inner} → InFields fs n q r m w → In (fields fs) n q r m w
    in_index : {i : _} {s r : Pattern} {n m : ℕ} {q w : Inner} → In s n q r m w → In (index i s) n q r m w
    in_range : {i j : _} {s r : Pattern} {n m : ℕ} {q w : Inner} → In s n q r m w → In (range i j s) n q r m w
    in_recursive : {d : Option ℕ} {s r : Pattern} {n m : ℕ} {q w : Inner} → In s n (Some (n + inside_of s, s)) r m w → In (recursive d s) n q r m w
    in_union : {ss : Members} {r : Pattern} {n m : ℕ} {q w : Inner} → InMembers ss n q r m w → In (union ss) n q r m w

  pub data InFields : Fields → ℕ → Inner → Pattern → ℕ → Inner → Type 0 where
    in_field : {k : _} {s r : Pattern} {fs : Fields} {n m : ℕ} {q w : Inner} → In s n q r m w → InFields (field k s fs) n q r m w
    later_field : {k : _} {s r : Pattern} {fs : Fields} {n m : ℕ} {q w : Inner} → InFields fs (n + (inside_of s + 1)) q r m w → InFields (field k s fs) n q r m w

  pub data InMembers : Members → ℕ → Inner → Pattern → ℕ → Inner → Type 0 where
    in_member : {s r : Pattern} {ss : Members} {n m : ℕ} {q w : Inner} → In s n q r m w → InMembers (member s ss) n q r m w
    later_member : {s r : Pattern} {ss : Members} {n m : ℕ} {q w : Inner} → InMembers ss (n + (inside_of s + 1)) q r m w → InMembers (member s ss) n q r m w

-- ---- between which numbers they are

mutual
  bounds : {s r : Pattern} {n m : ℕ} {q w : Inner} → In s n q r m w → (n ≤ m) × (m + inside_of r ≤ n + inside_of s)
  bounds itself = (omega arith, omega arith)
  bounds (in_all h) = let b = bounds h in let low = b.0 in let high = b.1 in (omega arith, omega arith)
  bounds (in_fields h) = let b = field_bounds h in let low = b.0 in let high = b.1 in (omega arith, omega arith)
  bounds (in_index h) = let b = bounds h in let low = b.0 in let high = b.1 in (omega arith, omega arith)
  bounds (in_range h) = let b = bounds h in let low = b.0 in let high = b.1 in (omega arith, omega arith)
  bounds (in_recursive h) = let b = bounds h in let low = b.0 in let high = b.1 in (omega arith, omega arith)
  bounds (in_union h) = let b = member_bounds h in let low = b.0 in let high = b.1 in (omega arith, omega arith)

  field_bounds : {fs : Fields} {r : Pattern} {n m : ℕ} {q w : Inner} → InFields fs n q r m w → (n ≤ m) × (m + inside_of r < n + fields_size fs)
  field_bounds (in_field h) = let b = bounds h in let low = b.0 in let high = b.1 in (omega arith, omega arith)
  field_bounds (later_field h) = let b = field_bounds h in let low = b.0 in let high = b.1 in (omega arith, omega arith)

  member_bounds : {ss : Members} {r : Pattern} {n m : ℕ} {q w : Inner} → InMembers ss n q r m w → (n ≤ m) × (m + inside_of r < n + members_size ss)
  member_bounds (in_member h) = let b = bounds h in let low = b.0 in let high = b.1 in (omega arith, omega arith)
  member_bounds (later_member h) = let b = member_bounds h in let low = b.0 in let high = b.1 in (omega arith, omega arith)

-- ---- which is at a number

-- what is found at a number: a selector and the recursion around it, or nothing
abbrev Found : Type 0
Found = Option (Pattern × Inner)

-- the selector itself at its own number, or what is found inside it
abbrev own : Pattern → ℕ → Inner → ℕ → Found → Found
own s n q k inner = if nat_eq k (n + inside_of s) then Some (s, q) else inner

abbrev mutual
  find : Pattern → ℕ → Inner → ℕ → Found
  find matcher n q k = own matcher n q k None
  find (all s) n q k = own (all s) n q k (find s n q k)
  find (fields fs) n q k = own (fields fs) n q k (find_field fs n q k)
  find (index i s) n q k = own (index i s) n q k (find s n q k)
  find (range i j s) n q k = own (range i j s) n q k (find s n q k)
  find (recursive d s) n q k = own (recursive d s) n q k (find s n (Some (n + inside_of s, s)) k)
  find (union ss) n q k = own (union ss) n q k (find_member ss n q k)
  find edge n q k = own edge n q k None

  find_field : Fields → ℕ → Inner → ℕ → Found
  find_field no_fields n q k = None
  find_field (field l s fs) n q k = if nat_lt k (n + (inside_of s + 1)) then find s n q k else find_field fs (n + (inside_of s + 1)) q k

  find_member : Members → ℕ → Inner → ℕ → Found
  find_member no_members n q k = None
  find_member (member s ss) n q k = if nat_lt k (n + (inside_of s + 1)) then find s n q k else find_member ss (n + (inside_of s + 1)) q k

-- at its own number it is found
own_here : (s : Pattern) (n : ℕ) (q : Inner) (inner : Found) → own s n q (n + inside_of s) inner ≡ Some (s, q)
own_here s n q inner = ap (λ b. if b then Some (s, q) else inner) (eq-eqb (n + inside_of s) (n + inside_of s) refl)

-- below its own number what is inside is found
own_inner : (s : Pattern) (n : ℕ) (q : Inner) (k : ℕ) (inner : Found) → k < n + inside_of s → own s n q k inner ≡ inner
own_inner s n q k inner h = ap (λ b. if b then Some (s, q) else inner) (ne_eqb k (n + inside_of s) (λ e. let apart : ⊥ = omega arith in apart))

-- so the search at a selector's own number finds it
find_here : (s : Pattern) (n : ℕ) (q : Inner) → find s n q (n + inside_of s) ≡ Some (s, q)
find_here matcher n q = own_here matcher n q None
find_here (all s) n q = own_here (all s) n q (find s n q (n + inside_of (all s)))
find_here (fields fs) n q = own_here (fields fs) n q (find_field fs n q (n + inside_of (fields fs)))
find_here (index i s) n q = own_here (index i s) n q (find s n q (n + inside_of (index i s)))
find_here (range i j s) n q = own_here (range i j s) n q (find s n q (n + inside_of (range i j s)))
find_here (recursive d s) n q = own_here (recursive d s) n q (find s n (Some (n + inside_of s, s)) (n + inside_of (recursive d s)))
find_here (union ss) n q = own_here (union ss) n q (find_member ss n q (n + inside_of (union ss)))
find_here edge n q = own_here edge n q None

mutual
  found : {s r : Pattern} {n m : ℕ} {q w : Inner} → In s n q r m w → find s n q (m + inside_of r) ≡ Some (r, w)
  found (itself {s = s} {n = n} {q = q}) = find_here s n q
  found (in_all {s = s} {r = r} {n = n} {m = m} {q = q} h) = let high = (bounds h).1 in own_inner (all s) n q (m + inside_of r) _ (omega arith) ∙ found h
  found (in_fields {fs = fs} {r = r} {n = n} {m = m} {q = q} h) = let high = (field_bounds h).1 in own_inner (fields fs) n q (m + inside_of r) _ (omega arith) ∙ found_field h
  found (in_index {i = i} {s = s} {r = r} {n = n} {m = m} {q = q} h) = let high = (bounds h).1 in own_inner (index i s) n q (m + inside_of r) _ (omega arith) ∙ found h
  found (in_range {i = i} {j = j} {s = s} {r = r} {n = n} {m = m} {q = q} h) = let high = (bounds h).1 in own_inner (range i j s) n q (m + inside_of r) _ (omega arith) ∙ found h
  found (in_recursive {d = d} {s = s} {r = r} {n = n} {m = m} {q = q} h) = let high = (bounds h).1 in own_inner (recursive d s) n q (m + inside_of r) _ (omega arith) ∙ found h
  found (in_union {ss = ss} {r = r} {n = n} {m = m} {q = q} h) = let high = (member_bounds h).1 in own_inner (union ss) n q (m + inside_of r) _ (omega arith) ∙ found_member h

  found_field : {fs : Fields} {r : Pattern} {n m : ℕ} {q w : Inner} → InFields fs n q r m w → find_field fs n q (m + inside_of r) ≡ Some (r, w)
  found_field (in_field {s = s} {r = r} {fs = fs} {n = n} {m = m} {q = q} h) =
      let high = (bounds h).1 in
      ap (λ b. if b then find s n q (m + inside_of r) else find_field fs (n + (inside_of s + 1)) q (m + inside_of r)) (lt-ltb (m + inside_of r) (n + (inside_of s + 1)) (omega arith)) ∙ found h
  found_field (later_field {s = s} {r = r} {fs = fs} {n = n} {m = m} {q = q} h) =
      let low = (field_bounds h).0 in
      ap (λ b. if b then find s n q (m + inside_of r) else find_field fs (n + (inside_of s + 1)) q (m + inside_of r)) (le-ltb (m + inside_of r) (n + (inside_of s + 1)) (omega arith)) ∙ found_field h

  found_member : {ss : Members} {r : Pattern} {n m : ℕ} {q w : Inner} → InMembers ss n q r m w → find_member ss n q (m + inside_of r) ≡ Some (r, w)
  found_member (in_member {s = s} {r = r} {ss = ss} {n = n} {m = m} {q = q} h) =
      let high = (bounds h).1 in
      ap (λ b. if b then find s n q (m + inside_of r) else find_member ss (n + (inside_of s + 1)) q (m + inside_of r)) (lt-ltb (m + inside_of r) (n + (inside_of s + 1)) (omega arith)) ∙ found h
  found_member (later_member {s = s} {r = r} {ss = ss} {n = n} {m = m} {q = q} h) =
      let low = (member_bounds h).0 in
      ap (λ b. if b then find s n q (m + inside_of r) else find_member ss (n + (inside_of s + 1)) q (m + inside_of r)) (le-ltb (m + inside_of r) (n + (inside_of s + 1)) (omega arith)) ∙ found_member h

-- with one number there is one place
pub one-place : {s : Pattern} {n : ℕ} {q : Inner} (r t : Pattern) (m l : ℕ) (w v : Inner) → In s n q r m w → In s n q t l v → m + inside_of r ≡ l + inside_of t → (r ≡ t) × (m ≡ l) × (w ≡ v)
one-place {s = s} {n = n} {q = q} r t m l w v one other same =
    let here : Pattern × Inner = (r, w) in
    let there : Pattern × Inner = (t, v) in
    let both : here ≡ there = same_Some here there (sym (found one) ∙ ap (find s n q) same ∙ found other) in
    let is : r ≡ t = ap (λ (p : Pattern × Inner). p.0) both in
    let size : inside_of r ≡ inside_of t = ap inside_of is in
    (is, omega arith, ap (λ (p : Pattern × Inner). p.1) both)
