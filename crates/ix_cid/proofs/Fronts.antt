-- What is read at the front of a list is read there again, whatever follows it.
use Rattle.std.proofs.Common.{◌≡◌, ◌⊎◌, ℕ, zero, suc, ◌+◌, ◌<◌, ◌≤◌, Bool, true, false, cond, ltb, leb, eqb, ◌&&◌, List, [], ◌∷◌, ◌++◌, length, take, drop, get_or, Result, Ok, Err, refl, sym, ap, subst, ◌∙◌, inl, inr, ⊎_elim, arith, append_assoc, length-append}
use Rattle.std.proofs.lemmas.List.{take_at, drop_at, take-append-drop, length-take-le, get_or-take, get_or_append_left}
use Rattle.std.proofs.lemmas.Bool.{leb-false, eqb-false, ltb-false, le-ltb}
use Rattle.ix_cid.specs.Varint.{number_of_groups, continued, varint_ending, varint_at}
use Rattle.ix_cid.specs.Cid.{◌>>=◌, as_part, number_at, bytes_at}
use Rattle.ix_cid.specs.declared.fault.VarintFault.TheVariants as varints
use Rattle.ix_cid.specs.declared.fault.CidFault.{CidFault}
use Rattle.ix_cid.specs.declared.fault.CidFault.TheVariants.{Truncated}
use Rattle.ix_cid.proofs.GroupLaws.{continued_length}
use Rattle.ix_cid.proofs.Results.{bind_ok, part_ok}
use Rattle.ix_cid.proofs.Varints.{varint_at-ends}

-- which way a test went
pub chosen : {A : Type 0} (t : Bool) (x y z : A) → cond t x y ≡ z → ((t ≡ true) × (x ≡ z)) ⊎ ((t ≡ false) × (y ≡ z))
chosen true x y z h = inl (refl, h)
chosen false x y z h = inr (refl, h)

-- what a reading that succeeded gave
pub ok_parts : {A B E : Type 0} (a c : A) (b d : B) → ◌≡◌ {A = Result (A × B) E} (Ok (a, b)) (Ok (c, d)) → (a ≡ c) × (b ≡ d)
ok_parts {A = A} {B = B} a c b d h =
    let e : (a, b) ≡ (c, d) = cc h in
    (ap (λ (p : A × B). p.0) e, ap (λ (p : A × B). p.1) e)

-- a front of at least n elements was read, and is read again whatever follows it
pub record Again {A : Type 0} (n : ℕ) (read : List ℕ → Result (A × List ℕ) CidFault) (bytes : List ℕ) (x : A) (rest : List ℕ) : Type 0 where
  pub front : List ℕ
  pub least : n ≤ length front
  pub whole : bytes ≡ front ++ rest
  pub again : (more : List ℕ) → read (front ++ more) ≡ Ok (x, more)

-- a reading that looks at a front of at least n elements alone
abbrev pub ReadsFront : {A : Type 0} → ℕ → (List ℕ → Result (A × List ℕ) CidFault) → Type 0
ReadsFront {A = A} n read = (bytes : List ℕ) (x : A) (rest : List ℕ) → read bytes ≡ Ok (x, rest) → Again n read bytes x rest

-- one reading after another
pub ReadsFront-bind : {A B : Type 0} (m n : ℕ) (f : List ℕ → Result (A × List ℕ) CidFault) (g : A → List ℕ → Result (B × List ℕ) CidFault) → ReadsFront m f → ((x : A) → ReadsFront n (g x)) → ReadsFront (m + n) (λ bytes. f bytes >>= (λ p. g p.0 p.1))
ReadsFront-bind {A = A} {B = B} m n f g first second bytes y rest h =
    let s = bind_ok (f bytes) (λ p. g p.0 p.1) (y, rest) h in
    let a = first bytes s.0.0 s.0.1 s.1 in
    let b = second s.0.0 s.0.1 y rest s.2 in
    let on : Result (A × List ℕ) CidFault → Result (B × List ℕ) CidFault = λ r. r >>= (λ p. g p.0 p.1) in
    record {
      front = a.front ++ b.front;
      least = omega (arith, length-append a.front b.front, a.least, b.least);
      whole = a.whole ∙ ap (λ l. a.front ++ l) b.whole ∙ sym (append_assoc a.front b.front rest);
      again = λ more. ap (λ l. on (f l)) (append_assoc a.front b.front more) ∙ ap on (a.again (b.front ++ more)) ∙ b.again more;
    }

-- nothing is read
pub ReadsFront-done : {A : Type 0} (p : A) → ReadsFront 0 (λ bytes. Ok (p, bytes))
ReadsFront-done p bytes x rest h =
    let e = ok_parts p x bytes rest h in
    record {
      front = [];
      least = omega arith;
      whole = e.1;
      again = λ more. ap (λ v. Ok (v, more)) e.0;
    }

-- a test that is before
pub ReadsFront-guard : {A : Type 0} (n : ℕ) (t : Bool) (f : List ℕ → Result (A × List ℕ) CidFault) (e : CidFault) → ReadsFront n f → ReadsFront n (λ bytes. cond t (f bytes) (Err e))
ReadsFront-guard n true f e first = first
ReadsFront-guard n false f e first = λ bytes x rest h. absurd (cc h)

-- a lower bound on the front
pub ReadsFront-fewer : {A : Type 0} (m n : ℕ) (f : List ℕ → Result (A × List ℕ) CidFault) → m ≤ n → ReadsFront n f → ReadsFront m f
ReadsFront-fewer m n f le first bytes x rest h =
    let a = first bytes x rest h in
    record { front = a.front; least = omega (arith, le, a.least); whole = a.whole; again = a.again }

-- n bytes
pub bytes_at-reads : (n : ℕ) → ReadsFront n (bytes_at n)
bytes_at-reads n bytes x rest h =
    let s = chosen (ltb (length bytes) n) (Err Truncated) (Ok (take n bytes, drop n bytes)) (Ok (x, rest)) h in
    ⊎_elim (λ short. absurd (cc short.1)) (λ enough.
    let room : n ≤ length bytes = ltb-false (length bytes) n enough.0 in
    let e = ok_parts (take n bytes) x (drop n bytes) rest enough.1 in
    let long : length (take n bytes) ≡ n = length-take-le n bytes room in
    record {
      front = take n bytes;
      least = omega (arith, long);
      whole = sym (take-append-drop n bytes) ∙ ap (λ l. take n bytes ++ l) e.1;
      again = λ more.
          let all = take n bytes ++ more in
          let test : ltb (length all) n ≡ false = le-ltb (length all) n (omega (arith, long, length-append (take n bytes) more)) in
          ap (λ t. cond t (Err Truncated) (Ok (take n all, drop n all))) test
          ∙ ap (λ l. Ok (l, drop n all)) (take_at (take n bytes) more n long ∙ e.0)
          ∙ ap (λ l. Ok (x, l)) (drop_at (take n bytes) more n long);
    }) s

-- which bytes continue is known at the first that doesn't
pub continued-front : (k : ℕ) (bytes more : List ℕ) → continued bytes < k → k ≤ length bytes → continued (take k bytes ++ more) ≡ continued bytes
continued-front zero bytes more below within = absurd (omega arith)
continued-front (suc k) [] more below within = absurd (omega arith)
continued-front (suc k) (b ∷ bs) more below within =
    let rec : continued bs < k → continued (take k bs ++ more) ≡ continued bs = λ h. continued-front k bs more h (omega arith) in
    elim (leb 128 b) as (λ t. cond t (continued bs + 1) 0 < suc k → cond t (continued (take k bs ++ more) + 1) 0 ≡ cond t (continued bs + 1) 0)
    [ true ↦ λ h. ap (λ n. n + 1) (rec (omega (arith, h))) | false ↦ λ h. refl ] below

-- what a varint that was read says
pub record ReadsVarint (bytes : List ℕ) (n k : ℕ) : Type 0 where
  pub few : continued bytes < 9
  pub within : continued bytes < length bytes
  pub size : continued bytes + 1 ≡ k
  pub number : number_of_groups (take k bytes) ≡ n
  pub ending : varint_ending bytes (continued bytes) ≡ Ok (n, k)

-- it says so
pub ReadsVarint-from_ok : (bytes : List ℕ) (n k : ℕ) → varint_at bytes ≡ Ok (n, k) → ReadsVarint bytes n k
ReadsVarint-from_ok bytes n k h =
    let c = continued bytes in
    let ending = varint_ending bytes c in
    let s = chosen (leb 9 c) (Err varints.TooLong) (cond (eqb c (length bytes)) (Err varints.Truncated) ending) (Ok (n, k)) h in
    ⊎_elim (λ long. absurd (cc long.1)) (λ short.
    let t = chosen (eqb c (length bytes)) (Err varints.Truncated) ending (Ok (n, k)) short.1 in
    ⊎_elim (λ cut. absurd (cc cut.1)) (λ whole.
    let u = chosen (eqb (get_or bytes c 0) 0 && ltb 0 c) (Err varints.NotMinimal) (Ok (number_of_groups (take (c + 1) bytes), c + 1)) (Ok (n, k)) whole.1 in
    ⊎_elim (λ longer. absurd (cc longer.1)) (λ least.
    let e = ok_parts (number_of_groups (take (c + 1) bytes)) n (c + 1) k least.1 in
    let few : c < 9 = leb-false 9 c short.0 in
    let differs : c ≡ length bytes → ⊥ = eqb-false c (length bytes) whole.0 in
    record {
      few = few;
      within = omega (arith, differs, continued_length bytes);
      size = e.1;
      number = ap (λ i. number_of_groups (take i bytes)) (sym e.1) ∙ e.0;
      ending = whole.1;
    }) u) t) s

-- a varint is read again whatever follows it
pub varint_at-again : (bytes : List ℕ) (n k : ℕ) (more : List ℕ) → ReadsVarint bytes n k → varint_at (take k bytes ++ more) ≡ Ok (n, k)
varint_at-again bytes n k more r =
    let c = continued bytes in
    let all = take k bytes ++ more in
    let long : length (take k bytes) ≡ k = length-take-le k bytes (omega (arith, r.size, r.within)) in
    let count : continued all ≡ c = continued-front k bytes more (omega (arith, r.size)) (omega (arith, r.size, r.within)) in
    let last : get_or all c 0 ≡ get_or bytes c 0 =
    get_or_append_left (take k bytes) more 0 c (omega (arith, long, r.size)) ∙ get_or-take k bytes c 0 (omega (arith, r.size)) in
    let front : take (c + 1) all ≡ take (c + 1) bytes = take_at (take k bytes) more (c + 1) (omega (arith, long, r.size)) ∙ ap (λ i. take i bytes) (sym r.size) in
    varint_at-ends all c count r.few (omega (arith, r.size, long, length-append (take k bytes) more))
    ∙ ap (λ b. cond (eqb b 0 && ltb 0 c) (Err varints.NotMinimal) (Ok (number_of_groups (take (c + 1) all), c + 1))) last
    ∙ ap (λ l. cond (eqb (get_or bytes c 0) 0 && ltb 0 c) (Err varints.NotMinimal) (Ok (number_of_groups l, c + 1))) front
    ∙ r.ending

-- the number of a varint that was read, and the bytes after it
pub number_at-again : (bytes : List ℕ) (n k : ℕ) → ReadsVarint bytes n k → Again 1 number_at bytes n (drop k bytes)
number_at-again bytes n k r =
    let long : length (take k bytes) ≡ k = length-take-le k bytes (omega (arith, r.size, r.within)) in
    record {
      front = take k bytes;
      least = omega (arith, long, r.size);
      whole = sym (take-append-drop k bytes);
      again = λ more.
          ap (λ v. as_part v >>= (λ v. Ok (v.0, drop v.1 (take k bytes ++ more)))) (varint_at-again bytes n k more r)
          ∙ ap (λ l. Ok (n, l)) (drop_at (take k bytes) more k long);
    }

-- a number
pub number_at-reads : ReadsFront 1 number_at
number_at-reads bytes x rest h =
    let s = bind_ok (as_part (varint_at bytes)) (λ v. Ok (v.0, drop v.1 bytes)) (x, rest) h in
    let r = ReadsVarint-from_ok bytes s.0.0 s.0.1 (part_ok (varint_at bytes) s.0 s.1) in
    let e = ok_parts s.0.0 x (drop s.0.1 bytes) rest s.2 in
    subst (λ (y : ℕ). Again 1 number_at bytes y rest) e.0 (subst (λ (l : List ℕ). Again 1 number_at bytes s.0.0 l) e.1 (number_at-again bytes s.0.0 s.0.1 r))
