-- Entries read so far, and those still to be read.
use Rattle.std.proofs.Common.{◌≡◌, ◌+◌, ◌<◌, ◌≤◌, ◌-◌, arith, ℕ, suc, List, [], ◌∷◌, ◌++◌, refl, sym, ◌∙◌, ap}
use Rattle.std.specs.Prelude.{Option, Some, Result, Ok, Err}
use Rattle.ix_cbor.specs.Data.{Data, Entries, no_entries, entry, entries_of}
use Rattle.ix_cbor.specs.Reading.{Fault, Parse, ◌>>=◌, key_at, entries_at}
use Rattle.ix_cbor.proofs.Steps.{entries_after, value_behind}

-- entries in front of others
abbrev pub before : List (List ℕ × Data) → Entries → Entries
before [] es = es
before (e ∷ more) es = entry e.0 e.1 (before more es)

-- what is read, after entries that were read before
abbrev pub with_front : List (List ℕ × Data) → Result (Entries × List ℕ) Fault → Result (Entries × List ℕ) Fault
with_front front read = read >>= (λ x. Ok (before front x.0, x.1))

-- in front of none
pub before_none : (front : List (List ℕ × Data)) → before front no_entries ≡ entries_of front
before_none [] = refl
before_none (e ∷ more) = ap (entry e.0 e.1) (before_none more)

-- one entry more in front
pub before_more : (front : List (List ℕ × Data)) (k : List ℕ) (d : Data) (es : Entries) → before (front ++ (k, d) ∷ []) es ≡ before front (entry k d es)
before_more [] k d es = refl
before_more (e ∷ more) k d es = ap (entry e.0 e.1) (before_more more k d es)

-- the entry that is read is in front of those that are still read
with_front-append : (front : List (List ℕ × Data)) (k : List ℕ) (d : Data) (r : Result (Entries × List ℕ) Fault) → with_front (front ++ (k, d) ∷ []) r ≡ with_front front (r >>= (λ es. Ok (entry k d es.0, es.1)))
with_front-append front k d (Ok x) = ap (λ es. Ok (es, x.1)) (before_more front k d x.0)
with_front-append front k d (Err f) = refl

module _ (front : List (List ℕ × Data)) (read : Parse Data) (last : Option (List ℕ)) (n : ℕ) (b : List ℕ) where
  -- a key can't be read
  pub key_none : (f : Fault) → key_at last b ≡ Err f → with_front front (entries_at read last (suc n) b) ≡ Err f
  key_none f e = ap (λ r. with_front front (r >>= value_behind read n)) e

  -- a key is read, and its value can't be
  pub value_none : (k value : List ℕ) (f : Fault) → key_at last b ≡ Ok (k, value) → read value ≡ Err f → with_front front (entries_at read last (suc n) b) ≡ Err f
  value_none k value f e g = ap (λ r. with_front front (r >>= value_behind read n)) e ∙ ap (λ r. with_front front (r >>= entries_after read n k)) g

  -- one entry more is read
  pub read_more : (k value next : List ℕ) (d : Data) → key_at last b ≡ Ok (k, value) → read value ≡ Ok (d, next)
      → with_front (front ++ (k, d) ∷ []) (entries_at read (Some k) n next) ≡ with_front front (entries_at read last (suc n) b)
  read_more k value next d e g =
      with_front-append front k d (entries_at read (Some k) n next) ∙ ap (λ r. with_front front (r >>= entries_after read n k)) (sym g) ∙ ap (λ r. with_front front (r >>= value_behind read n)) (sym e)

-- The same in a loop that counts up, where whole is what is read in all.
module _ (front : List (List ℕ × Data)) (read : Parse Data) (last : Option (List ℕ)) (count i : ℕ) (b : List ℕ) (whole : Result (Entries × List ℕ) Fault) where
  -- a key can't be read
  pub stops_at_key : i < count → with_front front (entries_at read last (count - i) b) ≡ whole → (f : Fault) → key_at last b ≡ Err f → whole ≡ Err f
  stops_at_key lt so_far f e =
      let k : count - i ≡ suc (count - (i + 1)) = omega arith in
      sym so_far ∙ ap (λ n. with_front front (entries_at read last n b)) k ∙ key_none front read last (count - (i + 1)) b f e

  -- a value can't be read
  pub stops_at_value : (k value : List ℕ) → i < count → with_front front (entries_at read last (count - i) b) ≡ whole → key_at last b ≡ Ok (k, value) → (f : Fault) → read value ≡ Err f → whole ≡ Err f
  stops_at_value k value lt so_far e f g =
      let n : count - i ≡ suc (count - (i + 1)) = omega arith in
      sym so_far ∙ ap (λ n. with_front front (entries_at read last n b)) n ∙ value_none front read last (count - (i + 1)) b k value f e g

  -- one entry more is read
  pub goes_on : (k value next : List ℕ) (d : Data) → i < count → key_at last b ≡ Ok (k, value) → read value ≡ Ok (d, next)
      → with_front front (entries_at read last (count - i) b) ≡ whole → with_front (front ++ (k, d) ∷ []) (entries_at read (Some k) (count - (i + 1)) next) ≡ whole
  goes_on k value next d lt e g so_far =
      let n : count - i ≡ suc (count - (i + 1)) = omega arith in
      read_more front read last (count - (i + 1)) b k value next d e g ∙ ap (λ n. with_front front (entries_at read last n b)) (sym n) ∙ so_far

  -- all entries are read
  pub is_done : count ≤ i → with_front front (entries_at read last (count - i) b) ≡ whole → whole ≡ Ok (entries_of front, b)
  is_done le so_far =
      let n : count - i ≡ 0 = omega arith in
      sym so_far ∙ ap (λ n. with_front front (entries_at read last n b)) n ∙ ap (λ es. Ok (es, b)) (before_none front)
