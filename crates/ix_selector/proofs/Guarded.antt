-- What is read is a selector: edges are where they are allowed, limits fit, and selectors nest no deeper than allowed.
use Rattle.std.proofs.Common.{◌≡◌, ◌+◌, ◌≤◌, ◌<◌, ◌^◌, arith, ℕ, zero, suc, Bool, true, false, true≢false, List, refl, sym, ap, subst, pos, negsuc}
use Rattle.std.proofs.lemmas.Bool.{ltb-true}
use Rattle.std.specs.Prelude.{ℤ, Option, Some, None, Result, Ok, Err, is_ok, nat_lt, bytes_eq, codes, if◌then◌else◌}
pub use Rattle.ix_cid.proofs.Results.{bind_ok, ok_same}
use Rattle.ix_cbor.specs.Data.{Data, Items, Entries, text, list, map, no_items, item, no_entries, entry}
use Rattle.ix_selector.specs.declared.fault.SelFault.{SelFault}
use Rattle.ix_selector.specs.declared.fault.SelFault.TheVariants.{NotMap, Keys, Unknown, Unsupported, Kind, Depth, EdgeOutside, EdgeUnguarded, Nesting}
use Rattle.ix_selector.specs.declared.fault.Form.TheVariants.{MatcherField, StopAt, Conditional, InterpretAs}
use Rattle.ix_selector.specs.Pattern.{Pattern, Fields, Members, matcher, all, fields, index, range, recursive, union, edge, no_fields, field, no_members, member, Around, outside, unguarded, guarded, after_step, nesting_of, fields_nesting, members_nesting, IsLimit, IsGuarded, AreGuarded, EachGuarded, greatest_nesting, IsSelector}
use Rattle.ix_selector.specs.Reading.{Reader, ◌>>=◌, matcher_of, integer_of, entries_of_map, one_of, two_of, three_of, fields_read, members_read, has_key, no_limit_of, depth_of, limit_of, all_read, fields_form, index_form, range_form, recursive_form, edge_form, union_form, form_of, read_with, selector_at, selector_of, without_envelope}

-- a selector that is allowed there and nests at most n deep
pub record MayBe (n : ℕ) (around : Around) (s : Pattern) : Type 0 where
  pub edges : IsGuarded around s
  pub nesting : nesting_of s ≤ n

-- a fault is no value
pub err_no_ok : {A P : Type 0} {x : A} (e : SelFault) → Err e ≡ Ok x → P
err_no_ok e h = absurd (true≢false (sym (ap is_ok h)))

-- one of two cases
pub by_test : {A : Type 0} (b : Bool) (r s : Result A SelFault) (y : A) (P : Type 0) → (r ≡ Ok y → P) → (s ≡ Ok y → P) → (if b then r else s) ≡ Ok y → P
by_test true r s y P f g h = f h
by_test false r s y P f g h = g h

-- a depth that passes the test is below 2 ^ 32
depth_below : (n : ℕ) (limit : Option ℕ) → (if nat_lt n (2 ^ 32) then Ok (Some n) else Err Depth) ≡ Ok limit → IsLimit limit
depth_below n limit h =
    elim (nat_lt n (2 ^ 32)) as (λ b. (b ≡ true → n < 2 ^ 32) → (if b then Ok (Some n) else Err Depth) ≡ Ok limit → IsLimit limit)
    [ true ↦ (λ fits e. subst IsLimit (ok_same (Some n) limit e) (fits refl)) | false ↦ (λ fits e. err_no_ok Depth e) ] (λ e. ltb-true n (2 ^ 32) e) h

-- what each part of a limit gives fits
none_fits : (es : Entries) (limit : Option ℕ) → no_limit_of es ≡ Ok limit → IsLimit limit
none_fits no_entries limit h = subst IsLimit (ok_same None limit h) tt
none_fits (entry k d es) limit h = err_no_ok Keys h

-- a depth that is read fits
depth_fits : (n : ℤ) (limit : Option ℕ) → depth_of n ≡ Ok limit → IsLimit limit
depth_fits (pos n) limit h = depth_below n limit h
depth_fits (negsuc n) limit h = err_no_ok Depth h

-- a limit that is read fits
pub limit_fits : (d : Data) (limit : Option ℕ) → limit_of d ≡ Ok limit → IsLimit limit
limit_fits (map (entry k d no_entries)) limit h =
    by_test (bytes_eq k (codes "none")) (entries_of_map d >>= no_limit_of) _ limit (IsLimit limit)
    (λ e. let found = bind_ok (entries_of_map d) no_limit_of limit e in none_fits found.0 limit found.2)
    (by_test (bytes_eq k (codes "depth")) (integer_of d >>= depth_of) (Err Unknown) limit (IsLimit limit)
    (λ e. let found = bind_ok (integer_of d) depth_of limit e in depth_fits found.0 limit found.2)
    (λ e. err_no_ok Unknown e)) h
limit_fits (map (entry k d (entry l e es))) limit h = err_no_ok Keys h
limit_fits (map no_entries) limit h = err_no_ok Keys h
limit_fits other limit h = err_no_ok Kind h

-- a matcher alone is read from its form
pub matcher_only : (es : Entries) (s : Pattern) → matcher_of es ≡ Ok s → matcher ≡ s
matcher_only no_entries s h = ok_same matcher s h
matcher_only (entry k d es) s h =
    by_test (bytes_eq k (codes "label")) (labelled d (matcher_of es)) (Err (Unsupported MatcherField)) s (matcher ≡ s) (λ e. matcher_only es s (rest_of d (matcher_of es) s e)) (λ e. err_no_ok (Unsupported MatcherField) e) h where
      labelled : Data → Result Pattern SelFault → Result Pattern SelFault
      labelled (text t) rest = rest
      labelled other rest = Err Kind

      rest_of : (d : Data) (r : Result Pattern SelFault) (s : Pattern) → labelled d r ≡ Ok s → r ≡ Ok s
      rest_of (text t) r s h = h
      rest_of other r s h = err_no_ok Kind h

-- an edge is read only where it is allowed
edge_guarded : (around : Around) (es : Entries) (s : Pattern) → edge_form around es ≡ Ok s → MayBe 1 around s
edge_guarded around (entry k d es) s h = err_no_ok Keys h
edge_guarded outside no_entries s h = err_no_ok EdgeOutside h
edge_guarded unguarded no_entries s h = err_no_ok EdgeUnguarded h
edge_guarded guarded no_entries s h = subst (λ s. MayBe 1 guarded s) (ok_same edge s h) (record { edges = tt; nesting = omega arith })

-- one level, where the levels below are as they should be
module _ (n : ℕ) (read : Reader) (good : (around : Around) (d : Data) (s : Pattern) → read around d ≡ Ok s → MayBe n around s) where
  -- each form is a selector where what is inside is one
  all_good : (around : Around) (es : Entries) (s : Pattern) → all_read read around es ≡ Ok s → MayBe (n + 1) around s
  all_good around es s h =
      let one = bind_ok (one_of (codes ">") es) (λ d. read (after_step around) d >>= (λ s. Ok (all s))) s h in
      let inner = bind_ok (read (after_step around) one.0) (λ s. Ok (all s)) s one.2 in
      let below = good (after_step around) one.0 inner.0 inner.1 in
      subst (λ s. MayBe (n + 1) around s) (ok_same (all inner.0) s inner.2) (record { edges = below.edges; nesting = omega (arith, below.nesting) })

  -- `index`
  index_good : (around : Around) (es : Entries) (s : Pattern) → index_form read around es ≡ Ok s → MayBe (n + 1) around s
  index_good around es s h =
      let two = bind_ok (two_of (codes ">") (codes "i") es) (λ d. integer_of d.1 >>= (λ i. read (after_step around) d.0 >>= (λ s. Ok (index i s)))) s h in
      let d = two.0 in
      let at = bind_ok (integer_of d.1) (λ i. read (after_step around) d.0 >>= (λ s. Ok (index i s))) s two.2 in
      let inner = bind_ok (read (after_step around) d.0) (λ s. Ok (index at.0 s)) s at.2 in
      let below = good (after_step around) d.0 inner.0 inner.1 in
      subst (λ s. MayBe (n + 1) around s) (ok_same (index at.0 inner.0) s inner.2) (record { edges = below.edges; nesting = omega (arith, below.nesting) })

  -- `range`
  range_good : (around : Around) (es : Entries) (s : Pattern) → range_form read around es ≡ Ok s → MayBe (n + 1) around s
  range_good around es s h =
      let three =
      bind_ok (three_of (codes "$") (codes ">") (codes "^") es) (λ d. integer_of d.2 >>= (λ start. integer_of d.0 >>= (λ end.
      read (after_step around) d.1 >>= (λ s. Ok (range start end s))))) s h in
      let d = three.0 in
      let first = bind_ok (integer_of d.2) (λ start. integer_of d.0 >>= (λ end. read (after_step around) d.1 >>= (λ s. Ok (range start end s)))) s three.2 in
      let last = bind_ok (integer_of d.0) (λ end. read (after_step around) d.1 >>= (λ s. Ok (range first.0 end s))) s first.2 in
      let inner = bind_ok (read (after_step around) d.1) (λ s. Ok (range first.0 last.0 s)) s last.2 in
      let below = good (after_step around) d.1 inner.0 inner.1 in
      subst (λ s. MayBe (n + 1) around s) {x = range first.0 last.0 inner.0} (ok_same (range first.0 last.0 inner.0) s inner.2) (record { edges = below.edges; nesting = omega (arith, below.nesting) })

  -- a recursion, whose limit fits
  recursive_good : (around : Around) (es : Entries) (s : Pattern) → recursive_form read es ≡ Ok s → MayBe (n + 1) around s
  recursive_good around es s h =
      by_test (has_key (codes "!") es) (Err (Unsupported StopAt)) (two_of (codes "l") (codes ":>") es >>= rest) s (MayBe (n + 1) around s) (λ e. err_no_ok (Unsupported StopAt) e) (λ e.
      let two = bind_ok (two_of (codes "l") (codes ":>") es) rest s e in
      let d = two.0 in
      let limit = bind_ok (limit_of d.0) (λ limit. read unguarded d.1 >>= (λ s. Ok (recursive limit s))) s two.2 in
      let inner = bind_ok (read unguarded d.1) (λ s. Ok (recursive limit.0 s)) s limit.2 in
      let below = good unguarded d.1 inner.0 inner.1 in
      subst (λ s. MayBe (n + 1) around s) (ok_same (recursive limit.0 inner.0) s inner.2) (record { edges = (limit_fits d.0 limit.0 limit.1, below.edges); nesting = omega (arith, below.nesting) })) h where
        rest : Data × Data → Result Pattern SelFault
        rest d = limit_of d.0 >>= (λ limit. read unguarded d.1 >>= (λ s. Ok (recursive limit s)))

  -- the selectors of named keys
  named_good : (around : Around) (es : Entries) (fs : Fields) → fields_read (read (after_step around)) es ≡ Ok fs → AreGuarded around fs × (fields_nesting fs ≤ n)
  named_good around no_entries fs h = subst (λ fs. AreGuarded around fs × (fields_nesting fs ≤ n)) (ok_same no_fields fs h) (tt, omega arith)
  named_good around (entry k d es) fs h =
      let inner = bind_ok (read (after_step around) d) (λ s. fields_read (read (after_step around)) es >>= (λ fs. Ok (field k s fs))) fs h in
      let more = bind_ok (fields_read (read (after_step around)) es) (λ fs. Ok (field k inner.0 fs)) fs inner.2 in
      let below = good (after_step around) d inner.0 inner.1 in
      let behind = named_good around es more.0 more.1 in
      subst (λ fs. AreGuarded around fs × (fields_nesting fs ≤ n)) (ok_same (field k inner.0 more.0) fs more.2) ((below.edges, behind.0), omega (arith, below.nesting, behind.1))

  -- `fields`
  fields_good : (around : Around) (es : Entries) (s : Pattern) → fields_form read around es ≡ Ok s → MayBe (n + 1) around s
  fields_good around es s h =
      let one = bind_ok (one_of (codes "f>") es) (λ d. entries_of_map d >>= (λ names. fields_read (read (after_step around)) names >>= (λ fs. Ok (fields fs)))) s h in
      let names = bind_ok (entries_of_map one.0) (λ names. fields_read (read (after_step around)) names >>= (λ fs. Ok (fields fs))) s one.2 in
      let inner = bind_ok (fields_read (read (after_step around)) names.0) (λ fs. Ok (fields fs)) s names.2 in
      let below = named_good around names.0 inner.0 inner.1 in
      subst (λ s. MayBe (n + 1) around s) (ok_same (fields inner.0) s inner.2) (record { edges = below.0; nesting = omega (arith, below.1) })

  -- the members of a union
  members_good : (around : Around) (ds : Items) (ss : Members) → members_read (read around) ds ≡ Ok ss → EachGuarded around ss × (members_nesting ss ≤ n)
  members_good around no_items ss h = subst (λ ss. EachGuarded around ss × (members_nesting ss ≤ n)) (ok_same no_members ss h) (tt, omega arith)
  members_good around (item d ds) ss h =
      let inner = bind_ok (read around d) (λ s. members_read (read around) ds >>= (λ ss. Ok (member s ss))) ss h in
      let more = bind_ok (members_read (read around) ds) (λ ss. Ok (member inner.0 ss)) ss inner.2 in
      let below = good around d inner.0 inner.1 in
      let behind = members_good around ds more.0 more.1 in
      subst (λ ss. EachGuarded around ss × (members_nesting ss ≤ n)) (ok_same (member inner.0 more.0) ss more.2) ((below.edges, behind.0), omega (arith, below.nesting, behind.1))

  -- a union
  union_good : (around : Around) (d : Data) (s : Pattern) → union_form read around d ≡ Ok s → MayBe (n + 1) around s
  union_good around (list ds) s h =
      let inner = bind_ok (members_read (read around) ds) (λ ss. Ok (union ss)) s h in
      let below = members_good around ds inner.0 inner.1 in
      subst (λ s. MayBe (n + 1) around s) (ok_same (union inner.0) s inner.2) (record { edges = below.0; nesting = omega (arith, below.1) })
  union_good around other s h = err_no_ok Kind h

  -- a form that takes a map
  in_map : (around : Around) (d : Data) (f : Entries → Result Pattern SelFault) (s : Pattern) → ((es : Entries) → f es ≡ Ok s → MayBe (n + 1) around s) → (entries_of_map d >>= f) ≡ Ok s → MayBe (n + 1) around s
  in_map around d f s each h = let found = bind_ok (entries_of_map d) f s h in each found.0 found.2

  -- so is the form that a key names
  form_good : (around : Around) (k : List ℕ) (d : Data) (s : Pattern) → form_of read around k d ≡ Ok s → MayBe (n + 1) around s
  form_good around k d s h =
      by_test (bytes_eq k (codes ".")) _ _ s P (in_map around d matcher_of s (λ es e. subst (λ s. MayBe (n + 1) around s) (matcher_only es s e) (record { edges = tt; nesting = omega arith })))
      (by_test (bytes_eq k (codes "a")) _ _ s P (in_map around d (all_read read around) s (λ es e. all_good around es s e))
      (by_test (bytes_eq k (codes "f")) _ _ s P (in_map around d (fields_form read around) s (λ es e. fields_good around es s e))
      (by_test (bytes_eq k (codes "i")) _ _ s P (in_map around d (index_form read around) s (λ es e. index_good around es s e))
      (by_test (bytes_eq k (codes "r")) _ _ s P (in_map around d (range_form read around) s (λ es e. range_good around es s e))
      (by_test (bytes_eq k (codes "R")) _ _ s P (in_map around d (recursive_form read) s (λ es e. recursive_good around es s e))
      (by_test (bytes_eq k (codes "|")) _ _ s P (λ e. union_good around d s e)
      (by_test (bytes_eq k (codes "@")) _ _ s P (in_map around d (edge_form around) s (λ es e. let m = edge_guarded around es s e in record { edges = m.edges; nesting = omega (arith, m.nesting) }))
      (by_test (bytes_eq k (codes "&")) _ _ s P (λ e. err_no_ok (Unsupported Conditional) e)
      (by_test (bytes_eq k (codes "~")) _ _ s P (λ e. err_no_ok (Unsupported InterpretAs) e)
      (λ e. err_no_ok Unknown e)))))))))) h where
        P : Type 0
        P = MayBe (n + 1) around s

  -- so is what one level reads
  with_good : (around : Around) (d : Data) (s : Pattern) → read_with read around d ≡ Ok s → MayBe (n + 1) around s
  with_good around (map (entry k body no_entries)) s h = form_good around k body s h
  with_good around (map (entry k body (entry l e es))) s h = err_no_ok Keys h
  with_good around (map no_entries) s h = err_no_ok Keys h
  with_good around other s h = err_no_ok NotMap h

-- what is read where n levels are left is allowed there
pub at_good : (n : ℕ) (around : Around) (d : Data) (s : Pattern) → selector_at n around d ≡ Ok s → MayBe n around s
unfolding selector_at
at_good zero around d s h = err_no_ok Nesting h
at_good (suc n) around d s h = let m = with_good n (selector_at n) (at_good n) around d s h in record { edges = m.edges; nesting = omega (arith, m.nesting) }

-- the selector that data spell obeys the rules
pub reads_selector : (d : Data) (s : Pattern) → selector_of d ≡ Ok s → IsSelector s
reads_selector d s h = let m = at_good greatest_nesting outside (without_envelope d) s h in record { edges = m.edges; nesting = m.nesting }
