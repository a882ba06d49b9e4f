-- The names of fields are in the order of keys, since what is read has a spelling.
use Rattle.std.proofs.Common.{◌≡◌, ℕ, zero, suc, Bool, true, false, List, refl, subst}
use Rattle.std.specs.Prelude.{Result, Ok, Err, bytes_eq, codes, if◌then◌else◌}
use Rattle.std.specs.declared.cmp.Ordering.TheVariants.{Less}
use Rattle.ix_cbor.specs.Data.{Data, Items, Entries, list, map, no_items, item, no_entries, entry}
use Rattle.ix_cbor.specs.Spelling.{key_cmp, Rises, IsSpellable, AreSpellable, AreRising, IsCanonical}
use Rattle.ix_cbor.proofs.Keys.{key_total}
use Rattle.ix_selector.specs.declared.fault.SelFault.{SelFault}
use Rattle.ix_selector.specs.declared.fault.SelFault.TheVariants.{NotMap, Keys, Unknown, Unsupported, Kind, EdgeOutside, EdgeUnguarded, Nesting}
use Rattle.ix_selector.specs.declared.fault.Form.TheVariants.{StopAt, Conditional, InterpretAs}
use Rattle.ix_selector.specs.Pattern.{Pattern, Fields, Members, all, fields, index, range, recursive, union, edge, no_fields, field, no_members, member, Around, outside, unguarded, guarded, after_step, greatest_nesting}
use Rattle.ix_selector.specs.Ordered.{IsBeforeAll, IsOrdered, AreOrdered, EachOrdered}
use Rattle.ix_selector.specs.Reading.{Reader, ◌>>=◌, matcher_of, integer_of, entries_of_map, one_of, two_of, three_of, fields_read, members_read, has_key, limit_of, all_read, fields_form, index_form, range_form, recursive_form, edge_form, union_form, form_of, read_with, selector_at, selector_of, without_envelope}
use Rattle.ix_selector.proofs.Guarded.{err_no_ok, bind_ok, ok_same, by_test, matcher_only}

-- ---- what is inside what has a spelling has one

-- the keys of a map that has a spelling rise
map-rising : (d : Data) (es : Entries) → entries_of_map d ≡ Ok es → IsSpellable d → AreRising es
map-rising (map fs) es h is = subst AreRising (ok_same fs es h) is.1
map-rising other es h is = err_no_ok Kind h

-- the value of the only key has a spelling
one-spellable : (key : List ℕ) (es : Entries) (d : Data) → one_of key es ≡ Ok d → AreRising es → IsSpellable d
one-spellable key no_entries d h is = err_no_ok Keys h
one-spellable key (entry k e no_entries) d h is = by_test (bytes_eq k key) (Ok e) (Err Keys) d (IsSpellable d) (λ same. subst IsSpellable (ok_same e d same) is.1) (λ no. err_no_ok Keys no) h
one-spellable key (entry k e (entry l f fs)) d h is = err_no_ok Keys h

-- and so have those of two keys
two-spellable : (first second : List ℕ) (es : Entries) (d : Data × Data) → two_of first second es ≡ Ok d → AreRising es → IsSpellable d.0 × IsSpellable d.1
two-spellable first second no_entries d h is = err_no_ok Keys h
two-spellable first second (entry k e more) d h is =
    by_test (bytes_eq k first) (state (one_of second more)) (Err Keys) d P (λ same. paired (one_of second more) refl same) (λ no. err_no_ok Keys no) h where
      P : Type 0
      P = IsSpellable d.0 × IsSpellable d.1

      state : Result Data SelFault → Result (Data × Data) SelFault
      state (Ok f) = Ok (e, f)
      state (Err g) = Err g

      paired : (r : Result Data SelFault) → one_of second more ≡ r → state r ≡ Ok d → P
      paired (Ok f) found same = let both = ok_same (e, f) d same in (subst (λ (x : Data × Data). IsSpellable x.0) both is.1, subst (λ (x : Data × Data). IsSpellable x.1) both (one-spellable second more f found is.3))
      paired (Err g) found same = err_no_ok g same

-- and the selector of a range
three-spellable : (first second third : List ℕ) (es : Entries) (d : Data × Data × Data) → three_of first second third es ≡ Ok d → AreRising es → IsSpellable d.1
three-spellable first second third no_entries d h is = err_no_ok Keys h
three-spellable first second third (entry k e more) d h is =
    by_test (bytes_eq k first) (triple (two_of second third more)) (Err Keys) d (IsSpellable d.1) (λ same. tripled (two_of second third more) refl same) (λ no. err_no_ok Keys no) h where
      triple : Result (Data × Data) SelFault → Result (Data × Data × Data) SelFault
      triple (Ok f) = Ok (e, f.0, f.1)
      triple (Err g) = Err g

      tripled : (r : Result (Data × Data) SelFault) → two_of second third more ≡ r → triple r ≡ Ok d → IsSpellable d.1
      tripled (Ok f) found same = subst (λ (x : Data × Data × Data). IsSpellable x.1) (ok_same (e, f.0, f.1) d same) (two-spellable second third more f found is.3).0
      tripled (Err g) found same = err_no_ok g same

-- ---- names that rise one by one are each before all after them

-- a smaller key is before all that a greater one is before
rises-further : (k l : List ℕ) (es : Entries) → key_cmp k l ≡ Less → Rises l es → Rises k es
rises-further k l no_entries before rises = tt
rises-further k l (entry m d es) before rises = key_total.trans k l m before rises

-- the names that are read have the keys' order
before-all : (read : Data → Result Pattern SelFault) (k : List ℕ) (es : Entries) (fs : Fields) → fields_read read es ≡ Ok fs → Rises k es → AreRising es → IsBeforeAll k fs
before-all read k no_entries fs h rises rising = subst (IsBeforeAll k) (ok_same no_fields fs h) tt
before-all read k (entry l d es) fs h rises rising =
    let inner = bind_ok (read d) (λ s. fields_read read es >>= (λ fs. Ok (field l s fs))) fs h in
    let more = bind_ok (fields_read read es) (λ fs. Ok (field l inner.0 fs)) fs inner.2 in
    subst (IsBeforeAll k) (ok_same (field l inner.0 more.0) fs more.2) (rises, before-all read k es more.0 more.1 (rises-further k l es rises rising.2) rising.3)

-- one level, where the levels below are as they should be
module _ (read : Reader) (good : (around : Around) (d : Data) (s : Pattern) → IsSpellable d → read around d ≡ Ok s → IsOrdered s) where
  -- `all`, if what is inside is ordered
  all_ordered : (around : Around) (es : Entries) (s : Pattern) → AreRising es → all_read read around es ≡ Ok s → IsOrdered s
  all_ordered around es s is h =
      let one = bind_ok (one_of (codes ">") es) (λ d. read (after_step around) d >>= (λ s. Ok (all s))) s h in
      let inner = bind_ok (read (after_step around) one.0) (λ s. Ok (all s)) s one.2 in
      subst IsOrdered (ok_same (all inner.0) s inner.2) (good (after_step around) one.0 inner.0 (one-spellable (codes ">") es one.0 one.1 is) inner.1)

  -- `index`
  index_ordered : (around : Around) (es : Entries) (s : Pattern) → AreRising es → index_form read around es ≡ Ok s → IsOrdered s
  index_ordered around es s is h =
      let two = bind_ok (two_of (codes ">") (codes "i") es) (λ d. integer_of d.1 >>= (λ i. read (after_step around) d.0 >>= (λ s. Ok (index i s)))) s h in
      let d = two.0 in
      let at = bind_ok (integer_of d.1) (λ i. read (after_step around) d.0 >>= (λ s. Ok (index i s))) s two.2 in
      let inner = bind_ok (read (after_step around) d.0) (λ s. Ok (index at.0 s)) s at.2 in
      subst IsOrdered (ok_same (index at.0 inner.0) s inner.2) (good (after_step around) d.0 inner.0 (two-spellable (codes ">") (codes "i") es d two.1 is).0 inner.1)

  -- `range`
  range_ordered : (around : Around) (es : Entries) (s : Pattern) → AreRising es → range_form read around es ≡ Ok s → IsOrdered s
  range_ordered around es s is h =
      let three =
      bind_ok (three_of (codes "$") (codes ">") (codes "^") es) (λ d. integer_of d.2 >>= (λ start. integer_of d.0 >>= (λ end.
      read (after_step around) d.1 >>= (λ s. Ok (range start end s))))) s h in
      let d = three.0 in
      let first = bind_ok (integer_of d.2) (λ start. integer_of d.0 >>= (λ end. read (after_step around) d.1 >>= (λ s. Ok (range start end s)))) s three.2 in
      let last = bind_ok (integer_of d.0) (λ end. read (after_step around) d.1 >>= (λ s. Ok (range first.0 end s))) s first.2 in
      let inner = bind_ok (read (after_step around) d.1) (λ s. Ok (range first.0 last.0 s)) s last.2 in
      subst IsOrdered {x = range first.0 last.0 inner.0} (ok_same (range first.0 last.0 inner.0) s inner.2) (good (after_step around) d.1 inner.0 (three-spellable (codes "$") (codes ">") (codes "^") es d three.1 is) inner.1)

  -- a recursion
  recursive_ordered : (es : Entries) (s : Pattern) → AreRising es → recursive_form read es ≡ Ok s → IsOrdered s
  recursive_ordered es s is h =
      by_test (has_key (codes "!") es) (Err (Unsupported StopAt)) (two_of (codes "l") (codes ":>") es >>= rest) s (IsOrdered s) (λ e. err_no_ok (Unsupported StopAt) e) (λ e.
      let two = bind_ok (two_of (codes "l") (codes ":>") es) rest s e in
      let d = two.0 in
      let limit = bind_ok (limit_of d.0) (λ limit. read unguarded d.1 >>= (λ s. Ok (recursive limit s))) s two.2 in
      let inner = bind_ok (read unguarded d.1) (λ s. Ok (recursive limit.0 s)) s limit.2 in
      subst IsOrdered (ok_same (recursive limit.0 inner.0) s inner.2) (good unguarded d.1 inner.0 (two-spellable (codes "l") (codes ":>") es d two.1 is).1 inner.1)) h where
        rest : Data × Data → Result Pattern SelFault
        rest d = limit_of d.0 >>= (λ limit. read unguarded d.1 >>= (λ s. Ok (recursive limit s)))

  -- the selectors of names
  named_ordered : (around : Around) (es : Entries) (fs : Fields) → AreRising es → fields_read (read (after_step around)) es ≡ Ok fs → AreOrdered fs
  named_ordered around no_entries fs is h = subst AreOrdered (ok_same no_fields fs h) tt
  named_ordered around (entry k d es) fs is h =
      let inner = bind_ok (read (after_step around) d) (λ s. fields_read (read (after_step around)) es >>= (λ fs. Ok (field k s fs))) fs h in
      let more = bind_ok (fields_read (read (after_step around)) es) (λ fs. Ok (field k inner.0 fs)) fs inner.2 in
      subst AreOrdered (ok_same (field k inner.0 more.0) fs more.2)
      (before-all (read (after_step around)) k es more.0 more.1 is.2 is.3, good (after_step around) d inner.0 is.1 inner.1, named_ordered around es more.0 is.3 more.1)

  -- `fields`, whose names rise too
  fields_ordered : (around : Around) (es : Entries) (s : Pattern) → AreRising es → fields_form read around es ≡ Ok s → IsOrdered s
  fields_ordered around es s is h =
      let one = bind_ok (one_of (codes "f>") es) (λ d. entries_of_map d >>= (λ names. fields_read (read (after_step around)) names >>= (λ fs. Ok (fields fs)))) s h in
      let names = bind_ok (entries_of_map one.0) (λ names. fields_read (read (after_step around)) names >>= (λ fs. Ok (fields fs))) s one.2 in
      let inner = bind_ok (fields_read (read (after_step around)) names.0) (λ fs. Ok (fields fs)) s names.2 in
      subst IsOrdered (ok_same (fields inner.0) s inner.2) (named_ordered around names.0 inner.0 (map-rising one.0 names.0 names.1 (one-spellable (codes "f>") es one.0 one.1 is)) inner.1)

  -- members
  members_ordered : (around : Around) (ds : Items) (ss : Members) → AreSpellable ds → members_read (read around) ds ≡ Ok ss → EachOrdered ss
  members_ordered around no_items ss is h = subst EachOrdered (ok_same no_members ss h) tt
  members_ordered around (item d ds) ss is h =
      let inner = bind_ok (read around d) (λ s. members_read (read around) ds >>= (λ ss. Ok (member s ss))) ss h in
      let more = bind_ok (members_read (read around) ds) (λ ss. Ok (member inner.0 ss)) ss inner.2 in
      subst EachOrdered (ok_same (member inner.0 more.0) ss more.2) (good around d inner.0 is.0 inner.1, members_ordered around ds more.0 is.1 more.1)

  -- a union
  union_ordered : (around : Around) (d : Data) (s : Pattern) → IsSpellable d → union_form read around d ≡ Ok s → IsOrdered s
  union_ordered around (list ds) s is h =
      let inner = bind_ok (members_read (read around) ds) (λ ss. Ok (union ss)) s h in
      subst IsOrdered (ok_same (union inner.0) s inner.2) (members_ordered around ds inner.0 is.1 inner.1)
  union_ordered around other s is h = err_no_ok Kind h

  -- an edge has no names
  edge_ordered : (around : Around) (es : Entries) (s : Pattern) → edge_form around es ≡ Ok s → IsOrdered s
  edge_ordered around (entry k d es) s h = err_no_ok Keys h
  edge_ordered outside no_entries s h = err_no_ok EdgeOutside h
  edge_ordered unguarded no_entries s h = err_no_ok EdgeUnguarded h
  edge_ordered guarded no_entries s h = subst IsOrdered (ok_same edge s h) tt

  -- a form that takes a map
  in_map : (d : Data) (f : Entries → Result Pattern SelFault) (s : Pattern) → IsSpellable d → ((es : Entries) → AreRising es → f es ≡ Ok s → IsOrdered s) → (entries_of_map d >>= f) ≡ Ok s → IsOrdered s
  in_map d f s is each h = let found = bind_ok (entries_of_map d) f s h in each found.0 (map-rising d found.0 found.1 is) found.2

  -- so the form that a key names is ordered
  form_ordered : (around : Around) (k : List ℕ) (d : Data) (s : Pattern) → IsSpellable d → form_of read around k d ≡ Ok s → IsOrdered s
  form_ordered around k d s is h =
      by_test (bytes_eq k (codes ".")) _ _ s P (in_map d matcher_of s is (λ es rising e. subst IsOrdered (matcher_only es s e) tt))
      (by_test (bytes_eq k (codes "a")) _ _ s P (in_map d (all_read read around) s is (λ es rising e. all_ordered around es s rising e))
      (by_test (bytes_eq k (codes "f")) _ _ s P (in_map d (fields_form read around) s is (λ es rising e. fields_ordered around es s rising e))
      (by_test (bytes_eq k (codes "i")) _ _ s P (in_map d (index_form read around) s is (λ es rising e. index_ordered around es s rising e))
      (by_test (bytes_eq k (codes "r")) _ _ s P (in_map d (range_form read around) s is (λ es rising e. range_ordered around es s rising e))
      (by_test (bytes_eq k (codes "R")) _ _ s P (in_map d (recursive_form read) s is (λ es rising e. recursive_ordered es s rising e))
      (by_test (bytes_eq k (codes "|")) _ _ s P (λ e. union_ordered around d s is e)
      (by_test (bytes_eq k (codes "@")) _ _ s P (in_map d (edge_form around) s is (λ es rising e. edge_ordered around es s e))
      (by_test (bytes_eq k (codes "&")) _ _ s P (λ e. err_no_ok (Unsupported Conditional) e)
      (by_test (bytes_eq k (codes "~")) _ _ s P (λ e. err_no_ok (Unsupported InterpretAs) e)
      (λ e. err_no_ok Unknown e)))))))))) h where
        P : Type 0
        P = IsOrdered s

  -- and what one level reads
  with_ordered : (around : Around) (d : Data) (s : Pattern) → IsSpellable d → read_with read around d ≡ Ok s → IsOrdered s
  with_ordered around (map (entry k body no_entries)) s is h = form_ordered around k body s is.1.1 h
  with_ordered around (map (entry k body (entry l e es))) s is h = err_no_ok Keys h
  with_ordered around (map no_entries) s is h = err_no_ok Keys h
  with_ordered around other s is h = err_no_ok NotMap h

-- and every level
at_ordered : (n : ℕ) (around : Around) (d : Data) (s : Pattern) → IsSpellable d → selector_at n around d ≡ Ok s → IsOrdered s
unfolding selector_at
at_ordered zero around d s is h = err_no_ok Nesting h
at_ordered (suc n) around d s is h = with_ordered (selector_at n) (at_ordered n) around d s is h

-- what is in the envelope has a spelling too
inside_spellable : (d : Data) → IsSpellable d → IsSpellable (without_envelope d)
inside_spellable (map (entry k d no_entries)) is = by_key (bytes_eq k (codes "selector")) where
  by_key : (b : Bool) → IsSpellable (if b then d else map (entry k d no_entries))
  by_key true = is.1.1
  by_key false = is
inside_spellable (map (entry k d (entry l e es))) is = is
inside_spellable (map no_entries) is = is
inside_spellable other is = is

-- the selector that data with a spelling spell has its names in order
pub reads_ordered : (d : Data) (s : Pattern) → IsCanonical d → selector_of d ≡ Ok s → IsOrdered s
reads_ordered d s is h = at_ordered greatest_nesting outside (without_envelope d) s (inside_spellable d is.parts) h
