-- What is read is spelled.
use Rattle.std.proofs.Common.{◌≡◌, ◌^◌, ℕ, zero, suc, true, false, List, refl, sym, ◌∙◌, ap, subst, pos, negsuc}
use Rattle.std.specs.Prelude.{ℤ, Option, Some, None, Result, Ok, Err, nat_lt, bytes_eq, codes, if◌then◌else◌}
use Rattle.std.proofs.lemmas.Slice.Eq.{bytes_eq-Decides}
use Rattle.ix_cbor.specs.Data.{Data, Items, Entries, integer, text, list, map, no_items, item, no_entries, entry}
use Rattle.ix_selector.specs.declared.fault.SelFault.{SelFault}
use Rattle.ix_selector.specs.declared.fault.SelFault.TheVariants.{NotMap, Keys, Unknown, Unsupported, Kind, Depth, EdgeOutside, EdgeUnguarded, Nesting}
use Rattle.ix_selector.specs.declared.fault.Form.TheVariants.{MatcherField, StopAt, Conditional, InterpretAs}
use Rattle.ix_selector.specs.Pattern.{Pattern, Fields, Members, matcher, all, fields, index, range, recursive, union, edge, no_fields, field, no_members, member, Around, outside, unguarded, guarded, after_step}
use Rattle.ix_selector.specs.Reading.{Reader, ◌>>=◌, matcher_of, integer_of, entries_of_map, one_of, two_of, three_of, fields_read, members_read, has_key, no_limit_of, depth_of, limit_of, all_read, fields_form, index_form, range_form, recursive_form, edge_form, union_form, form_of, read_with, selector_at, without_envelope}
use Rattle.ix_selector.specs.Spelled.{one_key, two_keys, three_keys, AreLabels, no_label, label, SpellsLimit, as_no_limit, as_depth, SpellsPattern, as_matcher, as_all, as_fields, as_index, as_range, as_recursive, as_union, as_edge, SpellFields, as_no_fields, as_field, SpellMembers, as_no_members, as_member, SpellsSelector, alone, in_envelope}
use Rattle.ix_selector.proofs.Guarded.{err_no_ok, bind_ok, ok_same, by_test}
use Rattle.ix_selector.proofs.Parts.{is_map}

-- a key that is tested for, or another one
by_key : {A : Type 0} (k key : List ℕ) (r s : Result A SelFault) (y : A) (P : Type 0) → (k ≡ key → r ≡ Ok y → P) → (s ≡ Ok y → P) → (if bytes_eq k key then r else s) ≡ Ok y → P
by_key k key r s y P f g h =
    elim (bytes_eq k key) as (λ b. (b ≡ true → k ≡ key) → (if b then r else s) ≡ Ok y → P)
    [ true ↦ (λ same e. f (same refl) e) | false ↦ (λ same e. g e) ] (λ e. (bytes_eq-Decides k key).0 e) h

-- what is read as an integer is one
is_integer : (d : Data) (n : ℤ) → integer_of d ≡ Ok n → d ≡ integer n
is_integer (integer m) n h = cc
is_integer other n h = err_no_ok Kind h

-- the entries that have the one key
is_one : (key : List ℕ) (es : Entries) (d : Data) → one_of key es ≡ Ok d → es ≡ entry key d no_entries
is_one key (entry k e no_entries) d h = by_key k key (Ok e) (Err Keys) d _ (λ named is. ap (λ l. entry l e no_entries) named ∙ ap (λ x. entry key x no_entries) (ok_same e d is)) (λ is. err_no_ok Keys is) h
is_one key (entry k e (entry l f es)) d h = err_no_ok Keys h
is_one key no_entries d h = err_no_ok Keys h

-- those that have two keys, and those that have three
is_two : (first second : List ℕ) (es : Entries) (d : Data × Data) → two_of first second es ≡ Ok d → es ≡ entry first d.0 (entry second d.1 no_entries)
is_two first second (entry k e more) d h =
    by_key k first (paired (one_of second more)) (Err Keys) d _ (λ named is.
    let found = parts (one_of second more) is in
    ap (λ l. entry l e more) named ∙ ap (entry first e) (is_one second more found.0 found.1) ∙ ap (λ p. entry first p.0 (entry second p.1 no_entries)) found.2) (λ is. err_no_ok Keys is) h where
      paired : Result Data SelFault → Result (Data × Data) SelFault
      paired (Ok f) = Ok (e, f)
      paired (Err f) = Err f

      parts : (r : Result Data SelFault) → paired r ≡ Ok d → (f : Data) × (r ≡ Ok f) × (◌≡◌ {A = Data × Data} (e, f) d)
      parts (Ok f) is = (f, refl, ok_same (e, f) d is)
      parts (Err f) is = err_no_ok f is
is_two first second no_entries d h = err_no_ok Keys h

-- three keys that are found are all that there are
is_three : (first second third : List ℕ) (es : Entries) (d : Data × Data × Data) → three_of first second third es ≡ Ok d → es ≡ entry first d.0 (entry second d.1 (entry third d.2 no_entries))
is_three first second third (entry k e more) d h =
    by_key k first (tripled (two_of second third more)) (Err Keys) d _ (λ named is.
    let found = parts (two_of second third more) is in
    ap (λ l. entry l e more) named ∙ ap (entry first e) (is_two second third more found.0 found.1) ∙ ap (λ p. entry first p.0 (entry second p.1 (entry third p.2 no_entries))) found.2) (λ is. err_no_ok Keys is) h where
      tripled : Result (Data × Data) SelFault → Result (Data × Data × Data) SelFault
      tripled (Ok f) = Ok (e, f.0, f.1)
      tripled (Err f) = Err f

      parts : (r : Result (Data × Data) SelFault) → tripled r ≡ Ok d → (f : Data × Data) × (r ≡ Ok f) × (◌≡◌ {A = Data × Data × Data} (e, f.0, f.1) d)
      parts (Ok f) is = (f, refl, ok_same (e, f.0, f.1) d is)
      parts (Err f) is = err_no_ok f is
is_three first second third no_entries d h = err_no_ok Keys h

-- what each part of a limit gives is spelled
none_spelled : (es : Entries) (limit : Option ℕ) → no_limit_of es ≡ Ok limit → SpellsLimit (one_key (codes "none") (map es)) limit
none_spelled no_entries limit h = subst (λ l. SpellsLimit (one_key (codes "none") (map no_entries)) l) (ok_same None limit h) as_no_limit
none_spelled (entry k d es) limit h = err_no_ok Keys h

-- a depth that is read is spelled
depth_spelled : (n : ℤ) (limit : Option ℕ) → depth_of n ≡ Ok limit → SpellsLimit (one_key (codes "depth") (integer n)) limit
depth_spelled (pos n) limit h =
    elim (nat_lt n (2 ^ 32)) as (λ b. (if b then Ok (Some n) else Err Depth) ≡ Ok limit → SpellsLimit (one_key (codes "depth") (integer (pos n))) limit)
    [ true ↦ (λ e. subst (λ l. SpellsLimit (one_key (codes "depth") (integer (pos n))) l) (ok_same (Some n) limit e) as_depth) | false ↦ (λ e. err_no_ok Depth e) ] h
depth_spelled (negsuc n) limit h = err_no_ok Depth h

-- a limit that is read is spelled
limit_spelled : (d : Data) (limit : Option ℕ) → limit_of d ≡ Ok limit → SpellsLimit d limit
limit_spelled (map (entry k d no_entries)) limit h =
    by_key k (codes "none") (entries_of_map d >>= no_limit_of) _ limit (SpellsLimit (one_key k d) limit)
    (λ named e.
    let found = bind_ok (entries_of_map d) no_limit_of limit e in
    subst (λ d. SpellsLimit d limit) (ap (one_key (codes "none")) (sym (is_map d found.0 found.1)) ∙ ap (λ l. one_key l d) (sym named)) (none_spelled found.0 limit found.2))
    (by_key k (codes "depth") (integer_of d >>= depth_of) (Err Unknown) limit (SpellsLimit (one_key k d) limit)
    (λ named e.
    let found = bind_ok (integer_of d) depth_of limit e in
    subst (λ d. SpellsLimit d limit) (ap (one_key (codes "depth")) (sym (is_integer d found.0 found.1)) ∙ ap (λ l. one_key l d) (sym named)) (depth_spelled found.0 limit found.2))
    (λ e. err_no_ok Unknown e)) h
limit_spelled (map (entry k d (entry l e es))) limit h = err_no_ok Keys h
limit_spelled (map no_entries) limit h = err_no_ok Keys h
limit_spelled other limit h = err_no_ok Kind h

-- a matcher is read from labels
matcher_spelled : (es : Entries) (s : Pattern) → matcher_of es ≡ Ok s → AreLabels es × (matcher ≡ s)
matcher_spelled no_entries s h = (no_label, ok_same matcher s h)
matcher_spelled (entry k d es) s h =
    by_key k (codes "label") (labelled d (matcher_of es)) (Err (Unsupported MatcherField)) s (AreLabels (entry k d es) × (matcher ≡ s)) (λ named e.
    let found = rest_of d (matcher_of es) e in
    let behind = matcher_spelled es s found.2 in
    (subst AreLabels (ap (λ d. entry (codes "label") d es) (sym found.1) ∙ ap (λ l. entry l d es) (sym named)) (label behind.0), behind.1)) (λ e. err_no_ok (Unsupported MatcherField) e) h where
      labelled : Data → Result Pattern SelFault → Result Pattern SelFault
      labelled (text t) rest = rest
      labelled other rest = Err Kind

      rest_of : (d : Data) (r : Result Pattern SelFault) → labelled d r ≡ Ok s → (t : List ℕ) × (d ≡ text t) × (r ≡ Ok s)
      rest_of (text t) r h = (t, refl, h)
      rest_of other r h = err_no_ok Kind h

-- the same data, and the same selector
SpellsPattern_same : (d e : Data) (s t : Pattern) → e ≡ d → s ≡ t → SpellsPattern d s → SpellsPattern e t
SpellsPattern_same d e s t e_is s_is h = subst (λ x. SpellsPattern x t) (sym e_is) (subst (λ x. SpellsPattern d x) s_is h)

-- an edge is read from an empty map
edge_spelled : (around : Around) (es : Entries) (s : Pattern) → edge_form around es ≡ Ok s → SpellsPattern (one_key (codes "@") (map es)) s
edge_spelled around (entry k d es) s h = err_no_ok Keys h
edge_spelled outside no_entries s h = err_no_ok EdgeOutside h
edge_spelled unguarded no_entries s h = err_no_ok EdgeUnguarded h
edge_spelled guarded no_entries s h = subst (λ t. SpellsPattern (one_key (codes "@") (map no_entries)) t) (ok_same edge s h) as_edge

-- one level, where what the levels below read is spelled
module _ (read : Reader) (spelled : (around : Around) (d : Data) (s : Pattern) → read around d ≡ Ok s → SpellsPattern d s) where
  -- each form is spelled where what is inside it is
  all_spelled : (around : Around) (es : Entries) (s : Pattern) → all_read read around es ≡ Ok s → SpellsPattern (one_key (codes "a") (map es)) s
  all_spelled around es s h =
      let one = bind_ok (one_of (codes ">") es) (λ d. read (after_step around) d >>= (λ s. Ok (all s))) s h in
      let inner = bind_ok (read (after_step around) one.0) (λ s. Ok (all s)) s one.2 in
      SpellsPattern_same _ _ (all inner.0) s (ap (λ l. one_key (codes "a") (map l)) (is_one (codes ">") es one.0 one.1)) (ok_same (all inner.0) s inner.2)
      (as_all (spelled (after_step around) one.0 inner.0 inner.1))

  -- `index`
  index_spelled : (around : Around) (es : Entries) (s : Pattern) → index_form read around es ≡ Ok s → SpellsPattern (one_key (codes "i") (map es)) s
  index_spelled around es s h =
      let two = bind_ok (two_of (codes ">") (codes "i") es) (λ d. integer_of d.1 >>= (λ i. read (after_step around) d.0 >>= (λ s. Ok (index i s)))) s h in
      let d = two.0 in
      let at = bind_ok (integer_of d.1) (λ i. read (after_step around) d.0 >>= (λ s. Ok (index i s))) s two.2 in
      let inner = bind_ok (read (after_step around) d.0) (λ s. Ok (index at.0 s)) s at.2 in
      SpellsPattern_same (one_key (codes "i") (two_keys (codes ">") d.0 (codes "i") (integer at.0))) _ (index at.0 inner.0) s
      (ap (λ l. one_key (codes "i") (map l)) (is_two (codes ">") (codes "i") es d two.1) ∙ ap (λ x. one_key (codes "i") (two_keys (codes ">") d.0 (codes "i") x)) (is_integer d.1 at.0 at.1))
      (ok_same (index at.0 inner.0) s inner.2) (as_index (spelled (after_step around) d.0 inner.0 inner.1))

  -- `range`
  range_spelled : (around : Around) (es : Entries) (s : Pattern) → range_form read around es ≡ Ok s → SpellsPattern (one_key (codes "r") (map es)) s
  range_spelled around es s h =
      let three =
      bind_ok (three_of (codes "$") (codes ">") (codes "^") es) (λ d. integer_of d.2 >>= (λ start. integer_of d.0 >>= (λ end.
      read (after_step around) d.1 >>= (λ s. Ok (range start end s))))) s h in
      let d = three.0 in
      let first = bind_ok (integer_of d.2) (λ start. integer_of d.0 >>= (λ end. read (after_step around) d.1 >>= (λ s. Ok (range start end s)))) s three.2 in
      let last = bind_ok (integer_of d.0) (λ end. read (after_step around) d.1 >>= (λ s. Ok (range first.0 end s))) s first.2 in
      let inner = bind_ok (read (after_step around) d.1) (λ s. Ok (range first.0 last.0 s)) s last.2 in
      let keys : Data → Data → Data = λ end start. one_key (codes "r") (three_keys (codes "$") end (codes ">") d.1 (codes "^") start) in
      SpellsPattern_same (keys (integer last.0) (integer first.0)) _ (range first.0 last.0 inner.0) s
      (ap (λ l. one_key (codes "r") (map l)) (is_three (codes "$") (codes ">") (codes "^") es d three.1)
      ∙ ap (λ x. keys x d.2) (is_integer d.0 last.0 last.1) ∙ ap (keys (integer last.0)) (is_integer d.2 first.0 first.1))
      (ok_same (range first.0 last.0 inner.0) s inner.2) (as_range (spelled (after_step around) d.1 inner.0 inner.1))

  -- a recursion
  recursive_spelled : (es : Entries) (s : Pattern) → recursive_form read es ≡ Ok s → SpellsPattern (one_key (codes "R") (map es)) s
  recursive_spelled es s h =
      by_test (has_key (codes "!") es) (Err (Unsupported StopAt)) (two_of (codes "l") (codes ":>") es >>= rest) s (SpellsPattern (one_key (codes "R") (map es)) s) (λ e. err_no_ok (Unsupported StopAt) e) (λ e.
      let two = bind_ok (two_of (codes "l") (codes ":>") es) rest s e in
      let d = two.0 in
      let limit = bind_ok (limit_of d.0) (λ limit. read unguarded d.1 >>= (λ s. Ok (recursive limit s))) s two.2 in
      let inner = bind_ok (read unguarded d.1) (λ s. Ok (recursive limit.0 s)) s limit.2 in
      SpellsPattern_same _ _ (recursive limit.0 inner.0) s (ap (λ l. one_key (codes "R") (map l)) (is_two (codes "l") (codes ":>") es d two.1)) (ok_same (recursive limit.0 inner.0) s inner.2)
      (as_recursive (limit_spelled d.0 limit.0 limit.1) (spelled unguarded d.1 inner.0 inner.1))) h where
        rest : Data × Data → Result Pattern SelFault
        rest d = limit_of d.0 >>= (λ limit. read unguarded d.1 >>= (λ s. Ok (recursive limit s)))

  -- the selectors of named keys
  named_spelled : (around : Around) (es : Entries) (fs : Fields) → fields_read (read around) es ≡ Ok fs → SpellFields es fs
  named_spelled around no_entries fs h = subst (λ l. SpellFields no_entries l) (ok_same no_fields fs h) as_no_fields
  named_spelled around (entry k d es) fs h =
      let inner = bind_ok (read around d) (λ s. fields_read (read around) es >>= (λ fs. Ok (field k s fs))) fs h in
      let more = bind_ok (fields_read (read around) es) (λ fs. Ok (field k inner.0 fs)) fs inner.2 in
      subst (λ l. SpellFields (entry k d es) l) (ok_same (field k inner.0 more.0) fs more.2) (as_field (spelled around d inner.0 inner.1) (named_spelled around es more.0 more.1))

  -- `fields`
  fields_spelled : (around : Around) (es : Entries) (s : Pattern) → fields_form read around es ≡ Ok s → SpellsPattern (one_key (codes "f") (map es)) s
  fields_spelled around es s h =
      let one = bind_ok (one_of (codes "f>") es) (λ d. entries_of_map d >>= (λ names. fields_read (read (after_step around)) names >>= (λ fs. Ok (fields fs)))) s h in
      let names = bind_ok (entries_of_map one.0) (λ names. fields_read (read (after_step around)) names >>= (λ fs. Ok (fields fs))) s one.2 in
      let inner = bind_ok (fields_read (read (after_step around)) names.0) (λ fs. Ok (fields fs)) s names.2 in
      SpellsPattern_same (one_key (codes "f") (one_key (codes "f>") (map names.0))) _ (fields inner.0) s
      (ap (λ l. one_key (codes "f") (map l)) (is_one (codes "f>") es one.0 one.1) ∙ ap (λ x. one_key (codes "f") (one_key (codes "f>") x)) (is_map one.0 names.0 names.1))
      (ok_same (fields inner.0) s inner.2) (as_fields (named_spelled (after_step around) names.0 inner.0 inner.1))

  -- the members of a union
  members_spelled : (around : Around) (ds : Items) (ss : Members) → members_read (read around) ds ≡ Ok ss → SpellMembers ds ss
  members_spelled around no_items ss h = subst (λ l. SpellMembers no_items l) (ok_same no_members ss h) as_no_members
  members_spelled around (item d ds) ss h =
      let inner = bind_ok (read around d) (λ s. members_read (read around) ds >>= (λ ss. Ok (member s ss))) ss h in
      let more = bind_ok (members_read (read around) ds) (λ ss. Ok (member inner.0 ss)) ss inner.2 in
      subst (λ l. SpellMembers (item d ds) l) (ok_same (member inner.0 more.0) ss more.2) (as_member (spelled around d inner.0 inner.1) (members_spelled around ds more.0 more.1))

  -- a union
  union_spelled : (around : Around) (d : Data) (s : Pattern) → union_form read around d ≡ Ok s → SpellsPattern (one_key (codes "|") d) s
  union_spelled around (list ds) s h =
      let inner = bind_ok (members_read (read around) ds) (λ ss. Ok (union ss)) s h in
      subst (λ t. SpellsPattern (one_key (codes "|") (list ds)) t) (ok_same (union inner.0) s inner.2) (as_union (members_spelled around ds inner.0 inner.1))
  union_spelled around other s h = err_no_ok Kind h

  -- a form that takes a map, after its key
  in_map : (k key : List ℕ) (d : Data) (form : Entries → Result Pattern SelFault) (s : Pattern) → ((es : Entries) → form es ≡ Ok s → SpellsPattern (one_key key (map es)) s)
      → k ≡ key → (entries_of_map d >>= form) ≡ Ok s → SpellsPattern (one_key k d) s
  in_map k key d form s each named h =
      let found = bind_ok (entries_of_map d) form s h in
      subst (λ x. SpellsPattern x s) (ap (one_key key) (sym (is_map d found.0 found.1)) ∙ ap (λ l. one_key l d) (sym named)) (each found.0 found.2)

  -- so is the form that a key names
  form_spelled : (around : Around) (k : List ℕ) (d : Data) (s : Pattern) → form_of read around k d ≡ Ok s → SpellsPattern (one_key k d) s
  form_spelled around k d s h =
      by_key k (codes ".") _ _ s P (in_map k (codes ".") d matcher_of s (λ es e. let found = matcher_spelled es s e in subst (λ t. SpellsPattern (one_key (codes ".") (map es)) t) found.1 (as_matcher found.0)))
      (by_key k (codes "a") _ _ s P (in_map k (codes "a") d (all_read read around) s (λ es e. all_spelled around es s e))
      (by_key k (codes "f") _ _ s P (in_map k (codes "f") d (fields_form read around) s (λ es e. fields_spelled around es s e))
      (by_key k (codes "i") _ _ s P (in_map k (codes "i") d (index_form read around) s (λ es e. index_spelled around es s e))
      (by_key k (codes "r") _ _ s P (in_map k (codes "r") d (range_form read around) s (λ es e. range_spelled around es s e))
      (by_key k (codes "R") _ _ s P (in_map k (codes "R") d (recursive_form read) s (λ es e. recursive_spelled es s e))
      (by_key k (codes "|") _ _ s P (λ named e. subst (λ l. SpellsPattern (one_key l d) s) (sym named) (union_spelled around d s e))
      (by_key k (codes "@") _ _ s P (in_map k (codes "@") d (edge_form around) s (λ es e. edge_spelled around es s e))
      (by_key k (codes "&") _ _ s P (λ named e. err_no_ok (Unsupported Conditional) e)
      (by_key k (codes "~") _ _ s P (λ named e. err_no_ok (Unsupported InterpretAs) e)
      (λ e. err_no_ok Unknown e)))))))))) h where
        P : Type 0
        P = SpellsPattern (one_key k d) s

  -- so is what one level reads
  with_spelled : (around : Around) (d : Data) (s : Pattern) → read_with read around d ≡ Ok s → SpellsPattern d s
  with_spelled around (map (entry k body no_entries)) s h = form_spelled around k body s h
  with_spelled around (map (entry k body (entry l e es))) s h = err_no_ok Keys h
  with_spelled around (map no_entries) s h = err_no_ok Keys h
  with_spelled around other s h = err_no_ok NotMap h

-- what is read where n levels are left is spelled
pub at_spelled : (n : ℕ) (around : Around) (d : Data) (s : Pattern) → selector_at n around d ≡ Ok s → SpellsPattern d s
unfolding selector_at
at_spelled zero around d s h = err_no_ok Nesting h
at_spelled (suc n) around d s h = with_spelled (selector_at n) (at_spelled n) around d s h

-- what is in the envelope, or is bare
pub around_spelled : (d : Data) (s : Pattern) → SpellsPattern (without_envelope d) s → SpellsSelector d s
around_spelled (map (entry k d no_entries)) s h =
    elim (bytes_eq k (codes "selector")) as (λ b. (b ≡ true → k ≡ codes "selector") → SpellsPattern (if b then d else map (entry k d no_entries)) s → SpellsSelector (map (entry k d no_entries)) s)
    [ true ↦ (λ same e. subst (λ l. SpellsSelector (one_key l d) s) (sym (same refl)) (in_envelope e)) | false ↦ (λ same e. alone e) ] (λ e. (bytes_eq-Decides k (codes "selector")).0 e) h
around_spelled (map (entry k d (entry l e es))) s h = alone h
around_spelled (map no_entries) s h = alone h
around_spelled other s h = alone h
