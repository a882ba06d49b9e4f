-- The data along a path spell the selector along it, and are read as it, unless it nests too deep.
use Rattle.std.proofs.Common.{◌≡◌, ℕ, zero, suc, ◌≤◌, ◌<◌, [], ◌∷◌, refl, sym, ◌∙◌, ap, subst, pos, arith}
use Rattle.std.specs.Prelude.{Ok, Err}
use Rattle.ix_cbor.specs.Data.{Data}
use Rattle.ix_cbor.specs.Spelling.{IsSpellable, IsCanonical}
use Rattle.ix_cbor.specs.Spelling.{nesting_of as data_nesting}
use Rattle.ix_selector.specs.declared.fault.SelFault.{SelFault}
use Rattle.ix_selector.specs.declared.fault.SelFault.TheVariants.{Nesting}
use Rattle.ix_selector.specs.Pattern.{Pattern, fields, index, no_fields, field, outside, IsGuarded, nesting_of, greatest_nesting, IsSelector}
use Rattle.ix_selector.specs.Enters.{key, nth, Path}
use Rattle.ix_selector.specs.Reading.{◌>>=◌, selector_at, selector_of}
use Rattle.ix_selector.specs.Spelled.{SpellsPattern, as_fields, as_index, as_no_fields, as_field, alone}
use Rattle.ix_selector.proofs.Guarded.{err_no_ok, bind_ok, ok_same, reads_selector}
use Rattle.ix_selector.proofs.Spellings.{at_spelled}
use Rattle.ix_selector.proofs.SpelledAgain.{selector_of-iff, spells-one}
use Rattle.ix_path.specs.Along.{pattern_along, data_along}
use Rattle.ix_path.proofs.Nesting.{pattern_nests}

-- the data along a path spell the selector along it
pub spelled_along : (p : Path) (d : Data) (s : Pattern) → SpellsPattern d s → SpellsPattern (data_along p d) (pattern_along p s)
spelled_along [] d s h = h
spelled_along (key k ∷ p) d s h = as_fields (as_field (spelled_along p d s h) as_no_fields)
spelled_along (nth n ∷ p) d s h = as_index (spelled_along p d s h)

-- edges stay where they are allowed
pub guarded_along : (p : Path) (s : Pattern) → IsGuarded outside s → IsGuarded outside (pattern_along p s)
guarded_along [] s h = h
guarded_along (key k ∷ p) s h = (guarded_along p s h, tt)
guarded_along (nth n ∷ p) s h = guarded_along p s h

guarded_end : (p : Path) (s : Pattern) → IsGuarded outside (pattern_along p s) → IsGuarded outside s
guarded_end [] s h = h
guarded_end (key k ∷ p) s h = guarded_end p s h.0
guarded_end (nth n ∷ p) s h = guarded_end p s h

-- the selector at the end nests no deeper than the whole
nesting_end : (p : Path) (s : Pattern) → nesting_of s ≤ nesting_of (pattern_along p s)
nesting_end [] s = omega arith
nesting_end (key k ∷ p) s = omega (arith, nesting_end p s)
nesting_end (nth n ∷ p) s = omega (arith, nesting_end p s)

-- the data along a path were read as the selector along it with one at the end, which was read of the data there
record IsReadAlong (p : Path) (d : Data) (whole : Pattern) : Type 0 where
  selector : Pattern
  levels : ℕ
  read : selector_at levels outside d ≡ Ok selector
  along : whole ≡ pattern_along p selector

read_along : (p : Path) (n : ℕ) (d : Data) (u : Pattern) → selector_at n outside (data_along p d) ≡ Ok u → IsReadAlong p d u
unfolding selector_at
read_along [] n d u h = record { selector = u; levels = n; read = h; along = refl }
read_along (key k ∷ p) zero d u h = err_no_ok Nesting h
read_along (nth m ∷ p) zero d u h = err_no_ok Nesting h
read_along (key k ∷ p) (suc n) d u h =
    let names = bind_ok (selector_at n outside (data_along p d) >>= (λ s. Ok (field k s no_fields))) (λ fs. Ok (fields fs)) u h in
    let next = bind_ok (selector_at n outside (data_along p d)) (λ s. Ok (field k s no_fields)) names.0 names.1 in
    let more = read_along p n d next.0 next.1 in
    record {
      selector = more.selector;
      levels = more.levels;
      read = more.read;
      along = sym (ok_same (fields names.0) u names.2) ∙ ap fields (sym (ok_same (field k next.0 no_fields) names.0 next.2)) ∙ ap (λ s. fields (field k s no_fields)) more.along;
    }
read_along (nth m ∷ p) (suc n) d u h =
    let next = bind_ok (selector_at n outside (data_along p d)) (λ s. Ok (index (pos m) s)) u h in
    let more = read_along p n d next.0 next.1 in
    record {
      selector = more.selector;
      levels = more.levels;
      read = more.read;
      along = sym (ok_same (index (pos m) next.0) u next.2) ∙ ap (index (pos m)) more.along;
    }

-- where the data along a path are read, these are what is read of the data at the end
read_at_end : (p : Path) (d : Data) (s u : Pattern) → SpellsPattern d s → IsSelector s → IsSelector u → selector_at greatest_nesting outside (data_along p d) ≡ Ok u → u ≡ pattern_along p s
read_at_end p d s u spelled rules whole read =
    let found = read_along p greatest_nesting d u read in
    let along = subst IsSelector found.along whole in
    let end_rules : IsSelector found.selector = record { edges = guarded_end p found.selector along.edges; nesting = omega (arith, nesting_end p found.selector, along.nesting) } in
    found.along ∙ ap (λ x. pattern_along p x) (spells-one d found.selector s end_rules rules (alone (at_spelled found.levels outside d found.selector found.read)) (alone spelled))

-- where they are read, it is as the selector along the path
pub along_is_read : (p : Path) (d : Data) (s u : Pattern) → SpellsPattern d s → IsSelector s → selector_of (data_along p d) ≡ Ok u → selector_of (data_along p d) ≡ Ok (pattern_along p s)
along_is_read [] d s u spelled rules read = (selector_of-iff d s).1 (alone spelled, rules)
along_is_read (key k ∷ p) d s u spelled rules read =
    read ∙ ap (λ x. Ok x) (read_at_end (key k ∷ p) d s u spelled rules (reads_selector (data_along (key k ∷ p) d) u read) read)
along_is_read (nth n ∷ p) d s u spelled rules read =
    read ∙ ap (λ x. Ok x) (read_at_end (nth n ∷ p) d s u spelled rules (reads_selector (data_along (nth n ∷ p) d) u read) read)

-- a selector whose data aren't canonical nests too deep
pub deep_by_data : (d : Data) (s : Pattern) → (IsCanonical d → ⊥) → SpellsPattern d s → IsSpellable d → greatest_nesting < nesting_of s
deep_by_data d s refused spelled spellable =
    let deep : data_nesting d ≤ 512 → ⊥ = λ h. refused (record { parts = spellable; nesting = h }) in omega (arith, deep, pattern_nests spelled)

-- and so does one whose data aren't read
pub deep_by_reading : (d : Data) (s : Pattern) (fault : SelFault) → selector_of d ≡ Err fault → SpellsPattern d s → IsGuarded outside s → greatest_nesting < nesting_of s
deep_by_reading d s fault refused spelled guarded =
    let deep : nesting_of s ≤ greatest_nesting → ⊥ = λ h. err_no_ok fault (sym refused ∙ (selector_of-iff d s).1 (alone spelled, record { edges = guarded; nesting = h })) in omega (arith, deep)
