-- The selector along segments before it is known what is there.
use Rattle.std.specs.Prelude.{◌≡◌, ◌<◌, ◌↔◌, ℕ, ◌^◌, nat_lt, if◌then◌else◌, List, [], ◌∷◌, codes, Option, Some, None, option_and_then, Ok, Err}
use Rattle.ix_cbor.specs.Data.{Data, list, no_items, item}
use Rattle.ix_cbor.specs.Spelling.{Spells, IsCanonical}
use Rattle.ix_path.specs.Children.{index_of}
use Rattle.ix_selector.specs.Pattern.{Pattern, union, no_members, member, nesting_of, greatest_nesting, IsSelector}
use Rattle.ix_selector.specs.Enters.{key, nth, Path, Enters}
use Rattle.ix_selector.specs.Reading.{selector_of}
use Rattle.ix_selector.specs.Spelled.{one_key, SpellsPattern}
use Rattle.ix_path.specs.declared.selector_fault.PathSelectorFault.{PathSelectorFault}
use Rattle.ix_path.specs.declared.selector_fault.PathSelectorFault.TheVariants as faults
use Rattle.ix_path.specs.declared.end.PathEnd.{PathEnd}
use Rattle.ix_path.specs.Along.{pattern_along, data_after}
use Rattle.ix_path.specs.End.{selector_at_end}

-- the index that a segment is, if a program can count so far
abbrev pub number_of : List ℕ → Option ℕ
number_of segment = option_and_then (λ n. if nat_lt n (2 ^ 64) then Some n else None) (index_of segment)

-- along a segment as a key, and where it is a number as an index too
abbrev pub by_key_or_index : List ℕ → Option ℕ → Pattern → Pattern
by_key_or_index g None s = pattern_along (key g ∷ []) s
by_key_or_index g (Some n) s = union (member (pattern_along (key g ∷ []) s) (member (pattern_along (nth n ∷ []) s) no_members))

-- the data of the union of two selectors
abbrev pub union_data : Data → Data → Data
union_data d e = one_key (codes "|") (list (item d (item e no_items)))

-- the data along a segment, where these are those of the next selector
abbrev pub data_by_key_or_index : List ℕ → Option ℕ → Data → Data
data_by_key_or_index g None d = data_after (key g) d
data_by_key_or_index g (Some n) d = union_data (data_after (key g) d) (data_after (nth n) d)

-- the selector along segments, and at their end this one
abbrev pub pattern_by_segments : List (List ℕ) → Pattern → Pattern
pattern_by_segments [] s = s
pattern_by_segments (g ∷ gs) s = by_key_or_index g (number_of g) (pattern_by_segments gs s)

-- the block spells data that are read as this selector, which enters its own place
pub record IsBlockOf (s : Pattern) (block : List ℕ) : Type 0 where
  pub selector_data : Data
  pub spelled : Spells block selector_data
  pub read : selector_of selector_data ≡ Ok s
  pub entered : Enters s [] []

-- the block of the selector along segments, with that of the end
pub record IsSelectorBySegments (gs : List (List ℕ)) (end : PathEnd) (block : List ℕ) : Type 0 where
  pub selector : Pattern
  pub at_end : selector_at_end end ≡ Ok selector
  pub is_block : IsBlockOf (pattern_by_segments gs selector) block

-- the selector along the segments nests too deep
pub record NestsTooDeepBySegments (gs : List (List ℕ)) (end : PathEnd) : Type 0 where
  pub selector : Pattern
  pub at_end : selector_at_end end ≡ Ok selector
  pub nesting : greatest_nesting < nesting_of (pattern_by_segments gs selector)

-- why there is none: the end has no selector, or it nests too deep, or memory ran out
abbrev pub HasNoSelectorBySegments : List (List ℕ) → PathEnd → PathSelectorFault → Type 0
HasNoSelectorBySegments gs end (faults.End fault) = selector_at_end end ≡ Err fault
HasNoSelectorBySegments gs end faults.TooDeep = NestsTooDeepBySegments gs end
HasNoSelectorBySegments gs end faults.Memory = Unit {0}

-- the data have a spelling and spell this selector, without an envelope
pub record IsTreeOf (s : Pattern) (d : Data) : Type 0 where
  pub canonical : IsCanonical d
  pub spelled : SpellsPattern d s
  pub rules : IsSelector s

-- this selector nests too deep, or memory ran out
abbrev pub IsTooDeep : Pattern → PathSelectorFault → Type 0
IsTooDeep s (faults.End fault) = ⊥
IsTooDeep s faults.TooDeep = greatest_nesting < nesting_of s
IsTooDeep s faults.Memory = Unit {0}

-- the segments may be this path: each is a key, or where it is a number an index
pub data IsPathOf : List (List ℕ) → Path → Type 0 where
  none : IsPathOf [] []
  by_key : {g : List ℕ} {gs : List (List ℕ)} {p : Path} → IsPathOf gs p → IsPathOf (g ∷ gs) (key g ∷ p)
  by_index : {g : List ℕ} {gs : List (List ℕ)} {p : Path} {n : ℕ} → number_of g ≡ Some n → IsPathOf gs p → IsPathOf (g ∷ gs) (nth n ∷ p)

-- the selector along one of the paths that the segments may be enters the place
pub record IsEnteredAlongOne (gs : List (List ℕ)) (s : Pattern) (place : Path) : Type 0 where
  pub path : Path
  pub is : IsPathOf gs path
  pub entered : Enters (pattern_along path s) [] place

-- the selector along segments enters these places and no others
abbrev pub EntersOneOf : Type 0
EntersOneOf =
    (gs : List (List ℕ)) (s : Pattern) (place : Path)
    → (Enters (pattern_by_segments gs s) [] place ↔ IsEnteredAlongOne gs s place)
