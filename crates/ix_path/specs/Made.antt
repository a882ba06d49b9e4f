-- The block of a selector along a path, and why there is none.
use Rattle.std.specs.Prelude.{◌≡◌, ◌<◌, ℕ, List, Ok, Err}
use Rattle.ix_cbor.specs.Data.{Data}
use Rattle.ix_cbor.specs.Spelling.{Spells, IsSpellable}
use Rattle.ix_selector.specs.Pattern.{Pattern, outside, IsGuarded, nesting_of, greatest_nesting}
use Rattle.ix_selector.specs.Enters.{Path}
use Rattle.ix_selector.specs.Reading.{selector_of}
use Rattle.ix_selector.specs.Spelled.{SpellsPattern}
use Rattle.ix_path.specs.declared.selector_fault.PathSelectorFault.{PathSelectorFault}
use Rattle.ix_path.specs.declared.selector_fault.PathSelectorFault.TheVariants as faults
use Rattle.ix_path.specs.declared.end.PathEnd.{PathEnd}
use Rattle.ix_path.specs.Along.{pattern_along}
use Rattle.ix_path.specs.End.{selector_at_end}

-- the block spells data that are read as the selector along the path with that of the end
pub record IsSelectorAlong (p : Path) (end : PathEnd) (block : List ℕ) : Type 0 where
  pub selector : Pattern
  pub at_end : selector_at_end end ≡ Ok selector
  pub selector_data : Data
  pub spelled : Spells block selector_data
  pub read : selector_of selector_data ≡ Ok (pattern_along p selector)

-- the selector along the path nests too deep
pub record NestsTooDeep (p : Path) (end : PathEnd) : Type 0 where
  pub selector : Pattern
  pub at_end : selector_at_end end ≡ Ok selector
  pub nesting : greatest_nesting < nesting_of (pattern_along p selector)

-- why there is none: the end has no selector, or it nests too deep, or memory ran out
abbrev pub HasNoSelectorAlong : Path → PathEnd → PathSelectorFault → Type 0
HasNoSelectorAlong p end (faults.End fault) = selector_at_end end ≡ Err fault
HasNoSelectorAlong p end faults.TooDeep = NestsTooDeep p end
HasNoSelectorAlong p end faults.Memory = Unit {0}

-- the data are read as a selector
abbrev pub IsRead : Data → Type 0
IsRead d = (s : Pattern) × (selector_of d ≡ Ok s)

-- whatever selector the data spell nests too deep, or memory ran out
abbrev pub SpellsTooDeep : Data → PathSelectorFault → Type 0
SpellsTooDeep d (faults.End fault) = ⊥
SpellsTooDeep d faults.TooDeep =
    (s : Pattern) → SpellsPattern d s → IsGuarded outside s → IsSpellable d → greatest_nesting < nesting_of s
SpellsTooDeep d faults.Memory = Unit {0}
