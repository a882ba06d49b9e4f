-- What is selected where a path ends.
use Rattle.std.specs.Prelude.{◌≡◌, Bool, false, bytes_eq, codes, [], Result, Ok, Err, if◌then◌else◌}
use Rattle.ix_cbor.specs.Data.{Data, map, no_entries, entry}
use Rattle.ix_cbor.specs.Spelling.{IsSpellable}
use Rattle.ix_selector.specs.declared.fault.SelFault.{SelFault}
use Rattle.ix_selector.specs.Pattern.{Pattern, matcher, everything, IsSelector}
use Rattle.ix_selector.specs.IsEntered.{is_entered}
use Rattle.ix_selector.specs.Reading.{selector_of}
use Rattle.ix_selector.specs.Spelled.{SpellsPattern}
use Rattle.ix_path.specs.declared.selector_fault.PathSelectorFault.{PathSelectorFault}
use Rattle.ix_path.specs.declared.selector_fault.PathSelectorFault.TheVariants as faults
use Rattle.ix_path.specs.declared.end.PathEnd.{PathEnd}
use Rattle.ix_path.specs.declared.end.PathEnd.TheVariants.{Node, Everything, Selector}

-- the data are an envelope
abbrev pub is_enveloped : Data → Bool
is_enveloped (map (entry k d no_entries)) = bytes_eq k (codes "selector")
is_enveloped other = false

-- the selector, or the matcher in place of one that doesn't enter its own place and so enters nothing
abbrev pub or_matcher : Pattern → Pattern
or_matcher s = if is_entered s [] then s else matcher

-- the same of what was read
abbrev pub read_at_end : Result Pattern SelFault → Result Pattern SelFault
read_at_end (Ok s) = Ok (or_matcher s)
read_at_end (Err fault) = Err fault

-- the selector at the end, which enters its own place, or why what was given is none
abbrev pub selector_at_end : PathEnd → Result Pattern SelFault
selector_at_end Node = Ok matcher
selector_at_end Everything = Ok everything
selector_at_end (Selector d) = read_at_end (selector_of d)

-- the data spell this selector, without an envelope
pub record SpellsRead (read : Result Pattern SelFault) (d : Data) : Type 0 where
  pub selector : Pattern
  pub is : read ≡ Ok selector
  pub rules : IsSelector selector
  pub spelled : SpellsPattern d selector
  pub spellable : IsSpellable d

-- what was read is no selector for this reason, or memory ran out
abbrev pub IsUnread : Result Pattern SelFault → PathSelectorFault → Type 0
IsUnread read (faults.End fault) = read ≡ Err fault
IsUnread read faults.TooDeep = ⊥
IsUnread read faults.Memory = Unit {0}
