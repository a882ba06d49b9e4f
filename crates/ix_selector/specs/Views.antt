-- The states of a key and a selector of the program.
use Rattle.std.specs.Prelude.{ℕ, List, map}
use Rattle.std.specs.Global.{Vec}
use Rattle.ix_selector.specs.declared.sel.Sel.{Sel}
use Rattle.ix_selector.specs.Pattern.{Pattern, Fields, Members, fields_of, members_of, pattern_of}

-- a key and a selector of the program
abbrev pub seen_field : Vec ℕ × Sel → List ℕ × Pattern
seen_field f = (f.0.items, pattern_of f.1)

-- the fields of keys and selectors of the program, and the members that its selectors are
abbrev pub seen_fields : List (Vec ℕ × Sel) → Fields
seen_fields fs = fields_of (map seen_field fs)

abbrev pub seen_members : List Sel → Members
seen_members ss = members_of (map pattern_of ss)
