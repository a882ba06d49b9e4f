-- What a selector is by its own map, and what the parts of reading answer.
use Rattle.std.specs.Prelude.{◌≡◌, ℕ, List, codes, Option, Result, Ok, Err}
use Rattle.std.specs.Borrow.{Bor}
use Rattle.std.specs.Global.{Vec}
use Rattle.ix_cbor.specs.declared.node.Node.{Node}
use Rattle.ix_cbor.specs.Data.{Data, Items, Entries, data_of, node_items, node_entries}
use Rattle.ix_selector.specs.declared.fault.SelFault.{SelFault}
use Rattle.ix_selector.specs.declared.read.Around.{Around as RustAround}
use Rattle.ix_selector.specs.declared.read.Around.TheVariants.{Outside, Unguarded, Guarded}
use Rattle.ix_selector.specs.declared.read.Shape.{Shape}
use Rattle.ix_selector.specs.declared.read.Shape.TheVariants.{Matcher, All, Fields, Index, Range, Recursive, Union, Edge}
use Rattle.ix_selector.specs.Pattern as patterns
use Rattle.ix_selector.specs.Pattern.{Pattern, matcher, all, fields, index, range, recursive, union, edge, Around, outside, unguarded, guarded, after_step}
use Rattle.ix_selector.specs.Reading.{Reader, ◌>>=◌, integer_of, entries_of_map, three_of, no_limit_of, depth_of, fields_read, members_read, form_of, read_with, selector_at}

-- what surrounds a selector, as the program represents it
abbrev pub around_of : RustAround → Around
around_of Outside = outside
around_of Unguarded = unguarded
around_of Guarded = guarded

-- the entries of a map of the program, and the members of a list
abbrev pub entries_data : List (Vec ℕ × Node) → Entries
entries_data es = node_entries es

abbrev pub items_data : List Node → Items
items_data ds = node_items ds

-- a form whose body is a map
abbrev pub in_map : (Entries → Result Pattern SelFault) → Data → Result Pattern SelFault
in_map form d = entries_of_map d >>= form

-- no limit, which an empty map spells
abbrev pub none_limit : Data → Result (Option ℕ) SelFault
none_limit d = entries_of_map d >>= no_limit_of

-- a depth below 2 ^ 32
abbrev pub depth_limit : Data → Result (Option ℕ) SelFault
depth_limit d = integer_of d >>= depth_of

-- a form, with what is inside read
abbrev pub inside : Reader → Around → Shape → Result Pattern SelFault
inside read around Matcher = Ok matcher
inside read around (All d) = read (after_step around) (data_of d.now) >>= (λ s. Ok (all s))
inside read around (Fields names) = fields_read (read (after_step around)) (entries_data names.now) >>= (λ fs. Ok (fields fs))
inside read around (Index i d) = read (after_step around) (data_of d.now) >>= (λ s. Ok (index i s))
inside read around (Range i j d) = read (after_step around) (data_of d.now) >>= (λ s. Ok (range i j s))
inside read around (Recursive limit d) = read unguarded (data_of d.now) >>= (λ s. Ok (recursive limit s))
inside read around (Union ds) = members_read (read around) (items_data ds.now) >>= (λ ss. Ok (union ss))
inside read around Edge = Ok edge

-- the form that was found, read inside, is what the definition gives; so is a fault
abbrev pub Shapes : Reader → Around → Result Shape SelFault → Result Pattern SelFault → Type 0
Shapes read around (Ok shape) meant = meant ≡ inside read around shape
Shapes read around (Err e) meant = meant ≡ Err e

-- so it is for a form, whatever reads inside and whatever surrounds it
abbrev pub Forms : Result Shape SelFault → (Reader → Around → Data → Result Pattern SelFault) → Data → Type 0
Forms found form d = (read : Reader) (around : Around) → Shapes read around found (form read around d)

-- the same for a form in these surroundings
abbrev pub FormsIn : RustAround → Result Shape SelFault → (Reader → Around → Data → Result Pattern SelFault) → Data → Type 0
FormsIn here found form d = (read : Reader) → Shapes read (around_of here) found (form read (around_of here) d)

-- the form that a key names
abbrev pub form_named : List ℕ → Reader → Around → Data → Result Pattern SelFault
form_named k read around d = form_of read around k d

-- the data of two nodes, and of three
abbrev pub two_nodes : Bor Node × Bor Node → Data × Data
two_nodes d = (data_of d.0.now, data_of d.1.now)

abbrev pub three_nodes : Bor Node × Bor Node × Bor Node → Data × Data × Data
three_nodes d = (data_of d.0.now, data_of d.1.now, data_of d.2.now)

-- the end, the selector and the start of a range
abbrev pub range_parts : Entries → Result (Data × Data × Data) SelFault
range_parts es = three_of (codes "$") (codes ">") (codes "^") es

-- the selector that a node spells in these surroundings, which nests at most so deep
abbrev pub selector_in : ℕ → RustAround → Node → Result Pattern SelFault
selector_in levels here node = selector_at levels (around_of here) (data_of node)

-- the same, where what is inside it nests at most so deep
abbrev pub selector_above : ℕ → RustAround → Node → Result Pattern SelFault
selector_above levels here node = read_with (selector_at levels) (around_of here) (data_of node)

-- its fields and members
abbrev pub fields_at : ℕ → RustAround → List (Vec ℕ × Node) → Result patterns.Fields SelFault
fields_at levels here names = fields_read (selector_at levels (around_of here)) (entries_data names)

abbrev pub members_at : ℕ → RustAround → List Node → Result patterns.Members SelFault
members_at levels here nodes = members_read (selector_at levels (around_of here)) (items_data nodes)
