-- The child that a segment names (IPLD pathing): of a map the value of this key, of a list the element with this index.
use Rattle.std.specs.Prelude.{ℕ, zero, suc, Bool, false, not, ◌&&◌, ◌||◌, List, [], ◌∷◌, length, ◌==◌, if◌then◌else◌, bytes_eq, Option, Some, None, option_map, option_and_then, Result, Err}
use Rattle.std.specs.Option.{ok_or}
use Rattle.std.specs.Char.{is_ascii_digit}
use Rattle.std.specs.List.{list_all}
use Rattle.std.specs.Str.Parse.{digits_value}
use Rattle.ix_cbor.specs.Data.{Data, Items, Entries, null, boolean, integer, float, bytes, text, list, map, link, no_items, item, no_entries, entry}
use Rattle.ix_cbor.specs.Spelling.{item_count}
use Rattle.ix_path.specs.declared.step.PathStep.{PathStep}
use Rattle.ix_path.specs.declared.step.PathStep.TheVariants.{Key, Index}
use Rattle.ix_path.specs.declared.obstacle.Kind.TheVariants as kinds
use Rattle.ix_path.specs.declared.obstacle.Obstacle.{Obstacle}
use Rattle.ix_path.specs.declared.obstacle.Obstacle.TheVariants.{Map, List as ListOf, Scalar}

-- decimal digits without a leading zero
abbrev pub is_index : List ℕ → Bool
is_index [] = false
is_index (d ∷ ds) = list_all is_ascii_digit (d ∷ ds) && (not (d == 48) || (length ds == 0))

-- the index that a segment is
abbrev pub index_of : List ℕ → Option ℕ
index_of s = if is_index s then Some (digits_value 10 s) else None

-- the element with an index
abbrev pub nth_item : ℕ → Items → Option Data
nth_item n no_items = None
nth_item zero (item d ds) = Some d
nth_item (suc n) (item d ds) = nth_item n ds

-- the value of a key
abbrev pub value_of_key : List ℕ → Entries → Option Data
value_of_key k no_entries = None
value_of_key k (entry l d es) = let later = value_of_key k es in if bytes_eq l k then Some d else later

-- the element of the index that a segment is, and the step to it
abbrev pub element_of : List ℕ → Items → Option (PathStep × Data)
element_of s ds = option_and_then (λ n. option_map (λ d. (Index n, d)) (nth_item n ds)) (index_of s)

-- the child that a segment names and the step to it, or what there is instead
abbrev pub child_of : Data → List ℕ → Result (PathStep × Data) Obstacle
child_of null s = Err (Scalar kinds.Null)
child_of (boolean b) s = Err (Scalar kinds.Boolean)
child_of (integer n) s = Err (Scalar kinds.Integer)
child_of (float bits) s = Err (Scalar kinds.Float)
child_of (bytes b) s = Err (Scalar kinds.Bytes)
child_of (text t) s = Err (Scalar kinds.String)
child_of (list ds) s = ok_or (element_of s ds) (ListOf (item_count ds))
child_of (map es) s = ok_or (option_map (λ d. (Key, d)) (value_of_key s es)) (Map (map es))
child_of (link c) s = Err (Scalar kinds.Link)
