-- The child that a segment names.
use Rattle.std.proofs.Common.{◌≡◌, inl, inr, ℕ, zero, suc, ◌<◌, ◌≤◌, Bool, true, false, List, refl, sym, ◌∙◌, ap, arith}
use Rattle.std.specs.Prelude.{Option, Some, None, Ok, Err, option_map, option_and_then, if◌then◌else◌}
use Rattle.std.specs.Option.{ok_or}
use Rattle.std.specs.Str.Parse.{digits_value}
use Rattle.std.proofs.lemmas.Bool.{cases_Bool, cases_lt}
use Rattle.ix_cbor.specs.Data.{Data, Items, Entries, item, no_items, list, map}
use Rattle.ix_cbor.specs.Spelling.{item_count}
use Rattle.ix_path.specs.declared.step.PathStep.{PathStep}
use Rattle.ix_path.specs.declared.step.PathStep.TheVariants.{Key, Index}
use Rattle.ix_path.specs.declared.obstacle.Obstacle.TheVariants.{Map, List as ListOf}
use Rattle.ix_path.specs.Node.{AreItemsAt}
use Rattle.ix_path.specs.Children.{is_index, nth_item, value_of_key, element_of, child_of}
use Rattle.ix_path.proofs.Nodes.{items_split}
use Rattle.ix_cbor.proofs.Steps.{ok_same}

-- elements are counted
pub counted : (count : ℕ) (b : List ℕ) (ds : Items) → AreItemsAt count b ds → item_count ds ≡ count
counted zero b ds h = ap (λ (x : Items × List ℕ). item_count x.0) (sym (ok_same (no_items, b) (ds, h.0) h.1))
counted (suc n) b ds h = let s = items_split n b ds h in ap item_count s.3 ∙ omega (arith, counted n s.2 s.1 s.5)

-- nothing is past the last element
past : (n : ℕ) (ds : Items) → item_count ds ≤ n → nth_item n ds ≡ None
past n no_items h = refl
past zero (item d ds) h = absurd (omega arith)
past (suc n) (item d ds) h = past n ds (omega arith)

-- the element of an index
abbrev at_index : Option ℕ → Items → Option (PathStep × Data)
at_index o ds = option_and_then (λ n. option_map (λ d. (Index n, d)) (nth_item n ds)) o

module _ (s : List ℕ) (ds : Items) where
  -- the index that it is
  pub element_yes : (index : ℕ) (d : Data) → is_index s ≡ true → index ≡ digits_value 10 s → nth_item index ds ≡ Some d → child_of (list ds) s ≡ Ok (Index index, d)
  element_yes index d is value found =
      ap (λ (t : Bool). ok_or (at_index (if t then Some (digits_value 10 s) else None) ds) (ListOf (item_count ds))) is
      ∙ ap (λ (n : ℕ). ok_or (at_index (Some n) ds) (ListOf (item_count ds))) (sym value)
      ∙ ap (λ (o : Option Data). ok_or (option_map (λ e. (Index index, e)) o) (ListOf (item_count ds))) found

  -- no index of an element
  pub element_no : (count : ℕ) → item_count ds ≡ count → ((is_index s ≡ true) × (digits_value 10 s < count) → ⊥) → child_of (list ds) s ≡ Err (ListOf count)
  element_no count size none = ap (λ o. ok_or o (ListOf (item_count ds))) (elim (cases_Bool (is_index s)) [ inl is ↦ far is | inr isnt ↦ apart isnt ]) ∙ ap (λ (n : ℕ). Err (ListOf n)) size where
    apart : is_index s ≡ false → element_of s ds ≡ None
    apart isnt = ap (λ (t : Bool). at_index (if t then Some (digits_value 10 s) else None) ds) isnt

    far : is_index s ≡ true → element_of s ds ≡ None
    far is =
        elim (cases_lt (digits_value 10 s) count) [
          | inl lt ↦ absurd (none (is, lt))
          | inr ge ↦
              ap (λ (t : Bool). at_index (if t then Some (digits_value 10 s) else None) ds) is
              ∙ ap (λ (o : Option Data). option_map (λ d. (Index (digits_value 10 s), d)) o) (past (digits_value 10 s) ds (omega arith))
        ]

module _ (s : List ℕ) (es : Entries) where
  -- a key that is there
  pub value_yes : (d : Data) → Some d ≡ value_of_key s es → child_of (map es) s ≡ Ok (Key, d)
  value_yes d found = ap (λ (o : Option Data). ok_or (option_map (λ e. (Key, e)) o) (Map (map es))) (sym found)

  -- and one that isn't
  pub value_no : None ≡ value_of_key s es → child_of (map es) s ≡ Err (Map (map es))
  value_no absent = ap (λ (o : Option Data). ok_or (option_map (λ e. (Key, e)) o) (Map (map es))) (sym absent)
