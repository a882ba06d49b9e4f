-- What the selectors of the program are, where the search doesn't see it.
use Rattle.std.proofs.Common.{◌≡◌, ℕ, List, [], ◌∷◌, map, refl, sym, ◌∙◌, ap}
use Rattle.std.specs.Global.{Vec}
use Rattle.ix_selector.specs.declared.sel.Sel.{Sel}
use Rattle.ix_selector.specs.declared.sel.Sel.TheVariants.{Fields, rolls-Fields}
use Rattle.ix_selector.specs.declared.sel.Sel.TheOpen as layer
use Rattle.ix_selector.specs.declared.sel.Sel.TheFolds.{fold-roll-Sel}
use Rattle.ix_selector.specs.Pattern.{Pattern, fields, fields_of, pattern_step, pattern_of}
use Rattle.ix_selector.specs.Views.{seen_field}

-- keys and selectors, each selector before its key
each_field : (fs : List (Vec ℕ × Sel)) → map (λ (f : Vec ℕ × Pattern). (f.0.items, f.1)) (map (λ (f : Vec ℕ × Sel). (f.0, pattern_of f.1)) fs) ≡ map seen_field fs
each_field [] = refl
each_field (f ∷ fs) = ap (λ l. seen_field f ∷ l) (each_field fs)

-- fields, with their keys and selectors as a list
pub pattern_of-fields : (v : _) → pattern_of (Fields v) ≡ fields (fields_of (map seen_field v.items))
pattern_of-fields v = ap pattern_of (sym (rolls-Fields v)) ∙ fold-roll-Sel Pattern pattern_step (layer.Fields v) ∙ ap (λ fs. fields (fields_of fs)) (each_field v.items)
