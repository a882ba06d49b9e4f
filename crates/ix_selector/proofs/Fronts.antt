-- Selectors read so far, and those still to be read.
use Rattle.std.proofs.Common.{◌≡◌, ◌+◌, ◌<◌, ◌≤◌, ◌-◌, arith, ℕ, zero, suc, List, [], ◌∷◌, ◌++◌, length, get_or, drop, refl, sym, ◌∙◌, ap}
use Rattle.std.specs.Prelude.{Result, Ok, Err}
use Rattle.std.specs.Global.{Vec}
use Rattle.std.proofs.lemmas.List.{at_drop_more, at_drop_all}
use Rattle.ix_cbor.specs.declared.node.Node.{Node}
use Rattle.ix_cbor.specs.Data.{Data, data_of}
use Rattle.ix_selector.specs.declared.fault.SelFault.{SelFault}
use Rattle.ix_selector.specs.declared.fault.SelFault.TheVariants.{Nesting}
use Rattle.ix_selector.specs.Pattern.{Pattern, Fields, Members, no_fields, field, no_members, member, fields_of, members_of, Around}
use Rattle.ix_selector.specs.Reading.{◌>>=◌, fields_read, members_read, read_with, selector_at}
use Rattle.ix_selector.specs.Shapes.{entries_data, items_data}

-- where no selector is allowed
pub selector_at-zero : (n : ℕ) (around : Around) (d : Data) → n ≡ 0 → selector_at n around d ≡ Err Nesting
unfolding selector_at
selector_at-zero n around d e = ap (λ k. selector_at k around d) e

-- where a selector is allowed, one level less is left inside
pub selector_at-above : (n : ℕ) (around : Around) (d : Data) → 0 < n → selector_at n around d ≡ read_with (selector_at (n - 1)) around d
unfolding selector_at
selector_at-above zero around d h = absurd (omega arith)
selector_at-above (suc n) around d h = ap (λ k. read_with (selector_at k) around d) (omega arith)

-- fields after others, and members after others
abbrev pub before_fields : List (List ℕ × Pattern) → Fields → Fields
before_fields [] fs = fs
before_fields (f ∷ more) fs = field f.0 f.1 (before_fields more fs)

-- members before others
abbrev pub before_members : List Pattern → Members → Members
before_members [] ss = ss
before_members (s ∷ more) ss = member s (before_members more ss)

-- what is read, after what was read before
abbrev pub with_fields : List (List ℕ × Pattern) → Result Fields SelFault → Result Fields SelFault
with_fields front read = read >>= (λ fs. Ok (before_fields front fs))

-- the members that are read, after those read before
abbrev pub with_members : List Pattern → Result Members SelFault → Result Members SelFault
with_members front read = read >>= (λ ss. Ok (before_members front ss))

-- with nothing after
fields_none : (front : List (List ℕ × Pattern)) → before_fields front no_fields ≡ fields_of front
fields_none [] = refl
fields_none (f ∷ more) = ap (field f.0 f.1) (fields_none more)

-- the last of those before is the first of those after
fields_more : (front : List (List ℕ × Pattern)) (f : List ℕ × Pattern) (fs : Fields) → before_fields (front ++ f ∷ []) fs ≡ before_fields front (field f.0 f.1 fs)
fields_more [] f fs = refl
fields_more (e ∷ more) f fs = ap (field e.0 e.1) (fields_more more f fs)

-- with nothing after
members_none : (front : List Pattern) → before_members front no_members ≡ members_of front
members_none [] = refl
members_none (s ∷ more) = ap (member s) (members_none more)

-- the last of those before is the first of those after
members_more : (front : List Pattern) (s : Pattern) (ss : Members) → before_members (front ++ s ∷ []) ss ≡ before_members front (member s ss)
members_more [] s ss = refl
members_more (t ∷ more) s ss = ap (member t) (members_more more s ss)

module _ (read : Data → Result Pattern SelFault) where
  -- one entry more is read
  pub fields_on : (front : List (List ℕ × Pattern)) (es : List (Vec ℕ × Node)) (i : ℕ) (e : Vec ℕ × Node) (k : List ℕ) (s : Pattern) (whole : Result Fields SelFault) → i < length es → e ≡ get_or es i e → k ≡ e.0.items → read (data_of e.1) ≡ Ok s
      → with_fields front (fields_read read (entries_data (drop i es))) ≡ whole → with_fields (front ++ (k, s) ∷ []) (fields_read read (entries_data (drop (i + 1) es))) ≡ whole
  fields_on front es i e k s whole lt at named ok so_far =
      behind (fields_read read (entries_data (drop (i + 1) es)))
      ∙ ap (λ l. with_fields front (fields_read read (entries_data (drop (i + 1) es)) >>= (λ fs. Ok (field l s fs)))) named
      ∙ ap (λ r. with_fields front (r >>= (λ s. fields_read read (entries_data (drop (i + 1) es)) >>= (λ fs. Ok (field e.0.items s fs))))) (sym ok)
      ∙ ap (λ x. with_fields front (fields_read read (entries_data (x ∷ drop (i + 1) es)))) at
      ∙ sym (at_drop_more (λ l. with_fields front (fields_read read (entries_data l))) es i e lt) ∙ so_far where
        behind : (r : Result Fields SelFault) → with_fields (front ++ (k, s) ∷ []) r ≡ with_fields front (r >>= (λ fs. Ok (field k s fs)))
        behind (Ok fs) = ap (λ x. Ok x) (fields_more front (k, s) fs)
        behind (Err f) = refl

  -- all entries are read
  pub fields_done : (front : List (List ℕ × Pattern)) (es : List (Vec ℕ × Node)) (i : ℕ) (whole : Result Fields SelFault) → length es ≤ i
      → with_fields front (fields_read read (entries_data (drop i es))) ≡ whole → whole ≡ Ok (fields_of front)
  fields_done front es i whole le so_far = sym so_far ∙ at_drop_all (λ l. with_fields front (fields_read read (entries_data l))) es i le ∙ ap (λ fs. Ok fs) (fields_none front)

  -- one member more is read
  pub members_on : (front : List Pattern) (ds : List Node) (i : ℕ) (d : Node) (s : Pattern) (whole : Result Members SelFault) → i < length ds → d ≡ get_or ds i d → read (data_of d) ≡ Ok s
      → with_members front (members_read read (items_data (drop i ds))) ≡ whole → with_members (front ++ s ∷ []) (members_read read (items_data (drop (i + 1) ds))) ≡ whole
  members_on front ds i d s whole lt at ok so_far =
      behind (members_read read (items_data (drop (i + 1) ds)))
      ∙ ap (λ r. with_members front (r >>= (λ s. members_read read (items_data (drop (i + 1) ds)) >>= (λ ss. Ok (member s ss))))) (sym ok)
      ∙ ap (λ x. with_members front (members_read read (items_data (x ∷ drop (i + 1) ds)))) at
      ∙ sym (at_drop_more (λ l. with_members front (members_read read (items_data l))) ds i d lt) ∙ so_far where
        behind : (r : Result Members SelFault) → with_members (front ++ s ∷ []) r ≡ with_members front (r >>= (λ ss. Ok (member s ss)))
        behind (Ok ss) = ap (λ x. Ok x) (members_more front s ss)
        behind (Err f) = refl

  -- all members are read
  pub members_done : (front : List Pattern) (ds : List Node) (i : ℕ) (whole : Result Members SelFault) → length ds ≤ i
      → with_members front (members_read read (items_data (drop i ds))) ≡ whole → whole ≡ Ok (members_of front)
  members_done front ds i whole le so_far = sym so_far ∙ at_drop_all (λ l. with_members front (members_read read (items_data l))) ds i le ∙ ap (λ ss. Ok ss) (members_none front)
