-- Selectors whose names have the order of map keys (DAG-CBOR: the shorter one first, names of one length by their bytes).
use Rattle.std.specs.Prelude.{◌≡◌, ℕ, List}
use Rattle.std.specs.declared.cmp.Ordering.TheVariants.{Less}
use Rattle.ix_cbor.specs.Spelling.{key_cmp}
use Rattle.ix_selector.specs.Pattern.{Pattern, Fields, Members, matcher, all, fields, index, range, recursive, union, edge, no_fields, field, no_members, member}

-- the name is before each of these
abbrev pub IsBeforeAll : List ℕ → Fields → Type 0
IsBeforeAll k no_fields = Unit {0}
IsBeforeAll k (field l s fs) = (key_cmp k l ≡ Less) × IsBeforeAll k fs

abbrev mutual
  -- the names of fields rise, in it and in each selector inside it
  pub IsOrdered : Pattern → Type 0
  IsOrdered matcher = Unit {0}
  IsOrdered (all s) = IsOrdered s
  IsOrdered (fields fs) = AreOrdered fs
  IsOrdered (index i s) = IsOrdered s
  IsOrdered (range i j s) = IsOrdered s
  IsOrdered (recursive limit s) = IsOrdered s
  IsOrdered (union ss) = EachOrdered ss
  IsOrdered edge = Unit {0}

  pub AreOrdered : Fields → Type 0
  AreOrdered no_fields = Unit {0}
  AreOrdered (field k s fs) = IsBeforeAll k fs × IsOrdered s × AreOrdered fs

  pub EachOrdered : Members → Type 0
  EachOrdered no_members = Unit {0}
  EachOrdered (member s ss) = IsOrdered s × EachOrdered ss
