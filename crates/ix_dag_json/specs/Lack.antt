-- What DAG-JSON can't express, and the path to it.
use Rattle.std.specs.Prelude.{◌≡◌, ℕ, zero, suc, false, List, [], ◌∷◌, ◌⊎◌, Result, Ok, Err, from_bits}
use Rattle.std.specs.Global.{Vec}
use Rattle.std.specs.Float.{binary64, float_is_finite}
use Rattle.std.specs.Str.{IsUtf8}
use Rattle.ix_cbor.specs.Data.{Data, Items, Entries, float, text, list, map, no_items, item, no_entries, entry}
use Rattle.ix_dag_json.specs.declared.fault.DagJsonFault.{DagJsonFault}
use Rattle.ix_dag_json.specs.declared.fault.DagJsonFault.TheVariants as faults
use Rattle.ix_dag_json.specs.declared.fault.Part.{Part}
use Rattle.ix_dag_json.specs.declared.fault.Step.{Step}
use Rattle.ix_dag_json.specs.declared.fault.Step.TheVariants as steps
use Rattle.ix_dag_json.specs.declared.fault.Wrong.{Wrong}
use Rattle.ix_dag_json.specs.declared.fault.Wrong.TheVariants as wrongs
use Rattle.ix_dag_json.specs.Shown.{reserved}

-- the element with this index
abbrev pub IsItem : Items → ℕ → Data → Type 0
IsItem no_items n d = ⊥
IsItem (item x xs) zero d = d ≡ x
IsItem (item x xs) (suc n) d = IsItem xs n d

-- the value of an entry with this key
abbrev pub IsEntry : Entries → List ℕ → Data → Type 0
IsEntry no_entries k d = ⊥
IsEntry (entry l x xs) k d = ((k ≡ l) × (d ≡ x)) ⊎ IsEntry xs k d

-- the path leads from the data to the part
abbrev pub Leads : List Step → Data → Data → Type 0
Leads [] d part = part ≡ d
Leads (steps.Index n ∷ path) d part = (ds : Items) × (child : Data) × (d ≡ list ds) × IsItem ds n child × Leads path child part
Leads (steps.Key k ∷ path) d part = (es : Entries) × (child : Data) × (d ≡ map es) × IsEntry es k.items child × Leads path child part

-- a map with this key
abbrev pub HasKey : Data → List ℕ → Type 0
HasKey d k = (es : Entries) × (child : Data) × (d ≡ map es) × IsEntry es k child

-- why DAG-JSON can't express the data
abbrev pub IsWrong : Wrong → Data → Type 0
IsWrong wrongs.Text d = (t : List ℕ) × (d ≡ text t) × ¬ IsUtf8 t
IsWrong (wrongs.Key k) d = HasKey d k.items × ¬ IsUtf8 k.items
IsWrong wrongs.Reserved d = HasKey d reserved
IsWrong wrongs.Float d = (bits : ℕ) × (d ≡ float bits) × (float_is_finite (from_bits binary64 bits) ≡ false)

-- the path leads to what is wrong
pub record IsPartOf (d : Data) (lacking : Part) : Type 0 where
  pub part : Data
  pub leads : Leads lacking.path.items d part
  pub wrong : IsWrong lacking.wrong part

-- DAG-JSON can't express a part, or memory ran out
abbrev pub IsLack : Data → DagJsonFault → Type 0
IsLack d (faults.Block fault) = ⊥
IsLack d (faults.Part lacking) = IsPartOf d lacking
IsLack d faults.Memory = Unit {0}

-- the same of a map with this key, where the key is wrong
abbrev pub IsKeyLack : List ℕ → DagJsonFault → Type 0
IsKeyLack k fault = (es : Entries) (child : Data) → IsEntry es k child → IsLack (map es) fault

-- the same of a float with these bits
abbrev pub IsUnfinite : ℕ → DagJsonFault → Type 0
IsUnfinite bits fault = IsLack (float bits) fault

-- the error that a node is wrong
pub record IsWrongHere (wrong : Wrong) (fault : DagJsonFault) : Type 0 where
  pub lacking : Part
  pub same : fault ≡ faults.Part lacking
  pub here : lacking.path.items ≡ []
  pub reason : lacking.wrong ≡ wrong

-- the step is to the value of a key
abbrev pub IsStepTo : List ℕ → Step → Type 0
IsStepTo k step = (copy : Vec ℕ) × (step ≡ steps.Key copy) × (copy.items ≡ k)

-- the same part, with the step before its path
pub record IsSteppedFrom (fault : DagJsonFault) (first : Step) (lacking : Part) : Type 0 where
  pub inner : Part
  pub was : fault ≡ faults.Part inner
  pub path : lacking.path.items ≡ first ∷ inner.path.items
  pub reason : lacking.wrong ≡ inner.wrong

-- the error of a node, from that of what is at the step, or memory ran out
abbrev pub IsUnder : {E : Type 0} → DagJsonFault → Result Step E → DagJsonFault → Type 0
IsUnder fault step (faults.Block b) = fault ≡ faults.Block b
IsUnder fault (Ok first) (faults.Part lacking) = IsSteppedFrom fault first lacking
IsUnder fault (Err e) (faults.Part lacking) = ⊥
IsUnder fault step faults.Memory = Unit {0}
