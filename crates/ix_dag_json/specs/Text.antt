-- The DAG-JSON of data and of blocks.
use Rattle.std.specs.Prelude.{◌≡◌, ◌≢◌, ℕ, ◌-◌, ◌≤◌, List, ◌++◌, length}
use Rattle.json.specs.Token.{Token}
use Rattle.ix_cbor.specs.declared.fault.CborKind.TheVariants as kinds
use Rattle.ix_cbor.specs.Data.{Data}
use Rattle.ix_cbor.specs.Spelling.{Spells}
use Rattle.ix_cbor.specs.Gives.{IsFirstOf}
use Rattle.ix_dag_json.specs.declared.output.Layout.{Layout}
use Rattle.ix_dag_json.specs.declared.fault.DagJsonFault.{DagJsonFault}
use Rattle.ix_dag_json.specs.declared.fault.DagJsonFault.TheVariants.{Block, Part, Memory}
use Rattle.ix_dag_json.specs.Order.{Orders}
use Rattle.ix_dag_json.specs.Shown.{Shows}
use Rattle.ix_dag_json.specs.Lack.{IsPartOf}
use Rattle.ix_dag_json.specs.Written.{text_as}

-- the text of the data's tokens, its entries as they are
abbrev pub IsShownAs : Layout → Data → List ℕ → Type 0
IsShownAs layout d s = (ts : List Token) × Shows d ts × (s ≡ text_as layout ts)

-- the DAG-JSON of data: of the same data, the entries of each map by the bytes of their keys
abbrev pub IsTextOf : Layout → Data → List ℕ → Type 0
IsTextOf layout d s = (ordered : Data) × Orders d ordered × IsShownAs layout ordered s

-- the bytes are a block
abbrev pub IsBlock : List ℕ → Type 0
IsBlock b = (d : Data) × Spells b d

-- the bytes are a block, and the text is the DAG-JSON of its data
abbrev pub IsBlockText : Layout → List ℕ → List ℕ → Type 0
IsBlockText layout b s = (d : Data) × Spells b d × IsTextOf layout d s

-- the bytes are no block, and this is their first error; or DAG-JSON can't express a part; or memory ran out
abbrev pub IsBlockRefused : List ℕ → DagJsonFault → Type 0
IsBlockRefused b (Block fault) = IsFirstOf b fault × (fault.kind ≢ kinds.Memory)
IsBlockRefused b (Part lacking) = (d : Data) × Spells b d × IsPartOf d lacking
IsBlockRefused b Memory = Unit {0}
