-- What a receiver keeps of the sections that have come.
use Rattle.std.specs.Prelude.{ℕ, List, [], if◌then◌else◌}
use Rattle.ix_store.specs.Store.{is_dag_cbor}

-- a section, without its block if that isn't DAG-CBOR: then it has no links
abbrev pub kept_of : List ℕ × List ℕ → List ℕ × List ℕ
kept_of p = (p.0, if is_dag_cbor p.0 then p.1 else [])
