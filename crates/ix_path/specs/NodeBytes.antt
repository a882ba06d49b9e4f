-- The bytes of a node, in place in its block.
use Rattle.std.specs.Prelude.{◌≡◌, Ok}
use Rattle.ix_cbor.specs.Data.{Data}
use Rattle.ix_cbor.specs.Data as nodes
use Rattle.ix_cbor.specs.Reading.{decoded}
use Rattle.ix_path.specs.declared.node.NodeBytes.{NodeBytes}
use Rattle.ix_path.specs.declared.node.NodeBytes.TheVariants.{Raw, DagCbor}

-- raw bytes are a byte string, and others spell the node in DAG-CBOR
abbrev pub AreBytesOf : NodeBytes → Data → Type 0
AreBytesOf (Raw b) d = d ≡ nodes.bytes b.now
AreBytesOf (DagCbor b) d = decoded b.now ≡ Ok d
