-- The roots of which a walk of everything below them begins.
use Rattle.std.specs.Prelude.{ℕ, List, [], ◌∷◌, length, nat_le, if◌then◌else◌}
use Rattle.ix_sections.specs.Writing.{header_of}

-- a CIDv1 of DAG-CBOR that holds a header with these roots itself (identity): a map that links to each of them
abbrev pub holder_of : List (List ℕ) → List ℕ
holder_of roots = 0x01 ∷ 0x71 ∷ 0x00 ∷ header_of roots

-- as many roots as a job may have, or one that holds more
abbrev pub few_roots : List (List ℕ) → List (List ℕ)
few_roots roots = if nat_le (length roots) 64 then roots else holder_of roots ∷ []
