-- Bytes of what a handle holds.
use Rattle.std.specs.Prelude.{◌≡◌, ℕ, List, Option, Some, None}
use Rattle.ix_api.specs.declared.object.Object.{Object}
use Rattle.ix_api.specs.declared.object.Object.TheVariants as held
use Rattle.ix_api.specs.declared.object.Piece.{Piece}
use Rattle.ix_api.specs.declared.object.Piece.TheVariants.{Archive, Report, Text}

-- the archive and the report of an export, a text, and the line of an error or of an archive that is rejected
abbrev pub piece_of : Piece → Object → Option (List ℕ)
piece_of Archive (held.Exported out) = Some out.archive.items
piece_of Report (held.Exported out) = Some out.report.items
piece_of Text (held.Text text) = Some text.items
piece_of Text (held.Refusal line) = Some line.items
piece_of Text (held.Rejected found) = Some found.line.items
piece_of part other = None

-- it has this part, and none
abbrev pub Has : Piece → Object → List ℕ → Type 0
Has part content bytes = piece_of part content ≡ Some bytes

abbrev pub HasNo : Piece → Object → Type 0
HasNo part content = piece_of part content ≡ None
