-- The words for why a text is no path, and for the kinds of nodes.
use Rattle.std.specs.Prelude.{ℕ, List, ◌++◌, codes}
use Rattle.std.specs.Fmt.{decimal}
use Rattle.ix_cid_text.specs.TextWords.{fault_words}
use Rattle.ix_path.specs.declared.error.PathError.{PathError}
use Rattle.ix_path.specs.declared.error.PathError.TheVariants.{Cid, Escape, TooManySegments, Memory}
use Rattle.ix_path.specs.declared.obstacle.Kind.{Kind}
use Rattle.ix_path.specs.declared.obstacle.Kind.TheVariants as kinds

-- the words for an error, in ASCII
abbrev pub error_words : PathError → List ℕ
error_words (Cid fault) = codes "not a CID: " ++ fault_words fault
error_words (Escape place) = codes "no two hex digits after the % at byte " ++ decimal place
error_words (TooManySegments most) = codes "more than " ++ (decimal most ++ codes " segments")
error_words Memory = codes "out of memory"

-- the word for a kind
abbrev pub kind_word : Kind → List ℕ
kind_word kinds.Null = codes "null"
kind_word kinds.Boolean = codes "boolean"
kind_word kinds.Integer = codes "integer"
kind_word kinds.Float = codes "float"
kind_word kinds.String = codes "string"
kind_word kinds.Bytes = codes "bytes"
kind_word kinds.Link = codes "link"
