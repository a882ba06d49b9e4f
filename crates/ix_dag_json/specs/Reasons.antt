-- The texts for a part that DAG-JSON can't express: the path to it, and why.
use Rattle.std.specs.Prelude.{ℕ, ◌/◌, ◌%◌, Bool, true, not, ◌&&◌, List, [], ◌∷◌, ◌++◌, flat_map, codes, ◌==◌, if◌then◌else◌}
use Rattle.std.specs.Char.{is_ascii_graphic}
use Rattle.std.specs.Fmt.{decimal, digit_glyph}
use Rattle.ix_dag_json.specs.declared.fault.Step.{Step}
use Rattle.ix_dag_json.specs.declared.fault.Step.TheVariants.{Index, Key as KeyStep}
use Rattle.ix_dag_json.specs.declared.fault.Wrong.{Wrong}
use Rattle.ix_dag_json.specs.declared.fault.Wrong.TheVariants.{Text, Key, Reserved, Float}

-- printed ASCII other than `%` and `/`
abbrev pub is_plain : ℕ → Bool
is_plain b = is_ascii_graphic b && (not (b == 37) && not (b == 47))

-- a byte of a key, percent-encoded (RFC 3986 section 2.1) if it isn't plain
abbrev pub encoded_byte : ℕ → List ℕ
encoded_byte b = if is_plain b then b ∷ [] else 37 ∷ digit_glyph true (b / 16) ∷ digit_glyph true (b % 16) ∷ []

-- a key in a path
abbrev pub encoded_key : List ℕ → List ℕ
encoded_key k = flat_map encoded_byte k

-- `/` and the index or key
abbrev pub step_of : Step → List ℕ
step_of (Index n) = codes "/" ++ decimal n
step_of (KeyStep k) = codes "/" ++ encoded_key k.items

-- the path as text
abbrev pub path_of : List Step → List ℕ
path_of steps = flat_map step_of steps

-- why DAG-JSON can't express the part
abbrev pub reason_of : Wrong → List ℕ
reason_of Text = codes "text that is not UTF-8"
reason_of (Key k) = codes "a key that is not UTF-8: " ++ encoded_key k.items
reason_of Reserved = codes "the key /, which DAG-JSON reserves for links and bytes"
reason_of Float = codes "a float that is not finite"
