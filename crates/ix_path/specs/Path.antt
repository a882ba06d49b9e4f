-- The text of a path: a root's CID and segments, or a URL with these, with the percent-escapes of URLs (RFC 3986, section 2.1).
use Rattle.std.specs.Prelude.{ℕ, ◌+◌, ◌-◌, ◌*◌, List, [], ◌∷◌, length, map, nat_lt, ◌==◌, if◌then◌else◌, Option, Some, None, option_map, option_and_then, Result, Ok, Err}
use Rattle.std.specs.Global.{Vec}
use Rattle.std.specs.List.{onto_first}
use Rattle.hex.specs.Hex.{hex_digit_value}
pub use Rattle.ix_cid.specs.Results.{◌>>=◌}
use Rattle.ix_cid_text.specs.declared.fault.CidTextFault.{CidTextFault}
use Rattle.ix_cid_text.specs.Text.{cid_of_text}
use Rattle.ix_cid_text.specs.Location.{location_of}
use Rattle.ix_path.specs.declared.error.PathError.{PathError}
use Rattle.ix_path.specs.declared.error.PathError.TheVariants.{Cid, Escape, TooManySegments}
use Rattle.ix_path.specs.declared.path.RootPath.{RootPath}

-- ---- escapes

-- the byte of two hex digits
abbrev pub byte_of : ℕ → ℕ → Option ℕ
byte_of high low = option_and_then (λ h. option_map (λ l. h * 16 + l) (hex_digit_value low)) (hex_digit_value high)

-- the byte that a text begins with, and the text after it: `%` and two hex digits are one byte, any other byte is itself
abbrev pub front_byte : List ℕ → Option (ℕ × List ℕ)
front_byte [] = None
front_byte (x ∷ []) = if x == 37 then None else Some (x, [])
front_byte (x ∷ y ∷ []) = if x == 37 then None else Some (x, y ∷ [])
front_byte (x ∷ y ∷ z ∷ more) = if x == 37 then option_map (λ b. (b, more)) (byte_of y z) else Some (x, y ∷ z ∷ more)

-- a byte, or a bad escape at this place, before what is read after it
abbrev pub before : Option ℕ → ℕ → Result (List ℕ) PathError → Result (List ℕ) PathError
before None place read = Err (Escape place)
before (Some b) place read = read >>= (λ bytes. Ok (b ∷ bytes))

-- the bytes of a segment whose text is at this place, or its first bad escape
abbrev pub unescaped : ℕ → List ℕ → Result (List ℕ) PathError
unescaped place [] = Ok []
unescaped place (x ∷ []) = if x == 37 then Err (Escape place) else Ok (x ∷ [])
unescaped place (x ∷ y ∷ []) = if x == 37 then Err (Escape place) else before (Some x) place (unescaped (place + 1) (y ∷ []))
unescaped place (x ∷ y ∷ z ∷ more) =
    if x == 37 then before (byte_of y z) place (unescaped (place + 3) more) else before (Some x) place (unescaped (place + 1) (y ∷ z ∷ more))

-- ---- segments

-- the texts of the segments: a slash ends each, and the last one may be without
abbrev pub pieces_of : List ℕ → List (List ℕ)
pieces_of [] = []
pieces_of (x ∷ xs) = if x == 47 then [] ∷ pieces_of xs else onto_first x (pieces_of xs)

-- the segments of these texts, of which the first is at this place and each is followed by a slash
abbrev pub segments_from : ℕ → List (List ℕ) → Result (List (List ℕ)) PathError
segments_from place [] = Ok []
segments_from place (p ∷ ps) = unescaped place p >>= (λ s. segments_from (place + length p + 1) ps >>= (λ more. Ok (s ∷ more)))

-- the segments of a text that ends at this place
abbrev pub segments_at : ℕ → List ℕ → Result (List (List ℕ)) PathError
segments_at end text = segments_from (end - length text) (pieces_of text)

-- ---- the whole

-- a CID, with its error as that of a path
abbrev pub as_root : Result (List ℕ) CidTextFault → Result (List ℕ) PathError
as_root (Ok c) = Ok c
as_root (Err fault) = Err (Cid fault)

-- the CID of a text
abbrev pub root_of : List ℕ → Result (List ℕ) PathError
root_of text = as_root (cid_of_text text)

-- a root and its segments, if there are at most so many
abbrev pub with_segments : ℕ → List ℕ → List (List ℕ) → Result (List ℕ × List (List ℕ)) PathError
with_segments most root segments = if nat_lt most (length segments) then Err (TooManySegments most) else Ok (root, segments)

-- the root and the segments of a path, at most so many, or its first error
abbrev pub path_of : ℕ → List ℕ → Result (List ℕ × List (List ℕ)) PathError
path_of most text =
    root_of (location_of text).0 >>= (λ root. segments_at (location_of text).2 (location_of text).1 >>= with_segments most root)

-- ---- in the program

abbrev pub segments_view : Vec (Vec ℕ) → List (List ℕ)
segments_view segments = map (λ (s : Vec ℕ). s.items) segments.items

abbrev pub view_of : RootPath → List ℕ × List (List ℕ)
view_of path = (path.root, segments_view path.segments)
