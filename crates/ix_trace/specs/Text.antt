-- The text of a path: a root's CID and segments, with percent-escapes (RFC 3986, section 2.1).
use Rattle.std.specs.Prelude.{ℕ, ◌/◌, ◌%◌, Bool, true, false, not, ◌&&◌, List, [], ◌∷◌, ◌++◌, flat_map, ◌==◌, if◌then◌else◌}
use Rattle.std.specs.Fmt.{digit_glyph}
use Rattle.std.specs.Char.{is_ascii_graphic}
use Rattle.ix_cid.specs.CidText.{text_of}

-- the printable characters of ASCII but blanks, `%`, `/` and `,`
abbrev pub is_plain : ℕ → Bool
is_plain b = is_ascii_graphic b && not (b == 37) && not (b == 47) && not (b == 44)

-- a byte of a segment: itself, or `%` and two hex digits
abbrev pub escaped_byte : ℕ → List ℕ
escaped_byte b = if is_plain b then b ∷ [] else 37 ∷ digit_glyph true (b / 16) ∷ digit_glyph true (b % 16) ∷ []

abbrev pub escaped : List ℕ → List ℕ
escaped s = flat_map escaped_byte s

-- each segment after a slash
abbrev pub segment_texts : List (List ℕ) → List ℕ
segment_texts segments = flat_map (λ s. 47 ∷ escaped s) segments

-- the last segment is empty
abbrev pub ends_empty : List (List ℕ) → Bool
ends_empty [] = false
ends_empty ([] ∷ []) = true
ends_empty ((x ∷ xs) ∷ []) = false
ends_empty (s ∷ t ∷ more) = ends_empty (t ∷ more)

-- an empty segment that is the last one is followed by a slash
abbrev pub path_text : List ℕ → List (List ℕ) → List ℕ
path_text root segments = text_of root ++ segment_texts segments ++ (if ends_empty segments then 47 ∷ [] else [])
