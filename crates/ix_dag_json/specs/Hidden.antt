-- Characters that a terminal hides or obeys, escaped as in strings of JSON (RFC 8259 section 7).
use Rattle.std.specs.Prelude.{ℕ, ◌-◌, Bool, false, ◌||◌, List, ◌∷◌, ◌++◌, length, replicate, flat_map, ◌==◌, if◌then◌else◌}
use Rattle.std.specs.Int.{is_in_range}
use Rattle.std.specs.Char.{encode_utf8}
use Rattle.std.specs.Str.{chars}
use Rattle.std.specs.Fmt.{digits}

-- the marks of bidirectional text (Unicode, the property Bidi_Control)
abbrev pub is_bidi_control : ℕ → Bool
is_bidi_control c = c == 0x61c || is_in_range 0x200e 0x200f c || is_in_range 0x202a 0x202e c || is_in_range 0x2066 0x2069 c

-- DEL, the C1 controls, and these marks
abbrev pub is_hidden : ℕ → Bool
is_hidden c = is_in_range 0x7f 0x9f c || is_bidi_control c

-- `\u` and four hex digits
abbrev pub unicode_escape : ℕ → List ℕ
unicode_escape c = 92 ∷ 117 ∷ (replicate (4 - length (digits 16 false c)) 48 ++ digits 16 false c)

-- a character, escaped if it is hidden
abbrev pub visible : ℕ → List ℕ
visible c = if is_hidden c then unicode_escape c else encode_utf8 c

-- the text with each hidden character escaped
abbrev pub escaped : List ℕ → List ℕ
escaped t = flat_map visible (chars t)
