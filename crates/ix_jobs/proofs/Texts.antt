-- Printable bytes are text.
use Rattle.std.proofs.Common.{◌≡◌, ℕ, ◌<◌, true, ◌&&◌, List, [], ◌∷◌, arith}
use Rattle.std.specs.Prelude.{nat_le}
use Rattle.std.specs.Str.{IsAscii, IsUtf8}
use Rattle.std.proofs.lemmas.Str.{IsUtf8-from_ascii}
use Rattle.std.proofs.lemmas.Str.Ascii.{IsAscii-nil, IsAscii-cons}
use Rattle.std.proofs.lemmas.Bool.Decides.{nat_tests}
use Rattle.std.proofs.lemmas.Bool.{and_parts}
use Rattle.ix_jobs.specs.Jobs.{is_text}

-- a printable byte is below 128
printable-below : (b : ℕ) → nat_le b 126 ≡ true → b < 128
printable-below b h = grind (arith, nat_tests)

-- a line of text is ASCII
IsAscii-text : (line : List ℕ) → is_text line ≡ true → IsAscii line
IsAscii-text [] h = IsAscii-nil
IsAscii-text (b ∷ line) h =
    let parts = and_parts (nat_le 32 b && nat_le b 126) (is_text line) h in
    IsAscii-cons b line (printable-below b (and_parts (nat_le 32 b) (nat_le b 126) parts.0).1) (IsAscii-text line parts.1)

-- a line of text is UTF-8, as ASCII is
pub text_is_utf8 : (line : List ℕ) → is_text line ≡ true → IsUtf8 line
text_is_utf8 line h = IsUtf8-from_ascii line (IsAscii-text line h)
