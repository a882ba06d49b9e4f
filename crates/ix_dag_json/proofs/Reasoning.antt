-- The texts of paths and of hidden characters, piece by piece.
use Rattle.std.proofs.Common.{◌≡◌, ℕ, ◌+◌, ◌-◌, ◌/◌, ◌%◌, ◌^◌, ◌<◌, ◌≤◌, true, false, List, [], ◌∷◌, ◌++◌, length, get_or, take, sym, ◌∙◌, ap, subst, arith, append_assoc, append-nil, replicate}
use Rattle.std.proofs.lemmas.List.{take_more, take_all, flat_map_more}
use Rattle.std.specs.List.{flat_map}
use Rattle.std.specs.Fmt.{digits, padded_integral, format_spec, char_count, AppendsText, option_append}
use Rattle.std.specs.Option.{option_map}
use Rattle.std.specs.Prelude.{Option, Some}
use Rattle.std.proofs.lemmas.Bool.Decides.{nat_tests}
use Rattle.std.specs.Str.{IsUtf8}
use Rattle.std.specs.Char.{encode_utf8}
use Rattle.std.proofs.lemmas.Str.{chars_past_char}
use Rattle.std.proofs.StrCases.{chars_of_empty}
use Rattle.std.specs.Fmt.{digit_glyph}
use Rattle.ix_dag_json.specs.Hidden.{is_hidden, unicode_escape, visible, escaped}
use Rattle.ix_dag_json.specs.Reasons.{is_plain, encoded_byte}

-- the text of the elements before a place, and of one more
pub one_more : {X : Type 0} (f : X → List ℕ) (old now after : List ℕ) (xs : List X) (i : ℕ) (x d : X) → i < length xs → x ≡ get_or xs i d
    → now ≡ old ++ flat_map f (take i xs) → after ≡ now ++ f x → after ≡ old ++ flat_map f (take (i + 1) xs)
one_more f old now after xs i x d l is before added =
    let front = take i xs in
    added ∙ ap (λ (t : List ℕ). t ++ f x) before ∙ flat_map_more f old front x
    ∙ ap (λ ys. old ++ flat_map f ys) (ap (λ y. front ++ y ∷ []) is ∙ sym (take_more xs i d l))

-- the text of all elements
pub all_there : {X : Type 0} (f : X → List ℕ) (old now : List ℕ) (xs : List X) (i : ℕ) → length xs ≤ i → now ≡ old ++ flat_map f (take i xs) → now ≡ old ++ flat_map f xs
all_there f old now xs i l before = before ∙ ap (λ ys. old ++ flat_map f ys) (take_all i xs l)

-- a byte of a key, as it is or percent-encoded
pub plain_byte : (b : ℕ) → is_plain b ≡ true → encoded_byte b ≡ b ∷ []
plain_byte b e = rw e

pub other_byte : (b : ℕ) → is_plain b ≡ false → encoded_byte b ≡ 37 ∷ digit_glyph true (b / 16) ∷ digit_glyph true (b % 16) ∷ []
other_byte b e = rw e

pub plain_ascii : (b : ℕ) → is_plain b ≡ true → b < 128
plain_ascii b e = grind (arith, nat_tests)

-- what a format with a number in hex appends, with zeros up to a width
pub hex_appended : (old new pre ds : List ℕ) (digits : Option (List ℕ)) (width : ℕ) → digits ≡ Some ds
    → AppendsText old new (option_append (Some pre) (option_map (padded_integral (format_spec 32 0 4 width (2 ^ 64 - 1)) false []) digits))
    → new ≡ old ++ (pre ++ padded_integral (format_spec 32 0 4 width (2 ^ 64 - 1)) false [] ds)
hex_appended old new pre ds digits width is h =
    subst (λ o. AppendsText old new (option_append (Some pre) (option_map (padded_integral (format_spec 32 0 4 width (2 ^ 64 - 1)) false []) o))) is h

-- a character, escaped or as it is
pub hidden_character : (c : ℕ) → is_hidden c ≡ true → visible c ≡ unicode_escape c
hidden_character c e = rw e

pub shown_character : (c : ℕ) → is_hidden c ≡ false → visible c ≡ encode_utf8 c
shown_character c e = rw e

-- a number in four hex digits at least
pub four_digits : (ds : List ℕ) → padded_integral (format_spec 32 0 4 4 (2 ^ 64 - 1)) false [] ds ≡ replicate (4 - length ds) 48 ++ ds
unfolding padded_integral char_count
four_digits ds =
    let e : 4 - length ds - 0 - 0 ≡ 4 - length ds = omega arith in rw (e, append-nil ds)

-- what is written, and what is left of the text, one character further
pub one_shown : (out new rest left whole : List ℕ) (c : ℕ) → new ≡ out ++ visible c → IsUtf8 rest → rest ≡ encode_utf8 c ++ left → out ++ escaped rest ≡ whole → new ++ escaped left ≡ whole
one_shown out new rest left whole c added u parts so_far =
    ap (λ t. t ++ escaped left) added ∙ append_assoc out (visible c) (escaped left)
    ∙ ap (λ cs. out ++ flat_map visible cs) (sym (chars_past_char rest left c u parts)) ∙ so_far

-- nothing is left
pub characters_done : (out rest whole : List ℕ) → length rest ≡ 0 → out ++ escaped rest ≡ whole → out ≡ whole
characters_done out rest whole none so_far =
    sym (append-nil out) ∙ ap (λ cs. out ++ flat_map visible cs) (sym (chars_of_empty rest none)) ∙ so_far
