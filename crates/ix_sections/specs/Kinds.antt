-- What a file is by its first bytes.
use Rattle.std.specs.Prelude.{ℕ, Bool, false, not, ◌||◌, List, [], ◌∷◌, ◌++◌, length, take, drop, find, nat_eq, nat_le, ◌==◌, if◌then◌else◌, codes, Option, Some, None}
use Rattle.std.specs.List.{list_all, starts_with}
use Rattle.ix_sections.specs.declared.kind.Kind.{Kind}
use Rattle.ix_sections.specs.declared.kind.Kind.TheVariants.{Car2, Gzip, Zstd, Bzip2, Tar, Json, Text, Empty, Other}

abbrev pub begins : List ℕ → List ℕ → Bool
begins bytes front = starts_with nat_eq bytes front

-- space, tab, line feed, carriage return
abbrev pub is_space : ℕ → Bool
is_space b = (b == 32) || ((b == 9) || ((b == 10) || (b == 13)))

abbrev pub is_printed : ℕ → Bool
is_printed b = nat_le 32 b || is_space b

abbrev pub first_printed : List ℕ → Option ℕ
first_printed front = find (λ b. not (is_space b)) front

-- `{` or `[`
abbrev pub opens_json : Option ℕ → Bool
opens_json None = false
opens_json (Some b) = (b == 123) || (b == 91)

abbrev pub kind_of_text : List ℕ → Kind
kind_of_text front = if length front == 0 then Empty else (if list_all is_printed front then (if opens_json (first_printed front) then Json else Text) else Other)

-- the first of these that holds
abbrev pub kind_of : List ℕ → Kind
kind_of b =
    if begins b (0x0a ∷ 0xa1 ∷ 0x67 ∷ codes "version" ++ 2 ∷ []) then Car2
    else (if begins b (0x1f ∷ 0x8b ∷ []) then Gzip
    else (if begins b (0x28 ∷ 0xb5 ∷ 0x2f ∷ 0xfd ∷ []) then Zstd
    else (if begins b (codes "BZh") then Bzip2
    else (if begins (drop 257 b) (codes "ustar") then Tar
    else kind_of_text (take 512 b)))))
