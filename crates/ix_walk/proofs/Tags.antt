-- Where the head of a link's tag isn't in the bytes of a block, no link is in it.
use Rattle.std.proofs.Common.{◌≡◌, ℕ, zero, suc, ◌+◌, ◌<◌, ◌^◌, Bool, true, false, List, [], ◌∷◌, ◌++◌, length, get_or, drop, refl, sym, ◌∙◌, ap, arith}
use Rattle.std.proofs.lemmas.Bool.Decides.{nat_tests}
use Rattle.std.specs.Prelude.{◌&&◌, ◌||◌, ◌==◌, Some, nat_le, if◌then◌else◌}
use Rattle.std.proofs.lemmas.Bool.{false≢true, or_from, or_parts, leb-false}
use Rattle.std.proofs.lemmas.List.Elements.{All-cons, All-nil}
use Rattle.ix_cid.specs.Bytes.{AreBytes}
use Rattle.ix_cbor.specs.Data as nodes
use Rattle.ix_cbor.specs.Data.{Data, Items, Entries, no_items, item, no_entries, entry}
use Rattle.ix_cbor.specs.Reading.{data_at}
use Rattle.ix_cbor.specs.Spelling.{head_of, item_count, entry_count, key_spelling, spelling_of, items_spelling, entries_spelling}
use Rattle.ix_cbor.proofs.Bytes.{IsBytes, IsBytes-rest}
use Rattle.ix_cbor.proofs.Laws.{data_at-iff}
use Rattle.ix_selector.specs.Enters.{Step, key, nth, Path}
use Rattle.ix_walk.specs.Arrivals.{Arrival, Crossing, behind, arrivals_below, arrivals_in_items, arrivals_in_entries}
use Rattle.ix_walk.specs.Walking.{begins_with, has_tag}

-- ---- parts of the bytes

-- the tests of a byte and those after it
parts : (x : ℕ) (xs : List ℕ) → has_tag (x ∷ xs) ≡ false → (nat_le 256 x ≡ false) × ((x == 0xd8 && begins_with 0x2a xs) ≡ false) × (has_tag xs ≡ false)
parts x xs none =
    let h = or_parts (nat_le 256 x) ((x == 0xd8 && begins_with 0x2a xs) || has_tag xs) none in
    let g = or_parts (x == 0xd8 && begins_with 0x2a xs) (has_tag xs) h.1 in
    (h.0, g.0, g.1)

-- the other way
whole : (x : ℕ) (xs : List ℕ) → nat_le 256 x ≡ false → (x == 0xd8 && begins_with 0x2a xs) ≡ false → has_tag xs ≡ false → has_tag (x ∷ xs) ≡ false
whole x xs byte here more = or_from (nat_le 256 x) ((x == 0xd8 && begins_with 0x2a xs) || has_tag xs) byte (or_from (x == 0xd8 && begins_with 0x2a xs) (has_tag xs) here more)

-- none is in the bytes after others
tag_behind : (xs ys : List ℕ) → has_tag (xs ++ ys) ≡ false → has_tag ys ≡ false
tag_behind [] ys none = none
tag_behind (x ∷ xs) ys none = tag_behind xs ys (parts x (xs ++ ys) none).2

-- nor in those before others
tag_before : (xs ys : List ℕ) → has_tag (xs ++ ys) ≡ false → has_tag xs ≡ false
tag_before [] ys none = refl
tag_before (x ∷ []) ys none = whole x [] (parts x ys none).0 (nothing (x == 0xd8)) refl where
  nothing : (b : Bool) → (b && false) ≡ false
  nothing true = refl
  nothing false = refl
tag_before (x ∷ y ∷ xs) ys none = let p = parts x (y ∷ (xs ++ ys)) none in whole x (y ∷ xs) p.0 p.1 (tag_before (y ∷ xs) ys p.2)

-- and they are bytes
are_bytes : (b : List ℕ) → has_tag b ≡ false → AreBytes b
are_bytes [] none = All-nil (λ x. x < 2 ^ 8)
are_bytes (x ∷ xs) none = let p = parts x xs none in All-cons (λ x. x < 2 ^ 8) x xs (leb-false 256 x p.0) (are_bytes xs p.2)

-- ---- the first byte with which a tag's head begins

-- what isn't true is false
pub is_false : (b : Bool) → (b ≡ true → ⊥) → b ≡ false
is_false true h = absurd (h refl)
is_false false h = refl

-- the test of a byte that is no such
over : (byte here more : Bool) (after : Bool) → byte ≡ false → here ≡ false → (byte || ((here && after) || more)) ≡ more
over false false more after p q = refl
over false true more after p q = absurd cc
over true here more after p q = absurd cc

-- and of one that is
at : (byte here more : Bool) (after : Bool) → byte ≡ false → here ≡ true → (byte || ((here && after) || more)) ≡ (after || more)
at false true more after p q = refl
at false false more after p q = absurd cc
at true here more after p q = absurd cc

-- a byte is below 256
byte_is : (x : ℕ) → x < 256 → nat_le 256 x ≡ false
byte_is x low = grind (arith, nat_tests)

-- a tag is behind the first, if there is one
pub first_found : (b : List ℕ) (place : ℕ) → IsBytes b → place < length b → ((k : ℕ) → k < place → (get_or b k 0 == 0xd8) ≡ false) → (get_or b place 0 == 0xd8) ≡ true
    → has_tag b ≡ (begins_with 0x2a (drop (suc place) b) || has_tag (drop (suc place) b))
first_found [] place bytes low before here = absurd (omega (arith, low))
first_found (x ∷ xs) zero bytes low before here = at (nat_le 256 x) (x == 0xd8) (has_tag xs) (begins_with 0x2a xs) (byte_is x (bytes 0)) here
first_found (x ∷ xs) (suc place) bytes low before here =
    over (nat_le 256 x) (x == 0xd8) (has_tag xs) (begins_with 0x2a xs) (byte_is x (bytes 0)) (before 0 (omega arith))
    ∙ first_found xs place (IsBytes-rest x xs bytes) (omega (arith, low)) (λ k h. before (suc k) (omega (arith, h))) here

-- and there is none without it
pub none_found : (b : List ℕ) → IsBytes b → ((k : ℕ) → k < length b → (get_or b k 0 == 0xd8) ≡ false) → has_tag b ≡ false
none_found [] bytes none = refl
none_found (x ∷ xs) bytes none =
    over (nat_le 256 x) (x == 0xd8) (has_tag xs) (begins_with 0x2a xs) (byte_is x (bytes 0)) (none 0 (omega arith))
    ∙ none_found xs (IsBytes-rest x xs bytes) (λ k h. none (suc k) (omega (arith, h)))

-- ---- no arrival below

module _ (enters : Path → Bool) (cross : Crossing) where
  -- of a child
  chosen : (b : Bool) (xs : List Arrival) → xs ≡ [] → (if b then xs else []) ≡ []
  chosen true xs none = none
  chosen false xs none = refl

  -- of children one after another
  joined : (xs ys : List Arrival) → xs ≡ [] → ys ≡ [] → xs ++ ys ≡ []
  joined xs ys none more = ap (λ z. z ++ ys) none ∙ more

  mutual
    none_below : (d : Data) (p : Path) → has_tag (spelling_of d) ≡ false → arrivals_below enters cross d p ≡ []
    none_below nodes.null p none = refl
    none_below (nodes.boolean b) p none = refl
    none_below (nodes.integer n) p none = refl
    none_below (nodes.float bits) p none = refl
    none_below (nodes.bytes b) p none = refl
    none_below (nodes.text t) p none = refl
    none_below (nodes.list ds) p none = none_in_items 0 ds p (tag_behind (head_of 4 (item_count ds)) (items_spelling ds) none)
    none_below (nodes.map es) p none = none_in_entries es p (tag_behind (head_of 5 (entry_count es)) (entries_spelling es) none)
    none_below (nodes.link c) p none = absurd (false≢true (sym none))

    none_in_items : (n : ℕ) (ds : Items) (p : Path) → has_tag (items_spelling ds) ≡ false → arrivals_in_items enters cross n ds p ≡ []
    none_in_items n no_items p none = refl
    none_in_items n (item d ds) p none =
        joined (if enters (behind p (nth n)) then arrivals_below enters cross d (behind p (nth n)) else []) (arrivals_in_items enters cross (n + 1) ds p)
        (chosen (enters (behind p (nth n))) (arrivals_below enters cross d (behind p (nth n))) (none_below d (behind p (nth n)) (tag_before (spelling_of d) (items_spelling ds) none)))
        (none_in_items (n + 1) ds p (tag_behind (spelling_of d) (items_spelling ds) none))

    none_in_entries : (es : Entries) (p : Path) → has_tag (entries_spelling es) ≡ false → arrivals_in_entries enters cross es p ≡ []
    none_in_entries no_entries p none = refl
    none_in_entries (entry k d es) p none =
        let after = tag_behind (key_spelling k) (spelling_of d ++ entries_spelling es) none in
        joined (if enters (behind p (key k)) then arrivals_below enters cross d (behind p (key k)) else []) (arrivals_in_entries enters cross es p)
        (chosen (enters (behind p (key k))) (arrivals_below enters cross d (behind p (key k))) (none_below d (behind p (key k)) (tag_before (spelling_of d) (entries_spelling es) after)))
        (none_in_entries es p (tag_behind (spelling_of d) (entries_spelling es) after))

  -- in the data of a block
  pub untagged : (b : List ℕ) (d : Data) (p : Path) → data_at b ≡ Some d → has_tag b ≡ false → arrivals_below enters cross d p ≡ []
  untagged b d p e none = none_below d p (ap has_tag (sym ((data_at-iff b d (are_bytes b none)).0 e).spelled) ∙ none)
