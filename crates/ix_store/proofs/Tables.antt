-- The blocks of a table as its files grow, and as its entries move.
use Rattle.std.proofs.Common.{◌≡◌, ℕ, zero, suc, ◌+◌, ◌<◌, ◌≤◌, List, [], ◌∷◌, ◌++◌, length, take, drop, map, get_or, refl, sym, ap, subst, ◌∙◌, arith}
use Rattle.std.specs.List.{All, swap}
use Rattle.std.proofs.Math.ListN.{set}
use Rattle.std.proofs.lemmas.List.{length-append, length-map, length-drop, map-set, get_or-map, get_or_append_left, drop-append-le, take-append-le}
use Rattle.std.proofs.lemmas.List.Edits.{swap_is}
use Rattle.std.proofs.lemmas.List.Elements.{All-set, All-get_or}
use Rattle.ix_store.specs.Table.{part_of, file_at, pair_in, file_in, place_of, cid_size_of, block_size_of, IsWithin, files_of, file_bytes, TableMeaning}
use Rattle.ix_store.specs.Store.{Blocks}
use Rattle.ix_store.specs.declared.table.File.{File}
use Rattle.ix_store.specs.declared.table.Entry.{Entry}

-- a part that bytes have is there if more follow
part-kept : (b more : List ℕ) (start size : ℕ) → start + size ≤ length b → part_of (b ++ more) start size ≡ part_of b start size
part-kept b more start size within =
    ap (take size) (drop-append-le start b more (omega (arith, within)))
    ∙ take-append-le size (drop start b) more (omega (arith, within, length-drop start b))

-- the files and the pairs of a table
abbrev pub table : List (List ℕ) → Blocks → TableMeaning
table files pairs = record { files = files; pairs = pairs }

-- files have what others have, and more after it
abbrev pub Grows : List (List ℕ) → List (List ℕ) → Type 0
Grows old new = (n : ℕ) → n < length old → (n < length new) × ((more : List ℕ) × (file_at new n ≡ file_at old n ++ more))

-- nothing more
nil-more : (b : List ℕ) → b ≡ b ++ []
nil-more [] = refl
nil-more (x ∷ b) = ap (λ (l : List ℕ). x ∷ l) (nil-more b)

-- more files
pub grows-more : (old more : List (List ℕ)) → Grows old (old ++ more)
grows-more old more n within = (omega (arith, within, length-append old more), ([], get_or_append_left old more [] n within ∙ nil-more (file_at old n)))

-- the last file is longer
pub grows-last : (front : List (List ℕ)) (last more : List ℕ) → Grows (front ++ last ∷ []) (front ++ (last ++ more) ∷ [])
grows-last [] last more zero within = (omega arith, (more, refl))
grows-last [] last more (suc n) within = absurd (omega (arith, within))
grows-last (f ∷ front) last more zero within = (omega arith, ([], nil-more f))
grows-last (f ∷ front) last more (suc n) within =
    let rest = grows-last front last more n (omega (arith, within)) in
    (omega (arith, rest.0), rest.1)

-- the open buffer is closed, a file is taken, and another buffer is open
pub files-more : (files : List File) (buffer file : File) → files_of ((files ++ buffer ∷ []) ++ file ∷ []) [] ≡ files_of files (file_bytes buffer) ++ file_bytes file ∷ [] ∷ []
files-more [] buffer file = refl
files-more (f ∷ files) buffer file = ap (λ (l : List (List ℕ)). file_bytes f ∷ l) (files-more files buffer file)

-- an entry has its pair there too
pair-kept : (old new : List (List ℕ)) (e : Entry) → Grows old new → IsWithin old e → pair_in new e ≡ pair_in old e
pair-kept old new e grows within =
    let file = file_at old (file_in e) in
    let more = (grows (file_in e) within.0).1 in
    let cid : part_of (file_at new (file_in e)) (place_of e) (cid_size_of e) ≡ part_of file (place_of e) (cid_size_of e) =
    ap (λ (f : List ℕ). part_of f (place_of e) (cid_size_of e)) more.1 ∙ part-kept file more.0 (place_of e) (cid_size_of e) (omega (arith, within.1)) in
    let block : part_of (file_at new (file_in e)) (place_of e + cid_size_of e) (block_size_of e) ≡ part_of file (place_of e + cid_size_of e) (block_size_of e) =
    ap (λ (f : List ℕ). part_of f (place_of e + cid_size_of e) (block_size_of e)) more.1 ∙ part-kept file more.0 (place_of e + cid_size_of e) (block_size_of e) within.1 in
    ap (λ (c : List ℕ). (c, part_of (file_at new (file_in e)) (place_of e + cid_size_of e) (block_size_of e))) cid
    ∙ ap (λ (b : List ℕ). (part_of file (place_of e) (cid_size_of e), b)) block

-- and each of many has
pub pairs-kept : (old new : List (List ℕ)) (es : List Entry) → Grows old new → All (IsWithin old) es → map (pair_in new) es ≡ map (pair_in old) es
pairs-kept old new [] grows within = refl
pairs-kept old new (e ∷ es) grows within =
    ap (λ (p : List ℕ × List ℕ). p ∷ map (pair_in new) es) (pair-kept old new e grows (within 0 e (omega arith)))
    ∙ ap (λ (ps : Blocks). pair_in old e ∷ ps) (pairs-kept old new es grows (λ k d h. within (suc k) d (omega (arith, h))))

-- any entry, where one is asked for
abbrev pub none : Entry
none = record { place = 0; size = 0; uppers = 0; cid_size = 0; packed = 0 }

-- two entries in each other's place
pub map-swap : {X Y : Type 0} (f : X → Y) (xs : List X) (i j : ℕ) (d : X) → i < length xs → j < length xs → map f (swap xs i j) ≡ swap (map f xs) i j
map-swap f xs i j d first second =
    let size = length-map xs f in
    ap (map f) (sym (swap_is xs i j d first second))
    ∙ map-set f (set xs i (get_or xs j d)) j (get_or xs i d)
    ∙ ap (λ l. set l j (f (get_or xs i d))) (map-set f xs i (get_or xs j d))
    ∙ ap (λ y. set (set (map f xs) i y) j (f (get_or xs i d))) (sym (get_or-map f xs j d (f d) second))
    ∙ ap (λ y. set (set (map f xs) i (get_or (map f xs) j (f d))) j y) (sym (get_or-map f xs i d (f d) first))
    ∙ swap_is (map f xs) i j (f d) (omega (arith, size, first)) (omega (arith, size, second))

-- what holds of each entry holds of each
pub All-swap : {X : Type 0} (P : X → Type 0) (xs : List X) (i j : ℕ) (d : X) → i < length xs → j < length xs → All P xs → All P (swap xs i j)
All-swap P xs i j d first second all =
    subst (All P) (swap_is xs i j d first second)
    (All-set P (set xs i (get_or xs j d)) j (get_or xs i d) (All-get_or P xs i d first all) (All-set P xs i (get_or xs j d) (All-get_or P xs j d second all) all))
