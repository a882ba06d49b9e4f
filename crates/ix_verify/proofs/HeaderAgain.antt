-- The header of an archive is read where it stands.
use Rattle.std.proofs.Common.{◌≡◌, ℕ, ◌+◌, ◌<◌, ◌≤◌, ◌^◌, Bool, true, List, [], ◌∷◌, ◌++◌, length, max, refl, ◌∙◌, ap, arith, length-append}
use Rattle.std.specs.Prelude.{Option, Some, Result, Ok, All, pos, codes}
use Rattle.std.proofs.lemmas.List.Elements.{All-head, All-tail}
use Rattle.std.specs.Result.{result_ok}
use Rattle.ix_cid.specs.Cid.{IsCid}
use Rattle.ix_cbor.specs.Data.{Data, integer}
use Rattle.ix_cbor.specs.Spelling.{head_of, item_count, items_spelling, items_nesting, nesting_of, key_spelling, link_spelling, spelling_of, AreSpellable, IsCanonical}
use Rattle.ix_cbor.specs.Reading.{data_at}
use Rattle.ix_cbor.proofs.Laws.{decoded-complete}
use Rattle.ix_sections.specs.Writing.{links_to, header_data, header_of}
use Rattle.ix_sections.specs.Reading.{Fault, ◌>>=◌, are_links, version_fault, header_fault, behind_header, header_at}
use Rattle.ix_sections.specs.Sections.{links_in, roots_in, roots_after, roots_of}
use Rattle.ix_verify.proofs.TextsAgain.{text_again}

-- a link takes at least three bytes more than its CID
link_size : (c : List ℕ) → length c + 3 ≤ length (link_spelling c)
link_size c = omega (arith, length-append (head_of 2 (length c + 1)) (0 ∷ c))

-- a link takes a byte at least
links_count : (roots : List (List ℕ)) → item_count (links_to roots) ≤ length (items_spelling (links_to roots))
links_count [] = omega arith
links_count (c ∷ cs) = omega (arith, links_count cs, link_size c, length-append (link_spelling c) (items_spelling (links_to cs)))

links_spellable : (roots : List (List ℕ)) → All IsCid roots → length (items_spelling (links_to roots)) < 2 ^ 64 → AreSpellable (links_to roots)
links_spellable [] are short = tt
links_spellable (c ∷ cs) are short =
    let size = length-append (link_spelling c) (items_spelling (links_to cs)) in
    ((omega (arith, short, size, link_size c), All-head IsCid c cs are), links_spellable cs (All-tail IsCid c cs are) (omega (arith, short, size)))

-- a list of links nests nothing
links_flat : (roots : List (List ℕ)) → items_nesting (links_to roots) ≡ 0
links_flat [] = refl
links_flat (c ∷ cs) = ap (λ n. max 0 n) (links_flat cs)

header_canonical : (roots : List (List ℕ)) → All IsCid roots → length (items_spelling (links_to roots)) < 2 ^ 64 → IsCanonical (header_data roots)
header_canonical roots are short =
    let deep : nesting_of (header_data roots) ≡ 2 = ap (λ n. max (n + 1) 0 + 1) (links_flat roots) in
    let first : length (codes "roots") ≡ 5 = refl in
    let second : length (codes "version") ≡ 7 = refl in
    record {
      parts = (omega arith, (omega (arith, first), (omega (arith, short, links_count roots), links_spellable roots are short), refl, (omega (arith, second), omega arith, tt, tt)));
      nesting = omega (arith, deep);
    }

-- the links take a part of the bytes
links_within : (front key head links rest : List ℕ) → length links ≤ length (front ++ (key ++ ((head ++ links) ++ rest)))
links_within front key head links rest =
    omega (arith, length-append front (key ++ ((head ++ links) ++ rest)), length-append key ((head ++ links) ++ rest), length-append (head ++ links) rest, length-append head links)

header_links : (roots : List (List ℕ)) → length (items_spelling (links_to roots)) ≤ length (spelling_of (header_data roots))
header_links roots =
    links_within (head_of 5 2) (key_spelling (codes "roots")) (head_of 4 (item_count (links_to roots))) (items_spelling (links_to roots)) (key_spelling (codes "version") ++ (head_of 0 1 ++ []))

header_read : (roots : List (List ℕ)) → All IsCid roots → length (spelling_of (header_data roots)) < 2 ^ 63 → data_at (spelling_of (header_data roots)) ≡ Some (header_data roots)
header_read roots are short =
    let d = header_data roots in
    ap result_ok (decoded-complete (spelling_of d) d (record { canonical = header_canonical roots are (omega (arith, short, header_links roots)); spelled = refl }))

-- a list of links has links alone
links-are_links : (roots : List (List ℕ)) → are_links (links_to roots) ≡ true
links-are_links [] = refl
links-are_links (c ∷ cs) = links-are_links cs

-- the links of a list of links are its CIDs
links_in-links : (roots : List (List ℕ)) → links_in (links_to roots) ≡ roots
links_in-links [] = refl
links_in-links (c ∷ cs) = ap (λ (l : List (List ℕ)). c ∷ l) (links_in-links cs)

-- after the header stands what follows it
pub header_again : (roots : List (List ℕ)) (rest : List ℕ) → All IsCid roots → length (spelling_of (header_data roots)) < 2 ^ 63 → header_at (header_of roots ++ rest) ≡ Ok rest
header_again roots rest are short =
    let b = header_of roots ++ rest in
    let of_text : Result (List ℕ × List ℕ) Fault → Result (List ℕ) Fault = λ r. r >>= (λ t. behind_header b t.1 (header_fault (data_at t.0))) in
    let of_data : Option Data → Result (List ℕ) Fault = λ o. behind_header b rest (header_fault o) in
    let of_links : Bool → Result (List ℕ) Fault = λ t. behind_header b rest (version_fault (Some (integer (pos 1))) t) in
    ap of_text (text_again (spelling_of (header_data roots)) rest short) ∙ ap of_data (header_read roots are short) ∙ ap of_links (links-are_links roots)

-- the header names its roots
pub roots_again : (roots : List (List ℕ)) (rest : List ℕ) → All IsCid roots → length (spelling_of (header_data roots)) < 2 ^ 63 → roots_of (header_of roots ++ rest) ≡ roots
roots_again roots rest are short =
    ap roots_after (text_again (spelling_of (header_data roots)) rest short) ∙ ap roots_in (header_read roots are short) ∙ links_in-links roots
