-- What is counted of sections.
use Rattle.std.specs.Prelude.{◌≡◌, ℕ, zero, suc, ◌+◌, Bool, List, [], ◌∷◌, ◌++◌, length, ◌==◌, if◌then◌else◌, bytes_eq, count_by, map, Option, Some, None, Result, Ok, Err, IsSorted, IsPermutation}
use Rattle.std.specs.List.{list_any}
use Rattle.std.specs.Ordering.{nat_cmp}
use Rattle.std.specs.BTreeMap.{BTreeMap, get}
use Rattle.ix_cid.specs.Cid.{codec_of, hash_code_of}
use Rattle.ix_sections.specs.Reading.{Fault}
use Rattle.ix_sections.specs.Gives.{IsFaultOf}
use Rattle.ix_sections.specs.Sections.{SectionMeaning, section_list}
use Rattle.ix_sections.specs.declared.fault.CarFault.{CarFault}
use Rattle.ix_verify.specs.declared.summary.Summary.{Summary}

-- of each of these sections the CID, its codec, the code of its hash function, and the size of the block
abbrev pub cids_of : List SectionMeaning → List (List ℕ)
cids_of sections = map (λ (x : SectionMeaning). x.cid) sections

abbrev pub codecs_of : List SectionMeaning → List ℕ
codecs_of sections = map (λ (x : SectionMeaning). codec_of x.cid) sections

abbrev pub hash_codes_of : List SectionMeaning → List ℕ
hash_codes_of sections = map (λ (x : SectionMeaning). hash_code_of x.cid) sections

abbrev pub sizes_of : List SectionMeaning → List ℕ
sizes_of sections = map (λ (x : SectionMeaning). length x.block) sections

-- a number of times, or none
abbrev pub if_any : ℕ → Option ℕ
if_any zero = None
if_any (suc n) = Some (suc n)

-- how often a code comes
abbrev pub code_count : ℕ → List ℕ → ℕ
code_count code codes = count_by (λ c. c == code) codes

-- each code that comes is in the tally with how often it comes, and no other does
abbrev pub IsTallyOf : List ℕ → BTreeMap ℕ ℕ → Type 0
IsTallyOf codes tally = (code : ℕ) → get nat_cmp tally code ≡ if_any (code_count code codes)

-- a CID is one of these
abbrev pub has_stood : List (List ℕ) → List ℕ → Bool
has_stood before c = list_any (λ d. bytes_eq d c) before

-- how many of CIDs have was before, among them or in front of them
abbrev pub repeats_after : List (List ℕ) → List (List ℕ) → ℕ
repeats_after before [] = 0
repeats_after before (c ∷ cs) = (if has_stood before c then 1 else 0) + repeats_after (before ++ c ∷ []) cs

abbrev pub repeats : List (List ℕ) → ℕ
repeats cids = repeats_after [] cids

-- so many CIDs are among those of a file's sections, each counted once
abbrev pub HasDistinct : Result (List SectionMeaning) Fault → ℕ → Type 0
HasDistinct read distinct = (sections : List SectionMeaning) × (read ≡ Ok sections) × (distinct + repeats (cids_of sections) ≡ length sections)

-- what is counted of sections: all but the repeats, with the sizes in the order of the sections
pub record IsTallied (sections : List SectionMeaning) (s : Summary) : Type 0 where
  pub count : s.sections ≡ length sections
  pub codecs : IsTallyOf (codecs_of sections) s.codecs
  pub hashes : IsTallyOf (hash_codes_of sections) s.hashes
  pub sizes : s.sizes.items ≡ sizes_of sections

-- the same of a file's sections
abbrev pub HasTallied : Result (List SectionMeaning) Fault → Summary → Type 0
HasTallied read s = (sections : List SectionMeaning) × (read ≡ Ok sections) × IsTallied sections s

-- the summary of sections
pub record IsSummaryOf (sections : List SectionMeaning) (s : Summary) : Type 0 where
  pub count : s.sections ≡ length sections
  pub repeated : s.repeated ≡ repeats (cids_of sections)
  pub codecs : IsTallyOf (codecs_of sections) s.codecs
  pub hashes : IsTallyOf (hash_codes_of sections) s.hashes
  pub sizes : IsPermutation (sizes_of sections) s.sizes.items
  pub sorted : IsSorted nat_cmp s.sizes.items

-- the summary of a file's sections, or its first error
abbrev pub Summarizes : List ℕ → Result Summary CarFault → Type 0
Summarizes b (Ok s) = (sections : List SectionMeaning) × (section_list b ≡ Ok sections) × IsSummaryOf sections s
Summarizes b (Err e) = IsFaultOf b e (section_list b)
