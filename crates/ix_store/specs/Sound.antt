-- Sound copies first: of the copies of a block the first that is sound counts.
use Rattle.std.specs.Prelude.{◌≡◌, ℕ, ◌+◌, ◌*◌, ◌<◌, Bool, true, false, not, ◌&&◌, ◌==◌, List, [], ◌∷◌, ◌++◌, length, take, drop, map, slice_index_or, if◌then◌else◌, Option, Some, None, Result, IfOk, OnOk, OnErr}
use Rattle.std.specs.Global.{Vec}
use Rattle.std.specs.List.{filter, All}
use Rattle.std.specs.declared.alloc.AllocError.{AllocError}
use Rattle.ix_cid.specs.Cid.{parts_of, codec_of, hash_function_of}
use Rattle.ix_cid.specs.declared.hash_function.HashFunction.{HashFunction}
use Rattle.ix_cid.specs.declared.hash_function.HashFunction.TheVariants.{Identity, Sha2_256, Sha2_512}
use Rattle.ix_verdict.specs.declared.verdict.Verdict.{Verdict}
use Rattle.ix_verdict.specs.declared.verdict.Verdict.TheVariants.{Codec, Hash, Missing, Damaged, Malformed, Sound, Inline}
use Rattle.ix_verdict.specs.Verdict.{verdict_with, passes}
use Rattle.ix_store.specs.Store.{Blocks, has_cid, with_blocks}
use Rattle.ix_store.specs.Table.{TableMeaning, IsRange, with_file}
use Rattle.ix_store.specs.Index.{IsIndexed}
use Rattle.ix_store.specs.declared.index.Index.{Index}

-- the verdict on a CID and the block that is stored under it
abbrev pub verdict_of_copy : List ℕ × List ℕ → Verdict
verdict_of_copy p = verdict_with p.0 (Some p.1)

-- A traversal continues below the pair. The verdict on an identity CID, or on one with an unknown codec or hash function, is
-- the same for each block under it.
abbrev pub is_sound_copy : List ℕ × List ℕ → Bool
is_sound_copy p = passes (verdict_of_copy p)

abbrev pub is_unsound_copy : List ℕ × List ℕ → Bool
is_unsound_copy p = not (is_sound_copy p)

-- the sound pairs, and after them the others, each in their order
abbrev pub sound_first : Blocks → Blocks
sound_first pairs = filter is_sound_copy pairs ++ filter is_unsound_copy pairs

-- the first pair of each CID
abbrev pub first_copies : Blocks → Blocks
first_copies pairs = with_blocks [] pairs

-- of each CID the first pair that is sound, or the first if none is
abbrev pub sound_copies : Blocks → Blocks
sound_copies pairs = first_copies (sound_first pairs)

-- how many pairs aren't sound
abbrev pub unsound_count : Blocks → ℕ
unsound_count pairs = length (filter is_unsound_copy pairs)

-- a pair isn't sound, and another copy is
abbrev pub is_mended : Blocks → List ℕ × List ℕ → Bool
is_mended pairs p = is_unsound_copy p && has_cid (filter is_sound_copy pairs) p.0

-- how many blocks are a later copy: those whose first copy isn't sound, and another is
abbrev pub later_count : Blocks → ℕ
later_count pairs = length (filter (is_mended pairs) (first_copies pairs))

-- each of the pairs is sound
abbrev pub AreSoundCopies : Blocks → Type 0
AreSoundCopies pairs = All (λ p. is_sound_copy p ≡ true) pairs

-- ---- a builder that keeps all copies

-- a file was taken, and this is its number; if memory ran out nothing changed
pub record TakesFile (old new : TableMeaning) (file : List ℕ) (result : Result ℕ AllocError) : Type 0 where
  pub taken : OnOk result (new ≡ with_file old file)
  pub number : IfOk result (λ n. n ≡ length old.files)
  pub err : OnErr result (new ≡ old)

-- a section is within a file: a CID of so many bytes at a place, and a block right after it
abbrev pub IsSectionIn : List (List ℕ) → ℕ → ℕ → ℕ → ℕ → Type 0
IsSectionIn files number place cid_size size = IsRange files number (place + cid_size + size)

-- a copy was added, also if its CID is there; if memory ran out none was
pub record AddsCopy (old new : TableMeaning) (p : List ℕ × List ℕ) (result : Result (Unit {0}) AllocError) : Type 0 where
  pub added : OnOk result (new.pairs ≡ old.pairs ++ p ∷ [])
  pub files : new.files ≡ old.files
  pub err : OnErr result (new.pairs ≡ old.pairs)

-- these are the first copies, and this is their index
pub record AreFirstIndexed (all first : Blocks) (index : Index) : Type 0 where
  pub kept : first ≡ first_copies all
  pub indexed : IsIndexed index first

-- ---- verdicts

-- the elements whose verdict passes, or those whose verdict doesn't
abbrev pub picked : {X : Type 0} → (Verdict → Bool) → List Verdict → List X → List X
picked test [] xs = []
picked test (v ∷ vs) [] = []
picked test (v ∷ vs) (x ∷ xs) = if test v then x ∷ picked test vs xs else picked test vs xs

abbrev pub fails : Verdict → Bool
fails v = not (passes v)

-- the test for verdicts that pass, or for those that don't
abbrev pub is_picked : Bool → Verdict → Bool
is_picked passing v = if passing then passes v else fails v

-- the elements whose verdicts pass, and after them the others, each in their order
abbrev pub passing_first : {X : Type 0} → List Verdict → List X → List X
passing_first vs xs = picked (is_picked true) vs xs ++ picked (is_picked false) vs xs

-- the pairs of the share with this number, where each share has so many
abbrev pub share_of : ℕ → ℕ → Blocks → Blocks
share_of share number pairs = drop (number * share) (take (number * share + share) pairs)

-- what a thread returns for a share: the verdict on each pair
abbrev pub ShareJudged : Blocks → ℕ → ℕ → Result (Vec Verdict) AllocError → Type 0
ShareJudged pairs share number result = IfOk result (λ verdicts. verdicts.items ≡ map verdict_of_copy (share_of share number pairs))

-- what the threads return for the shares
abbrev pub AllJudged : Blocks → ℕ → List (Result (Vec Verdict) AllocError) → Type 0
AllJudged pairs share shares = (n : ℕ) (d : Result (Vec Verdict) AllocError) → n < length shares → ShareJudged pairs share n (slice_index_or shares n d)

-- what a verdict says of a hashed block, as the word that caches it, by whether its codec is DAG-CBOR
abbrev pub word_by : Bool → Verdict → ℕ
word_by is_data Sound = if is_data then 9 else 1
word_by is_data Damaged = 2
word_by is_data Malformed = 5
word_by is_data Codec = 0
word_by is_data Hash = 0
word_by is_data Missing = 0
word_by is_data Inline = 0

-- a CID of this hash function names a block by its hash
abbrev pub is_hashed : Option HashFunction → Bool
is_hashed None = false
is_hashed (Some Identity) = false
is_hashed (Some Sha2_256) = true
is_hashed (Some Sha2_512) = true

-- the word of a pair by its CID and its verdict; nothing is known of the block under an identity CID
abbrev pub word_of : List ℕ → Verdict → ℕ
word_of c verdict = if is_hashed (hash_function_of (parts_of c)) then word_by (codec_of c == 0x71) verdict else 0

-- the word of a pair by the verdict on it
abbrev pub judged_word : List ℕ × List ℕ → ℕ
judged_word p = word_of p.0 (verdict_of_copy p)
