-- The job of words, with a selector of any kind.
use Rattle.std.specs.Prelude.{◌≡◌, ◌⊎◌, ◌<◌, ℕ, Bool, false, List, [], ◌∷◌, ◌++◌, length, codes, String, string_bytes, Result, Ok, Err}
use Rattle.std.specs.Global.{Vec}
use Rattle.ix_walk.specs.JobMeaning.{JobMeaning, job_of, is_name, walked}
use Rattle.ix_selector.specs.Pattern.{Pattern}
use Rattle.ix_selector_json.specs.declared.fault.NotationFault.{NotationFault}
use Rattle.ix_selector_json.specs.Notation.{IsSelectorHex, IsJsonRefused}
use Rattle.ix_jobs.specs.declared.fault.JobErrorKind.{JobErrorKind}
use Rattle.ix_jobs.specs.declared.fault.JobErrorKind.TheVariants as kinds
use Rattle.ix_jobs.specs.Jobs.{limit_in, selector_in}
use Rattle.ix_jobs.specs.declared.job_line.LineFault.{LineFault}
use Rattle.ix_jobs.specs.declared.job_line.LineFault.TheVariants as faults
use Rattle.ix_jobs.specs.declared.selector_word.SelectorWord.{SelectorWord}
use Rattle.ix_jobs.specs.declared.selector_word.SelectorWord.TheVariants.{Everything, Json, Hex}
use Rattle.ix_jobs.specs.declared.worded_job.JobWords.{JobWords}
use Rattle.ix_jobs.specs.JobLine.{IsLineBy, IsReadBy, IsRefusedBy}

-- the selector that enters every child, as long as there are any, in hex
abbrev pub everything_hex : List ℕ
everything_hex = codes "a16152a2616ca1646e6f6e65a0623a3ea16161a1613ea16140a0"

-- the hex of a selector, and a line end
abbrev pub IsSpelledBy : SelectorWord → List ℕ → Type 0
IsSpelledBy Everything line = line ≡ everything_hex ++ 10 ∷ []
IsSpelledBy (Json text) line = IsSelectorHex text.now line
IsSpelledBy (Hex text) line = line ≡ text.now ++ 10 ∷ []

-- why a selector has none: its JSON is not that of a selector
abbrev pub IsNoSelector : SelectorWord → NotationFault → Type 0
IsNoSelector Everything fault = ⊥
IsNoSelector (Json text) fault = IsJsonRefused text.now fault
IsNoSelector (Hex text) fault = ⊥

-- the same, or memory ran out
abbrev pub IsUnspelled : SelectorWord → LineFault → Type 0
IsUnspelled selector (faults.Selector fault told) = IsNoSelector selector fault
IsUnspelled selector (faults.Field kinds.Memory) = Unit {0}
IsUnspelled selector (faults.Field kind) = ⊥

-- the line of a selector of any kind, beside the only job of it
abbrev pub IsMadeOf : {Y : Type 0} → SelectorWord → ℕ → List ℕ → List ℕ → List ℕ → String Y × Vec JobMeaning → Type 0
IsMadeOf selector greatest name roots limit made = IsReadBy (IsSpelledBy selector) greatest name roots limit (string_bytes made.0) made.1.items

-- why there is none, or memory ran out
abbrev pub IsRefusedOf : SelectorWord → ℕ → List ℕ → List ℕ → List ℕ → LineFault → Type 0
IsRefusedOf selector greatest name roots limit fault = IsRefusedBy (IsSpelledBy selector) (IsNoSelector selector) greatest name roots limit fault

-- the selector that a word spells in hex
pub record IsSelectorOf (word : SelectorWord) (meant : Result Pattern JobErrorKind) : Type 0 where
  pub hex : List ℕ
  pub spelled : IsSpelledBy word (hex ++ 10 ∷ [])
  pub read : selector_in hex ≡ meant

-- why a word spells no selector, or memory ran out
abbrev pub IsSelectorRefused : SelectorWord → LineFault → Type 0
IsSelectorRefused word (faults.Selector fault told) = IsNoSelector word fault
IsSelectorRefused word (faults.Field kinds.Memory) = Unit {0}
IsSelectorRefused word (faults.Field kind) = IsSelectorOf word (Err kind)

-- the job of the words, which expands a CID at every link: that of their name, roots, limit and selector
pub record IsJobOf (words : JobWords) (job : JobMeaning) : Type 0 where
  pub limit : ℕ
  pub selector : Pattern
  pub limited : limit_in words.greatest_limit words.limit.now ≡ Ok limit
  pub selects : IsSelectorOf words.selector (Ok selector)
  pub is : job ≡ job_of words.name.now words.roots.now selector limit

-- the job of the words, alone
pub record AreJobsOf (words : JobWords) (once : Bool) (jobs : List JobMeaning) : Type 0 where
  pub job : JobMeaning
  pub is : IsJobOf words job
  pub are : jobs ≡ walked once (job ∷ [])

-- why the words are those of no job, or memory ran out
abbrev pub AreWordsRefused : JobWords → LineFault → Type 0
AreWordsRefused words (faults.Field kinds.Name) = is_name words.name.now ≡ false
AreWordsRefused words (faults.Field kinds.Root) = (length words.roots.now ≡ 0) ⊎ (64 < length words.roots.now)
AreWordsRefused words (faults.Field kinds.Limit) = limit_in words.greatest_limit words.limit.now ≡ Err kinds.Limit
AreWordsRefused words fault = IsSelectorRefused words.selector fault
