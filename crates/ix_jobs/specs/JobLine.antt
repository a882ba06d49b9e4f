-- The line of a job, out of its words.
use Rattle.std.specs.Prelude.{◌≡◌, ◌⊎◌, ℕ, Bool, false, not, ◌&&◌, ◌==◌, List, [], ◌∷◌, ◌++◌, length, nat_lt, nat_le, Ok, Err}
use Rattle.std.specs.List.{list_all}
use Rattle.ix_walk.specs.JobMeaning.{JobMeaning, is_name}
use Rattle.ix_selector_json.specs.declared.fault.NotationFault.{NotationFault}
use Rattle.ix_selector_json.specs.Notation.{IsSelectorHex, IsJsonRefused}
use Rattle.ix_jobs.specs.declared.fault.JobErrorKind.{JobErrorKind}
use Rattle.ix_jobs.specs.declared.fault.JobErrorKind.TheVariants as kinds
use Rattle.ix_jobs.specs.Jobs.{job_of_fields, jobs_up_to}
use Rattle.ix_jobs.specs.declared.job_line.LineFault.{LineFault}
use Rattle.ix_jobs.specs.declared.job_line.LineFault.TheVariants.{Field, Selector}

-- a visible ASCII character
abbrev pub is_visible : ℕ → Bool
is_visible b = nat_lt 32 b && nat_le b 126

-- one visible character at least, and no other byte
abbrev pub is_word : List ℕ → Bool
is_word text = not (length text == 0) && list_all is_visible text

-- the words with one space between, and a line end
abbrev pub line_of : List ℕ → List ℕ → List ℕ → List ℕ → List ℕ
line_of name roots limit selector = name ++ (32 ∷ (roots ++ (32 ∷ (limit ++ (32 ∷ (selector ++ 10 ∷ []))))))

-- The line of the job of a name, roots, a limit up to the greatest and a selector, of whose hex with a line end this is known:
-- a job file of it has this job alone.
pub record IsLineBy (IsSpelled : List ℕ → Type 0) (greatest : ℕ) (name roots limit line : List ℕ) : Type 0 where
  -- the hex of the selector
  pub selector : List ℕ
  pub job : JobMeaning
  pub spelled : IsSpelled (selector ++ 10 ∷ [])
  pub meant : job_of_fields greatest name roots limit selector ≡ Ok job
  pub printed : line ≡ line_of name roots limit selector
  pub read : jobs_up_to greatest 1000 line ≡ Ok (job ∷ [])

-- the line, and that its job is the only one of these
pub record IsReadBy (IsSpelled : List ℕ → Type 0) (greatest : ℕ) (name roots limit line : List ℕ) (jobs : List JobMeaning) : Type 0 where
  pub is : IsLineBy IsSpelled greatest name roots limit line
  pub alone : jobs ≡ is.job ∷ []

-- the words are those of no job, for this reason
pub record IsNoJob (IsSpelled : List ℕ → Type 0) (greatest : ℕ) (name roots limit : List ℕ) (kind : JobErrorKind) : Type 0 where
  pub selector : List ℕ
  pub spelled : IsSpelled (selector ++ 10 ∷ [])
  pub refused : job_of_fields greatest name roots limit selector ≡ Err kind

-- the hex of the selector is no single word
pub record IsNoHex (IsSpelled : List ℕ → Type 0) : Type 0 where
  pub selector : List ℕ
  pub spelled : IsSpelled (selector ++ 10 ∷ [])
  pub no_word : is_word selector ≡ false

-- the name is none, or the text is no single word
abbrev pub IsNoWord : (List ℕ → Type 0) → List ℕ → List ℕ → List ℕ → JobErrorKind → Type 0
IsNoWord IsSpelled name roots limit kinds.Name = is_name name ≡ false
IsNoWord IsSpelled name roots limit kinds.Root = is_word roots ≡ false
IsNoWord IsSpelled name roots limit kinds.Limit = is_word limit ≡ false
IsNoWord IsSpelled name roots limit kinds.Hex = IsNoHex IsSpelled
IsNoWord IsSpelled name roots limit kinds.Text = ⊥
IsNoWord IsSpelled name roots limit kinds.Fields = ⊥
IsNoWord IsSpelled name roots limit kinds.Selector = ⊥
IsNoWord IsSpelled name roots limit kinds.Repeated = ⊥
IsNoWord IsSpelled name roots limit kinds.TooMany = ⊥
IsNoWord IsSpelled name roots limit kinds.Memory = ⊥

-- why the words are those of no job, where this is known of a selector that has not hex, or memory ran out
abbrev pub IsRefusedBy : (List ℕ → Type 0) → (NotationFault → Type 0) → ℕ → List ℕ → List ℕ → List ℕ → LineFault → Type 0
IsRefusedBy IsSpelled IsUnspelled greatest name roots limit (Selector fault told) = IsUnspelled fault
IsRefusedBy IsSpelled IsUnspelled greatest name roots limit (Field kinds.Memory) = Unit {0}
IsRefusedBy IsSpelled IsUnspelled greatest name roots limit (Field kind) = IsNoWord IsSpelled name roots limit kind ⊎ IsNoJob IsSpelled greatest name roots limit kind

-- the line of a job with a selector in JSON and a limit up to the greatest, and why there is none
abbrev pub IsLineUpTo : ℕ → List ℕ → List ℕ → List ℕ → List ℕ → List ℕ → Type 0
IsLineUpTo greatest name roots limit json line = IsLineBy (IsSelectorHex json) greatest name roots limit line

abbrev pub IsNoLineUpTo : ℕ → List ℕ → List ℕ → List ℕ → List ℕ → LineFault → Type 0
IsNoLineUpTo greatest name roots limit json fault = IsRefusedBy (IsSelectorHex json) (IsJsonRefused json) greatest name roots limit fault
