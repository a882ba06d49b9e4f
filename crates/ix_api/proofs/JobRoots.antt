-- Roots end to end, read one after another.
use Rattle.std.proofs.Common.{◌≡◌, ◌≢◌, ◌==◌, false, ℕ, zero, suc, ◌-◌, List, [], ◌∷◌, ◌++◌, length, Result, Ok, Err, refl, sym, ◌∙◌, ap, arith}
use Rattle.std.proofs.lemmas.Bool.Decides.{nat_tests}
use Rattle.ix_api.specs.declared.job_parts.PartsFault.{PartsFault}
use Rattle.ix_api.specs.declared.job_parts.PartsFault.TheVariants.{Memory}
use Rattle.ix_api.specs.JobParts.{◌>>=◌, root_at, roots_after, roots_in, Gives}

-- one root more
pub one_more : (left : ℕ) (before : List (List ℕ)) (rest root behind : List ℕ) → left ≢ 0 → length rest ≢ 0 → root_at rest ≡ Ok (root, behind)
    → roots_after (left - 1) (before ++ root ∷ []) behind ≡ roots_after left before rest
one_more zero before rest root behind more some read = absurd (more refl)
one_more (suc left) before [] root behind more some read = absurd (some refl)
one_more (suc left) before (b ∷ bs) root behind more some read =
    let same : suc left - 1 ≡ left = omega arith in
    ap (λ (n : ℕ). roots_after n (before ++ root ∷ []) behind) same
    ∙ sym (ap (λ (r : Result (List ℕ × List ℕ) PartsFault). r >>= (λ r. roots_after left (before ++ r.0 ∷ []) r.1)) read)

-- no root is there
pub faulty : (left : ℕ) (before : List (List ℕ)) (rest : List ℕ) (fault : PartsFault) → left ≢ 0 → length rest ≢ 0 → root_at rest ≡ Err fault → roots_after left before rest ≡ Err fault
faulty zero before rest fault more some read = absurd (more refl)
faulty (suc left) before [] fault more some read = absurd (some refl)
faulty (suc left) before (b ∷ bs) fault more some read = ap (λ (r : Result (List ℕ × List ℕ) PartsFault). r >>= (λ r. roots_after left (before ++ r.0 ∷ []) r.1)) read

-- what isn't empty has a length
pub some_by : (bytes : List ℕ) → false ≡ (length bytes == 0) → length bytes ≢ 0
some_by bytes other = grind (arith, nat_tests)

-- no root is after those that were read
pub failing : (left : ℕ) (before : List (List ℕ)) (rest bytes : List ℕ) (fault : PartsFault) → left ≢ 0 → length rest ≢ 0 → roots_after left before rest ≡ roots_in bytes
    → Gives {X = List (List ℕ)} {A = List ℕ × List ℕ} (λ r. ([], [])) (Err fault) (root_at rest) → Gives {X = List (List ℕ)} {A = List (List ℕ)} (λ r. r) (Err fault) (roots_in bytes)
failing left before rest bytes Memory more some same read = tt
failing left before rest bytes fault more some same read = sym same ∙ faulty left before rest fault more some read
