-- Names of jobs.
use Rattle.std.proofs.Common.{◌≡◌, ℕ, ◌≤◌, Bool, true, false, ◌&&◌, nat_le, ◌==◌, List, length, sym, ap, ◌∙◌, subst, arith}
use Rattle.std.specs.List.{list_all}
use Rattle.std.proofs.lemmas.Bool.Decides.{nat_tests}
use Rattle.ix_walk.specs.JobMeaning.{is_name, is_name_byte}

-- a length from 1 to 64
within : (n : ℕ) → (n == 0) ≡ false → n ≤ 64 → (nat_le 1 n && nat_le n 64) ≡ true
within n some few = grind (arith, nat_tests)

-- what a test of each byte says of a name whose length fits
pub is_name-from : (name bytes : List ℕ) (r : Bool) → bytes ≡ name → (length bytes == 0) ≡ false → length bytes ≤ 64 → r ≡ list_all is_name_byte name → r ≡ is_name name
is_name-from name bytes r is some few each =
    let fits : (nat_le 1 (length name) && nat_le (length name) 64) ≡ true = subst (λ (l : List ℕ). (nat_le 1 (length l) && nat_le (length l) 64) ≡ true) is (within (length bytes) some few) in
    each ∙ sym (ap (λ b. b && list_all is_name_byte name) fits)
