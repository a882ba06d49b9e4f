-- Link-visit-once: a CID is expanded at its first visit with each residual of the selector.
use Rattle.std.specs.Prelude.{◌≡◌, ℕ, zero, suc, ◌+◌, ◌<◌, Bool, true, false, not, ◌&&◌, List, [], ◌∷◌, ◌++◌, length, map, filter, nat_lt, Option, Some, None, if◌then◌else◌, bytes_eq}
use Rattle.std.specs.List.{AllByRecursion, list_any}
use Rattle.ix_cid.specs.Cid.{parts_of, digest_of, hash_function_of}
use Rattle.ix_cid.specs.declared.hash_function.HashFunction.{HashFunction}
use Rattle.ix_cid.specs.declared.hash_function.HashFunction.TheVariants.{Identity, Sha2_256, Sha2_512}
use Rattle.ix_cbor.specs.Data.{Data}
use Rattle.ix_selector.specs.Enters.{Path}
use Rattle.ix_selector.specs.IsEntered.{is_entered}
use Rattle.ix_walk.specs.JobMeaning.{JobMeaning}
use Rattle.ix_store.specs.Store.{Blocks, block_of, value_of}
use Rattle.ix_store.specs.Memo.{hash_matches_by}
use Rattle.ix_walk.specs.Arrivals.{Arrival, Inside, when_some, arrivals_below, arrivals_from}

-- one visit of each root, the first of which has this number
abbrev pub roots_from : ℕ → List (List ℕ) → List Arrival
roots_from root [] = []
roots_from root (c ∷ cs) = record { root = root; path = []; depth = 0; cid = c } ∷ roots_from (root + 1) cs

-- what is visited right below a visit with these data: each link that is entered, in preorder
abbrev pub links_below : (Path → Bool) → Data → Arrival → List Arrival
links_below enters d a = arrivals_below enters (λ c p. record { root = a.root; path = p; depth = a.depth + 1; cid = c } ∷ []) d a.path

-- A rest is the residual of the selector after a path, and a test compares two of them.
module _ {R : Type 0} (enters : Path → Bool) (rest : Path → R) (same : R → R → Bool) (inside : Inside) where
  -- the CID was expanded with this residual
  abbrev pub was_expanded : List (List ℕ × R) → Arrival → Bool
  was_expanded expanded a = list_any (λ g. bytes_eq g.0 a.cid && same g.1 (rest a.path)) expanded

  -- the data that are expanded at a visit, if any
  abbrev pub expanded_at : List (List ℕ × R) → Arrival → Option Data
  expanded_at expanded a = if was_expanded expanded a then None else inside a.cid

  -- what was expanded after a visit
  abbrev pub expanded_after : Option Data → Arrival → List (List ℕ × R) → List (List ℕ × R)
  expanded_after None a expanded = expanded
  expanded_after (Some d) a expanded = (a.cid, rest a.path) ∷ expanded

  -- the first n visits, where these wait, the first one first
  abbrev pub once : ℕ → List (List ℕ × R) → List Arrival → List Arrival
  once zero expanded waiting = []
  once (suc n) expanded [] = []
  once (suc n) expanded (a ∷ more) =
      a ∷ once n (expanded_after (expanded_at expanded a) a expanded) (when_some (expanded_at expanded a) (λ d. links_below enters d a) ++ more)

  -- the first n visits from these roots
  abbrev pub once_from : ℕ → List (List ℕ) → List Arrival
  once_from n roots = once n [] (roots_from 0 roots)

-- the traversal that expands a CID at every link ends: it is never as deep as n
abbrev pub EndsBefore : (Path → Bool) → Inside → ℕ → List (List ℕ) → Type 0
EndsBefore enters inside n roots = AllByRecursion (λ a. a.depth < n) (arrivals_from enters inside n 0 roots)

-- equal residuals enter the same paths
abbrev pub TellsRests : {R : Type 0} → (Path → Bool) → (Path → R) → (R → R → Bool) → Type 0
TellsRests enters rest same = (p q : Path) → same (rest p) (rest q) ≡ true → (r : Path) → enters (p ++ r) ≡ enters (q ++ r)

-- the CIDs of visits
abbrev pub cids_of : List Arrival → List (List ℕ)
cids_of arrivals = map (λ a. a.cid) arrivals

-- CIDs, each at its first occurrence
abbrev pub first_ones : List (List ℕ) → List (List ℕ)
first_ones [] = []
first_ones (c ∷ cs) = c ∷ filter (λ e. not (bytes_eq e c)) (first_ones cs)

-- by this hash function, the digest is of the block that is there, or is the inline data
abbrev pub bytes_match_by : Option HashFunction → List ℕ → Option (List ℕ) → Bool
bytes_match_by None digest block = false
bytes_match_by (Some Identity) digest block = true
bytes_match_by (Some Sha2_256) digest None = false
bytes_match_by (Some Sha2_256) digest (Some block) = hash_matches_by (Some Sha2_256) digest block
bytes_match_by (Some Sha2_512) digest None = false
bytes_match_by (Some Sha2_512) digest (Some block) = hash_matches_by (Some Sha2_512) digest block

-- in a store, the bytes that a CID names match it
abbrev pub bytes_match : Blocks → List ℕ → Bool
bytes_match store c = bytes_match_by (hash_function_of (parts_of c)) (digest_of c) (block_of store c)

-- the data of a CID if its block is sound
abbrev pub sound_value : Blocks → List ℕ → Option Data
sound_value store c = if bytes_match store c then value_of store c else None

-- the visits of a job with link-visit-once that expands sound blocks only: its limit of them, and one more if there is one
abbrev pub once_arrivals : {R : Type 0} → Blocks → JobMeaning → (Path → R) → (R → R → Bool) → List Arrival
once_arrivals store job rest same = once_from (is_entered job.selector) rest same (sound_value store) (suc job.limit) job.roots

-- such a job has more visits than its limit
abbrev pub is_over_limit_once : {R : Type 0} → Blocks → JobMeaning → (Path → R) → (R → R → Bool) → Bool
is_over_limit_once store job rest same = nat_lt job.limit (length (once_arrivals store job rest same))
