-- The paths of outputs, and the notes as outputs are published one after another.
use Rattle.std.proofs.Common.{◌≡◌, ◌∙◌, ap, ℕ, List, ◌∷◌, All, map, subst, sym, inl, inr, arith}
use Rattle.std.proofs.lemmas.List.{length-map, get_or-map}
use Rattle.std.proofs.lemmas.List.Elements.{All-head, All-tail, All-weaker, All-contains_itself}
use Rattle.std.specs.Prelude.{Result, Ok, Err, String, Contains}
use Rattle.std.specs.Global.{Global}
use Rattle.ix_cli_io.specs.declared.fault.Failure.{Failure}
use Rattle.ix_cli_io.specs.declared.output.Output.{Output}
use Rattle.ix_cli_io.specs.declared.output.Published.{Published}
use Rattle.ix_cli_io.specs.Failure.{IsPathFailure, IsOutputFailure, RefusesPath, RefusesOutputs}
use Rattle.ix_cli_io.specs.Naming.{Joins}
use Rattle.ix_cli_io.specs.Output.{path_of}

-- what is made of an element is among what is made of each
pub Contains-map : {X Y : Type 0} (f : X → Y) (xs : List X) (x : X) → Contains xs x → Contains (map f xs) (f x)
Contains-map f xs x h = let below = h.1 in (h.0, omega (arith, length-map xs f), get_or-map f xs h.0 x (f x) below ∙ ap f h.2)

-- the path of each output is one of the paths of the outputs
pub All-path_of : (outputs : List Output) → All (λ o. Contains (map path_of outputs) (path_of o)) outputs
All-path_of outputs = All-weaker (Contains outputs) (λ o. Contains (map path_of outputs) (path_of o)) (λ o among. Contains-map path_of outputs o among) outputs (All-contains_itself outputs)

-- the first of the outputs that are left has one of the paths, and so has each after it
pub next_of : (paths : List (List ℕ)) (left more : List Output) (output : Output) → All (λ o. Contains paths (path_of o)) left → left ≡ output ∷ more → Contains paths (path_of output) × All (λ o. Contains paths (path_of o)) more
next_of paths left more output all is =
    let P = λ (o : Output). Contains paths (path_of o) in
    let here = subst (λ l. All P l) is all in
    (All-head P output more here, All-tail P output more here)

module _ (paths : List (List ℕ)) (path : List ℕ) where
  -- a failure of the output of one of the paths
  pub failure_of_one : (failure : Failure) → Contains paths path → IsPathFailure path failure → IsOutputFailure paths failure
  failure_of_one failure among names = inr (record { path = path; among = among; names = names })

  -- the earlier failure, or else that of this output, or memory that ran out
  pub joined_refuses : (notes : Result (String Global) Failure) (note : Result Published Failure) (both : Result (String Global) Failure) → Joins notes note both → Contains paths path → RefusesOutputs paths notes → RefusesPath path note → RefusesOutputs paths both
  joined_refuses (Err failure) note both is among before now = subst (RefusesOutputs paths) (sym is) before
  joined_refuses (Ok _) (Err failure) both is among before now = subst (RefusesOutputs paths) (sym is) (failure_of_one failure among now)
  joined_refuses (Ok _) (Ok _) (Ok _) is among before now = tt
  joined_refuses (Ok _) (Ok _) (Err failure) is among before now = inl is
