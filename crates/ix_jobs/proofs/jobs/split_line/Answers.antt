use Rattle.std.proofs.Common.{◌==◌, rules, tests}
use Rattle.std.proofs.lemmas.Iterator.{YieldsList-from_slice}
use Rattle.std.proofs.lemmas.Iterator.Search.{position_from_yields_List}
use Rattle.ix_jobs.proofs.Pieces.{position-found, position-none, before_first_at, after_first_at, before_first_whole, after_first_whole}
use Rattle.ix_jobs.proofs.jobs.split_line.Goals as goal

pub returns-in-Some-clause-line : goal.returns-in-Some-clause-line
returns-in-Some-clause-line c =
    let bs = c.args.bytes.now in
    let found = position_from_yields_List (λ b. b == 10) _ _ c.position.result c.position.ensures.ran (YieldsList-from_slice bs cc) (λ x b q k. search (rules, tests)) in
    before_first_at (λ b. b == 10) bs c.in-Some.end (position-found (λ b. b == 10) bs c.position.result c.in-Some.end found c.in-Some.is)

pub returns-in-Some-clause-rest : goal.returns-in-Some-clause-rest
returns-in-Some-clause-rest c =
    let bs = c.args.bytes.now in
    let found = position_from_yields_List (λ b. b == 10) _ _ c.position.result c.position.ensures.ran (YieldsList-from_slice bs cc) (λ x b q k. search (rules, tests)) in
    after_first_at (λ b. b == 10) bs c.in-Some.end (position-found (λ b. b == 10) bs c.position.result c.in-Some.end found c.in-Some.is)

pub returns-in-None-clause-line : goal.returns-in-None-clause-line
returns-in-None-clause-line c =
    let bs = c.args.bytes.now in
    let found = position_from_yields_List (λ b. b == 10) _ _ c.position.result c.position.ensures.ran (YieldsList-from_slice bs cc) (λ x b q k. search (rules, tests)) in
    before_first_whole (λ b. b == 10) bs (position-none (λ b. b == 10) bs c.position.result found c.in-None.is)

pub returns-in-None-clause-rest : goal.returns-in-None-clause-rest
returns-in-None-clause-rest c =
    let bs = c.args.bytes.now in
    let found = position_from_yields_List (λ b. b == 10) _ _ c.position.result c.position.ensures.ran (YieldsList-from_slice bs cc) (λ x b q k. search (rules, tests)) in
    after_first_whole (λ b. b == 10) bs (position-none (λ b. b == 10) bs c.position.result found c.in-None.is)
