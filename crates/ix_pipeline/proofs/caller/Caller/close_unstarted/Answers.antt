use Rattle.std.proofs.Common.{ℕ, List, Contains, sym, subst}
use Rattle.ix_car.specs.Headline.{IsEachOnce}
use Rattle.ix_stages.specs.Good.{IsGood}
use Rattle.ix_stages.specs.Lanes.{all_sent}
use Rattle.ix_stages.specs.Shared.{store_of, jobs_of}
use Rattle.ix_pipeline.proofs.caller.Caller.close_unstarted.Goals as goal

pub returns-clause-checks : goal.returns-clause-checks
returns-clause-checks g c =
    let store = store_of c.args.shared.now in
    let jobs = jobs_of c.args.shared.now in
    let joined = c.requires.joined.joined in
    let got = all_sent c.args.self.senders.items in
    let good : IsGood store jobs got = c.settle.ensures got joined.sent in
    let law = c.good_is_checked_once.ensures in
    record {
      once = subst (λ (ps : List (ℕ × ℕ)). IsEachOnce ps) (sym joined.checks) (law.once store jobs got good);
      within = λ job seq h. law.within store jobs got job seq good (subst (λ (ps : List (ℕ × ℕ)). Contains ps (job, seq)) joined.checks h);
    }
