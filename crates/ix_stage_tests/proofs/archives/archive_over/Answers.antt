use Rattle.ix_car.proofs.Delivered.{open-at_first}
use Rattle.ix_stage_tests.proofs.archives.archive_over.Goals as goal

pub outcome_of-requires : goal.outcome_of-requires
outcome_of-requires c =
    let begun = c.in-Ok.ensures.begun in record { unclosed = open-at_first c.in-Ok.archive begun.no_deliveries begun.not_closed; unfailed = begun.no_failure }
