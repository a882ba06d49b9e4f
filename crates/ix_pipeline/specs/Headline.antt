-- What an export leaves: each sink's calls, archives and checks.
pub use Rattle.ix_car.specs.Headline.{IsEachOnce, EachDelivered, EachArchived, EachFresh, Fact, Keeps, EachKept, EachUnused, checked_by, visit_count, AllWalked, IsWalkedAt, IsCheckedOnce, NoneIsStart, NoneOrAllStart}
