pub use Rattle.ix_store.specs.Store
pub use Rattle.ix_walk.specs.Visits
pub use Rattle.ix_path.specs.Children
pub mod Leads
pub mod Links
pub mod Segments
pub mod Text
pub mod Trace
