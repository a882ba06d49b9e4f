pub use Rattle.ix_cid.specs.Cid
pub use Rattle.ix_cbor.specs.Data
pub use Rattle.ix_cbor.specs.Reading
pub mod Verdict
pub mod VerdictWords
pub mod Needed
pub mod Examples
pub mod AllowMissing
