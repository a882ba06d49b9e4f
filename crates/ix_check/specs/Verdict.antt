-- The verdict on a CID in a store.
pub use Rattle.ix_store.specs.Verdict.{verdict_of}
pub use Rattle.ix_verdict.specs.Verdict.{is_no_data, verdict_on, verdict_under, verdict_by, is_codec, has_codec, verdict_with, passes}
