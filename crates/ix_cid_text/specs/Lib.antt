pub use Rattle.ix_cid.specs.Cid
pub use Rattle.ix_cid.specs.CidText
pub mod Base
pub mod Bytes
pub mod Gives
pub mod Text
pub mod Location
pub mod TextWords
