pub mod FileBlocks
pub mod JobRoots
pub mod OfBase
pub mod OneCid
