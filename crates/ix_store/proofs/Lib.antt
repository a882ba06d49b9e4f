mod Sharing
pub mod Stores
pub mod Indexes
pub mod Room
pub mod Found
pub mod Seen
pub mod Gathered
pub mod Tables
pub mod Ends
pub mod Blocks
pub mod Marking
pub mod Bits
pub mod Judging
pub mod SoundFirst
pub mod Later
pub mod Verdicts
