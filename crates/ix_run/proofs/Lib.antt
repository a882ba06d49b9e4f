pub mod Exports
pub mod Told
pub mod Runs
pub mod Alone
pub mod Turns
pub mod JobNumbers
