pub mod Refusals
pub mod Ran
pub mod Receiver
