pub mod Failure
pub mod Naming
pub mod Output
pub mod Stop
pub mod Progress
