pub mod Found
pub mod Steps
pub mod Traced
pub mod Texts
