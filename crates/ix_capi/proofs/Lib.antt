pub mod Found
pub mod Made
pub mod Pointing
pub mod ReadFile
pub mod Values
