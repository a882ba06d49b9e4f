pub mod Adding
pub mod Checks
pub mod Exporting
pub mod Failures
pub mod JobParts
pub mod Parts
pub mod Requests
