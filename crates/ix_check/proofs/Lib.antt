pub mod Verdicts
pub mod VisitsOf
