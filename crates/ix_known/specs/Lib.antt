pub mod Known
pub mod Places
pub mod Base
pub mod Findings
pub mod Batches
pub mod Files
