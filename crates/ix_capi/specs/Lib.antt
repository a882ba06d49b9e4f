pub mod Holding
pub mod Answers
pub mod Calls
pub mod Results
