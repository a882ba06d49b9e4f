pub mod Ahead
pub mod Checking
pub mod FaultWords
pub mod Laws
pub mod Fronts
pub mod Streaming
pub mod Taking
pub mod Requests
