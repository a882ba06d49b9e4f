pub mod Root
pub mod Input
pub mod Command
pub mod FaultLine
pub mod Prepare
pub mod Choosing
pub mod Run
pub mod Complete
