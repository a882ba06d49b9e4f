pub mod FaultWords
pub mod Notation
pub mod Printed
pub mod Saying
pub mod Direct
