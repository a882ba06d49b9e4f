pub mod Link
pub mod Reading
pub mod Expansions
pub mod Growing
pub mod TableState
pub mod Visiting
pub mod TableWalk
pub mod Levels
