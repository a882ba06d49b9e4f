pub mod Lists
pub mod KnownCopies
pub mod KnownIn
mod Pairs
mod Decided
mod Copies
mod Sections
mod BaseFiles
