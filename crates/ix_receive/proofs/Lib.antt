mod Firsts
mod Fresh
mod Lookup
mod Again
mod Bases
mod Differences
mod Visits
pub mod Received
mod Expansions
mod NextLinks
mod Traversing
mod Verdicts
mod Passings
mod Receptions
mod Refusals
mod Keeping
