pub mod LineWords
pub mod Ended
mod ListLinesInTurn
mod Listed
pub mod Roots
pub mod Pieces
pub mod LinesInTurn
pub mod Texts
pub mod Limits
pub mod Named
mod Lines
mod PartLaws
mod ReportLaws
mod PartLists
mod JobLines
mod PartJobs
mod AbsentSkips
mod AbsentLines
