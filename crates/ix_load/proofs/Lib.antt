pub mod Borrowed
pub mod NoFile
pub mod Receivers
