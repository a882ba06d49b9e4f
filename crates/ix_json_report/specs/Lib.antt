pub mod Members
pub mod Objects
pub mod Tokens
