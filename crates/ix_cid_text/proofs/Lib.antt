pub mod Places
pub mod Prefixes
pub mod BitLaws
pub mod NumberLaws
pub mod TextLaws
