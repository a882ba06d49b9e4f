pub mod Hidden
pub mod Lack
pub mod Order
pub mod Place
pub mod Reasons
pub mod Shown
pub mod Text
pub mod Written
