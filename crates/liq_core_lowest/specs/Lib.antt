pub mod Lowest
pub mod Victims
