mod Adjusting
pub mod Allowed
