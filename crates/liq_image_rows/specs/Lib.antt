pub mod Capped
pub mod Parts
