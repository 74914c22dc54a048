pub mod Ahead
pub mod Cutting
pub mod Following
mod Parts
mod Paying
mod Refused
mod Stepping
pub mod Taking
