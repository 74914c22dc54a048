pub mod Bytes
pub mod Few
pub mod LinesRead
pub mod Parts
mod ReadOn
pub mod Readings
pub mod Sayings
mod Taken
pub mod Told
