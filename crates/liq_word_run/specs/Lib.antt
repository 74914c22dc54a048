pub mod Calls
pub mod Passing
pub mod Progress
pub mod Turns
pub mod Writing
