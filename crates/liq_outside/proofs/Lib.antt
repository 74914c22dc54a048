mod Loops
pub mod Moments
pub mod Steps
mod Tearing
mod Writing
