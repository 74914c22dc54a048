mod Alike
mod Assembling
mod Counting
mod Inputs
mod Leaving
mod Mapped
pub mod Stops
mod Told
